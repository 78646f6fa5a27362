use Rattle.std.proofs.Common.{map, ap, ◌∙◌}
use Rattle.ob0_text.specs.Texts.{position_of}
use Rattle.ob0_text.specs.Units.{width_of}
use Rattle.ob0_layout.specs.declared.gap.Gap.TheVariants.{Nothing}
use Rattle.ob0_layout.specs.declared.gap_sites.GapSite.{GapSite}
use Rattle.ob0_edits_tokens.specs.Replacements.{range_and_text}
use Rattle.ob0_layout.proofs.EditSteps.{position_at, edit_further}
use Rattle.ob0_layout.proofs.formatting_edits.gap_edits.Goals as goal

pub loop-i-preserved : goal.loop-i-preserved
loop-i-preserved g c =
    let content = g.T.TextStore.content c.args.store.now in
    let unit = g.T.TextStore.unit_of c.args.store.now in
    let gs = c.args.gap_sites.now in
    let none : GapSite = record { start = 0; end = 0; gap = Nothing } in
    let from = c.in_ok-from.ensures ∙ ap (map (position_of (width_of unit) content)) c.deref.ensures.value in
    let to = c.in_ok-to.ensures ∙ ap (map (position_of (width_of unit) content)) c.deref-2.ensures.value in
    let a = c.index.ensures ∙ position_at unit content gs c.loop-i.i c.loop-i-test.true none (λ (x : GapSite). x.start) c.in_ok-gap_starts.gap_starts.items c.in_ok-from.from.items c.index.result.now from c.in_ok-gap_starts.ensures in
    let b = c.index-in-loop-i.ensures ∙ position_at unit content gs c.loop-i.i c.loop-i-test.true none (λ (x : GapSite). x.end) c.in_ok-gap_ends.gap_ends.items c.in_ok-to.to.items c.index-in-loop-i.result.now to c.in_ok-gap_ends.ensures in
    ap (map range_and_text) c.in_ok-push.ensures.items
    ∙ edit_further unit content gs c.loop-i.i c.loop-i-test.true none c.args.indent c.loop-i.edits.items _ c.loop-i.invariant
    (λ j. (record { start = a j; end = b j }, c.in_ok-text.ensures j))
