use Rattle.std.proofs.Common.{arith}
use Rattle.std.proofs.lemmas.List.Elements.{All-get_or}
use Rattle.ob0_layout.specs.declared.gap.Gap.TheVariants.{Nothing}
use Rattle.ob0_layout.specs.Cuts.{GapLiesInText}
use Rattle.ob0_layout.proofs.formatting_edits.is_formatted_text_within_limit.Goals as goal

pub overflow_add-made : goal.overflow_add-made
overflow_add-made c =
    let lies = All-get_or (GapLiesInText c.args.len) c.args.gap_sites.now c.loop-site.site-index (record { start = 0; end = 0; gap = Nothing }) c.loop-site-test.true c.requires.within in
    omega (arith, lies.ordered, lies.within, c.len.ensures.bounded, c.saturating_sub.ensures, c.requires.length)

pub overflow_add-made-in-loop-site : goal.overflow_add-made-in-loop-site
overflow_add-made-in-loop-site c =
    let lies = All-get_or (GapLiesInText c.args.len) c.args.gap_sites.now c.loop-site.site-index (record { start = 0; end = 0; gap = Nothing }) c.loop-site-test.true c.requires.within in
    omega (arith, lies.ordered, lies.within, c.len.ensures.bounded, c.saturating_sub.ensures, c.requires.length, c.loop-site.invariant.short)
