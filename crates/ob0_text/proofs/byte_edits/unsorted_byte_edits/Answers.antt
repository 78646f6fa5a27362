use Rattle.std.proofs.Common.{◌≡◌, ℕ, List, refl, ap, ◌∙◌, map, get_or, min, max, string_bytes}
use Rattle.std.specs.Str.{chars}
use Rattle.std.proofs.lemmas.List.{take_all}
use Rattle.ob0_text.specs.declared.position_types.Position.{Position}
use Rattle.ob0_text.specs.Texts.{offset_of}
use Rattle.ob0_text.specs.Units.{width_of}
use Rattle.ob0_text.specs.declared.edits.Edit.{Edit}
use Rattle.ob0_text.specs.Patches.{cuts_of_edits}
use Rattle.ob0_text.specs.StoredCuts.{cut_of_byte_edit, cut_with_byte_offsets}
use Rattle.ob0_text.proofs.PatchSteps.{cuts_further, any_default, as_long}
use Rattle.ob0_text.proofs.byte_edits.unsorted_byte_edits.Goals as goal

pub loop-i-preserved : goal.loop-i-preserved
loop-i-preserved g c =
    let text = g.T.TextStore.content c.args.store.now in
    let width = width_of (g.T.TextStore.unit_of c.args.store.now) in
    let from = c.in_ok-from.ensures ∙ ap (map (offset_of width text)) c.in_ok-starts.ensures in
    let to = c.in_ok-to.ensures ∙ ap (map (offset_of width text)) c.in_ok-ends.ensures in
    let edit = c.index-edits-i.result in
    let long_enough = λ (items : List ℕ) (part : Edit → Position) (is : items ≡ map (offset_of width text) (map part c.args.edits.now)).
    as_long items (map part c.args.edits.now) (offset_of width text) c.args.edits.now part c.loop-i.i is c.loop-i-test.true refl in
    let a : c.index.result.now ≡ get_or c.in_ok-from.from.items c.loop-i.i 0 = c.index.ensures ∙ any_default _ c.loop-i.i _ 0 (long_enough c.in_ok-from.from.items (λ (e : Edit). e.range.start) from) in
    let b : c.index-in-loop-i.result.now ≡ get_or c.in_ok-to.to.items c.loop-i.i 0 = c.index-in-loop-i.ensures ∙ any_default _ c.loop-i.i _ 0 (long_enough c.in_ok-to.to.items (λ (e : Edit). e.range.end) to) in
    let t : c.as_str.result.now ≡ string_bytes (get_or c.args.edits.now c.loop-i.i edit).text = c.as_str.ensures.value ∙ ap (λ (e : Edit). string_bytes e.text) c.index-edits-i.is in
    let made : cut_of_byte_edit c.byte_edit_between.result ≡ record { from = min (get_or c.in_ok-from.from.items c.loop-i.i 0) (get_or c.in_ok-to.to.items c.loop-i.i 0); to = max (get_or c.in_ok-from.from.items c.loop-i.i 0) (get_or c.in_ok-to.to.items c.loop-i.i 0); new = chars (string_bytes (get_or c.args.edits.now c.loop-i.i edit).text) } =
    c.byte_edit_between.ensures ∙ (λ j. record { from = min (a j) (b j); to = max (a j) (b j); new = chars (t j) }) in
    ap (map cut_of_byte_edit) c.in_ok-push.ensures.items
    ∙ cuts_further width text c.args.edits.now c.in_ok-from.from.items c.in_ok-to.to.items from to
    c.loop-i.cuts.items c.loop-i.i c.loop-i-test.true c.byte_edit_between.result edit c.loop-i.invariant made

pub returns : goal.returns
returns g c =
    let text = g.T.TextStore.content c.args.store.now in
    let width = width_of (g.T.TextStore.unit_of c.args.store.now) in
    c.loop-i.invariant ∙ ap (λ es. map (cut_with_byte_offsets text) (cuts_of_edits width text es)) (take_all c.loop-i.i c.args.edits.now c.loop-i-test.false)
