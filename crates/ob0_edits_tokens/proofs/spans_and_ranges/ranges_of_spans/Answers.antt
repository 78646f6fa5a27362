use Rattle.std.proofs.Common.{◌≡◌, ◌∙◌, ◌++◌, ◌-◌, arith, drop, length, map, subst, take}
use Rattle.ob0_text.specs.Units.{width_of}
use Rattle.ob0_edits_tokens.specs.Ranges.{range_of}
use Rattle.ob0_edits_tokens.proofs.Ranged.{part_added}
use Rattle.ob0_edits_tokens.proofs.spans_and_ranges.ranges_of_spans.Goals as goal

pub loop-alloc-preserved : goal.loop-alloc-preserved
loop-alloc-preserved g c =
    let content = g.T.TextStore.content c.args.store.now in
    let unit = g.T.TextStore.unit_of c.args.store.now in
    let spans = c.args.spans.now in
    let found = c.loop-alloc.ranges.items in
    let more = c.add_ranges.new.ranges.items in
    let to = c.min.result in
    let is = subst (λ k. more ≡ found ++ map (range_of (width_of unit) content) (take (to - k) (drop k spans))) (c.len-from.ensures ∙ c.loop-alloc.ranges.ok.0) c.in_ok-add_ranges.ensures in
    part_added unit content spans (to - length found) found more (omega (arith, c.min.ensures, c.len-from.ensures, c.len.ensures, c.loop-alloc-test.true)) c.loop-alloc.invariant is
