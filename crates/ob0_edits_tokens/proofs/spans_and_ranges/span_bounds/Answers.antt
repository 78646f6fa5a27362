use Rattle.std.proofs.Common.{◌∙◌}
use Rattle.ob0_edits_tokens.proofs.Ranged.{bounds_further, bounds_none}
use Rattle.ob0_edits_tokens.proofs.spans_and_ranges.span_bounds.Goals as goal

pub loop-span-init : goal.loop-span-init
loop-span-init c = c.new-offsets.ensures.items ∙ bounds_none

pub loop-span-preserved : goal.loop-span-preserved
loop-span-preserved c =
    rw (c.in_ok-push-2.ensures.items, c.in_ok-push.ensures.items)
    (bounds_further c.args.spans.now c.loop-span.span-index _ c.loop-span.offsets.items c.loop-span-test.true c.loop-span.invariant)
