use Rattle.std.proofs.Common.{◌≡◌, ◌-◌, length, map, take}
use Rattle.ob0_text.specs.Units.{width_of}
use Rattle.ob0_edits_tokens.specs.Ranges.{range_of}
use Rattle.ob0_edits_tokens.proofs.spans_and_ranges.ranges_of_spans.Given as goal

abbrev pub invariant-loop-alloc : goal.invariant-loop-alloc
invariant-loop-alloc g l = l.ranges.items ≡ map (range_of (width_of (g.T.TextStore.unit_of l.store)) (g.T.TextStore.content l.store)) (take (length l.ranges.items) l.spans)

abbrev pub decreases-loop-alloc : goal.decreases-loop-alloc
decreases-loop-alloc g l = length l.spans - length l.ranges.items
