use Rattle.std.proofs.Common.{◌≡◌, ◌++◌, map, take}
use Rattle.ob0_text.specs.Units.{width_of}
use Rattle.ob0_edits_tokens.specs.Ranges.{range_of}
use Rattle.ob0_edits_tokens.proofs.spans_and_ranges.add_ranges.Given as goal

abbrev pub invariant-loop-i : goal.invariant-loop-i
invariant-loop-i g l = l.ranges.items ≡ l.initial.ranges.items ++ map (range_of (width_of (g.T.TextStore.unit_of l.store)) (g.T.TextStore.content l.store)) (take l.i l.spans)
