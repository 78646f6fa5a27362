use Rattle.std.proofs.Common.{◌≡◌, drop}
use Rattle.ob0_layout.specs.Cuts.{all_equal_to}
use Rattle.ob0_layout.proofs.gap.all_equal_to.Given as goal

abbrev pub invariant-loop-b : goal.invariant-loop-b
invariant-loop-b l = all_equal_to l.byte (drop l.b-index l.bytes) ≡ all_equal_to l.byte l.bytes
