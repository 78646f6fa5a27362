use Rattle.std.proofs.Common.{◌≡◌, drop}
use Rattle.ob0_layout.specs.Layout.{contains_line_break}
use Rattle.ob0_layout.proofs.gap_sites.contains_line_break.Given as goal

abbrev pub invariant-loop-b : goal.invariant-loop-b
invariant-loop-b l = contains_line_break (drop l.b-index l.gap) ≡ contains_line_break l.gap
