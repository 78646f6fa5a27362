use Rattle.std.proofs.Common.{◌≡◌, take}
use Rattle.ob0_scan.specs.ReusedLexemes.{token_kinds_without_values}
use Rattle.ob0_scan.proofs.incremental_scan.have_same_kinds.Given as goal

abbrev pub invariant-loop-index : goal.invariant-loop-index
invariant-loop-index l = token_kinds_without_values (take l.index l.new) ≡ token_kinds_without_values (take l.index l.old)
