use Rattle.std.proofs.Common.{◌≡◌, drop}
use Rattle.std.specs.List.{list_any}
use Rattle.ob0_scope_table.specs.Resolution.{is_duplicate_or_end_name_fault}
use Rattle.ob0_scope.proofs.declaration_checks.has_duplicate_or_end_name_fault.Given as goal

abbrev pub invariant-loop-fault : goal.invariant-loop-fault
invariant-loop-fault l = list_any is_duplicate_or_end_name_fault (drop l.fault-index l.faults) ≡ list_any is_duplicate_or_end_name_fault l.faults
