use Rattle.std.proofs.Common.{[]}
use Rattle.std.specs.List.{filter}
use Rattle.ob0_scope_table.specs.Resolution.{is_undeclared_fault}
use Rattle.ob0_types_check.proofs.Listed.{EachSoFar}
use Rattle.ob0_types_check.proofs.reporting.undeclared_name_faults.Given as goal

abbrev pub invariant-loop-fault : goal.invariant-loop-fault
invariant-loop-fault l = EachSoFar (filter is_undeclared_fault) [] l.fault-items l.fault-index l.faults.items
