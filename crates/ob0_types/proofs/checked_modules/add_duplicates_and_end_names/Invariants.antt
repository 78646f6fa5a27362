use Rattle.std.proofs.Common.{◌≡◌, ◌++◌, drop}
use Rattle.std.specs.List.{filter}
use Rattle.ob0_scope_table.specs.Resolution.{is_duplicate_or_end_name_fault}
use Rattle.ob0_types.proofs.checked_modules.add_duplicates_and_end_names.Given as goal

abbrev pub invariant-loop-fault : goal.invariant-loop-fault
invariant-loop-fault l = l.faults.items ++ filter is_duplicate_or_end_name_fault (drop l.fault-index l.scopes) ≡ l.initial.faults.items ++ filter is_duplicate_or_end_name_fault l.scopes
