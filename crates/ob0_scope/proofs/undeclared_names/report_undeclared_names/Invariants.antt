use Rattle.std.proofs.Common.{◌≡◌, ◌++◌, drop}
use Rattle.ob0_scope_table.specs.Resolution.{undeclared_faults_from_table}
use Rattle.ob0_scope.proofs.undeclared_names.report_undeclared_names.Given as goal

abbrev pub invariant-loop-token : goal.invariant-loop-token
invariant-loop-token l = l.faults.items ++ undeclared_faults_from_table l.ordinals (drop l.token-index l.occurrences) ≡ l.initial.faults.items ++ undeclared_faults_from_table l.ordinals l.occurrences
