use Rattle.std.proofs.Common.{◌≡◌, ◌++◌, drop}
use Rattle.ob0_scope.specs.BindingsOutsideBody.{undeclared_tokens}
use Rattle.ob0_scope.proofs.undeclared_names.undeclared_tokens.Given as goal

abbrev pub invariant-loop-fault : goal.invariant-loop-fault
invariant-loop-fault l = l.tokens.items ++ undeclared_tokens (drop l.fault-index l.faults) ≡ undeclared_tokens l.faults
