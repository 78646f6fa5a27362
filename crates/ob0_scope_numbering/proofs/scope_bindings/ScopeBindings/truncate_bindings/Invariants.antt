use Rattle.std.proofs.Common.{◌≡◌, drop}
use Rattle.ob0_scope_numbering.specs.StoredScopes.{with_scope}
use Rattle.ob0_scope_numbering.proofs.scope_bindings.ScopeBindings.truncate_bindings.Given as goal

abbrev pub invariant-loop-left : goal.invariant-loop-left
invariant-loop-left l = l.self ≡ with_scope l.initial.self (drop l._left l.initial.self.scope)
