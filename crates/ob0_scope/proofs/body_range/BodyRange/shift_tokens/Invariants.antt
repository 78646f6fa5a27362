use Rattle.ob0_scope.proofs.ChangedInPlace.{ChangedTo}
use Rattle.ob0_scope.specs.BindingsOutsideBody.{shifted_token}
use Rattle.ob0_scope.proofs.body_range.BodyRange.shift_tokens.Given as goal

abbrev pub invariant-loop-position : goal.invariant-loop-position
invariant-loop-position l = ChangedTo (shifted_token l.self) l.fn.tokens.items l.fn.start l.position l.tokens.items
