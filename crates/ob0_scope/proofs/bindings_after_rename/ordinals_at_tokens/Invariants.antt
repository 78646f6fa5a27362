use Rattle.std.proofs.Common.{◌≡◌, ◌++◌, drop, map}
use Rattle.ob0_scope_table.specs.Resolution.{ordinal_in}
use Rattle.ob0_scope.proofs.bindings_after_rename.ordinals_at_tokens.Given as goal

abbrev pub invariant-loop-token : goal.invariant-loop-token
invariant-loop-token l = l.found.items ++ map (ordinal_in l.ordinals) (drop l.token-index l.tokens) ≡ map (ordinal_in l.ordinals) l.tokens
