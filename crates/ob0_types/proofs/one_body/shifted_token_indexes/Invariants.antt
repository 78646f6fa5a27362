use Rattle.std.proofs.Common.{◌≡◌, ◌++◌, map, drop}
use Rattle.ob0_scope_table.specs.BodyReplacement.{shifted_token_index}
use Rattle.ob0_types.proofs.one_body.shifted_token_indexes.Given as goal

abbrev pub invariant-loop-token : goal.invariant-loop-token
invariant-loop-token l = l.moved.items ++ map (shifted_token_index l.same) (drop l.token-index l.tokens) ≡ map (shifted_token_index l.same) l.tokens
