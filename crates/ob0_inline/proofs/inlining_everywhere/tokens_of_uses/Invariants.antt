use Rattle.std.proofs.Common.{◌≡◌, ◌++◌, drop}
use Rattle.ob0_inline.proofs.EverywhereAt.{bound_tokens}
use Rattle.ob0_inline.proofs.inlining_everywhere.tokens_of_uses.Given as goal

abbrev pub invariant-loop-token : goal.invariant-loop-token
invariant-loop-token l =
    l.uses.items ++ bound_tokens l.names.ordinals l.constant (drop l.token-index l.token-items) ≡ bound_tokens l.names.ordinals l.constant l.token-items
