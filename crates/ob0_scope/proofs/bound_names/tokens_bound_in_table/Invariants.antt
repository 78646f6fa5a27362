use Rattle.std.proofs.Common.{◌≡◌, ◌++◌}
use Rattle.ob0_scope.specs.BoundTokens.{tokens_bound_in_table}
use Rattle.ob0_scope.proofs.bound_names.tokens_bound_in_table.Given as goal

abbrev pub invariant-loop-token : goal.invariant-loop-token
invariant-loop-token l =
    l.found.items ++ tokens_bound_in_table l.omitted l.declaration l.token l.ordinals
    ≡ tokens_bound_in_table l.omitted l.declaration l.first l.ordinals
