use Rattle.std.proofs.Common.{rules}
use Rattle.std.specs.Prelude.{nat_lt}
use Rattle.std.proofs.lemmas.List.Sorted.{IsPartitionPoint-from_clause, IsPartitionedBy-ltb}
use Rattle.ob0_scope.proofs.body_range.count_tokens_before.Goals as goal

pub returns-clause-point : goal.returns-clause-point
returns-clause-point c =
    IsPartitionPoint-from_clause (λ token. nat_lt token c.args.limit) _ _ c.partition_point.ensures.partitioned
    (IsPartitionedBy-ltb (λ token. token) c.args.tokens.now c.args.limit c.requires)
    (λ a r q k. search rules)
