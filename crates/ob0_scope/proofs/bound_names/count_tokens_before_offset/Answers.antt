use Rattle.std.proofs.Common.{rules}
use Rattle.std.specs.Prelude.{nat_lt}
use Rattle.std.proofs.lemmas.List.Sorted.{IsPartitionPoint-from_clause, IsPartitionedBy-ltb}
use Rattle.ob0_scan.specs.declared.lexeme.Token.{Token}
use Rattle.ob0_scope.proofs.bound_names.count_tokens_before_offset.Goals as goal

pub returns-clause-point : goal.returns-clause-point
returns-clause-point c =
    λ rise.
    IsPartitionPoint-from_clause (λ (t : Token). nat_lt t.span.end c.args.offset) _ _ c.partition_point.ensures.partitioned
    (IsPartitionedBy-ltb (λ (t : Token). t.span.end) c.args.tokens.now c.args.offset rise)
    (λ a r q k. search rules)
