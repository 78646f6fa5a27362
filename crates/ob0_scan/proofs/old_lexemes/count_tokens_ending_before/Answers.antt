use Rattle.std.proofs.Common.{rules}
use Rattle.std.specs.Prelude.{nat_lt}
use Rattle.std.proofs.lemmas.List.Sorted.{IsPartitionPoint-from_clause, IsPartitionedBy-ltb}
use Rattle.ob0_scan.specs.declared.lexeme.Token.{Token}
use Rattle.ob0_scan.proofs.Halved.{point_is_count}
use Rattle.ob0_scan.proofs.old_lexemes.count_tokens_ending_before.Goals as goal

pub returns-clause-count : goal.returns-clause-count
returns-clause-count c =
    let passes = λ (t : Token). nat_lt t.span.end c.args.offset in
    point_is_count passes c.args.tokens.now _ c.partition_point.ensures.bound
    (IsPartitionPoint-from_clause passes _ _ c.partition_point.ensures.partitioned
    (IsPartitionedBy-ltb (λ (t : Token). t.span.end) c.args.tokens.now c.args.offset c.requires)
    (λ a r q k. search rules))
