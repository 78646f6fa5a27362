use Rattle.std.proofs.Common.{rules}
use Rattle.std.specs.Prelude.{nat_lt}
use Rattle.std.proofs.lemmas.List.Sorted.{IsPartitionPoint-from_clause, IsPartitionedBy-ltb}
use Rattle.ob0_scan.specs.declared.lexeme.Span.{Span}
use Rattle.ob0_scan.proofs.Halved.{point_is_count}
use Rattle.ob0_scan.proofs.old_lexemes.count_comments_ending_before.Goals as goal

pub returns-clause-count : goal.returns-clause-count
returns-clause-count c =
    let passes = λ (s : Span). nat_lt s.end c.args.offset in
    point_is_count passes c.args.comments.now _ c.partition_point.ensures.bound
    (IsPartitionPoint-from_clause passes _ _ c.partition_point.ensures.partitioned
    (IsPartitionedBy-ltb (λ (s : Span). s.end) c.args.comments.now c.args.offset c.requires)
    (λ a r q k. search rules))
