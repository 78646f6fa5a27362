use Rattle.std.proofs.Common.{◌≡◌, drop, map}
use Rattle.ob0_scope_numbering.specs.OrdinalMarks.{table_with_marks}
use Rattle.ob0_scope_numbering.specs.OrdinalMarks.{zero_mark_at_token}
use Rattle.ob0_scope.proofs.occurrence_lookup.table_marking_occurrences.Given as goal

abbrev pub invariant-loop-token : goal.invariant-loop-token
invariant-loop-token l = table_with_marks l.table.items (map zero_mark_at_token (drop l.token-index l.token-items)) ≡ table_with_marks l.initial.table.items (map zero_mark_at_token l.token-items)
