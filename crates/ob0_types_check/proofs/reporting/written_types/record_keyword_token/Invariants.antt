use Rattle.std.proofs.Common.{◌≡◌, ◌-◌, drop}
use Rattle.ob0_tree.specs.View.{field_group_after_semicolon_of, items_of}
use Rattle.ob0_types_check.specs.WrittenTypeFaults.{record_keyword_token}
use Rattle.ob0_types_check.proofs.reporting.written_types.record_keyword_token.Given as goal

abbrev pub invariant-loop-before : goal.invariant-loop-before
invariant-loop-before l = record_keyword_token (items_of field_group_after_semicolon_of l.groups) ≡ record_keyword_token (items_of field_group_after_semicolon_of (drop l.before l.groups)) - l.before
