use Rattle.ob0_tree.specs.View.{field_group_after_semicolon_of}
use Rattle.ob0_tree.proofs.Deepest.{Deepest}
use Rattle.ob0_tree.proofs.nesting.+types.Given as goal

abbrev pub invariant-record_type_nesting-loop-group : goal.invariant-record_type_nesting-loop-group
invariant-record_type_nesting-loop-group l = Deepest field_group_after_semicolon_of l.initial.deepest l.group-items l.group-index l.deepest
