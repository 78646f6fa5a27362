use Rattle.ob0_tree.specs.View.{field_group_after_semicolon_of}
use Rattle.ob0_layout.proofs.Walks.{Listing}
use Rattle.ob0_layout.proofs.token_line_roles.+types.Given as goal

abbrev pub invariant-add_record_type_roles-loop-group : goal.invariant-add_record_type_roles-loop-group
invariant-add_record_type_roles-loop-group l = Listing field_group_after_semicolon_of 0 l.initial.out.items l.group-items l.group-index l.first l.out.items
