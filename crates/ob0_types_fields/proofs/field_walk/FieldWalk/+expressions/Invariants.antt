use Rattle.std.proofs.Common.{option_map}
use Rattle.ob0_tree.specs.View.{addend_of, multiplier_of}
use Rattle.ob0_types_table.specs.DeclarationTables.{shapes_of}
use Rattle.ob0_types_table.specs.DeclarationTableView.{type_shape}
use Rattle.ob0_types_fields.proofs.field_walk.FieldWalk.+expressions.Given as goal
use Rattle.ob0_types_fields.specs.FieldWalks.{field_walk_meanings}
use Rattle.ob0_types_fields.proofs.FieldVisits.{OnPath, Visiting}

abbrev pub invariant-visit_designator_fields-loop-s : goal.invariant-visit_designator_fields-loop-s
invariant-visit_designator_fields-loop-s g l =
    OnPath g.V.FieldVisitor.state_after_one_field (field_walk_meanings l.self) l.initial.visitor (option_map (type_shape (shapes_of l.self.table.now)) l.initial.at) l.s-items l.s-index l.visitor (option_map (type_shape (shapes_of l.self.table.now)) l.at)

abbrev pub invariant-visit_simple_expression_fields-loop-addend : goal.invariant-visit_simple_expression_fields-loop-addend
invariant-visit_simple_expression_fields-loop-addend g l = Visiting g.V.FieldVisitor.state_after_one_field addend_of (field_walk_meanings l.self) l.initial.visitor l.addend-items l.addend-index l.visitor

abbrev pub invariant-visit_term_fields-loop-multiplier : goal.invariant-visit_term_fields-loop-multiplier
invariant-visit_term_fields-loop-multiplier g l = Visiting g.V.FieldVisitor.state_after_one_field multiplier_of (field_walk_meanings l.self) l.initial.visitor l.multiplier-items l.multiplier-index l.visitor
