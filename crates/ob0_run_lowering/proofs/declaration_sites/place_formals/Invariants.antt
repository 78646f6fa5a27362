use Rattle.ob0_tree.specs.View.{items_of, parameter_section_after_semicolon_of}
use Rattle.ob0_scope_table.specs.LabelledTrees.{tree_with_labels}
use Rattle.ob0_run_lowering.specs.PlacedNames.{declared_size, place_parameter_sections, variable_slot_at_depth}
use Rattle.ob0_run_lowering.proofs.GrowingSites.{InPlaces}
use Rattle.ob0_run_lowering.proofs.declaration_sites.place_formals.Given as goal

abbrev pub invariant-loop-section : goal.invariant-loop-section
invariant-loop-section l = record {
  placed : InPlaces (λ xs. place_parameter_sections (variable_slot_at_depth l.fn.frame.depth) (declared_size l.context.types.now) (tree_with_labels l.context.resolved.now (items_of parameter_section_after_semicolon_of xs))) l.section-items l.fn.sites.items l.sites.items l.fn.frame l.now l.section-index;
}
