use Rattle.ob0_tree.specs.View.{items_of, variable_declaration_of}
use Rattle.ob0_scope_table.specs.LabelledTrees.{tree_with_labels}
use Rattle.ob0_run_lowering.specs.PlacedNames as placed
use Rattle.ob0_run_lowering.specs.PlacedNames.{declared_size, variable_slot_at_depth}
use Rattle.ob0_run_lowering.proofs.GrowingSites.{InPlaces}
use Rattle.ob0_run_lowering.proofs.declaration_sites.place_variable_declarations.Given as goal

abbrev pub invariant-loop-group : goal.invariant-loop-group
invariant-loop-group l = record {
  placed : InPlaces (λ xs. placed.place_variable_declarations (variable_slot_at_depth l.fn.frame.depth) (declared_size l.context.types.now) (tree_with_labels l.context.resolved.now (items_of variable_declaration_of xs))) l.group-items l.fn.sites.items l.sites.items l.fn.frame l.now l.group-index;
}
