use Rattle.std.proofs.Common.{◌∷◌, ◌+◌, map}
use Rattle.ob0_scope_table.specs.LabelledTrees.{label_at_token}
use Rattle.ob0_types_table.specs.DeclarationTableView.{mode_from_flag}
use Rattle.ob0_run_lowering.specs.PlacedNames.{declared_size, add_declared_names_to_placement, variable_slot_at_depth}
use Rattle.ob0_run_lowering.proofs.GrowingSites.{InPlaces}
use Rattle.ob0_run_lowering.proofs.declaration_sites.place_names_of_declaration.Given as goal

abbrev pub invariant-loop-name : goal.invariant-loop-name
invariant-loop-name l = record {
  placed : InPlaces (λ xs. add_declared_names_to_placement (variable_slot_at_depth l.fn.frame.depth) (declared_size l.context.types.now) (mode_from_flag l.by_place) (map (label_at_token l.context.resolved.now) xs)) (l.names.first ∷ l.name-items) l.fn.sites.items l.sites.items l.fn.frame l.now (l.name-index + 1);
}
