use Rattle.std.proofs.Common.{◌∷◌, map, get_or, refl, sym, ap, ◌∙◌, subst, arith, add-one}
use Rattle.ob0_scope_table.specs.LabelledTrees.{label_at_token}
use Rattle.ob0_scope_table.proofs.Counted.{labels_listed}
use Rattle.ob0_types_table.specs.DeclarationTableView.{mode_from_flag}
use Rattle.ob0_run_cells.specs.Activations.{add_name_to_placement}
use Rattle.ob0_run_lowering.specs.PlacedNames.{AddsNames, declared_size, add_declared_names_to_placement, variable_slot_at_depth}
use Rattle.ob0_run_lowering.proofs.GrowingSites.{as_deep, in_begins, in_ends, in_on, names-earlier}
use Rattle.ob0_run_lowering.proofs.declaration_sites.place_names_of_declaration.Goals as goal

pub loop-name-init : goal.loop-name-init
loop-name-init c =
    let r = c.args.context.now.resolved.now in
    let at = variable_slot_at_depth c.args.frame.depth in
    let size_of = declared_size c.args.context.now.types.now in
    let mode = mode_from_flag c.args.by_place in
    record {
      placed = in_on (λ n. add_name_to_placement at mode (label_at_token r n) (size_of (label_at_token r n))) _ _ c.args.names.now.first 0 (λ x xs p. refl) (λ xs p. names-earlier at size_of mode (map (label_at_token r) xs) p)
          (in_begins (λ xs. add_declared_names_to_placement at size_of mode (map (label_at_token r) xs)) (c.args.names.now.first ∷ c.deref-name-items.result.now) c.args.sites.now.items c.args.frame)
          (omega arith) refl c.in_ok-now.ensures;
    }

pub loop-name-preserved : goal.loop-name-preserved
loop-name-preserved c =
    let r = c.args.context.now.resolved.now in
    let at = variable_slot_at_depth c.args.frame.depth in
    let size_of = declared_size c.args.context.now.types.now in
    let mode = mode_from_flag c.args.by_place in
    let name = get_or c.deref-name-items.result.now c.loop-name.name-index 0 in
    record {
      placed = in_on (λ n. add_name_to_placement at mode (label_at_token r n) (size_of (label_at_token r n))) _ _ name 0 (λ x xs p. refl) (λ xs p. names-earlier at size_of mode (map (label_at_token r) xs) p)
          c.loop-name.invariant.placed (omega (arith, c.loop-name-test.true)) (sym (ap (λ n. get_or (c.args.names.now.first ∷ c.deref-name-items.result.now) n 0) (add-one c.loop-name.name-index)))
          (as_deep _ _ _ _ c.loop-name.now.depth c.args.frame.depth (λ d. add_name_to_placement (variable_slot_at_depth d) mode (label_at_token r name) (size_of (label_at_token r name))) c.loop-name.invariant.placed.depth c.in_ok-now-2.ensures);
    }

pub returns : goal.returns
returns c =
    let r = c.args.context.now.resolved.now in
    subst (λ ls. AddsNames c.args.sites.now.items c.loop-name.sites.items c.args.frame (add_declared_names_to_placement (variable_slot_at_depth c.args.frame.depth) (declared_size c.args.context.now.types.now) (mode_from_flag c.args.by_place) ls) c.loop-name.now)
    (ap (λ ys. map (label_at_token r) (c.args.names.now.first ∷ ys)) c.deref-name-items.ensures.value ∙ sym (labels_listed r c.args.names.now))
    (in_ends (λ p. refl) c.loop-name.invariant.placed (omega (arith, c.loop-name-test.false)))
