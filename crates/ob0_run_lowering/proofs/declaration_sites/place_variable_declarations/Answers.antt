use Rattle.std.proofs.Common.{refl, sym, ap, ◌∙◌, subst}
use Rattle.ob0_tree.specs.View.{items_of, names_of, variable_declaration_of, variable_section_of}
use Rattle.ob0_language_names.specs.BlockParts.{names_in_list, section_variables}
use Rattle.ob0_scope_table.specs.LabelledTrees.{tree_with_labels}
use Rattle.ob0_language_types.specs.WellTyped.{by_value}
use Rattle.ob0_run_lowering.specs.PlacedNames as placed
use Rattle.ob0_run_lowering.specs.PlacedNames.{AddsNames, add_declared_names_to_placement, declared_size, variable_slot_at_depth}
use Rattle.ob0_run_lowering.proofs.GrowingSites.{as_deep, groups-earlier, in_begins, in_ends, in_on, no_names}
use Rattle.ob0_run_lowering.proofs.declaration_sites.place_variable_declarations.Goals as goal

pub returns-in_default : goal.returns-in_default
returns-in_default c =
    subst (λ section. AddsNames c.args.sites.now.items c.args.sites.now.items c.args.frame (placed.place_variable_declarations (variable_slot_at_depth c.args.frame.depth) (declared_size c.args.context.now.types.now) (section_variables (tree_with_labels c.args.context.now.resolved.now (variable_section_of section)))) c.args.frame) (sym c.in_default.is)
    (no_names c.args.sites.now.items c.args.frame)

pub loop-group-init : goal.loop-group-init
loop-group-init c = record { placed = in_begins _ c.deref-group-items.result.now c.args.sites.now.items c.args.frame }

pub loop-group-preserved : goal.loop-group-preserved
loop-group-preserved c =
    let r = c.args.context.now.resolved.now in
    let at = variable_slot_at_depth c.args.frame.depth in
    let size_of = declared_size c.args.context.now.types.now in
    record {
      placed = in_on (λ v. add_declared_names_to_placement at size_of by_value (names_in_list (tree_with_labels r (names_of v.names)))) _ _ c.group-item.result c.group-item.result (λ x xs p. refl) (λ xs p. groups-earlier at size_of (tree_with_labels r (items_of variable_declaration_of xs)) p)
          c.loop-group.invariant.placed c.loop-group-test.true c.group-item.is
          (as_deep _ _ _ _ c.loop-group.now.depth c.args.frame.depth (λ d. add_declared_names_to_placement (variable_slot_at_depth d) size_of by_value (names_in_list (tree_with_labels r (names_of c.group-item.result.names)))) c.loop-group.invariant.placed.depth c.in_ok-now.ensures);
    }

pub returns : goal.returns
returns c =
    let r = c.args.context.now.resolved.now in
    subst (λ gs. AddsNames c.args.sites.now.items c.loop-group.sites.items c.args.frame (placed.place_variable_declarations (variable_slot_at_depth c.args.frame.depth) (declared_size c.args.context.now.types.now) gs) c.loop-group.now)
    (ap (λ xs. tree_with_labels r (items_of variable_declaration_of xs)) c.deref-group-items.ensures.value ∙ sym (ap (λ section. section_variables (tree_with_labels r (variable_section_of section))) c.in-Some.is))
    (in_ends (λ p. refl) c.loop-group.invariant.placed c.loop-group-test.false)
