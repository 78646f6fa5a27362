use Rattle.std.proofs.Common.{refl, sym, ap, ◌∙◌, subst}
use Rattle.ob0_tree.specs.View.{formals_of, items_of, names_of, parameter_section_after_semicolon_of}
use Rattle.ob0_language_names.specs.BlockParts.{formal_parameter_sections, names_in_list}
use Rattle.ob0_scope_table.specs.LabelledTrees.{tree_with_labels}
use Rattle.ob0_types_table.specs.DeclarationTableView.{mode_from_flag}
use Rattle.ob0_run_lowering.specs.PlacedNames.{AddsNames, add_declared_names_to_placement, declared_size, place_parameter_sections, variable_slot_at_depth}
use Rattle.ob0_run_lowering.proofs.GrowingSites.{as_deep, in_begins, in_ends, in_on, no_names, section_step, sections-earlier, sections_listed}
use Rattle.ob0_run_lowering.proofs.declaration_sites.place_formals.Goals as goal

pub returns-in_default : goal.returns-in_default
returns-in_default c =
    subst (λ formals. AddsNames c.args.sites.now.items c.args.sites.now.items c.args.frame (place_parameter_sections (variable_slot_at_depth c.args.frame.depth) (declared_size c.args.context.now.types.now) (formal_parameter_sections (tree_with_labels c.args.context.now.resolved.now (formals_of formals)))) c.args.frame) (sym c.in_default.is)
    (no_names c.args.sites.now.items c.args.frame)

pub loop-section-init : goal.loop-section-init
loop-section-init c = record { placed = in_begins _ c.deref-section-items.result.now c.args.sites.now.items c.args.frame }

pub loop-section-preserved : goal.loop-section-preserved
loop-section-preserved c =
    let r = c.args.context.now.resolved.now in
    let at = variable_slot_at_depth c.args.frame.depth in
    let size_of = declared_size c.args.context.now.types.now in
    let s = c.section-item.result in
    record {
      placed = in_on (λ s. add_declared_names_to_placement at size_of (mode_from_flag s.by_reference) (names_in_list (tree_with_labels r (names_of s.names)))) _ _ s s
          (λ x xs p. section_step r at size_of x (tree_with_labels r (items_of parameter_section_after_semicolon_of xs)) p) (λ xs p. sections-earlier at size_of (tree_with_labels r (items_of parameter_section_after_semicolon_of xs)) p)
          c.loop-section.invariant.placed c.loop-section-test.true c.section-item.is
          (as_deep _ _ _ _ c.loop-section.now.depth c.args.frame.depth (λ d. add_declared_names_to_placement (variable_slot_at_depth d) size_of (mode_from_flag s.by_reference) (names_in_list (tree_with_labels r (names_of s.names)))) c.loop-section.invariant.placed.depth c.in_ok-now.ensures);
    }

pub returns : goal.returns
returns c =
    let r = c.args.context.now.resolved.now in
    subst (λ fs. AddsNames c.args.sites.now.items c.loop-section.sites.items c.args.frame (place_parameter_sections (variable_slot_at_depth c.args.frame.depth) (declared_size c.args.context.now.types.now) fs) c.loop-section.now)
    (ap (λ xs. tree_with_labels r (items_of parameter_section_after_semicolon_of xs)) c.deref-section-items.ensures.value ∙ sections_listed r c.in-Some.sections.items ∙ sym (ap (λ formals. formal_parameter_sections (tree_with_labels r (formals_of formals))) c.in-Some.is))
    (in_ends (λ p. refl) c.loop-section.invariant.placed c.loop-section-test.false)
