use Rattle.std.proofs.Common.{◌≡◌, ◌+◌, ap, sym, subst, arith}
use Rattle.ob0_tree.specs.TokenIndexLeaves.{token_text_at}
use Rattle.ob0_scope_table.specs.Resolution.{ordinal_in}
use Rattle.ob0_scope_table.specs.LabelledTrees.{label_at_token}
use Rattle.ob0_types_table.specs.DeclarationTableView.{mode_from_flag}
use Rattle.ob0_run_cells.specs.Activations.{add_name_to_placement}
use Rattle.ob0_run_lowering.specs.declared.declaration_sites.Frame.{Frame}
use Rattle.ob0_run_lowering.specs.declared.scene.LoweredSite.TheVariants as site
use Rattle.ob0_run_lowering.specs.PlacedNames.{AddsNames, AddsSite, declared_size, variable_slot_at_depth}
use Rattle.ob0_run_lowering.proofs.GrowingSites.{place-in_activation, place-by_reference}
use Rattle.ob0_run_lowering.proofs.declaration_sites.place_declared_name.Goals as goal

pub returns-then-by_place : goal.returns-then-by_place
returns-then-by_place c =
    let f = c.args.frame in
    let r = c.args.context.now.resolved.now in
    let size_of = declared_size c.args.context.now.types.now in
    let g : Frame = record { depth = f.depth; cells = f.cells; var_parameter_count = c.in-Some.var_parameter_count } in
    let next : c.in-Some.var_parameter_count ≡ f.var_parameter_count + 1 = omega (arith, c.in-Some.ensures) in
    subst (λ b. AddsNames c.args.sites.now.items c.push_site.new.sites.items f (add_name_to_placement (variable_slot_at_depth f.depth) (mode_from_flag b) (label_at_token r c.args.name) (size_of (label_at_token r c.args.name))) g) (sym c.if-by_place.true)
    (place-by_reference c.args.sites.now.items c.push_site.new.sites.items f g size_of (ordinal_in r.ordinals c.args.name) (token_text_at r.module_read.source c.args.name)
    (subst (λ o. AddsSite o (site.ByReference f.depth f.var_parameter_count) c.args.sites.now.items c.push_site.new.sites.items) c.ordinal_at-ordinal.ensures c.in_ok-push_site.ensures)
    (ap (λ n. record f { var_parameter_count = n }) next))

pub returns : goal.returns
returns c =
    let f = c.args.frame in
    let r = c.args.context.now.resolved.now in
    let size_of = declared_size c.args.context.now.types.now in
    subst (λ b. AddsNames c.args.sites.now.items c.push_site-2.new.sites.items f (add_name_to_placement (variable_slot_at_depth f.depth) (mode_from_flag b) (label_at_token r c.args.name) (size_of (label_at_token r c.args.name))) c.in-Some-with_more_cells.next) (sym c.if-by_place.false)
    (place-in_activation c.args.sites.now.items c.push_site-2.new.sites.items f c.in-Some-with_more_cells.next size_of (ordinal_in r.ordinals c.args.name) (token_text_at r.module_read.source c.args.name) c.site_of_next_variable.result c.declared_size_at_token.result c.site_of_next_variable.ensures
    (subst (λ o. AddsSite o c.site_of_next_variable.result c.args.sites.now.items c.push_site-2.new.sites.items) c.ordinal_at-ordinal.ensures c.in_ok-push_site-2.ensures) c.in-Some-with_more_cells.ensures c.declared_size_at_token.ensures)
