use Rattle.std.proofs.Common.{◌≡◌, if◌then◌else◌, Some, refl, ap, arith, ◌∙◌}
use Rattle.ob0_scope_numbering.specs.declared.newest_bindings.NameEntry.{NameEntry}
use Rattle.ob0_language_names.specs.Names.{same_name}
use Rattle.ob0_scope_numbering.specs.NewestBindingList.{newest_binding_in, position_of_name}
use Rattle.ob0_scope_numbering.proofs.NewestNames.{place_renewed, places_renewed, renewed, place_holds}
use Rattle.ob0_scope_numbering.proofs.newest_bindings.NewestBindings.set_newest_binding.Goals as goal

pub index_mut-requires : goal.index_mut-requires
index_mut-requires c =
    let at : position_of_name c.self.inside.entries.items c.args.name.now ≡ Some c.args.name_position = ap (λ es. position_of_name es c.args.name.now) c.self.view_is ∙ c.requires in
    let d : NameEntry = record { name = c.args.name; newest = c.args.newest } in
    let below = (place_holds c.self.inside.entries.items c.args.name.now c.args.name_position d at).below in
    omega (arith, below, c.self.inside.entries.ok)

pub invariant_of-self : goal.invariant_of-self
invariant_of-self c =
    let at : position_of_name c.self.inside.entries.items c.args.name.now ≡ Some c.args.name_position = ap (λ es. position_of_name es c.args.name.now) c.self.view_is ∙ c.requires in
    let r : NameEntry = record { name = c.args.name; newest = c.args.newest } in
    places_renewed c.self.inside.name_positions c.self.inside.entries.items c.args.name.now c.args.name_position r refl at c.self.invariant

pub returns-clause-renewed : goal.returns-clause-renewed
returns-clause-renewed c =
    let at : position_of_name c.self.inside.entries.items c.args.name.now ≡ Some c.args.name_position = ap (λ es. position_of_name es c.args.name.now) c.self.view_is ∙ c.requires in
    let r : NameEntry = record { name = c.args.name; newest = c.args.newest } in
    λ y. renewed c.self.inside.entries.items c.args.name.now c.args.name_position r refl at y
    ∙ ap (λ es. if same_name c.args.name.now y then c.args.newest else newest_binding_in es y) c.self.view_is

pub returns-clause-name_positions : goal.returns-clause-name_positions
returns-clause-name_positions c =
    let at : position_of_name c.self.inside.entries.items c.args.name.now ≡ Some c.args.name_position = ap (λ es. position_of_name es c.args.name.now) c.self.view_is ∙ c.requires in
    let r : NameEntry = record { name = c.args.name; newest = c.args.newest } in
    λ y i there. place_renewed c.self.inside.entries.items c.args.name.now c.args.name_position r refl at y ∙ (ap (λ es. position_of_name es y) c.self.view_is ∙ there)
