use Rattle.std.proofs.Common.{◌≡◌, None, Some, sym, ap, arith, ◌∙◌}
use Rattle.ob0_scope_numbering.specs.declared.newest_bindings.NameEntry.{NameEntry}
use Rattle.ob0_scope_numbering.specs.NewestBindingList.{newest_binding_in, position_of_name}
use Rattle.ob0_scope_numbering.proofs.NewestNames.{place_holds}
use Rattle.ob0_scope_numbering.proofs.newest_bindings.NewestBindings.newest_binding_at.Goals as goal

pub index-requires : goal.index-requires
index-requires c =
    let at : position_of_name c.self.inside.entries.items c.args.name.now ≡ Some c.args.name_position = ap (λ es. position_of_name es c.args.name.now) c.self.view_is ∙ c.requires in
    let d : NameEntry = record { name = c.args.name; newest = None } in
    let below = (place_holds c.self.inside.entries.items c.args.name.now c.args.name_position d at).below in
    omega (arith, below, c.self.inside.entries.ok)

pub returns : goal.returns
returns c =
    let at : position_of_name c.self.inside.entries.items c.args.name.now ≡ Some c.args.name_position = ap (λ es. position_of_name es c.args.name.now) c.self.view_is ∙ c.requires in
    let there = place_holds c.self.inside.entries.items c.args.name.now c.args.name_position c.index.result.now at in
    ap (λ (e : NameEntry). e.newest) c.index.ensures ∙ (sym there.newest ∙ ap (λ es. newest_binding_in es c.args.name.now) c.self.view_is)
