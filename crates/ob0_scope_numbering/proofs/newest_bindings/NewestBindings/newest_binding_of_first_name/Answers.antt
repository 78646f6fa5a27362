use Rattle.std.proofs.Common.{◌≡◌, Some, sym, ap, ◌∙◌}
use Rattle.ob0_scope_numbering.specs.declared.newest_bindings.NameEntry.{NameEntry}
use Rattle.ob0_scope_numbering.specs.NewestBindingList.{newest_binding_in, position_of_name}
use Rattle.ob0_scope_numbering.proofs.NewestNames.{place_holds}
use Rattle.ob0_scope_numbering.proofs.newest_bindings.NewestBindings.newest_binding_of_first_name.Goals as goal

pub returns : goal.returns
returns c = λ x h.
    let at : position_of_name c.self.inside.entries.items x ≡ Some 0 = ap (λ es. position_of_name es x) c.self.view_is ∙ h in
    let there = place_holds c.self.inside.entries.items x 0 c.index.result.now at in
    ap (λ (e : NameEntry). e.newest) c.index.ensures ∙ (sym there.newest ∙ ap (λ es. newest_binding_in es x) c.self.view_is)
