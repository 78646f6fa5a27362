use Rattle.std.proofs.Common.{◌≡◌, if◌then◌else◌, ◌++◌, List, [], ◌∷◌, None, Some, length, sym, ap, arith, vec_len, ◌∙◌, refl, subst}
use Rattle.ob0_scope_numbering.specs.declared.newest_bindings.NameEntry.{NameEntry}
use Rattle.ob0_scope_numbering.specs.NameKeys.{NameKey}
use Rattle.ob0_language_names.specs.Names.{same_name}
use Rattle.ob0_scope_numbering.specs.NewestBindingList.{AreNamePositions, newest_binding_in, position_of_name}
use Rattle.ob0_scope_numbering.proofs.NewestNames.{Renews, none_newer, place_added, places_added}
use Rattle.ob0_scope_numbering.proofs.newest_bindings.NewestBindings.add_name.Goals as goal

pub invariant_of-self-2 : goal.invariant_of-self-2
invariant_of-self-2 c =
    let items = c.self.inside.entries.items in
    let r : NameEntry = record { name = c.args.name; newest = None } in
    let kept : c.reserve.new.self.items ≡ items = c.reserve.ensures.items in
    let absent : position_of_name items c.args.name.now ≡ None = ap (λ es. position_of_name es c.args.name.now) c.self.view_is ∙ c.requires in
    let count : vec_len c.reserve.new.self ≡ length c.reserve.new.self.items = omega (arith, c.reserve.new.self.ok) in
    let renews = subst (λ (k : NameKey). Renews k c.self.inside.name_positions c.insert.new.self (Some (length items))) c.key_of_name.ensures
    (subst (λ i. Renews c.key_of_name.result c.self.inside.name_positions c.insert.new.self (Some i)) (c.len.ensures ∙ (count ∙ ap length kept)) c.in_ok-insert.ensures.updates) in
    subst (AreNamePositions c.insert.new.self) (sym (c.push_reserved.ensures.items ∙ ap (λ (l : List NameEntry). l ++ (r ∷ [])) kept)) (places_added c.self.inside.name_positions c.insert.new.self items r absent renews c.self.invariant)

pub returns-clause-newest : goal.returns-clause-newest
returns-clause-newest c =
    let items = c.self.inside.entries.items in
    let r : NameEntry = record { name = c.args.name; newest = None } in
    let kept : c.reserve.new.self.items ≡ items = c.reserve.ensures.items in
    let absent : position_of_name items c.args.name.now ≡ None = ap (λ es. position_of_name es c.args.name.now) c.self.view_is ∙ c.requires in
    λ y. ap (λ es. newest_binding_in es y) (c.push_reserved.ensures.items ∙ ap (λ (l : List NameEntry). l ++ (r ∷ [])) kept)
    ∙ (none_newer items r refl absent y ∙ ap (λ es. newest_binding_in es y) c.self.view_is)

pub returns-clause-added : goal.returns-clause-added
returns-clause-added c =
    let items = c.self.inside.entries.items in
    let r : NameEntry = record { name = c.args.name; newest = None } in
    let kept : c.reserve.new.self.items ≡ items = c.reserve.ensures.items in
    let absent : position_of_name items c.args.name.now ≡ None = ap (λ es. position_of_name es c.args.name.now) c.self.view_is ∙ c.requires in
    λ y. ap (λ es. position_of_name es y) (c.push_reserved.ensures.items ∙ ap (λ (l : List NameEntry). l ++ (r ∷ [])) kept)
    ∙ (place_added items r absent y ∙ ap (λ es. if same_name c.args.name.now y then Some (length es) else position_of_name es y) c.self.view_is)
