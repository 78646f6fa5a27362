use Rattle.std.proofs.Common.{◌++◌, [], ◌∷◌, get_or, ap, ◌∙◌, append_assoc}
use Rattle.std.proofs.lemmas.List.{get_or_default}
use Rattle.ob0_layout.specs.declared.line_role.LineRole.TheVariants.{Plain}
use Rattle.ob0_layout.proofs.Walks.{walk_goes_on}
use Rattle.ob0_layout.proofs.token_line_roles.add_name_list_roles.Goals as goal

pub loop-name-preserved : goal.loop-name-preserved
loop-name-preserved c =
    let xs = c.deref-name-items.result.now in
    walk_goes_on (get_or xs c.loop-name._name-index 0) _ c.loop-name.invariant c.loop-name-test.true (get_or_default xs c.loop-name._name-index 0 _ c.loop-name-test.true)
    (c.in_ok-add_plain_role-2.ensures ∙ ap (λ o. o ++ (Plain ∷ [])) c.in_ok-add_plain_role.ensures ∙ append_assoc c.loop-name.out.items (Plain ∷ []) (Plain ∷ []))
