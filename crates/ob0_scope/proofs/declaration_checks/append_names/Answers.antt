use Rattle.std.proofs.Common.{[], ◌∷◌, ◌++◌, refl, sym, ap, ◌∙◌, append_assoc}
use Rattle.ob0_scope.proofs.Checking.{gathered}
use Rattle.ob0_scope_numbering.proofs.Declaring.{names_further}
use Rattle.ob0_scope.proofs.declaration_checks.append_names.Goals as goal

pub returns : goal.returns
returns c =
    let ns = c.args.ns.now in
    let old = c.args.out.now.items in
    gathered (λ xs. xs) refl c.loop-name.invariant c.loop-name-test.false
    ∙ (ap (λ z. z ++ c.deref-name-items.result.now) c.in_ok-push.ensures.items
    ∙ (append_assoc old (ns.first ∷ []) c.deref-name-items.result.now ∙ ap (λ xs. old ++ (ns.first ∷ xs)) (c.deref-name-items.ensures.value ∙ sym (names_further ns.more.items))))
