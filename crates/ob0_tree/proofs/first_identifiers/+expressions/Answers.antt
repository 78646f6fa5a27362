use Rattle.std.proofs.Common.{◌≡◌, ℕ, List, Option, is_some, false, sym, ap, ◌∙◌}
use Rattle.ob0_tree.specs.declared.tree.Addend.{Addend}
use Rattle.ob0_tree.specs.declared.tree.Multiplier.{Multiplier}
use Rattle.ob0_tree.specs.declared.tree.SimpleExpression.{SimpleExpression, out-SimpleExpression}
use Rattle.ob0_tree.specs.declared.tree.Term.{Term, out-Term}
use Rattle.ob0_tree.specs.declared.tree.Role.TheVariants as role
use Rattle.ob0_tree.specs.FirstIdentifier.{first_identifier}
use Rattle.ob0_tree.specs.Tree.{identifiers}
use Rattle.ob0_tree.specs.View.{addend_of, factor_of, items_of, multiplier_of, simple_expression_of, term_of}
use Rattle.ob0_tree.proofs.Firsts.{found_first, found_here, found_later, none_found, seeks_on}
use Rattle.ob0_tree.proofs.Viewed.{addend_parts, simple_parts, term_parts}
use Rattle.ob0_tree.proofs.first_identifiers.+expressions.Goals as goal

-- If the first term has no identifier, the first identifier of the further terms is the first one
-- of the simple expression.
further_terms : (s : SimpleExpression) (xs : List Addend) {found : Option ℕ} → found ≡ first_identifier (term_of (out-SimpleExpression s).first) → is_some found ≡ false → xs ≡ (out-SimpleExpression s).more.items
    → first_identifier (items_of addend_of xs) ≡ first_identifier (simple_expression_of s)
further_terms s xs e none same =
    ap (λ ys. first_identifier (items_of addend_of ys)) same
    ∙ (found_later (identifiers role.DeclaringName (term_of (out-SimpleExpression s).first)) (identifiers role.DeclaringName (items_of addend_of (out-SimpleExpression s).more.items)) e none
    ∙ ap first_identifier (sym (simple_parts s)))

-- If the first factor has no identifier, the first identifier of the further factors is the first
-- one of the term.
further_factors : (t : Term) (xs : List Multiplier) {found : Option ℕ} → found ≡ first_identifier (factor_of (out-Term t).first) → is_some found ≡ false → xs ≡ (out-Term t).more.items
    → first_identifier (items_of multiplier_of xs) ≡ first_identifier (term_of t)
further_factors t xs e none same =
    ap (λ ys. first_identifier (items_of multiplier_of ys)) same
    ∙ (found_later (identifiers role.DeclaringName (factor_of (out-Term t).first)) (identifiers role.DeclaringName (items_of multiplier_of (out-Term t).more.items)) e none
    ∙ ap first_identifier (sym (term_parts t)))

pub first_identifier_in_simple_expression-returns-then-is_some : goal.first_identifier_in_simple_expression-returns-then-is_some
first_identifier_in_simple_expression-returns-then-is_some t c =
    let s = out-SimpleExpression c.args.s.now in
    found_first (identifiers role.DeclaringName (term_of s.first)) (identifiers role.DeclaringName (items_of addend_of s.more.items)) c.first_identifier_in_term-found.ensures (sym c.is_some.ensures ∙ c.if-is_some.true)
    ∙ ap first_identifier (sym (simple_parts c.args.s.now))

pub first_identifier_in_simple_expression-returns-then-is_some-2 : goal.first_identifier_in_simple_expression-returns-then-is_some-2
first_identifier_in_simple_expression-returns-then-is_some-2 t c =
    found_here addend_of c.addend-item.result c.loop-addend.invariant c.loop-addend-test.true c.addend-item.is
    (c.first_identifier_in_term-found-in-loop-addend.ensures ∙ ap first_identifier (sym (addend_parts c.addend-item.result))) (sym c.is_some-in-loop-addend.ensures ∙ c.if-is_some-2.true)
    ∙ further_terms c.args.s.now c.deref-addend-items.result.now c.first_identifier_in_term-found.ensures (sym c.is_some.ensures ∙ c.if-is_some.false) c.deref-addend-items.ensures.value

pub first_identifier_in_simple_expression-loop-addend-preserved : goal.first_identifier_in_simple_expression-loop-addend-preserved
first_identifier_in_simple_expression-loop-addend-preserved t c =
    seeks_on addend_of c.addend-item.result c.loop-addend.invariant c.loop-addend-test.true c.addend-item.is
    (c.first_identifier_in_term-found-in-loop-addend.ensures ∙ ap first_identifier (sym (addend_parts c.addend-item.result))) (sym c.is_some-in-loop-addend.ensures ∙ c.if-is_some-2.false)

pub first_identifier_in_simple_expression-returns : goal.first_identifier_in_simple_expression-returns
first_identifier_in_simple_expression-returns t c =
    none_found c.loop-addend.invariant c.loop-addend-test.false
    ∙ further_terms c.args.s.now c.deref-addend-items.result.now c.first_identifier_in_term-found.ensures (sym c.is_some.ensures ∙ c.if-is_some.false) c.deref-addend-items.ensures.value

pub first_identifier_in_term-returns-then-is_some : goal.first_identifier_in_term-returns-then-is_some
first_identifier_in_term-returns-then-is_some t c =
    let x = out-Term c.args.t.now in
    found_first (identifiers role.DeclaringName (factor_of x.first)) (identifiers role.DeclaringName (items_of multiplier_of x.more.items)) c.first_identifier_in_factor-found.ensures (sym c.is_some.ensures ∙ c.if-is_some.true)
    ∙ ap first_identifier (sym (term_parts c.args.t.now))

pub first_identifier_in_term-returns-then-is_some-2 : goal.first_identifier_in_term-returns-then-is_some-2
first_identifier_in_term-returns-then-is_some-2 t c =
    found_here multiplier_of c.multiplier-item.result c.loop-multiplier.invariant c.loop-multiplier-test.true c.multiplier-item.is c.first_identifier_in_factor-found-in-loop-multiplier.ensures
    (sym c.is_some-in-loop-multiplier.ensures ∙ c.if-is_some-2.true)
    ∙ further_factors c.args.t.now c.deref-multiplier-items.result.now c.first_identifier_in_factor-found.ensures (sym c.is_some.ensures ∙ c.if-is_some.false) c.deref-multiplier-items.ensures.value

pub first_identifier_in_term-returns : goal.first_identifier_in_term-returns
first_identifier_in_term-returns t c =
    none_found c.loop-multiplier.invariant c.loop-multiplier-test.false
    ∙ further_factors c.args.t.now c.deref-multiplier-items.result.now c.first_identifier_in_factor-found.ensures (sym c.is_some.ensures ∙ c.if-is_some.false) c.deref-multiplier-items.ensures.value
