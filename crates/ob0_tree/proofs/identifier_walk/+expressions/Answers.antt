use Rattle.std.proofs.Common.{◌≡◌, ℕ, List, OnOk, sym, ap, ◌∙◌, subst}
use Rattle.ob0_tree.proofs.Viewed.{addend_parts, comparison_made, compound_parts, designator_made, simple_parts, term_parts}
use Rattle.ob0_tree.specs.declared.tree.Addend.{Addend}
use Rattle.ob0_tree.specs.declared.tree.Comparison.{Comparison, out-Comparison, roll-out-Comparison}
use Rattle.ob0_tree.specs.declared.tree.CompoundExpression.{back-CompoundExpression-compared, out-CompoundExpression}
use Rattle.ob0_tree.specs.declared.tree.Multiplier.{Multiplier}
use Rattle.ob0_tree.specs.declared.tree.Role.{Role}
use Rattle.ob0_tree.specs.declared.tree.SimpleExpression.{out-SimpleExpression}
use Rattle.ob0_tree.specs.declared.tree.Term.{out-Term}
use Rattle.ob0_tree.specs.declared.tree.Role.TheVariants as role
use Rattle.ob0_tree.specs.Tree.{compares, identifiers, one, relates}
use Rattle.ob0_tree.specs.View.{items_of, addend_of, maybe_comparison_of, comparison_of, multiplier_of, term_of, factor_of, simple_expression_of, compound_expression_of}
use Rattle.ob0_tree.specs.VisitorStates.{state_after_identifiers, state_after_visit}
use Rattle.ob0_tree.proofs.Visits.{all_visited, then_visited, visits_on}
use Rattle.ob0_tree.proofs.identifier_walk.+expressions.Goals as goal

comparison_parts : (x : Comparison) → comparison_of x ≡ relates (out-Comparison x).relation (simple_expression_of (out-Comparison x).right)
comparison_parts x = sym (ap comparison_of (roll-out-Comparison x)) ∙ comparison_made (out-Comparison x)

pub walk_compound_expression-returns-in_ok-walk_simple_expression-2 : goal.walk_compound_expression-returns-in_ok-walk_simple_expression-2
walk_compound_expression-returns-in_ok-walk_simple_expression-2 g t c =
    let x = out-CompoundExpression c.args.c.now in
    let right = c.in-Some.compared.value in
    let tree : compound_expression_of c.args.c.now ≡ compares (simple_expression_of x.left) (one (relates (out-Comparison right).relation (simple_expression_of (out-Comparison right).right))) =
    compound_parts c.args.c.now
    ∙ (ap (λ o. compares (simple_expression_of x.left) (maybe_comparison_of (back-CompoundExpression-compared o))) c.in-Some.is ∙ ap (λ y. compares (simple_expression_of x.left) (one y)) (comparison_parts right)) in
    c.in_ok-walk_simple_expression-2.ensures
    ∙ (ap (λ (x : Comparison). state_after_visit g.V.Visitor.state_after_one_identifier (simple_expression_of (out-Comparison x).right) c.walk_simple_expression.new.visitor) c.deref.ensures
    ∙ (then_visited g.V.Visitor.state_after_one_identifier c.args.visitor.now (identifiers role.DeclaringName (simple_expression_of x.left)) (identifiers role.DeclaringName (simple_expression_of (out-Comparison right).right)) c.in_ok-walk_simple_expression.ensures
    ∙ ap (λ t. state_after_visit g.V.Visitor.state_after_one_identifier t c.args.visitor.now) (sym tree)))

pub walk_factor-returns-in-Designator : goal.walk_factor-returns-in-Designator
walk_factor-returns-in-Designator g t c =
    subst (λ z. OnOk c.walk_designator.result (c.walk_designator.new.visitor ≡ state_after_visit g.V.Visitor.state_after_one_identifier z c.args.visitor.now))
    (sym (designator_made c.in-Designator.d) ∙ sym (ap factor_of c.in-Designator.is)) c.walk_designator.ensures

pub walk_simple_expression-loop-addend-preserved : goal.walk_simple_expression-loop-addend-preserved
walk_simple_expression-loop-addend-preserved g t c = visits_on addend_of c.addend-item.result c.walk_term-in-loop-addend.new.visitor c.loop-addend.invariant c.loop-addend-test.true c.addend-item.is (c.in_ok-walk_term-2.ensures ∙ ap (λ a. state_after_visit g.V.Visitor.state_after_one_identifier a c.loop-addend.visitor) (sym (addend_parts c.addend-item.result)))

pub walk_simple_expression-returns : goal.walk_simple_expression-returns
walk_simple_expression-returns g t c =
    let first = identifiers role.DeclaringName (term_of (out-SimpleExpression c.args.s.now).first) in
    let rest : List Addend → List (Role × ℕ) = λ xs. identifiers role.DeclaringName (items_of addend_of xs) in
    all_visited c.loop-addend.invariant c.loop-addend-test.false
    ∙ (ap (λ xs. state_after_identifiers g.V.Visitor.state_after_one_identifier (rest xs) c.walk_term.new.visitor) c.deref-addend-items.ensures.value
    ∙ (then_visited g.V.Visitor.state_after_one_identifier c.args.visitor.now first (rest (out-SimpleExpression c.args.s.now).more.items) c.in_ok-walk_term.ensures
    ∙ ap (λ s. state_after_visit g.V.Visitor.state_after_one_identifier s c.args.visitor.now) (sym (simple_parts c.args.s.now))))

pub walk_term-returns : goal.walk_term-returns
walk_term-returns g t c =
    let first = identifiers role.DeclaringName (factor_of (out-Term c.args.t.now).first) in
    let rest : List Multiplier → List (Role × ℕ) = λ xs. identifiers role.DeclaringName (items_of multiplier_of xs) in
    all_visited c.loop-multiplier.invariant c.loop-multiplier-test.false
    ∙ (ap (λ xs. state_after_identifiers g.V.Visitor.state_after_one_identifier (rest xs) c.walk_factor.new.visitor) c.deref-multiplier-items.ensures.value
    ∙ (then_visited g.V.Visitor.state_after_one_identifier c.args.visitor.now first (rest (out-Term c.args.t.now).more.items) c.in_ok-walk_factor.ensures
    ∙ ap (λ t. state_after_visit g.V.Visitor.state_after_one_identifier t c.args.visitor.now) (sym (term_parts c.args.t.now))))
