use Rattle.std.proofs.Common.{◌≡◌, OnOk, [], sym, ap, ◌∙◌, subst, None}
use Rattle.std.specs.Vec.{vec_len}
use Rattle.ob0_tree.proofs.Viewed.{addend_parts, comparison_made, compound_parts, designator_made, simple_parts, term_parts}
use Rattle.ob0_tree.specs.declared.tree.Comparison.{Comparison, out-Comparison, roll-out-Comparison}
use Rattle.ob0_tree.specs.declared.tree.CompoundExpression.{back-CompoundExpression-compared, out-CompoundExpression}
use Rattle.ob0_tree.specs.declared.tree.SimpleExpression.{out-SimpleExpression}
use Rattle.ob0_tree.specs.declared.tree.Term.{out-Term}
use Rattle.ob0_tree.specs.Tree.{compares, none, one, relates}
use Rattle.ob0_tree.specs.View.{items_of, compound_expression_of, expression_of, addend_of, comparison_of, maybe_comparison_of, multiplier_of, selector_of, simple_expression_of, term_of, factor_of}
use Rattle.ob0_language_types.specs.Typing.{type_of_variable_or_constant}
use Rattle.ob0_types_fields.proofs.SingleFactorFields.{factor_marked, is_nothing}
use Rattle.ob0_types_fields.proofs.field_walk.FieldWalk.+expressions.Goals as goal
use Rattle.ob0_types_fields.specs.IdentifierOwners.{selected_identifiers}
use Rattle.ob0_types_fields.specs.FieldWalks.{field_walk_meanings, state_after_identifiers}
use Rattle.ob0_types_fields.proofs.FieldVisits.{all_visited, path_ends, path_goes_on, then_visited, visits_on}

comparison_parts : (x : Comparison) → comparison_of x ≡ relates (out-Comparison x).relation (simple_expression_of (out-Comparison x).right)
comparison_parts x = sym (ap comparison_of (roll-out-Comparison x)) ∙ comparison_made (out-Comparison x)

pub visit_expression_fields-returns-in-Factor : goal.visit_expression_fields-returns-in-Factor
visit_expression_fields-returns-in-Factor g t c =
    let m = field_walk_meanings c.args.self.now in
    subst (λ z. OnOk c.visit_factor_fields.result (c.visit_factor_fields.new.visitor ≡ state_after_identifiers g.V.FieldVisitor.state_after_one_field z c.args.visitor.now))
    (sym (ap (λ e. selected_identifiers m None (expression_of e)) c.in-Factor.is ∙ factor_marked m (factor_of c.in-Factor.f))) c.visit_factor_fields.ensures

pub visit_expression_fields-returns-in-CompoundExpression : goal.visit_expression_fields-returns-in-CompoundExpression
visit_expression_fields-returns-in-CompoundExpression g t c =
    let m = field_walk_meanings c.args.self.now in
    subst (λ z. OnOk c.visit_compound_expression_fields.result (c.visit_compound_expression_fields.new.visitor ≡ state_after_identifiers g.V.FieldVisitor.state_after_one_field z c.args.visitor.now))
    (ap (λ e. selected_identifiers m None (compound_expression_of e)) c.deref.ensures ∙ sym (ap (λ e. selected_identifiers m None (expression_of e)) c.in-CompoundExpression.is)) c.visit_compound_expression_fields.ensures

pub visit_compound_expression_fields-returns-in-Some : goal.visit_compound_expression_fields-returns-in-Some
visit_compound_expression_fields-returns-in-Some g t c =
    let step = g.V.FieldVisitor.state_after_one_field in
    let m = field_walk_meanings c.args.self.now in
    let x = out-CompoundExpression c.args.c.now in
    let right = c.in-Some.compared.value in
    let tree : compound_expression_of c.args.c.now ≡ compares (simple_expression_of x.left) (one (relates (out-Comparison right).relation (simple_expression_of (out-Comparison right).right))) =
    compound_parts c.args.c.now
    ∙ (ap (λ o. compares (simple_expression_of x.left) (maybe_comparison_of (back-CompoundExpression-compared o))) c.in-Some.is ∙ ap (λ y. compares (simple_expression_of x.left) (one y)) (comparison_parts right)) in
    subst (λ z. OnOk c.visit_simple_expression_fields-in-Some.result (c.visit_simple_expression_fields-in-Some.new.visitor ≡ z))
    (ap (λ (x : Comparison). state_after_identifiers step (selected_identifiers m None (simple_expression_of (out-Comparison x).right)) c.visit_simple_expression_fields.new.visitor) c.deref.ensures
    ∙ (then_visited step c.args.visitor.now (selected_identifiers m None (simple_expression_of x.left)) (selected_identifiers m None (simple_expression_of (out-Comparison right).right)) c.in_ok-visit_simple_expression_fields.ensures
    ∙ ap (λ t. state_after_identifiers step (selected_identifiers m None t) c.args.visitor.now) (sym tree))) c.visit_simple_expression_fields-in-Some.ensures

pub visit_compound_expression_fields-returns-in-None : goal.visit_compound_expression_fields-returns-in-None
visit_compound_expression_fields-returns-in-None g t c =
    let step = g.V.FieldVisitor.state_after_one_field in
    let m = field_walk_meanings c.args.self.now in
    let x = out-CompoundExpression c.args.c.now in
    let tree : compound_expression_of c.args.c.now ≡ compares (simple_expression_of x.left) none =
    compound_parts c.args.c.now ∙ ap (λ o. compares (simple_expression_of x.left) (maybe_comparison_of (back-CompoundExpression-compared o))) c.in-None.is in
    then_visited step c.args.visitor.now (selected_identifiers m None (simple_expression_of x.left)) [] c.in_ok-visit_simple_expression_fields.ensures
    ∙ ap (λ t. state_after_identifiers step (selected_identifiers m None t) c.args.visitor.now) (sym tree)

pub visit_simple_expression_fields-loop-addend-preserved : goal.visit_simple_expression_fields-loop-addend-preserved
visit_simple_expression_fields-loop-addend-preserved g t c =
    visits_on addend_of c.addend-item.result c.visit_term_fields-in-loop-addend.new.visitor c.loop-addend.invariant c.loop-addend-test.true c.addend-item.is
    (c.in_ok-visit_term_fields-2.ensures ∙ ap (λ a. state_after_identifiers g.V.FieldVisitor.state_after_one_field (selected_identifiers (field_walk_meanings c.args.self.now) None a) c.loop-addend.visitor) (sym (addend_parts c.addend-item.result)))

pub visit_simple_expression_fields-returns : goal.visit_simple_expression_fields-returns
visit_simple_expression_fields-returns g t c =
    let step = g.V.FieldVisitor.state_after_one_field in
    let m = field_walk_meanings c.args.self.now in
    let s = out-SimpleExpression c.args.s.now in
    all_visited c.loop-addend.invariant c.loop-addend-test.false
    ∙ (ap (λ xs. state_after_identifiers step (selected_identifiers m None (items_of addend_of xs)) c.visit_term_fields.new.visitor) c.deref-addend-items.ensures.value
    ∙ (then_visited step c.args.visitor.now (selected_identifiers m None (term_of s.first)) (selected_identifiers m None (items_of addend_of s.more.items)) c.in_ok-visit_term_fields.ensures
    ∙ ap (λ s. state_after_identifiers step (selected_identifiers m None s) c.args.visitor.now) (sym (simple_parts c.args.s.now))))

pub visit_term_fields-loop-multiplier-preserved : goal.visit_term_fields-loop-multiplier-preserved
visit_term_fields-loop-multiplier-preserved g t c =
    visits_on multiplier_of c.multiplier-item.result c.visit_factor_fields-in-loop-multiplier.new.visitor c.loop-multiplier.invariant c.loop-multiplier-test.true c.multiplier-item.is c.in_ok-visit_factor_fields-2.ensures

pub visit_term_fields-returns : goal.visit_term_fields-returns
visit_term_fields-returns g t c =
    let step = g.V.FieldVisitor.state_after_one_field in
    let m = field_walk_meanings c.args.self.now in
    let x = out-Term c.args.t.now in
    all_visited c.loop-multiplier.invariant c.loop-multiplier-test.false
    ∙ (ap (λ xs. state_after_identifiers step (selected_identifiers m None (items_of multiplier_of xs)) c.visit_factor_fields.new.visitor) c.deref-multiplier-items.ensures.value
    ∙ (then_visited step c.args.visitor.now (selected_identifiers m None (factor_of x.first)) (selected_identifiers m None (items_of multiplier_of x.more.items)) c.in_ok-visit_factor_fields.ensures
    ∙ ap (λ t. state_after_identifiers step (selected_identifiers m None t) c.args.visitor.now) (sym (term_parts c.args.t.now))))

pub visit_factor_fields-returns-in-Designator : goal.visit_factor_fields-returns-in-Designator
visit_factor_fields-returns-in-Designator g t c =
    subst (λ z. OnOk c.visit_designator_fields.result (c.visit_designator_fields.new.visitor ≡ state_after_identifiers g.V.FieldVisitor.state_after_one_field z c.args.visitor.now))
    (ap (selected_identifiers (field_walk_meanings c.args.self.now) None) (sym (designator_made c.in-Designator.d) ∙ sym (ap factor_of c.in-Designator.is))) c.visit_designator_fields.ensures

pub visit_designator_fields-loop-s-preserved : goal.visit_designator_fields-loop-s-preserved
visit_designator_fields-loop-s-preserved g t c = path_goes_on _ _ _ c.loop-s.invariant c.loop-s-test.true c.s-item.is c.in_ok-at.ensures.visited c.in_ok-at.ensures.following

pub visit_designator_fields-returns-then-is_empty : goal.visit_designator_fields-returns-then-is_empty
visit_designator_fields-returns-then-is_empty g t c =
    let d = c.args.d.now in
    let m = field_walk_meanings c.args.self.now in
    let none = is_nothing d.selectors.items (vec_len d.selectors) c.is_empty.result d.selectors.ok.0 c.is_empty.ensures c.if-is_empty.true in
    ap (λ xs. state_after_identifiers g.V.FieldVisitor.state_after_one_field (selected_identifiers m (type_of_variable_or_constant (m.object_for d.name)) (items_of selector_of xs)) c.args.visitor.now) (sym none)

pub visit_designator_fields-returns : goal.visit_designator_fields-returns
visit_designator_fields-returns g t c =
    let d = c.args.d.now in
    let m = field_walk_meanings c.args.self.now in
    path_ends c.loop-s.invariant c.loop-s-test.false
    ∙ (λ i. state_after_identifiers g.V.FieldVisitor.state_after_one_field (selected_identifiers m (c.value_type-at.ensures i) (items_of selector_of (c.deref-s-items.ensures.value i))) c.args.visitor.now)
