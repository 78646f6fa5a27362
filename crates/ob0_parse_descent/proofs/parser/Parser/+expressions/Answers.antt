use Rattle.std.proofs.Common.{arith, refl, Some}
use Rattle.std.proofs.lemmas.Result.{err_from_is_err_and}
use Rattle.ob0_tree.specs.Tree.{selector, multiplier, addend, comparison}
use Rattle.ob0_tree.specs.View.{items_of, simple_expression_of, addend_of, term_of, multiplier_of, factor_of, selector_of, expression_of}
use Rattle.ob0_tree.proofs.Viewed.{compound_made, comparison_made, addend_made, simple_made, term_made, designator_made}
use Rattle.ob0_parse_descent.proofs.Leads.{fails_in_token, fails_in_name}
use Rattle.ob0_parse_descent.proofs.Items.{taking_none, taking_more, taking_done}
use Rattle.ob0_parse_descent.proofs.Lone.{lone_simple, lone_term, lone_expression}
use Rattle.ob0_parse_descent.proofs.Expressions.{taken_no_item, taken_item, expression_fails_left, expression_fails_comparison, comparison_fails_right, simple_fails_first, simple_fails_addend, addend_fails_term, term_fails_first, term_fails_multiplier, multiplier_fails_factor, taken_compares, taken_sum, taken_product, taken_relates, taken_adds, taken_multiplies, taken_integer, taken_designator, taken_parenthesised, taken_negation, factor_missing, other_kind, factor_fails_open, factor_fails_not, factor_fails_inner, factor_fails_close, factor_fails_negated, factor_fails_designator, designator_fails_selector, no_selector, taken_field, taken_index, selector_fails_field, selector_fails_open, selector_fails_inner, selector_fails_close}
use Rattle.ob0_parse_descent.proofs.parser.Parser.+expressions.Goals as goal

pub parse_expression-returns : goal.parse_expression-returns
parse_expression-returns t c = lone_expression _ _ c.in-Some.ensures.alone

pub parse_expression_parts-returns-in_err-left : goal.parse_expression_parts-returns-in_err-left
parse_expression_parts-returns-in_err-left t c =
    let p = err_from_is_err_and c.from_residual.result c.from_residual.ensures.1 in
    rw (p.1, p.2) (expression_fails_left c.in_err-left.ensures)

pub parse_expression_parts-returns-in_err-comparison : goal.parse_expression_parts-returns-in_err-comparison
parse_expression_parts-returns-in_err-comparison t c =
    let p = err_from_is_err_and c.from_residual-in_err-comparison.result c.from_residual-in_err-comparison.ensures.1 in
    rw (p.1, p.2) (expression_fails_comparison (simple_expression_of c.in_ok-left.left) c.in_ok-left.ensures c.in_err-comparison.ensures)

pub parse_comparison-returns-in_err-right : goal.parse_comparison-returns-in_err-right
parse_comparison-returns-in_err-right t c =
    let p = err_from_is_err_and c.from_residual.result c.from_residual.ensures.1 in
    rw (p.1, p.2) (comparison_fails_right c.in-Some.kind c.in-Some-relation_of.relation c.in-Some-relation_of.ensures c.in-Some.ensures.here c.in_err-right.ensures)

pub parse_addend-returns-in_err-term : goal.parse_addend-returns-in_err-term
parse_addend-returns-in_err-term t c =
    let p = err_from_is_err_and c.from_residual.result c.from_residual.ensures.1 in
    rw (p.1, p.2) (addend_fails_term c.in-Some.kind c.in-Some-add_operator_of.operator c.in-Some-add_operator_of.ensures c.in-Some.ensures.here c.in_err-term.ensures)

pub parse_multiplier-returns-in_err-factor : goal.parse_multiplier-returns-in_err-factor
parse_multiplier-returns-in_err-factor t c =
    let p = err_from_is_err_and c.from_residual.result c.from_residual.ensures.1 in
    rw (p.1, p.2) (multiplier_fails_factor c.in-Some.kind c.in-Some-multiply_operator_of.operator c.in-Some-multiply_operator_of.ensures c.in-Some.ensures.here c.in_err-factor.ensures)

pub parse_simple_expression_fast-returns : goal.parse_simple_expression_fast-returns
parse_simple_expression_fast-returns t c =
    rw (simple_made _, term_made _, c.new-multipliers.ensures.items, c.new-addends.ensures.items) (lone_simple _ 3 _ (omega arith) c.in-Some.ensures.alone)

pub parse_term_fast-returns : goal.parse_term_fast-returns
parse_term_fast-returns t c = rw (term_made _, c.new-more.ensures.items) (lone_term _ 2 _ (omega arith) c.in-Some.ensures.alone)

pub parse_factor_fast-returns : goal.parse_factor_fast-returns
parse_factor_fast-returns t c = c.in-Some.ensures.alone.taken _

pub parse_simple_expression-returns-in_err-first : goal.parse_simple_expression-returns-in_err-first
parse_simple_expression-returns-in_err-first t c =
    let p = err_from_is_err_and c.from_residual.result c.from_residual.ensures.1 in
    rw (p.1, p.2) (simple_fails_first _ c.parse_sign-sign.ensures c.in_err-first.ensures)

pub parse_simple_expression-returns-in_err-addend : goal.parse_simple_expression-returns-in_err-addend
parse_simple_expression-returns-in_err-addend t c =
    let p = err_from_is_err_and c.from_residual-in_err-addend.result c.from_residual-in_err-addend.ensures.1 in
    rw (p.1, p.2) (simple_fails_addend _ (term_of c.in_ok-first.first) (items_of addend_of c.loop-more.more.items) c.parse_sign-sign.ensures c.in_ok-first.ensures c.loop-more.invariant c.in_err-addend.ensures)

pub parse_simple_expression-loop-more-preserved : goal.parse_simple_expression-loop-more-preserved
parse_simple_expression-loop-more-preserved t c =
    let item = rw c.in-Some.is at c.in_ok-addend.ensures in
    rw c.in_ok-push_with_doubling.ensures.added (taking_more addend_of c.loop-more.more.items _ _ _ _ _ _ c.loop-more.invariant item.0)

pub parse_simple_expression-returns : goal.parse_simple_expression-returns
parse_simple_expression-returns t c =
    let stop = rw c.in_default.is at c.in_ok-addend.ensures in
    let items = items_of addend_of c.loop-more.more.items in
    rw (simple_made _) (taken_sum _ (term_of c.in_ok-first.first) items c.parse_sign-sign.ensures c.in_ok-first.ensures (taking_done items c.loop-more.invariant stop))

pub parse_term-returns-in_err-first : goal.parse_term-returns-in_err-first
parse_term-returns-in_err-first t c =
    let p = err_from_is_err_and c.from_residual.result c.from_residual.ensures.1 in
    rw (p.1, p.2) (term_fails_first c.in_err-first.ensures)

pub parse_term-returns-in_err-multiplier : goal.parse_term-returns-in_err-multiplier
parse_term-returns-in_err-multiplier t c =
    let p = err_from_is_err_and c.from_residual-in_err-multiplier.result c.from_residual-in_err-multiplier.ensures.1 in
    rw (p.1, p.2) (term_fails_multiplier (factor_of c.in_ok-first.first) (items_of multiplier_of c.loop-more.more.items) c.in_ok-first.ensures c.loop-more.invariant.0 c.in_err-multiplier.ensures)

pub parse_term-loop-more-preserved : goal.parse_term-loop-more-preserved
parse_term-loop-more-preserved t c =
    let item = rw c.in-Some.is at c.in_ok-multiplier.ensures in
    (rw c.in_ok-push_with_doubling.ensures.added (taking_more multiplier_of c.loop-more.more.items _ _ _ _ _ _ c.loop-more.invariant.0 item.0), c.loop-more.invariant.1)

pub parse_term-returns : goal.parse_term-returns
parse_term-returns t c =
    let stop = rw c.in_default.is at c.in_ok-multiplier.ensures in
    let items = items_of multiplier_of c.loop-more.more.items in
    rw (term_made _, c.loop-more.invariant.1) (taken_product (factor_of c.in_ok-first.first) items c.in_ok-first.ensures (taking_done items c.loop-more.invariant.0 stop))

pub parse_expression_parts-returns : goal.parse_expression_parts-returns
parse_expression_parts-returns t c =
    let item = rw c.in-Some.is at c.in_ok-comparison.ensures in
    rw (c.in_ok-compound.ensures.ok, compound_made _, c.in_ok-boxed.ensures.ok) (taken_compares _ _ c.in_ok-left.ensures (taken_item _ item.0))

pub parse_comparison-returns : goal.parse_comparison-returns
parse_comparison-returns t c =
    let taken = taken_relates c.in-Some.kind c.in-Some-relation_of.relation _ c.in-Some-relation_of.ensures c.in-Some.ensures.here c.in_ok-right.ensures in
    (rw (comparison_made _) taken, omega (arith, c.in_ok-right.ensures.forward))

pub parse_addend-returns : goal.parse_addend-returns
parse_addend-returns t c =
    let taken = taken_adds c.in-Some.kind c.in-Some-add_operator_of.operator _ c.in-Some-add_operator_of.ensures c.in-Some.ensures.here c.in_ok-term.ensures in
    (rw (addend_made _) taken, omega (arith, c.in_ok-term.ensures.forward))

pub parse_multiplier-returns : goal.parse_multiplier-returns
parse_multiplier-returns t c =
    let taken = taken_multiplies c.in-Some.kind c.in-Some-multiply_operator_of.operator _ c.in-Some-multiply_operator_of.ensures c.in-Some.ensures.here c.in_ok-factor.ensures in
    (taken, omega (arith, c.in_ok-factor.ensures.forward))

pub parse_expression_parts-returns-in_default : goal.parse_expression_parts-returns-in_default
parse_expression_parts-returns-in_default t c =
    let absent = rw c.in_default.is at c.in_ok-comparison.ensures in
    rw c.in_ok-lone.ensures (taken_compares _ _ c.in_ok-left.ensures (taken_no_item comparison _ _ _ c.in_ok-left.ensures.within absent))

pub parse_simple_expression-loop-more-init : goal.parse_simple_expression-loop-more-init
parse_simple_expression-loop-more-init t c = rw c.new-more.ensures.items (taking_none addend _ _ _ c.in_ok-first.ensures.within)

pub parse_term-loop-more-init : goal.parse_term-loop-more-init
parse_term-loop-more-init t c = (rw c.new-more.ensures.items (taking_none multiplier _ _ _ c.in_ok-first.ensures.within), refl)

pub parse_designator-loop-selectors-init : goal.parse_designator-loop-selectors-init
parse_designator-loop-selectors-init t c = rw c.new-selectors.ensures.items (taking_none selector _ _ _ (omega (arith, c.in_ok-name.ensures.1, c.in_ok-name.ensures.3)))

pub parse_designator-loop-selectors-preserved : goal.parse_designator-loop-selectors-preserved
parse_designator-loop-selectors-preserved t c =
    let item = rw c.in-Some.is at c.in_ok-selector.ensures in
    rw c.in_ok-push_with_doubling.ensures.added (taking_more selector_of c.loop-selectors.selectors.items _ _ _ _ _ _ c.loop-selectors.invariant item.0)

pub parse_designator-returns : goal.parse_designator-returns
parse_designator-returns t c =
    let absent = rw c.in_default.is at c.in_ok-selector.ensures in
    let items = items_of selector_of c.loop-selectors.selectors.items in
    (rw c.in_ok-name.ensures.2 (taken_designator items c.in_ok-name.ensures.0 c.in_ok-name.ensures.3 (taking_done items c.loop-selectors.invariant absent)), absent)

pub parse_designator-returns-in_err-name : goal.parse_designator-returns-in_err-name
parse_designator-returns-in_err-name t c =
    let p = err_from_is_err_and c.from_residual.result c.from_residual.ensures.1 in
    rw (p.1, p.2) (fails_in_name c.in_err-name.ensures)

pub parse_designator-returns-in_err-selector : goal.parse_designator-returns-in_err-selector
parse_designator-returns-in_err-selector t c =
    let p = err_from_is_err_and c.from_residual-in_err-selector.result c.from_residual-in_err-selector.ensures.1 in
    rw (p.1, p.2) (designator_fails_selector (items_of selector_of c.loop-selectors.selectors.items) c.in_ok-name.ensures.0 c.in_ok-name.ensures.3 c.loop-selectors.invariant c.in_err-selector.ensures)

pub parse_factor-returns-in_default : goal.parse_factor-returns-in_default
parse_factor-returns-in_default t c =
    rw c.syntax_error.ensures (factor_missing c.kind.result c.args.at _ c.requires c.kind.ensures.here (λ e. c.in_default.not-Some _ e) (λ v e. c.in_default.not-Some _ e) (λ e. c.in_default.not-Some _ e) (λ e. c.in_default.not-Some _ e))

pub parse_factor-returns-in_default-kind : goal.parse_factor-returns-in_default-kind
parse_factor-returns-in_default-kind t c =
    let open_paren = c.if-has_symbol_at.ensures in
    let not = c.if-has_symbol_at-2.ensures in
    rw c.syntax_error-in_default-kind.ensures (factor_missing (Some c.in-Some.kind) c.args.at _ c.requires c.in-Some.ensures.here (λ e. c.in_default-kind.not-Identifier (cc)) (λ v e. c.in_default-kind.not-Integer v (cc)) (λ e. other_kind open_paren c.in-Some.ensures.here e refl) (λ e. other_kind not c.in-Some.ensures.here e refl))

pub parse_factor-returns-in-Integer : goal.parse_factor-returns-in-Integer
parse_factor-returns-in-Integer t c =
    let here = rw c.in-Integer.is at c.in-Some.ensures.here in
    taken_integer _ _ _ here c.in-Some.ensures.within

pub parse_factor-returns-in_ok-designator-in-Identifier : goal.parse_factor-returns-in_ok-designator-in-Identifier
parse_factor-returns-in_ok-designator-in-Identifier t c = rw (designator_made _) c.in_ok-designator-in-Identifier.ensures.0

pub parse_factor-returns-in_err-designator-in-Identifier : goal.parse_factor-returns-in_err-designator-in-Identifier
parse_factor-returns-in_err-designator-in-Identifier t c =
    let here = rw c.in-Identifier.is at c.in-Some.ensures.here in
    let p = err_from_is_err_and c.from_residual.result c.from_residual.ensures.1 in
    rw (p.1, p.2) (factor_fails_designator here c.in_err-designator-in-Identifier.ensures)

pub parse_parenthesised_factor-returns : goal.parse_parenthesised_factor-returns
parse_parenthesised_factor-returns t c = rw c.in_ok-boxed.ensures.ok (taken_parenthesised _ c.in_ok-inner.ensures c.requires.0 c.in_ok-expression.ensures c.in_ok-next.ensures)

pub parse_parenthesised_factor-returns-in_err-inner : goal.parse_parenthesised_factor-returns-in_err-inner
parse_parenthesised_factor-returns-in_err-inner t c =
    let p = err_from_is_err_and c.from_residual.result c.from_residual.ensures.1 in
    rw (p.1, p.2) (factor_fails_open c.requires.1 c.in_err-inner.ensures c.requires.0)

pub parse_parenthesised_factor-returns-in_err-expression : goal.parse_parenthesised_factor-returns-in_err-expression
parse_parenthesised_factor-returns-in_err-expression t c =
    let p = err_from_is_err_and c.from_residual-in_err-expression.result c.from_residual-in_err-expression.ensures.1 in
    rw (p.1, p.2) (factor_fails_inner c.in_ok-inner.ensures c.requires.0 c.in_err-expression.ensures)

pub parse_parenthesised_factor-returns-in_err-next : goal.parse_parenthesised_factor-returns-in_err-next
parse_parenthesised_factor-returns-in_err-next t c =
    let p = err_from_is_err_and c.from_residual-in_err-next.result c.from_residual-in_err-next.ensures.1 in
    rw (p.1, p.2) (factor_fails_close (expression_of c.in_ok-expression.expression) c.in_ok-inner.ensures c.requires.0 c.in_ok-expression.ensures (fails_in_token c.in_err-next.ensures))

pub parse_negation-returns : goal.parse_negation-returns
parse_negation-returns t c = rw c.in_ok-boxed.ensures.ok (taken_negation _ c.in_ok-inner.ensures c.requires.0 c.in_ok-factor.ensures)

pub parse_negation-returns-in_err-inner : goal.parse_negation-returns-in_err-inner
parse_negation-returns-in_err-inner t c =
    let p = err_from_is_err_and c.from_residual.result c.from_residual.ensures.1 in
    rw (p.1, p.2) (factor_fails_not c.requires.1 c.in_err-inner.ensures c.requires.0)

pub parse_negation-returns-in_err-factor : goal.parse_negation-returns-in_err-factor
parse_negation-returns-in_err-factor t c =
    let p = err_from_is_err_and c.from_residual-in_err-factor.result c.from_residual-in_err-factor.ensures.1 in
    rw (p.1, p.2) (factor_fails_negated c.in_ok-inner.ensures c.requires.0 c.in_err-factor.ensures)

pub parse_selector-returns : goal.parse_selector-returns
parse_selector-returns t c = no_selector c.if-has_symbol_at.ensures c.if-has_symbol_at-2.ensures

pub parse_selector-returns-then-has_symbol_at : goal.parse_selector-returns-then-has_symbol_at
parse_selector-returns-then-has_symbol_at t c =
    (taken_field _ c.if-has_symbol_at.ensures.0 c.in_ok-name.ensures, omega (arith, c.in_ok-name.ensures.3))

pub parse_selector-returns-then-has_symbol_at-2 : goal.parse_selector-returns-then-has_symbol_at-2
parse_selector-returns-then-has_symbol_at-2 t c =
    (taken_index _ c.in_ok-inner.ensures c.if-has_symbol_at-2.ensures.0 c.in_ok-index.ensures c.in_ok-next.ensures, omega (arith, c.in_ok-index.ensures.forward, c.in_ok-next.ensures.2))

pub parse_selector-returns-in_err-name : goal.parse_selector-returns-in_err-name
parse_selector-returns-in_err-name t c =
    let p = err_from_is_err_and c.from_residual.result c.from_residual.ensures.1 in
    rw (p.1, p.2) (selector_fails_field c.if-has_symbol_at.ensures.0 (fails_in_name c.in_err-name.ensures))

pub parse_selector-returns-in_err-inner : goal.parse_selector-returns-in_err-inner
parse_selector-returns-in_err-inner t c =
    let p = err_from_is_err_and c.from_residual-in_err-inner.result c.from_residual-in_err-inner.ensures.1 in
    rw (p.1, p.2) (selector_fails_open c.if-has_symbol_at-2.ensures.1 c.in_err-inner.ensures c.if-has_symbol_at-2.ensures.0)

pub parse_selector-returns-in_err-index : goal.parse_selector-returns-in_err-index
parse_selector-returns-in_err-index t c =
    let p = err_from_is_err_and c.from_residual-in_err-index.result c.from_residual-in_err-index.ensures.1 in
    rw (p.1, p.2) (selector_fails_inner c.in_ok-inner.ensures c.if-has_symbol_at-2.ensures.0 c.in_err-index.ensures)

pub parse_selector-returns-in_err-next : goal.parse_selector-returns-in_err-next
parse_selector-returns-in_err-next t c =
    let p = err_from_is_err_and c.from_residual-in_err-next.result c.from_residual-in_err-next.ensures.1 in
    rw (p.1, p.2) (selector_fails_close (expression_of c.in_ok-index.index) c.in_ok-inner.ensures c.if-has_symbol_at-2.ensures.0 c.in_ok-index.ensures (fails_in_token c.in_err-next.ensures))
