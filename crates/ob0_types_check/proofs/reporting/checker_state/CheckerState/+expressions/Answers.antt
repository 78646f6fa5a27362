use Rattle.std.proofs.Common.{◌≡◌, length, sym, ap, ◌∙◌, arith}
use Rattle.std.proofs.lemmas.Bool.Decides.{nat_tests}
use Rattle.std.proofs.lemmas.Result.{IfOk-weaker}
use Rattle.ob0_tree.proofs.Viewed.{designator_made, simple_parts, term_parts}
use Rattle.ob0_tree.specs.declared.tree.Addend.{out-Addend}
use Rattle.ob0_tree.specs.declared.tree.Comparison.{out-Comparison}
use Rattle.ob0_tree.specs.declared.tree.CompoundExpression.{out-CompoundExpression}
use Rattle.ob0_tree.specs.declared.tree.SimpleExpression.{out-SimpleExpression}
use Rattle.ob0_tree.specs.declared.tree.Term.{out-Term}
use Rattle.ob0_tree.specs.Tree.{compares, one, relates}
use Rattle.ob0_tree.specs.View.{addend_of, compound_expression_of, expression_of, factor_of, items_of, multiplier_of, selector_of, simple_expression_of, term_of}
use Rattle.ob0_language_types.proofs.TreeParts.{addend_parts, compound_alone, compound_related}
use Rattle.ob0_types_check.specs.ExpressionFaults.{report_on_addends, report_on_expression, report_on_factor, report_on_multipliers, report_on_selector, report_on_selectors, report_on_simple_expression, report_on_term}
use Rattle.ob0_types_check.specs.OperandFaults.{check_sum, check_negation, element_operand, operand_in_parentheses, check_product, check_relation, without_fault, check_sign, ◌>>=◌}
use Rattle.ob0_types_check.specs.CheckerViews.{facts_in, operand_of}
use Rattle.ob0_types_check.proofs.Chains.{chain_ends, chain_goes_on, steps, reports_nothing, reports_same}
use Rattle.ob0_types_check.proofs.ReportedParts.{added_chain, alone_reported, designator_reported, factor_reported, field_reported, index_reported, integer_reported, multiplied_chain, negation_reported, nothing_selected, parentheses_reported, related_reported, selected_chain, simple_reported, term_reported, reported_added}
use Rattle.ob0_types_check.proofs.reporting.checker_state.CheckerState.+expressions.Goals as goal

pub check_expression-returns-in-Factor : goal.check_expression-returns-in-Factor
check_expression-returns-in-Factor t c =
    let facts = facts_in c.args.self.now c.args.only_constants in
    IfOk-weaker c.check_factor.result _ _ (λ o h. reports_same h (sym (ap (λ e. report_on_expression facts (expression_of e)) c.in-Factor.is ∙ factor_reported facts (factor_of c.in-Factor.f)))) c.check_factor.ensures

pub check_expression-returns-in-CompoundExpression : goal.check_expression-returns-in-CompoundExpression
check_expression-returns-in-CompoundExpression t c =
    let facts = facts_in c.args.self.now c.args.only_constants in
    IfOk-weaker c.check_compound_expression.result _ _ (λ o h. reports_same h (ap (λ e. report_on_expression facts (compound_expression_of e)) c.deref.ensures ∙ sym (ap (λ e. report_on_expression facts (expression_of e)) c.in-CompoundExpression.is))) c.check_compound_expression.ensures

pub check_compound_expression-returns-in-None : goal.check_compound_expression-returns-in-None
check_compound_expression-returns-in-None t c =
    let facts = facts_in c.args.self.now c.args.only_constants in
    reports_same c.in_ok-left.ensures (sym (ap (report_on_expression facts) (compound_alone c.args.c.now c.in-None.is) ∙ alone_reported facts (simple_expression_of (out-CompoundExpression c.args.c.now).left)))

pub check_compound_expression-returns-in_ok-right-in-Some : goal.check_compound_expression-returns-in_ok-right-in-Some
check_compound_expression-returns-in_ok-right-in-Some t c =
    let facts = facts_in c.args.self.now c.args.only_constants in
    let compared = out-Comparison c.deref-compared.result.now in
    let left = simple_expression_of (out-CompoundExpression c.args.c.now).left in
    let without_fault = simple_expression_of compared.right in
    IfOk-weaker c.check_relation.result _ _ (λ o h. reports_same (steps (λ x. report_on_simple_expression facts without_fault >>= check_relation facts compared.relation x) c.in_ok-left.ensures (steps (check_relation facts compared.relation (operand_of c.in_ok-left.left)) c.in_ok-right-in-Some.ensures h))
    (sym (ap (report_on_expression facts) (compound_related c.args.c.now c.in-Some.compared c.in-Some.is)
    ∙ sym (ap (λ k. report_on_expression facts (compares left (one (relates (out-Comparison k).relation (simple_expression_of (out-Comparison k).right))))) c.deref-compared.ensures)
    ∙ related_reported facts compared.relation left without_fault))) c.check_relation.ensures

pub check_factor-returns-else-is_empty : goal.check_factor-returns-else-is_empty
check_factor-returns-else-is_empty t c =
    let facts = facts_in c.args.self.now c.args.only_constants in
    let d = c.in-Designator.d in
    let path = items_of selector_of d.selectors.items in
    IfOk-weaker c.check_designator_selectors.result _ _ (λ o h. reports_same (steps (λ x. report_on_selectors facts x path) c.in_ok-base-in-Designator.ensures h)
    (sym (ap (λ f. report_on_factor facts (factor_of f)) c.in-Designator.is ∙ ap (report_on_factor facts) (designator_made d) ∙ designator_reported facts d.name path))) c.check_designator_selectors.ensures

pub check_factor-returns-then-is_empty : goal.check_factor-returns-then-is_empty
check_factor-returns-then-is_empty t c =
    let facts = facts_in c.args.self.now c.args.only_constants in
    let d = c.in-Designator.d in
    let path = items_of selector_of d.selectors.items in
    let ok = d.selectors.ok.0 in
    let none : length d.selectors.items ≡ 0 = grind (arith, nat_tests) in
    reports_same (steps (λ x. report_on_selectors facts x path) c.in_ok-base-in-Designator.ensures (reports_same (reports_nothing c.operand_of_name.new.faults.items (operand_of c.in_ok-base-in-Designator.base)) (sym (nothing_selected facts (operand_of c.in_ok-base-in-Designator.base) d.selectors.items none))))
    (sym (ap (λ f. report_on_factor facts (factor_of f)) c.in-Designator.is ∙ ap (report_on_factor facts) (designator_made d) ∙ designator_reported facts d.name path))

pub check_factor-returns-in-Integer : goal.check_factor-returns-in-Integer
check_factor-returns-in-Integer t c =
    let facts = facts_in c.args.self.now c.args.only_constants in
    reports_same (reports_nothing c.args.faults.now.items (operand_of c.integer_operand.result))
    (ap without_fault c.integer_operand.ensures ∙ sym (ap (λ f. report_on_factor facts (factor_of f)) c.in-Integer.is ∙ integer_reported facts c.in-Integer.token))

pub check_factor-returns-in_ok-inside-in-Parenthesised : goal.check_factor-returns-in_ok-inside-in-Parenthesised
check_factor-returns-in_ok-inside-in-Parenthesised t c =
    let facts = facts_in c.args.self.now c.args.only_constants in
    reports_same (steps (λ x. without_fault (operand_in_parentheses facts x)) c.in_ok-inside-in-Parenthesised.ensures (reports_same (reports_nothing c.check_expression.new.faults.items (operand_of c.parenthesised_operand.result)) (ap without_fault c.parenthesised_operand.ensures)))
    (ap (λ e. report_on_expression facts e >>= (λ x. without_fault (operand_in_parentheses facts x))) (ap expression_of c.deref.ensures) ∙ sym (ap (λ f. report_on_factor facts (factor_of f)) c.in-Parenthesised.is ∙ parentheses_reported facts (expression_of c.in-Parenthesised.e.value)))

pub check_factor-returns-in_ok-operand-in-Not : goal.check_factor-returns-in_ok-operand-in-Not
check_factor-returns-in_ok-operand-in-Not t c =
    let facts = facts_in c.args.self.now c.args.only_constants in
    IfOk-weaker c.check_negation.result _ _ (λ o h. reports_same (steps (check_negation facts) c.in_ok-operand-in-Not.ensures h)
    (ap (λ f. report_on_factor facts f >>= check_negation facts) (ap factor_of c.deref-in-Not.ensures) ∙ sym (ap (λ f. report_on_factor facts (factor_of f)) c.in-Not.is ∙ negation_reported facts (factor_of c.in-Not.f.value)))) c.check_negation.ensures

pub check_selector-returns-in-Field : goal.check_selector-returns-in-Field
check_selector-returns-in-Field t c =
    let facts = facts_in c.args.self.now c.args.only_constants in
    let x = operand_of c.args.base in
    IfOk-weaker c.select_field.result _ _ (λ o h. reports_same h (sym (ap (λ s. report_on_selector facts x (selector_of s)) c.in-Field.is ∙ field_reported facts x c.in-Field.name))) c.select_field.ensures

pub check_selector-returns-in_ok-index-in-Index : goal.check_selector-returns-in_ok-index-in-Index
check_selector-returns-in_ok-index-in-Index t c =
    let facts = facts_in c.args.self.now c.args.only_constants in
    let x = operand_of c.args.base in
    IfOk-weaker c.select_element.result _ _ (λ o h. reports_same (steps (element_operand facts x) c.in_ok-index-in-Index.ensures h)
    (sym (ap (λ s. report_on_selector facts x (selector_of s)) c.in-Index.is ∙ index_reported facts x (expression_of c.in-Index.e)))) c.select_element.ensures

pub check_designator_selectors-loop-selector-preserved : goal.check_designator_selectors-loop-selector-preserved
check_designator_selectors-loop-selector-preserved t c =
    let facts = facts_in c.args.self.now c.args.only_constants in
    chain_goes_on c.selector-item.result (selected_chain facts) c.loop-selector.invariant c.loop-selector-test.true c.selector-item.is c.in_ok-so_far.ensures

pub check_designator_selectors-returns : goal.check_designator_selectors-returns
check_designator_selectors-returns t c =
    let facts = facts_in c.args.self.now c.args.only_constants in
    reports_same (chain_ends (selected_chain facts) c.loop-selector.invariant c.loop-selector-test.false)
    (ap (λ xs. report_on_selectors facts (operand_of c.args.base) (items_of selector_of xs)) c.deref-selector-items.ensures.value)

pub check_simple_expression-loop-addend-preserved : goal.check_simple_expression-loop-addend-preserved
check_simple_expression-loop-addend-preserved t c =
    let facts = facts_in c.args.self.now c.args.only_constants in
    let a = c.addend-item.result in
    let out = operand_of c.loop-addend.so_far in
    chain_goes_on a (added_chain facts) c.loop-addend.invariant c.loop-addend-test.true c.addend-item.is
    (reports_same (steps (check_sum facts (out-Addend a).operator out) c.in_ok-right.ensures c.in_ok-so_far-2.ensures) (ap (reported_added facts out) (sym (addend_parts a))))

pub check_simple_expression-returns : goal.check_simple_expression-returns
check_simple_expression-returns t c =
    let facts = facts_in c.args.self.now c.args.only_constants in
    let s = out-SimpleExpression c.args.s.now in
    let rest = items_of addend_of s.more.items in
    let chain = reports_same (chain_ends (added_chain facts) c.loop-addend.invariant c.loop-addend-test.false)
    (ap (λ xs. report_on_addends facts (operand_of c.in_ok-so_far.so_far) (items_of addend_of xs)) c.deref-addend-items.ensures.value) in
    reports_same (steps (λ x. check_sign facts s.sign x >>= (λ y. report_on_addends facts y rest)) c.in_ok-first.ensures (steps (λ y. report_on_addends facts y rest) c.in_ok-so_far.ensures chain))
    (sym (ap (report_on_simple_expression facts) (simple_parts c.args.s.now) ∙ simple_reported facts s.sign (term_of s.first) rest))

pub check_term-loop-multiplier-preserved : goal.check_term-loop-multiplier-preserved
check_term-loop-multiplier-preserved t c =
    let facts = facts_in c.args.self.now c.args.only_constants in
    let a = c.multiplier-item.result in
    chain_goes_on a (multiplied_chain facts) c.loop-multiplier.invariant c.loop-multiplier-test.true c.multiplier-item.is
    (steps (check_product facts a.operator (operand_of c.loop-multiplier.so_far)) c.in_ok-right.ensures c.in_ok-so_far-2.ensures)

pub check_term-returns : goal.check_term-returns
check_term-returns t c =
    let facts = facts_in c.args.self.now c.args.only_constants in
    let s = out-Term c.args.t.now in
    let rest = items_of multiplier_of s.more.items in
    let chain = reports_same (chain_ends (multiplied_chain facts) c.loop-multiplier.invariant c.loop-multiplier-test.false)
    (ap (λ xs. report_on_multipliers facts (operand_of c.in_ok-so_far.so_far) (items_of multiplier_of xs)) c.deref-multiplier-items.ensures.value) in
    reports_same (steps (λ x. report_on_multipliers facts x rest) c.in_ok-so_far.ensures chain)
    (sym (ap (report_on_term facts) (term_parts c.args.t.now) ∙ term_reported facts (factor_of s.first) rest))
