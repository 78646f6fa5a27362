use Rattle.std.proofs.Common.{◌++◌, false, sym, ap, ◌∙◌}
use Rattle.std.proofs.lemmas.Result.{on_ok_weaker}
use Rattle.ob0_tree.specs.View.{expression_of, items_of, selector_of}
use Rattle.ob0_types_check.specs.OperandFaults.{non_constant_name_operand}
use Rattle.ob0_types_check.specs.ExpressionFaults.{report_on_selectors}
use Rattle.ob0_types_check.specs.StatementFaults.{faults_of_expression_of_type}
use Rattle.ob0_types_check.specs.CheckerViews.{facts_in}
use Rattle.ob0_types_check.proofs.Chains.{steps, reports_same}
use Rattle.ob0_types_check.proofs.Listed.{reported_following}
use Rattle.ob0_types_check.proofs.ReportedStatements.{assigned_reported, target_reported}
use Rattle.ob0_types_check.proofs.reporting.checker_state.CheckerState.report_assignment.Goals as goal

pub returns : goal.returns
returns c =
    let facts = facts_in c.args.self.now false in
    let before = c.args.faults.now.items in
    let a = c.args.a.now in
    let x = a.target.name in
    let path = items_of selector_of a.target.selectors.items in
    let e = expression_of a.value in
    let target = reports_same (steps (λ t. report_on_selectors facts (non_constant_name_operand t x) path) c.in_ok-check_assigned_name.ensures c.in_ok-target.ensures) (sym (target_reported facts x path)) in
    on_ok_weaker c.report_expression_of_type.result (λ h. reported_following (λ o. faults_of_expression_of_type facts o.of e) target h ∙ sym (ap (λ f. before ++ f) (assigned_reported facts x path e))) c.report_expression_of_type.ensures
