use Rattle.std.proofs.Common.{◌++◌, false, map, sym, ap, ◌∙◌}
use Rattle.std.proofs.lemmas.Result.{on_ok_weaker}
use Rattle.ob0_tree.specs.View.{arguments_of, expression_of}
use Rattle.ob0_language_types.specs.Arguments.{call_arguments}
use Rattle.ob0_types_check.specs.StatementFaults.{call_faults}
use Rattle.ob0_types_check.specs.CheckerViews.{facts_in}
use Rattle.ob0_types_check.proofs.ReportedStatements.{all_listed, called_reported}
use Rattle.ob0_types_check.proofs.reporting.checker_state.CheckerState.report_call_statement.Goals as goal

pub returns-in-None : goal.returns-in-None
returns-in-None c =
    let facts = facts_in c.args.self.now false in
    let p = c.args.call.now.procedure in
    let whole = called_reported facts p (arguments_of c.args.call.now.arguments) ∙ ap (λ es. call_faults facts p (call_arguments (arguments_of es))) c.in-None.is in
    on_ok_weaker c.report_call.result (λ h. h ∙ sym (ap (λ f. c.args.faults.now.items ++ f) whole)) c.report_call.ensures

pub returns-in-Some : goal.returns-in-Some
returns-in-Some c =
    let facts = facts_in c.args.self.now false in
    let p = c.args.call.now.procedure in
    let es = c.in-Some.arguments.items in
    let whole = called_reported facts p (arguments_of c.args.call.now.arguments) ∙ ap (λ es. call_faults facts p (call_arguments (arguments_of es))) c.in-Some.is ∙ ap (call_faults facts p) (all_listed es) ∙ sym (ap (λ ys. call_faults facts p (map expression_of ys)) c.as_slice.ensures.value) in
    on_ok_weaker c.report_call-in-Some.result (λ h. h ∙ sym (ap (λ f. c.args.faults.now.items ++ f) whole)) c.report_call-in-Some.ensures
