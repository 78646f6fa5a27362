use Rattle.std.proofs.Common.{◌++◌, false, sym, ap, ◌∙◌}
use Rattle.std.proofs.lemmas.Result.{on_ok_weaker}
use Rattle.ob0_tree.specs.View.{body_of, sequence_of_list}
use Rattle.ob0_types_check.specs.CheckerViews.{declarations_in_state}
use Rattle.ob0_types_check.specs.DeclarationFaults.{body_faults}
use Rattle.ob0_types_check.specs.StatementFaults.{sequence_faults}
use Rattle.ob0_types_check.proofs.Listed.{nothing_reported}
use Rattle.ob0_types_check.proofs.ReportedDeclarations.{no_body_faults, some_body_faults}
use Rattle.ob0_types_check.proofs.SameFacts.{facts_same}
use Rattle.ob0_types_check.proofs.reporting.checker_state.CheckerState.report_body.Goals as goal

pub returns-in-None : goal.returns-in-None
returns-in-None c =
    let p = declarations_in_state c.args.self.now in
    nothing_reported c.args.faults.now.items (ap (λ z. body_faults p (body_of z)) c.in-None.is ∙ no_body_faults p)

pub returns-in-Some : goal.returns-in-Some
returns-in-Some c =
    let s = c.args.self.now in
    let p = declarations_in_state s in
    let before = c.args.faults.now.items in
    let a = sequence_of_list c.in-Some.statements.items in
    let all = ap (λ z. body_faults p (body_of z)) c.in-Some.is ∙ some_body_faults p a in
    on_ok_weaker c.report_sequence.result (λ h. h ∙ (ap (λ facts. before ++ sequence_faults facts a) (facts_same s false) ∙ sym (ap (λ fs. before ++ fs) all))) c.report_sequence.ensures
