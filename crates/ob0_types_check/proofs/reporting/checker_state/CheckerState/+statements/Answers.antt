use Rattle.std.proofs.Common.{◌++◌, false, sym, ap, ◌∙◌}
use Rattle.std.proofs.lemmas.Result.{on_ok_weaker}
use Rattle.ob0_tree.proofs.Viewed.{if_parts, repeat_read, while_read}
use Rattle.ob0_tree.specs.declared.tree.If.{out-If}
use Rattle.ob0_tree.specs.View.{else_part_of, elsif_of, expression_of, items_of, sequence_of_list, statement_of}
use Rattle.ob0_types_check.specs.StatementFaults.{condition_faults, else_faults, elsif_faults, sequence_faults, statement_faults}
use Rattle.ob0_types_check.specs.CheckerViews.{facts_in}
use Rattle.ob0_types_check.proofs.Listed.{each_ends, each_goes_on, nothing_reported, reported_both}
use Rattle.ob0_types_check.proofs.ReportedStatements.{branches_reported, else_reported, elsifs_each, empty_reported, no_else_reported, repeat_reported, sequence_each, while_reported}
use Rattle.ob0_types_check.proofs.reporting.checker_state.CheckerState.+statements.Goals as goal

pub report_sequence-loop-s-preserved : goal.report_sequence-loop-s-preserved
report_sequence-loop-s-preserved t c =
    each_goes_on c.s-item.result (sequence_each (facts_in c.args.self.now false)) c.loop-s.invariant c.loop-s-test.true c.s-item.is c.in_ok-report_statement_faults.ensures

pub report_sequence-returns : goal.report_sequence-returns
report_sequence-returns t c =
    let facts = facts_in c.args.self.now false in
    each_ends (sequence_each facts) c.loop-s.invariant c.loop-s-test.false
    ∙ ap (λ ss. c.args.faults.now.items ++ sequence_faults facts (sequence_of_list ss)) c.deref-s-items.ensures.value

pub report_elsifs-loop-part-preserved : goal.report_elsifs-loop-part-preserved
report_elsifs-loop-part-preserved t c =
    let facts = facts_in c.args.self.now false in
    let part = c.part-item.result in
    let both = reported_both c.loop-part.faults.items (condition_faults facts (expression_of part.condition)) (sequence_faults facts (sequence_of_list part.then.items)) c.in_ok-report_condition.ensures c.in_ok-report_sequence.ensures in
    each_goes_on part (elsifs_each facts) c.loop-part.invariant c.loop-part-test.true c.part-item.is both

pub report_elsifs-returns : goal.report_elsifs-returns
report_elsifs-returns t c =
    let facts = facts_in c.args.self.now false in
    each_ends (elsifs_each facts) c.loop-part.invariant c.loop-part-test.false
    ∙ ap (λ es. c.args.faults.now.items ++ elsif_faults facts (items_of elsif_of es)) c.deref-part-items.ensures.value

pub report_statement_faults-returns-in-Empty : goal.report_statement_faults-returns-in-Empty
report_statement_faults-returns-in-Empty t c =
    let facts = facts_in c.args.self.now false in
    nothing_reported c.args.faults.now.items (ap (λ s. statement_faults facts (statement_of s)) c.in-Empty.is ∙ empty_reported facts)

pub report_statement_faults-returns-in_ok-report_condition-in-While : goal.report_statement_faults-returns-in_ok-report_condition-in-While
report_statement_faults-returns-in_ok-report_condition-in-While t c =
    let facts = facts_in c.args.self.now false in
    let before = c.args.faults.now.items in
    let w = c.deref-w.result.now in
    let a = condition_faults facts (expression_of w.condition) in
    let b = sequence_faults facts (sequence_of_list w.body.items) in
    let whole = ap (λ s. statement_faults facts (statement_of s)) c.in-While.is ∙ ap (statement_faults facts) (while_read c.in-While.w c.deref-w.ensures c.deref-w.ensures)
    ∙ while_reported facts (expression_of w.condition) (sequence_of_list w.body.items) in
    on_ok_weaker c.report_sequence.result (λ h. reported_both before a b c.in_ok-report_condition-in-While.ensures h ∙ sym (ap (λ f. before ++ f) whole)) c.report_sequence.ensures

pub report_statement_faults-returns-in_ok-report_sequence-in-Repeat : goal.report_statement_faults-returns-in_ok-report_sequence-in-Repeat
report_statement_faults-returns-in_ok-report_sequence-in-Repeat t c =
    let facts = facts_in c.args.self.now false in
    let before = c.args.faults.now.items in
    let r = c.deref-r.result.now in
    let a = sequence_faults facts (sequence_of_list r.body.items) in
    let b = condition_faults facts (expression_of r.condition) in
    let whole = ap (λ s. statement_faults facts (statement_of s)) c.in-Repeat.is ∙ ap (statement_faults facts) (repeat_read c.in-Repeat.r c.deref-r.ensures c.deref-r.ensures)
    ∙ repeat_reported facts (expression_of r.condition) (sequence_of_list r.body.items) in
    on_ok_weaker c.report_condition-in-Repeat.result (λ h. reported_both before a b c.in_ok-report_sequence-in-Repeat.ensures h ∙ sym (ap (λ f. before ++ f) whole)) c.report_condition-in-Repeat.ensures

pub report_if_statement-returns-in-None : goal.report_if_statement-returns-in-None
report_if_statement-returns-in-None t c =
    let facts = facts_in c.args.self.now false in
    let before = c.args.faults.now.items in
    let i = out-If c.args.i.now in
    let e = expression_of i.condition in
    let a = sequence_of_list i.then.items in
    let rest = items_of elsif_of i.elsifs.items in
    let last = else_part_of i.otherwise in
    let none = ap (λ o. else_faults facts (else_part_of o)) c.in-None.is ∙ no_else_reported facts in
    let now = c.report_elsifs.new.faults.items in
    reported_both before (condition_faults facts e) (sequence_faults facts a ++ (elsif_faults facts rest ++ else_faults facts last)) c.in_ok-report_condition.ensures
    (reported_both c.report_condition.new.faults.items (sequence_faults facts a) (elsif_faults facts rest ++ else_faults facts last) c.in_ok-report_sequence.ensures
    (reported_both c.report_sequence.new.faults.items (elsif_faults facts rest) (else_faults facts last) c.in_ok-report_elsifs.ensures (nothing_reported now none)))
    ∙ sym (ap (λ f. before ++ f) (ap (statement_faults facts) (if_parts c.args.i.now) ∙ branches_reported facts e a rest last))

pub report_if_statement-returns-in-Some : goal.report_if_statement-returns-in-Some
report_if_statement-returns-in-Some t c =
    let facts = facts_in c.args.self.now false in
    let before = c.args.faults.now.items in
    let i = out-If c.args.i.now in
    let e = expression_of i.condition in
    let a = sequence_of_list i.then.items in
    let rest = items_of elsif_of i.elsifs.items in
    let last = else_part_of i.otherwise in
    let some = ap (λ o. else_faults facts (else_part_of o)) c.in-Some.is ∙ else_reported facts (sequence_of_list c.in-Some.statements.items) in
    let now = c.report_elsifs.new.faults.items in
    on_ok_weaker c.report_sequence-in-Some.result (λ h.
    reported_both before (condition_faults facts e) (sequence_faults facts a ++ (elsif_faults facts rest ++ else_faults facts last)) c.in_ok-report_condition.ensures
    (reported_both c.report_condition.new.faults.items (sequence_faults facts a) (elsif_faults facts rest ++ else_faults facts last) c.in_ok-report_sequence.ensures
    (reported_both c.report_sequence.new.faults.items (elsif_faults facts rest) (else_faults facts last) c.in_ok-report_elsifs.ensures (h ∙ sym (ap (λ f. now ++ f) some))))
    ∙ sym (ap (λ f. before ++ f) (ap (statement_faults facts) (if_parts c.args.i.now) ∙ branches_reported facts e a rest last))) c.report_sequence-in-Some.ensures
