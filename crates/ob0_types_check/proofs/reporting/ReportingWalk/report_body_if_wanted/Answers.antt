use Rattle.std.proofs.Common.{arith}
use Rattle.ob0_tree.specs.View.{body_of}
use Rattle.ob0_types_check.specs.WalksOverSomeBodies.{walk_progress_of}
use Rattle.ob0_types_check.proofs.ReportedDeclarations.{body_faulty, body_faultless}
use Rattle.ob0_types_check.proofs.reporting.ReportingWalk.report_body_if_wanted.Goals as goal

pub returns-in_ok-push : goal.returns-in_ok-push
returns-in_ok-push c =
    let start = c.args.self.now in
    let last = c.report_body.new.faults in
    let ok = start.faults.ok.0 in
    let last_ok = last.ok.0 in
    body_faulty c.args.wanted c.args.own (walk_progress_of start.checker_state c.args.bodies_with_faults.now.items) (body_of c.args.statements.now) start.faults.items last.items c.if-not-wanted.false c.in_ok-report_body.ensures
    c.push.new.self.items (omega (arith, c.if-len-before.true, c.len.ensures, c.len-before.ensures, ok, last_ok)) c.in_ok-push.ensures.items

pub returns-else-len-before : goal.returns-else-len-before
returns-else-len-before c =
    let start = c.args.self.now in
    let last = c.report_body.new.faults in
    let ok = start.faults.ok.0 in
    let last_ok = last.ok.0 in
    body_faultless c.args.wanted c.args.own (walk_progress_of start.checker_state c.args.bodies_with_faults.now.items) (body_of c.args.statements.now) start.faults.items last.items c.if-not-wanted.false c.in_ok-report_body.ensures
    (omega (arith, c.if-len-before.false, c.len.ensures, c.len-before.ensures, ok, last_ok))
