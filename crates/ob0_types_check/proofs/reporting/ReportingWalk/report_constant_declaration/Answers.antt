use Rattle.std.proofs.Common.{true, sym, ap}
use Rattle.ob0_tree.specs.View.{expression_of}
use Rattle.ob0_types_check.specs.TypesAndMeanings.{a_constant}
use Rattle.ob0_types_check.specs.OperandFaults.{without_fault}
use Rattle.ob0_types_check.specs.KnownDeclarations.{define_name_at_token}
use Rattle.ob0_types_check.specs.CheckerViews.{declarations_in_state}
use Rattle.ob0_types_check.specs.TypeFaults.{report_on_constant_expression}
use Rattle.ob0_types_check.proofs.Chains.{steps, reports_known, reports_same}
use Rattle.ob0_types_check.proofs.SameFacts.{facts_same}
use Rattle.ob0_types_check.proofs.ReportedDeclarations.{constant_reported}
use Rattle.ob0_types_check.proofs.reporting.ReportingWalk.report_constant_declaration.Goals as goal

pub returns : goal.returns
returns c =
    let s = c.args.self.now.checker_state in
    let x = c.args.c.now.name in
    let e = expression_of c.args.c.now.value in
    reports_same
    (steps (λ v. without_fault (define_name_at_token (declarations_in_state s) (a_constant v) x)) (reports_same c.in_ok-value.ensures (ap (λ facts. report_on_constant_expression facts e) (facts_same s true))) (reports_known c.check_constant_expression.new.faults.items c.define_name_at_token.ensures))
    (sym (constant_reported (declarations_in_state s) x e))
