use Rattle.std.proofs.Common.{sym}
use Rattle.ob0_tree.specs.View.{type_of}
use Rattle.ob0_types_check.specs.TypesAndMeanings.{a_type}
use Rattle.ob0_types_check.specs.OperandFaults.{without_fault}
use Rattle.ob0_types_check.specs.KnownDeclarations.{TypeWithFollowingDeclarations, define_name_at_token}
use Rattle.ob0_types_check.specs.CheckerViews.{declarations_in_state}
use Rattle.ob0_types_check.proofs.Chains.{steps, reports_known, reports_same}
use Rattle.ob0_types_check.proofs.ReportedDeclarations.{type_reported}
use Rattle.ob0_types_check.proofs.reporting.ReportingWalk.report_type_declaration.Goals as goal

pub returns : goal.returns
returns c =
    let x = c.args.d.now.name in
    reports_same
    (steps (λ (u : TypeWithFollowingDeclarations). without_fault (define_name_at_token u.following (a_type u.of) x)) c.in_ok-of.ensures (reports_known c.check_written_type.new.self.faults.items c.define_name_at_token.ensures))
    (sym (type_reported (declarations_in_state c.args.self.now.checker_state) x (type_of c.args.d.now.written)))
