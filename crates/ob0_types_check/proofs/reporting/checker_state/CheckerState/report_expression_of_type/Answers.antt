use Rattle.std.proofs.Common.{◌++◌, false, sym, ap, ◌∙◌}
use Rattle.ob0_tree.specs.View.{expression_of}
use Rattle.ob0_types_check.specs.OperandFaults.{require_type}
use Rattle.ob0_types_check.specs.CheckerViews.{facts_in}
use Rattle.ob0_types_check.proofs.Chains.{steps}
use Rattle.ob0_types_check.proofs.ReportedStatements.{requested_reported}
use Rattle.ob0_types_check.proofs.reporting.checker_state.CheckerState.report_expression_of_type.Goals as goal

pub returns : goal.returns
returns c =
    let facts = facts_in c.args.self.now false in
    (steps (require_type facts c.args.wanted) c.in_ok-operand.ensures c.in_ok-require_type.ensures).reported
    ∙ sym (ap (λ g. c.args.faults.now.items ++ g) (requested_reported facts c.args.wanted (expression_of c.args.e.now)))
