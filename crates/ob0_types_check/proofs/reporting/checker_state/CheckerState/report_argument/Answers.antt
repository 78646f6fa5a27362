use Rattle.std.proofs.Common.{◌++◌, false, sym, ap, ◌∙◌}
use Rattle.ob0_tree.specs.View.{expression_of}
use Rattle.ob0_types_check.specs.CheckerViews.{facts_in, known_parameter_of}
use Rattle.ob0_types_check.specs.StatementFaults.{require_type_of_argument}
use Rattle.ob0_types_check.proofs.Chains.{steps}
use Rattle.ob0_types_check.proofs.ReportedStatements.{argument_reported}
use Rattle.ob0_types_check.proofs.reporting.checker_state.CheckerState.report_argument.Goals as goal

pub returns : goal.returns
returns c =
    let facts = facts_in c.args.self.now false in
    let f = known_parameter_of c.args.formal.now in
    (steps (require_type_of_argument facts f) c.in_ok-operand.ensures c.in_ok-check_argument_operand.ensures).reported
    ∙ sym (ap (λ g. c.args.faults.now.items ++ g) (argument_reported facts f (expression_of c.args.e.now)))
