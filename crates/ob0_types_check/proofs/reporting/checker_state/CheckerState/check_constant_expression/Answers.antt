use Rattle.std.proofs.Common.{true, sym}
use Rattle.std.proofs.lemmas.Result.{IfOk-weaker}
use Rattle.ob0_tree.specs.View.{expression_of}
use Rattle.ob0_types_check.specs.CheckerViews.{facts_in}
use Rattle.ob0_types_check.specs.TypeFaults.{require_constant_value}
use Rattle.ob0_types_check.proofs.Chains.{steps, reports_same}
use Rattle.ob0_types_check.proofs.ReportedParts.{constant_reported}
use Rattle.ob0_types_check.proofs.reporting.checker_state.CheckerState.check_constant_expression.Goals as goal

pub returns : goal.returns
returns c =
    let facts = facts_in c.args.self.now true in
    IfOk-weaker c.require_constant_value.result _ _ (λ v h. reports_same (steps (require_constant_value facts) c.in_ok-constant_operand.ensures h) (sym (constant_reported facts (expression_of c.args.e.now)))) c.require_constant_value.ensures
