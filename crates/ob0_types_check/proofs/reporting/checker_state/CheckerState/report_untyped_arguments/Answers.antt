use Rattle.std.proofs.Common.{false}
use Rattle.ob0_types_check.specs.CheckerViews.{facts_in}
use Rattle.ob0_types_check.proofs.Listed.{each_ends, each_goes_on}
use Rattle.ob0_types_check.proofs.ReportedStatements.{parts_each}
use Rattle.ob0_types_check.proofs.reporting.checker_state.CheckerState.report_untyped_arguments.Goals as goal

pub loop-e-preserved : goal.loop-e-preserved
loop-e-preserved c =
    each_goes_on c.e-item.result (parts_each (facts_in c.args.self.now false)) c.loop-e.invariant c.loop-e-test.true c.e-item.is c.in_ok-check_expression.ensures.reported

pub returns : goal.returns
returns c = each_ends (parts_each (facts_in c.args.self.now false)) c.loop-e.invariant c.loop-e-test.false
