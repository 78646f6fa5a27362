use Rattle.ob0_types_check.proofs.Chains.{chain_ends, chain_goes_on}
use Rattle.ob0_types_check.proofs.ReportedDeclarations.{variables_chain}
use Rattle.ob0_types_check.proofs.reporting.ReportingWalk.report_variable_declarations.Goals as goal

pub loop-v-preserved : goal.loop-v-preserved
loop-v-preserved c = chain_goes_on c.v-item.result variables_chain c.loop-v.invariant c.loop-v-test.true c.v-item.is c.in_ok-report_variable_group.ensures

pub returns : goal.returns
returns c = chain_ends variables_chain c.loop-v.invariant c.loop-v-test.false
