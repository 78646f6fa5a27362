use Rattle.ob0_types_check.proofs.Chains.{chain_ends, chain_goes_on}
use Rattle.ob0_types_check.proofs.ReportedDeclarations.{types_chain}
use Rattle.ob0_types_check.proofs.reporting.ReportingWalk.report_type_declarations.Goals as goal

pub loop-d-preserved : goal.loop-d-preserved
loop-d-preserved c = chain_goes_on c.d-item.result types_chain c.loop-d.invariant c.loop-d-test.true c.d-item.is c.in_ok-report_type_declaration.ensures

pub returns : goal.returns
returns c = chain_ends types_chain c.loop-d.invariant c.loop-d-test.false
