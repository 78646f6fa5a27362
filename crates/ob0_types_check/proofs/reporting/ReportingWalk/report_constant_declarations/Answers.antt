use Rattle.ob0_types_check.proofs.Chains.{chain_ends, chain_goes_on}
use Rattle.ob0_types_check.proofs.ReportedDeclarations.{constants_chain}
use Rattle.ob0_types_check.proofs.reporting.ReportingWalk.report_constant_declarations.Goals as goal

pub loop-c-preserved : goal.loop-c-preserved
loop-c-preserved c = chain_goes_on c.c-item.result constants_chain c.loop-c.invariant c.loop-c-test.true c.c-item.is c.in_ok-report_constant_declaration.ensures

pub returns : goal.returns
returns c = chain_ends constants_chain c.loop-c.invariant c.loop-c-test.false
