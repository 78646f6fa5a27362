use Rattle.ob0_types_check.proofs.Chains.{chain_ends, chain_goes_on}
use Rattle.ob0_types_check.proofs.ReportedDeclarations.{sections_chain}
use Rattle.ob0_types_check.proofs.reporting.ReportingWalk.report_parameter_sections.Goals as goal

pub loop-s-preserved : goal.loop-s-preserved
loop-s-preserved c = chain_goes_on c.s-item.result sections_chain c.loop-s.invariant c.loop-s-test.true c.s-item.is c.in_ok-report_parameter_section.ensures

pub returns : goal.returns
returns c = chain_ends sections_chain c.loop-s.invariant c.loop-s-test.false
