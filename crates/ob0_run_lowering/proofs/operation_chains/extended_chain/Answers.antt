use Rattle.std.proofs.Common.{ap, ◌∙◌}
use Rattle.ob0_run_machine.specs.declared.code.Chain.{out-Chain}
use Rattle.ob0_run_machine.specs.LoweredCodeViews.{operation_with_links, chain_of, first_operand_of}
use Rattle.ob0_run_machine.proofs.Chains.{chain_made}
use Rattle.ob0_run_lowering.proofs.Longer.{chained_more}
use Rattle.ob0_run_lowering.proofs.operation_chains.extended_chain.Goals as goal

pub returns : goal.returns
returns c =
    let chain = out-Chain c.args.chain in
    chain_made c.in_ok-new.field-0 ∙ ap chain_of c.in_ok-new.ensures.ok ∙ ap (operation_with_links (first_operand_of chain.first)) c.in_ok-push.ensures.items ∙ chained_more (first_operand_of chain.first) chain.rest.items _
