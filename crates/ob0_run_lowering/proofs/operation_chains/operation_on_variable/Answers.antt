use Rattle.std.proofs.Common.{◌≡◌, IfOk, ap, sym, subst, ◌∙◌}
use Rattle.ob0_run_machine.specs.LoweredSyntax as machine
use Rattle.ob0_run_machine.specs.LoweredCodeViews.{chain_of, number_of, operator_of, variable_of}
use Rattle.ob0_run_machine.proofs.Chains.{chain_made}
use Rattle.ob0_run_lowering.proofs.operation_chains.operation_on_variable.Goals as goal

pub returns-in-Chain : goal.returns-in-Chain
returns-in-Chain c =
    let right : chain_of c.into_inner.result ≡ number_of c.args.right = ap chain_of c.into_inner.ensures ∙ sym (chain_made c.in-Chain.chain) ∙ sym (ap number_of c.in-Chain.is) in
    subst (λ z. IfOk c.extended_chain.result (λ n. number_of n ≡ z))
    (c.in-Some.ensures (chain_of c.into_inner.result) ∙ ap (machine.operation (operator_of c.args.operator) (machine.cell (variable_of c.args.variable))) right) c.extended_chain.ensures
