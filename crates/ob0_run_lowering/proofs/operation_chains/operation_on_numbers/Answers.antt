use Rattle.std.proofs.Common.{◌≡◌, IfOk, ap, sym, subst, ◌∙◌}
use Rattle.ob0_run_machine.specs.LoweredSyntax as machine
use Rattle.ob0_run_machine.specs.LoweredCodeViews.{chain_of, number_of, operator_of}
use Rattle.ob0_run_machine.proofs.Chains.{chain_made}
use Rattle.ob0_run_lowering.proofs.operation_chains.operation_on_numbers.Goals as goal

pub returns-in-Chain : goal.returns-in-Chain
returns-in-Chain c =
    let left : chain_of c.into_inner.result ≡ number_of c.args.left = ap chain_of c.into_inner.ensures ∙ sym (chain_made c.in-Chain.chain) ∙ sym (ap number_of c.in-Chain.is) in
    subst (λ z. IfOk c.extended_chain.result (λ n. number_of n ≡ z))
    (c.link_with_right_operand.ensures (chain_of c.into_inner.result) ∙ ap (λ z. machine.operation (operator_of c.args.operator) z (number_of c.args.right)) left) c.extended_chain.ensures
