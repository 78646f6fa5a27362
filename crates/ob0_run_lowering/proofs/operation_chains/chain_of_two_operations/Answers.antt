use Rattle.std.proofs.Common.{[], ◌∷◌, ◌++◌, ap, ◌∙◌}
use Rattle.ob0_run_machine.specs.declared.code.Operation.{out-Operation}
use Rattle.ob0_run_machine.specs.LoweredCodeViews.{operation_with_links, chain_of, first_operand_of}
use Rattle.ob0_run_machine.proofs.Chains.{chain_made}
use Rattle.ob0_run_lowering.proofs.operation_chains.chain_of_two_operations.Goals as goal

pub returns : goal.returns
returns c =
    let operation = out-Operation c.args.operation in
    chain_made c.in_ok-new.field-0 ∙ ap chain_of c.in_ok-new.ensures.ok ∙ ap (operation_with_links (first_operand_of operation.first))
    (c.in_ok-push-2.ensures.items ∙ ap (λ xs. xs ++ c.args.next ∷ []) (c.in_ok-push.ensures.items ∙ ap (λ xs. xs ++ operation.link ∷ []) c.new-rest.ensures.items))
