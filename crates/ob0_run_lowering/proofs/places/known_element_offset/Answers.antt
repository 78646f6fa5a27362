use Rattle.std.proofs.Common.{sym, ap, ◌∙◌}
use Rattle.ob0_run_machine.specs.LoweredCodeViews.{chain_of, first_operand_of, number_of}
use Rattle.ob0_run_machine.specs.declared.code.Operation.{out-Operation}
use Rattle.ob0_run_machine.proofs.Chains.{chain_made}
use Rattle.ob0_run_lowering.specs.OperationCodes.{known_element_offset}
use Rattle.ob0_run_lowering.proofs.KnownOffsets.{operation_with_link-unknown}
use Rattle.ob0_run_lowering.proofs.places.known_element_offset.Goals as goal

pub returns-in-Operation : goal.returns-in-Operation
returns-in-Operation c =
    let o = out-Operation c.in-Operation._operation.value in
    sym (ap (λ n. known_element_offset (number_of n) c.args.length c.args.stride) c.in-Operation.is ∙ operation_with_link-unknown o.link (first_operand_of o.first) c.args.length c.args.stride)

pub returns-in-Chain : goal.returns-in-Chain
returns-in-Chain c =
    c.chain_element_offset.ensures ∙ ap (λ n. known_element_offset n c.args.length c.args.stride) (ap chain_of c.deref.ensures ∙ sym (chain_made c.in-Chain.chain) ∙ ap number_of (sym c.in-Chain.is))
