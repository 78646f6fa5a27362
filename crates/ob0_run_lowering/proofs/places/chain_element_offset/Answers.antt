use Rattle.std.proofs.Common.{sym, ◌∙◌}
use Rattle.ob0_run_machine.specs.LoweredCodeViews.{first_operand_of}
use Rattle.ob0_run_machine.specs.declared.code.Chain.{out-Chain}
use Rattle.ob0_run_lowering.proofs.KnownOffsets.{chain-unknown, first-alone}
use Rattle.ob0_run_lowering.proofs.places.chain_element_offset.Goals as goal

pub returns-then-count-eq0 : goal.returns-then-count-eq0
returns-then-count-eq0 c =
    c.first_operand_element_offset.ensures
    ∙ sym (first-alone (first_operand_of (out-Chain c.args.chain.now).first) (out-Chain c.args.chain.now).rest.items c.args.length c.args.stride (sym c.count_links-count.ensures ∙ c.if-count-eq0.true))

pub returns : goal.returns
returns c = sym (chain-unknown (first_operand_of (out-Chain c.args.chain.now).first) (out-Chain c.args.chain.now).rest.items c.args.length c.args.stride (λ e. c.if-count-eq0.false (c.count_links-count.ensures ∙ e)))
