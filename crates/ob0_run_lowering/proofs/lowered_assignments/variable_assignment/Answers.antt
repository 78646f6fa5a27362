use Rattle.std.proofs.Common.{sym, ap, ◌∙◌}
use Rattle.ob0_run_machine.specs.LoweredSyntax.{stores_number}
use Rattle.ob0_run_machine.specs.LoweredCodeViews.{number_of, variable_of}
use Rattle.ob0_run_machine.proofs.Chains.{chain_made}
use Rattle.ob0_run_lowering.proofs.lowered_assignments.variable_assignment.Goals as goal

pub returns-in-Chain : goal.returns-in-Chain
returns-in-Chain c = ap (stores_number (variable_of c.args.variable)) (sym (chain_made c.in-Chain.chain) ∙ ap number_of (sym c.in-Chain.is))
