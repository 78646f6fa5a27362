use Rattle.std.proofs.Common.{rules}
use Rattle.ob0_run_machine.proofs.Executing.{level_made}
use Rattle.ob0_run_machine.proofs.Returning.{block_runs}
use Rattle.ob0_run_machine.proofs.program_runs.execute.Goals as goal

pub returns : goal.returns
returns c = block_runs c.args.machine.now c.run_sequence.new.machine c.args.program.now c.args.calls c.args.turns c.run_sequence.result _ _ _ (λ at k l r after p. search rules) (level_made _) c.deref.ensures.value c.run_sequence.ensures
