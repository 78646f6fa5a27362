use Rattle.std.proofs.Common.{ap}
use Rattle.std.specs.Prelude.{option_map}
use Rattle.ob0_run_machine.specs.Levels.{levels_of}
use Rattle.ob0_run_machine.specs.Machines.{output_items}
use Rattle.ob0_run_machine.specs.LoweredCodeViews.{procedure_of}
use Rattle.ob0_run_machine.proofs.Executing.{does_sequence}
use Rattle.ob0_run_machine.proofs.Returning.{activates, activates_none}
use Rattle.ob0_run_machine.proofs.calls.run_routine.Goals as goal

pub returns-in-None : goal.returns-in-None
returns-in-None g c = activates_none tt c.args.turns (levels_of c.args.level.now) (ap (option_map (λ p. procedure_of p.now)) c.in-None.is)

pub returns-in_ok-push_zeros-in-Some : goal.returns-in_ok-push_zeros-in-Some
returns-in_ok-push_zeros-in-Some g c = activates c.args.turns (levels_of c.args.level.now) (procedure_of c.in-Some.procedure.now) (ap (option_map (λ p. procedure_of p.now)) c.in-Some.is)
    c.in_ok-push_zeros-in-Some.ensures.items c.in_ok-push_zeros-in-Some.ensures.room
    (ap (λ cells. record { cells = cells; input = c.args.machine.now.input.now; output = output_items c.args.machine.now.output.items }) c.in_ok-push_zeros-in-Some.ensures.items)
    (does_sequence c.args.turns (levels_of c.args.level.now) c.deref.ensures.value c.run_body.ensures)
