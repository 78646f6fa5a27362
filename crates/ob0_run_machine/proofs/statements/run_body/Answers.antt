use Rattle.std.proofs.lemmas.Result.{err_from_is_err_and}
use Rattle.ob0_run_machine.specs.Levels.{levels_of}
use Rattle.ob0_run_machine.proofs.Executing.{does_chosen, ending_by}
use Rattle.ob0_run_machine.proofs.statements.run_body.Goals as goal

pub returns-in_err-chosen : goal.returns-in_err-chosen
returns-in_err-chosen g c = ending_by c.in_err-chosen.field-0.0 (err_from_is_err_and c.from_residual.result c.from_residual.ensures.1) (λ enters p. c.in_err-chosen.ensures enters c.args.turns)

pub returns : goal.returns
returns g c = does_chosen c.args.turns (levels_of c.args.level.now) c.args.statements.now c.in_ok-chosen.chosen.now c.in_ok-chosen.ensures c.run_sequence_inline.ensures
