use Rattle.std.proofs.Common.{refl}
use Rattle.std.proofs.lemmas.Result.{err_from_is_err_and}
use Rattle.ob0_run_machine.specs.Levels.{levels_of}
use Rattle.ob0_run_machine.proofs.Executing.{call_enters, call_fails, entered_as, leaving}
use Rattle.ob0_run_machine.proofs.statements.run_call.Goals as goal

pub returns-in_err-pass_arguments : goal.returns-in_err-pass_arguments
returns-in_err-pass_arguments g c = λ t. leaving (err_from_is_err_and c.from_residual.result c.from_residual.ensures.1)
    (call_fails _ c.in_err-pass_arguments.field-0.0 t (levels_of c.args.level.now) c.args.c.now _ _ c.new-addresses.ensures c.as_slice.ensures.value c.in_err-pass_arguments.ensures refl refl)

pub returns : goal.returns
returns g c = λ t. call_enters _ _ t (levels_of c.args.level.now) _ c.args.c.now _ _ c.new-addresses.ensures c.as_slice.ensures.value c.in_ok-pass_arguments.ensures
    (entered_as c.cell_count-base.ensures c.as_slice-2.ensures refl) (c.enter_procedure.ensures (levels_of c.args.level.now) c.enclosing_level-enclosing.ensures).has_effect
