use Rattle.std.proofs.Common.{◌∙◌, ap, map, rules}
use Rattle.std.proofs.lemmas.Result.{err_from_is_err_and}
use Rattle.std.specs.Prelude.{slice_get}
use Rattle.ob0_run_machine.specs.LoweredCodeViews.{procedure_of}
use Rattle.ob0_run_machine.proofs.Returning.{call_ends, call_fails, call_returns, leaving_steps}
use Rattle.ob0_run_machine.proofs.calls.+call+fn-call-enter.Goals as goal

pub returns-then-calls-eq0 : goal.returns-then-calls-eq0
returns-then-calls-eq0 t c = call_ends c.args.machine.now c.args.program.now c.args.calls c.args.turns c.args.procedure c.args.level.now c.if-calls-eq0.true

pub returns-in_err-run_routine : goal.returns-in_err-run_routine
returns-in_err-run_routine t c = leaving_steps c.from_residual.result c.in_err-run_routine.field-0.0 c.run_routine.new.machine _ (err_from_is_err_and c.from_residual.result c.from_residual.ensures.1)
    (call_fails c.args.machine.now c.run_routine.new.machine c.args.program.now c.args.calls c.args.turns c.args.procedure c.args.level.now _ _ c.if-calls-eq0.false
    (c.procedure_at_index-called.ensures ∙ ap (λ ps. slice_get (map procedure_of ps) c.args.procedure) c.as_slice.ensures.value)
    (λ at k l r after p. search rules) c.in_err-run_routine.field-0.0 c.in_err-run_routine.ensures)

pub returns : goal.returns
returns t c = call_returns c.args.machine.now c.run_routine.new.machine c.args.program.now c.args.calls c.args.turns c.args.procedure c.args.level.now _ _ c.if-calls-eq0.false
    (c.procedure_at_index-called.ensures ∙ ap (λ ps. slice_get (map procedure_of ps) c.args.procedure) c.as_slice.ensures.value)
    (λ at k l r after p. search rules) c.drop_variables.new.machine c.in_ok-run_routine.field-0 tt c.in_ok-run_routine.ensures c.drop_variables.ensures
