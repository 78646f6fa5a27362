use Rattle.std.proofs.Common.{◌∙◌, ◌++◌, refl, sym, ap}
use Rattle.ob0_run_machine.specs.Execution.{zeros}
use Rattle.ob0_run_machine.specs.LoweredCodeViews.{program_of}
use Rattle.ob0_run_machine.proofs.Returning.{begins_with, ended_by, finishes}
use Rattle.ob0_run_machine.proofs.program_runs.run.Goals as goal

pub returns : goal.returns
returns c =
    let begun = begins_with c.push_zeros.new.cells.items c.new-cells.result.items _ c.args.input.now c.new.result.items c.in_ok-push_zeros.ensures.items c.new-cells.ensures.items c.new.ensures.items in
    finishes (program_of c.args.program.now) c.args.input.now c.args.calls c.args.turns _ _ c.push_zeros.new.cells.items
    (c.in_ok-push_zeros.ensures.items ∙ ap (λ xs. xs ++ zeros c.args.program.now.cells) c.new-cells.ensures.items) c.in_ok-push_zeros.ensures.room begun refl
    ∙ sym (ended_by c.execute.new.machine _ c.execute.result c.end_of.result c.in_ok-end.end c.in_ok-end.was c.end_of.ensures c.execute.ensures)
