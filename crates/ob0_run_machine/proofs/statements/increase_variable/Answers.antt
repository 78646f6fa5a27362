use Rattle.std.proofs.Math.Facts.{to_z-of_z}
use Rattle.std.proofs.Common.{Some, ap, ◌∙◌}
use Rattle.ob0_run_machine.specs.Execution.{execute}
use Rattle.ob0_run_machine.specs.Levels.{levels_of}
use Rattle.ob0_run_machine.specs.Machines.{state_of}
use Rattle.ob0_run_machine.specs.LoweredCodeViews.{variable_increase}
use Rattle.ob0_run_machine.proofs.statements.increase_variable.Goals as goal

pub returns : goal.returns
returns c = λ enters t. c.increase_cell.ensures (levels_of c.args.level.now) c.args.variable.now (c.variable_address.ensures c.args.machine.now.cells.items) enters t
    ∙ ap (λ by. Some (execute enters t (levels_of c.args.level.now) (variable_increase c.args.variable.now by) (state_of c.args.machine.now))) (to_z-of_z c.ranges.by)
