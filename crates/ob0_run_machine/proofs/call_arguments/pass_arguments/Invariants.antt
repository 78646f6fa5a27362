use Rattle.std.proofs.Common.{map}
use Rattle.ob0_run_machine.specs.Execution.{pass_arguments}
use Rattle.ob0_run_machine.specs.Levels.{address_list_of, levels_of}
use Rattle.ob0_run_machine.specs.Machines.{passed_arguments}
use Rattle.ob0_run_machine.specs.LoweredCodeViews.{argument_of}
use Rattle.ob0_run_machine.proofs.InOrder.{Passing}
use Rattle.ob0_run_machine.proofs.call_arguments.pass_arguments.Given as goal

abbrev pub invariant-loop-argument : goal.invariant-loop-argument
invariant-loop-argument l = Passing (levels_of l.level) l.base l.fn.cells.items (pass_arguments (levels_of l.level) l.fn.cells.items (map argument_of l.arguments) (passed_arguments l.fn.cells.items (address_list_of l.fn.addresses))) l.arguments l.argument-index (passed_arguments l.cells.items (address_list_of l.addresses))
