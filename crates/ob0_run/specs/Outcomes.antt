-- Converts the results of the machine to the output, the end and the run of a module.
-- Rule: none; used in contracts to give values of the code a meaning.
use Rattle.std.specs.Prelude.{List, map}
use Rattle.ob0_language_runs.specs.Runs.{Run, PrintedItem}
use Rattle.ob0_language_values.specs.Values as values
use Rattle.ob0_run_machine.specs.Machines as machine
use Rattle.ob0_run_machine.specs.Outcomes as outcomes
use Rattle.ob0_run_machine.specs.declared.machine.Item.{Item}
use Rattle.ob0_run_machine.specs.declared.program_runs.End.{End}
use Rattle.ob0_run_machine.specs.declared.program_runs.Outcome.{Outcome}
use Rattle.ob0_run_cells.specs.LoweringLaws as cells
use Rattle.ob0_run_cells.specs.LoweredStatements.{printed_item_of}
use Rattle.ob0_run_cells.specs.LoweredExpressions.{end_of}

-- converts an item that the machine returns to an item of a module's output
abbrev pub item_of : Item → PrintedItem
item_of i = printed_item_of (machine.item_of i)

-- converts the items that the machine returns to the output of a module
abbrev pub output_items : List Item → List PrintedItem
output_items is = map printed_item_of (machine.output_items is)

-- converts an end that the machine returns to an end of a module's run
abbrev pub meaning_of_end : End → values.End
meaning_of_end e = end_of (outcomes.meaning_of_end e)

-- converts an outcome that the machine returns to a run of a module
abbrev pub run_of : Outcome → Run
run_of o = cells.run_of (outcomes.run_of o)
