-- States the law that a lowered program has the same output as its module, and ends in the same way
-- (`LoweringKeepsRuns`).
-- Rule: none; the law is used by `ob0_run`.
use Rattle.std.specs.Prelude.{◌≡◌, ℕ, IfSome, List, map, ℤ}
use Rattle.ob0_tree.specs.Tree.{Tree, module_text}
use Rattle.ob0_language_names.specs.Names.{Name, naming_by_label}
use Rattle.ob0_language_names.specs.Scopes.{numbered}
use Rattle.ob0_language_types.specs.WellTyped.{WellTyped}
use Rattle.ob0_language_runs.specs.Runs.{Run, run}
use Rattle.ob0_run_machine.specs.Execution as execution
use Rattle.ob0_run_machine.specs.LoweredSyntax as lowered
use Rattle.ob0_run_cells.specs.Activations.{ProgramMeansModule}
use Rattle.ob0_run_cells.specs.LoweredStatements.{printed_item_of}
use Rattle.ob0_run_cells.specs.LoweredExpressions.{end_of}

-- converts a run of the machine to a run of a module, with the same output and the same end
abbrev pub run_of : execution.MachineRun → Run
run_of r = record { output = map printed_item_of r.output; ending = end_of r.ending }

-- States that a program that is correct code for a well-typed module (`ProgramMeansModule`) has the
-- module's run. This holds for each input and for all bounds `c` on open calls and `t` on
-- iterations. Claims nothing if the number of cells doesn't fit in 64 bits.
abbrev pub LoweringKeepsRuns : Type 0
LoweringKeepsRuns =
    (m : Tree Name module_text) (program : lowered.LoweredCode) (c t : ℕ) (input : List ℤ)
    → WellTyped m
    → ProgramMeansModule naming_by_label (numbered m) program
    → IfSome (execution.run program input c t) (λ r. run_of r ≡ run m input c t)
