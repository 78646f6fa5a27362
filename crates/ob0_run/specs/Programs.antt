-- States that a lowered program has the run of its module.
-- Rule: none; used in contracts of `ob0_run` and of its callers.
use Rattle.std.specs.Prelude.{◌≡◌, ℕ, IfSome, List, ℤ}
use Rattle.ob0_tree.specs.Tree.{Tree, module_text}
use Rattle.ob0_language_names.specs.Names.{Name}
use Rattle.ob0_language_runs.specs.Runs.{run}
use Rattle.ob0_run_machine.specs.Execution as machine
use Rattle.ob0_run_machine.specs.LoweredCodeViews.{program_of}
use Rattle.ob0_run_cells.specs.LoweringLaws.{run_of}
use Rattle.ob0_run_lowering.specs.declared.programs.Program.{Program}

-- States that a program has the module's run, for each input and for all bounds. `c` bounds the
-- open calls, and `t` the iterations of a loop. Claims nothing about a run whose number of cells
-- doesn't fit in 64 bits.
abbrev pub ProgramRunsAsModule : Tree Name module_text → Program → Type 0
ProgramRunsAsModule m p =
    (input : List ℤ) (c t : ℕ)
    → IfSome (machine.run (program_of p.code) input c t) (λ r. run_of r ≡ run m input c t)
