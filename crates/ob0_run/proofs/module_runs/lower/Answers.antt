use Rattle.std.proofs.Common.{◌≡◌, ℕ, subst}
use Rattle.std.proofs.lemmas.Result.{IfOk-weaker}
use Rattle.ob0_tree.specs.ParsedModule.{named_tree_of}
use Rattle.ob0_tree.specs.Tree.{Tree, module_text}
use Rattle.ob0_language_names.specs.Names.{Name, naming_by_label}
use Rattle.ob0_language_names.specs.Scopes.{numbered}
use Rattle.ob0_scope_table.specs.Resolution.{Resolution}
use Rattle.ob0_types_table.specs.DeclarationTables.{declared_object_in}
use Rattle.ob0_language_types.specs.Bindings.{declared_object}
use Rattle.ob0_language_types.specs.WellTyped.{WellTyped}
use Rattle.ob0_run_machine.specs.LoweredCodeViews.{program_of}
use Rattle.ob0_run_cells.specs.Activations.{ProgramMeansModule}
use Rattle.ob0_run_lowering.specs.declared.programs.Program.{Program}
use Rattle.ob0_run.specs.Programs.{ProgramRunsAsModule}
use Rattle.ob0_run.proofs.module_runs.lower.Goals as goal

pub returns : goal.returns
returns c =
    let m : Tree Name module_text = named_tree_of c.args.checked.now.module_read in
    let well : WellTyped m = c.resolved.ensures.well_typed.well_typed in
    let Means : Resolution → Program → Type 0 =
    λ z made. WellTyped (named_tree_of z.module_read) → ((k : ℕ) → declared_object_in c.declarations.result.now k ≡ declared_object (named_tree_of z.module_read) k) → ProgramMeansModule naming_by_label (numbered (named_tree_of z.module_read)) (program_of made.code) in
    let of_module : (made : Program) → Means c.resolved.result.now made → ProgramMeansModule naming_by_label (numbered m) (program_of made.code) =
    λ made means. subst (λ (z : Resolution). Means z made) c.resolved.ensures.value means well c.declarations.ensures in
    record {
      runs = IfOk-weaker c.lower.result (Means c.resolved.result.now) (ProgramRunsAsModule m)
          (λ made means input calls turns. c.lowering_keeps_runs.ensures m (program_of made.code) calls turns input well (of_module made means)) c.lower.ensures;
      means = IfOk-weaker c.lower.result (Means c.resolved.result.now) (λ made. ProgramMeansModule naming_by_label (numbered m) (program_of made.code)) of_module c.lower.ensures;
    }
