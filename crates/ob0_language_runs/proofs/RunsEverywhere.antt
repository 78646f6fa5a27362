-- A well-typed module remains well-typed and has the same runs after a constant is inlined
-- everywhere.
use Rattle.std.proofs.Common.{ap, sym, ◌∙◌}
use Rattle.ob0_language_names.specs.Inlining.{occurrences_bound_to_ordinal}
use Rattle.ob0_language_names.specs.Names.{naming_by_spelling}
use Rattle.ob0_language_names.proofs.EverywhereTrees.{everywhere, gone-module}
use Rattle.ob0_language_types.proofs.InlinedEverywhere.{everywhere-fitted, inlining_everywhere_keeps_well_typed-holds}
use Rattle.ob0_language_runs.specs.EditLaws.{InliningEverywhereKeepsTypingAndRuns}
use Rattle.ob0_language_runs.specs.Runs.{run, run_with_naming}
use Rattle.ob0_language_runs.proofs.EditedRuns.{run-edited}

pub inlining_everywhere_keeps_typing_and_runs-holds : InliningEverywhereKeepsTypingAndRuns
unfolding run
inlining_everywhere_keeps_typing_and_runs-holds m d w v c seen well = (
  inlining_everywhere_keeps_well_typed-holds m d w v c seen well,
  λ input c' t. ap (λ a. run_with_naming naming_by_spelling a input c' t) (sym (gone-module (occurrences_bound_to_ordinal m d) v d m)) ∙ run-edited (everywhere (occurrences_bound_to_ordinal m d) v d) w m (everywhere-fitted m d w v c seen well) input c' t,
)
