-- A well-typed module remains well-typed and has the same runs after a declaration is renamed to a
-- free name.
use Rattle.ob0_language_types.proofs.RenamedTypes.{renaming_to_free_name_keeps_well_typed-holds}
use Rattle.ob0_language_runs.specs.EditLaws.{RenamingToFreeNameKeepsTypingAndRuns}
use Rattle.ob0_language_runs.proofs.Proved.{renaming_to_free_name_keeps_runs-holds}

pub renaming_to_free_name_keeps_typing_and_runs-holds : RenamingToFreeNameKeepsTypingAndRuns
renaming_to_free_name_keeps_typing_and_runs-holds m d new free well = (renaming_to_free_name_keeps_well_typed-holds m d new free well, renaming_to_free_name_keeps_runs-holds m d new free)
