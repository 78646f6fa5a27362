-- A well-typed module remains well-typed if a declaration is renamed to a free name.
use Rattle.std.proofs.Common.{}
use Rattle.ob0_language_names.specs.Scopes.{renamed}
use Rattle.ob0_language_names.proofs.RenamedDeclarations.{renaming_to_free_name_keeps_consistent_names-holds}
use Rattle.ob0_language_names.proofs.Renaming.{renaming_to_free_name_keeps_numbering-holds}
use Rattle.ob0_language_types.specs.EditLaws.{RenamingToFreeNameKeepsWellTyped}
use Rattle.ob0_language_types.specs.WellTyped.{WellTyped}
use Rattle.ob0_language_types.proofs.Proved.{numbered_tree_decides_typing-holds}

pub renaming_to_free_name_keeps_well_typed-holds : RenamingToFreeNameKeepsWellTyped
unfolding WellTyped
renaming_to_free_name_keeps_well_typed-holds m d new free well =
    (numbered_tree_decides_typing-holds (renamed m d new) m (renaming_to_free_name_keeps_numbering-holds m d new free) (renaming_to_free_name_keeps_consistent_names-holds m d new free well.0) well.0).1 well
