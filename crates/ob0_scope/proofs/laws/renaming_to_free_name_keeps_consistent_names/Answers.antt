use Rattle.ob0_language_names.proofs.RenamedDeclarations.{renaming_to_free_name_keeps_consistent_names-holds}
use Rattle.ob0_scope.proofs.laws.renaming_to_free_name_keeps_consistent_names.Goals as goal

pub returns : goal.returns
returns c = renaming_to_free_name_keeps_consistent_names-holds
