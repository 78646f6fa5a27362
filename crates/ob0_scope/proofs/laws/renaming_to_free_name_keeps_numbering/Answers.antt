use Rattle.ob0_language_names.proofs.Renaming.{renaming_to_free_name_keeps_numbering-holds}
use Rattle.ob0_scope.proofs.laws.renaming_to_free_name_keeps_numbering.Goals as goal

pub returns : goal.returns
returns c = renaming_to_free_name_keeps_numbering-holds
