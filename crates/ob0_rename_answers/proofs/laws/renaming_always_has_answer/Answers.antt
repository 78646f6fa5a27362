use Rattle.ob0_rename_answers.proofs.RenameAnswers.{renaming_always_has_answer}
use Rattle.ob0_rename_answers.proofs.laws.renaming_always_has_answer.Goals as goal

pub returns : goal.returns
returns c =
    renaming_always_has_answer c.renaming_to_free_name_keeps_typing_and_runs.ensures c.renaming_field_to_free_name_keeps_typing_and_runs.ensures c.renaming_changes_field_tokens.ensures c.duplicate_field_name_has_declaring_token.ensures c.renamed_tree_spells_renamed_words.ensures
    c.identifier_may_replace_identifier.ensures
