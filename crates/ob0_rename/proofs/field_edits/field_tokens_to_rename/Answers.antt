use Rattle.ob0_rename.proofs.Named.{all_names}
use Rattle.ob0_rename.proofs.field_edits.field_tokens_to_rename.Goals as goal

pub returns-clause-names : goal.returns-clause-names
returns-clause-names c = all_names c.args.well_typed.now.module_read.source.tokens c.field_tokens_in_module.result c.field_tokens_in_module.ensures.ascend c.field_tokens_in_module.ensures.are_identifiers
