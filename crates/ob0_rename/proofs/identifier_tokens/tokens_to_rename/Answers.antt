use Rattle.ob0_rename.proofs.Named.{all_names}
use Rattle.ob0_rename.proofs.identifier_tokens.tokens_to_rename.Goals as goal

pub returns-clause-names : goal.returns-clause-names
returns-clause-names c = all_names c.args.names.now.module_read.source.tokens c.tokens_changed_by_rename.result c.tokens_changed_by_rename.ensures.ascend c.tokens_changed_by_rename.ensures.are_identifiers
