use Rattle.ob0_edits_tokens.proofs.Names.{a_name}
use Rattle.ob0_edits_tokens.proofs.laws.identifier_may_replace_identifier.Goals as goal

pub returns : goal.returns
returns c = a_name
