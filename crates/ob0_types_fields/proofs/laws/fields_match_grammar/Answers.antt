use Rattle.ob0_types_fields.proofs.FieldsMatchGrammar.{fields_match_grammar-holds}
use Rattle.ob0_types_fields.proofs.laws.fields_match_grammar.Goals as goal

pub returns : goal.returns
returns c = fields_match_grammar-holds
