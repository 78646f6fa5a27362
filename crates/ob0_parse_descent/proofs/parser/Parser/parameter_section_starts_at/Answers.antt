use Rattle.ob0_parse_descent.proofs.DeclarationParts.{name_is_section, word_is_section}
use Rattle.ob0_parse_descent.proofs.parser.Parser.parameter_section_starts_at.Goals as goal

pub returns-then-has_identifier_at : goal.returns-then-has_identifier_at
returns-then-has_identifier_at c = name_is_section _ _ c.if-has_identifier_at.ensures

pub returns : goal.returns
returns c = word_is_section c.has_reserved_word_at.result c.if-has_identifier_at.ensures c.has_reserved_word_at.ensures
