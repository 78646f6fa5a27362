use Rattle.std.proofs.lemmas.Result.{err_from_is_err_and}
use Rattle.ob0_tree.specs.View.{names_of, type_of}
use Rattle.ob0_parse_descent.proofs.DeclarationParts.{taken_value_section, taken_variable_section, value_section_fails, variable_section_fails}
use Rattle.ob0_parse_descent.proofs.parser.Parser.parse_parameter_section.Goals as goal

pub returns-in_err-names : goal.returns-in_err-names
returns-in_err-names c =
    let p = err_from_is_err_and c.from_residual.result c.from_residual.ensures.1 in
    rw (p.1, p.2) (variable_section_fails c.if-has_reserved_word_at.ensures.0 c.in_err-names.ensures)

pub returns-then-has_reserved_word_at : goal.returns-then-has_reserved_word_at
returns-then-has_reserved_word_at c =
    taken_variable_section (names_of c.in_ok-names.names) (type_of c.in_ok-names.written) c.if-has_reserved_word_at.ensures.0 c.in_ok-names.ensures

pub returns-in_err-names-2 : goal.returns-in_err-names-2
returns-in_err-names-2 c =
    let p = err_from_is_err_and c.from_residual-in_err-names-2.result c.from_residual-in_err-names-2.ensures.1 in
    rw (p.1, p.2) (value_section_fails c.if-has_reserved_word_at.ensures c.in_err-names-2.ensures)

pub returns : goal.returns
returns c =
    taken_value_section (names_of c.in_ok-names-2.names) (type_of c.in_ok-names-2.written) c.in_ok-names-2.ensures
