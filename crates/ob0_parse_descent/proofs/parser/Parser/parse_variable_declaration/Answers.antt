use Rattle.std.proofs.Common.{arith}
use Rattle.std.proofs.lemmas.Result.{err_from_is_err_and}
use Rattle.ob0_tree.specs.View.{names_of, type_of}
use Rattle.ob0_parse_descent.proofs.Refusals.{fails_pass}
use Rattle.ob0_parse_descent.proofs.Leads.{no_named_item, fails_in_token}
use Rattle.ob0_parse_descent.proofs.DeclarationParts.{taken_variable, variable_fails_typed, variable_fails}
use Rattle.ob0_tree.specs.Tree.{some_fields}
use Rattle.ob0_parse_descent.proofs.parser.Parser.parse_variable_declaration.Goals as goal

pub returns-in_err-names : goal.returns-in_err-names
returns-in_err-names c =
    let p = err_from_is_err_and c.from_residual.result c.from_residual.ensures.1 in
    rw (p.1, p.2) (variable_fails_typed c.if-not-has_identifier_at.ensures.0 c.in_err-names.ensures)

pub returns-in_err-end : goal.returns-in_err-end
returns-in_err-end c =
    let p = err_from_is_err_and c.from_residual-in_err-end.result c.from_residual-in_err-end.ensures.1 in
    rw (p.1, p.2) (variable_fails c.if-not-has_identifier_at.ensures.0 (fails_pass (some_fields (names_of c.in_ok-names.names) (type_of c.in_ok-names.written)) c.in_ok-names.ensures (fails_in_token c.in_err-end.ensures)))

pub returns : goal.returns
returns c =
    (taken_variable (names_of c.in_ok-names.names) (type_of c.in_ok-names.written) c.in_ok-names.ensures c.in_ok-end.ensures, omega (arith, c.in_ok-names.ensures.forward, c.in_ok-end.ensures.2))

pub returns-then-not-has_identifier_at : goal.returns-then-not-has_identifier_at
returns-then-not-has_identifier_at c =
    no_named_item c.if-not-has_identifier_at.ensures
