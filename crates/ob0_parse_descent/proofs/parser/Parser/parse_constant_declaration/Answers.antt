use Rattle.std.proofs.Common.{arith, refl}
use Rattle.std.proofs.lemmas.Result.{err_from_is_err_and}
use Rattle.ob0_tree.specs.View.{expression_of}
use Rattle.ob0_parse_descent.proofs.Refusals.{fails_in, fails_pass, fails_pass_token, fails_pass_name}
use Rattle.ob0_parse_descent.proofs.Leads.{no_named_item, fails_in_token}
use Rattle.ob0_parse_descent.proofs.DeclarationParts.{taken_constant, constant_fails}
use Rattle.ob0_parse_descent.proofs.parser.Parser.parse_constant_declaration.Goals as goal

pub returns-in_err-start : goal.returns-in_err-start
returns-in_err-start c =
    let p = err_from_is_err_and c.from_residual.result c.from_residual.ensures.1 in
    rw (p.1, p.2) (constant_fails c.if-not-has_identifier_at.ensures.0 (fails_pass_name c.if-not-has_identifier_at.ensures.0 refl (fails_in_token c.in_err-start.ensures)))

pub returns-in_err-value : goal.returns-in_err-value
returns-in_err-value c =
    let p = err_from_is_err_and c.from_residual-in_err-value.result c.from_residual-in_err-value.ensures.1 in
    rw (p.1, p.2) (constant_fails c.if-not-has_identifier_at.ensures.0 (fails_pass_name c.if-not-has_identifier_at.ensures.0 refl (fails_pass_token c.in_ok-start.ensures.0 c.in_ok-start.ensures.2 (fails_in c.in_err-value.ensures))))

pub returns-in_err-end : goal.returns-in_err-end
returns-in_err-end c =
    let p = err_from_is_err_and c.from_residual-in_err-end.result c.from_residual-in_err-end.ensures.1 in
    rw (p.1, p.2) (constant_fails c.if-not-has_identifier_at.ensures.0 (fails_pass_name c.if-not-has_identifier_at.ensures.0 refl (fails_pass_token c.in_ok-start.ensures.0 c.in_ok-start.ensures.2 (fails_pass (expression_of c.in_ok-value.value) c.in_ok-value.ensures (fails_in_token c.in_err-end.ensures)))))

pub returns : goal.returns
returns c =
    (taken_constant (expression_of c.in_ok-value.value) c.if-not-has_identifier_at.ensures.0 c.in_ok-start.ensures c.in_ok-value.ensures c.in_ok-end.ensures, omega (arith, c.in_ok-start.ensures.2, c.in_ok-value.ensures.forward, c.in_ok-end.ensures.2))

pub returns-then-not-has_identifier_at : goal.returns-then-not-has_identifier_at
returns-then-not-has_identifier_at c =
    no_named_item c.if-not-has_identifier_at.ensures
