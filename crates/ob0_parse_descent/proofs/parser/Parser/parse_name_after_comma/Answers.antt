use Rattle.std.proofs.Common.{arith, refl}
use Rattle.std.proofs.lemmas.Result.{err_from_is_err_and}
use Rattle.ob0_parse_descent.proofs.Leads.{no_item, fails_in_name}
use Rattle.ob0_parse_descent.proofs.NameLists.{taken_then_name, then_name_fails}
use Rattle.ob0_parse_descent.proofs.parser.Parser.parse_name_after_comma.Goals as goal

pub returns-in_err-name-clause-read : goal.returns-in_err-name-clause-read
returns-in_err-name-clause-read c =
    let p = err_from_is_err_and c.from_residual.result c.from_residual.ensures.1 in
    rw (p.1, p.2) (then_name_fails c.if-has_symbol_at.ensures.0 (fails_in_name c.in_err-name.ensures))

pub returns-in_ok-name-clause-read : goal.returns-in_ok-name-clause-read
returns-in_ok-name-clause-read c = (taken_then_name c.in_ok-name.name c.if-has_symbol_at.ensures.0 c.in_ok-name.ensures, omega (arith, c.in_ok-name.ensures.3))

pub returns-else-has_symbol_at-clause-read : goal.returns-else-has_symbol_at-clause-read
returns-else-has_symbol_at-clause-read c = no_item 5 refl c.if-has_symbol_at.ensures

pub returns-in_err-name-clause-refusal : goal.returns-in_err-name-clause-refusal
returns-in_err-name-clause-refusal c =
    let p = err_from_is_err_and c.from_residual.result c.from_residual.ensures.1 in
    rw (p.1, p.2) c.in_err-name.ensures.1
