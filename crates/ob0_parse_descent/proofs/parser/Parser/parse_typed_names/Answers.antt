use Rattle.std.proofs.lemmas.Result.{err_from_is_err_and}
use Rattle.ob0_tree.specs.View.{names_of, type_of}
use Rattle.ob0_parse_descent.proofs.Leads.{fails_in_token}
use Rattle.ob0_parse_descent.proofs.Refusals.{fails_in, fails_pass, fails_pass_token}
use Rattle.ob0_parse_descent.proofs.TypeParts.{taken_fields}
use Rattle.ob0_parse_descent.proofs.parser.Parser.parse_typed_names.Goals as goal

pub returns-in_err-names : goal.returns-in_err-names
returns-in_err-names c =
    let p = err_from_is_err_and c.from_residual.result c.from_residual.ensures.1 in
    rw (p.1, p.2) (fails_in c.in_err-names.ensures)

pub returns-in_err-start : goal.returns-in_err-start
returns-in_err-start c =
    let p = err_from_is_err_and c.from_residual-in_err-start.result c.from_residual-in_err-start.ensures.1 in
    rw (p.1, p.2) (fails_pass (names_of c.in_ok-names.names) c.in_ok-names.ensures (fails_in_token c.in_err-start.ensures))

pub returns-in_err-written : goal.returns-in_err-written
returns-in_err-written c =
    let p = err_from_is_err_and c.from_residual-in_err-written.result c.from_residual-in_err-written.ensures.1 in
    rw (p.1, p.2) (fails_pass (names_of c.in_ok-names.names) c.in_ok-names.ensures (fails_pass_token c.in_ok-start.ensures.0 c.in_ok-start.ensures.2 c.in_err-written.ensures))

pub returns : goal.returns
returns c =
    taken_fields (names_of c.in_ok-names.names) (type_of c.in_ok-written.written) c.in_ok-names.ensures c.in_ok-start.ensures c.in_ok-written.ensures
