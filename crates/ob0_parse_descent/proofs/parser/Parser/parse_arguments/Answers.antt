use Rattle.std.proofs.Common.{◌∙◌, sym, arith}
use Rattle.std.proofs.lemmas.Result.{err_from_is_err_and}
use Rattle.ob0_parse_descent.proofs.Leads.{fails_in_token}
use Rattle.ob0_parse_descent.proofs.Refusals.{fails_in_both}
use Rattle.ob0_parse_descent.proofs.Lists.{listed_pass}
use Rattle.ob0_parse_descent.proofs.Arguments.{arguments_fail_none, arguments_fail, taken_no_arguments, taken_arguments}
use Rattle.ob0_parse_descent.proofs.parser.Parser.parse_arguments.Goals as goal

pub returns-in_err-end : goal.returns-in_err-end
returns-in_err-end c =
    let p = err_from_is_err_and c.from_residual.result c.from_residual.ensures.1 in
    rw (p.1, p.2) (arguments_fail_none c.kind.result (sym c.may_begin_expression.ensures ∙ c.if-not-may_begin_expression.true) c.kind.ensures.here c.if-not-has_symbol_at.ensures.0 (fails_in_token c.in_err-end.ensures))

pub returns-then-not-may_begin_expression : goal.returns-then-not-may_begin_expression
returns-then-not-may_begin_expression c =
    rw c.new.ensures.items (taken_no_arguments c.if-not-has_symbol_at.ensures.0 c.in_ok-end.ensures, omega (arith, c.in_ok-end.ensures.2))

pub returns-in_err-arguments : goal.returns-in_err-arguments
returns-in_err-arguments c =
    let p = err_from_is_err_and c.from_residual-in_err-arguments.result c.from_residual-in_err-arguments.ensures.1 in
    rw (p.1, p.2) (arguments_fail c.kind.result (sym c.may_begin_expression.ensures ∙ c.if-not-may_begin_expression.false) c.kind.ensures.here c.if-not-has_symbol_at.ensures.0 (fails_in_both c.in_err-arguments.ensures))

pub returns-in_err-end-2 : goal.returns-in_err-end-2
returns-in_err-end-2 c =
    let p = err_from_is_err_and c.from_residual-in_err-end-2.result c.from_residual-in_err-end-2.ensures.1 in
    rw (p.1, p.2) (arguments_fail c.kind.result (sym c.may_begin_expression.ensures ∙ c.if-not-may_begin_expression.false) c.kind.ensures.here c.if-not-has_symbol_at.ensures.0 (listed_pass c.in_ok-arguments.ensures (fails_in_token c.in_err-end-2.ensures)))

pub returns : goal.returns
returns c =
    let taken = taken_arguments c.in_ok-arguments.arguments.items c.if-not-has_symbol_at.ensures.0 c.in_ok-arguments.ensures c.in_ok-end-2.ensures in
    (taken, omega (arith, c.in_ok-arguments.ensures.head.forward, c.in_ok-arguments.ensures.tail.forward, c.in_ok-end-2.ensures.2))
