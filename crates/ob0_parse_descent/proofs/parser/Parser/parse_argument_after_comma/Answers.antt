use Rattle.std.proofs.Common.{arith}
use Rattle.std.proofs.lemmas.Result.{err_from_is_err_and}
use Rattle.ob0_tree.specs.View.{expression_of}
use Rattle.ob0_parse_descent.proofs.Led.{taken_led, led_fails, leads_then_argument}
use Rattle.ob0_parse_descent.proofs.parser.Parser.parse_argument_after_comma.Goals as goal

pub returns-in_err-argument : goal.returns-in_err-argument
returns-in_err-argument c =
    let p = err_from_is_err_and c.from_residual.result c.from_residual.ensures.1 in
    rw (p.1, p.2) (led_fails leads_then_argument c.if-not-has_symbol_at.ensures.0 c.in_err-argument.ensures)

pub returns : goal.returns
returns c =
    (taken_led leads_then_argument (expression_of c.in_ok-argument.argument) c.if-not-has_symbol_at.ensures.0 c.in_ok-argument.ensures, omega (arith, c.in_ok-argument.ensures.forward))
