use Rattle.std.proofs.Common.{arith}
use Rattle.std.proofs.lemmas.Result.{err_from_is_err_and}
use Rattle.ob0_tree.specs.View.{parameter_section_of}
use Rattle.ob0_parse_descent.proofs.Led.{taken_led, led_fails, leads_then_section}
use Rattle.ob0_parse_descent.proofs.parser.Parser.parse_parameter_section_after_semicolon.Goals as goal

pub returns-in_err-section : goal.returns-in_err-section
returns-in_err-section c =
    let p = err_from_is_err_and c.from_residual.result c.from_residual.ensures.1 in
    rw (p.1, p.2) (led_fails leads_then_section c.if-not-has_symbol_at.ensures.0 c.in_err-section.ensures)

pub returns : goal.returns
returns c =
    (taken_led leads_then_section (parameter_section_of c.in_ok-section.section) c.if-not-has_symbol_at.ensures.0 c.in_ok-section.ensures, omega (arith, c.in_ok-section.ensures.forward))
