use Rattle.std.proofs.Common.{refl}
use Rattle.std.proofs.lemmas.Result.{err_from_is_err_and}
use Rattle.ob0_tree.specs.View.{constant_declarations_of_vec}
use Rattle.ob0_parse_descent.proofs.Refusals.{fails_maybe}
use Rattle.ob0_parse_descent.proofs.Expressions.{taken_item, taken_no_item}
use Rattle.ob0_parse_descent.proofs.Leads.{no_item}
use Rattle.ob0_parse_descent.proofs.Led.{taken_led, led_fails, leads_declares_constants}
use Rattle.ob0_tree.specs.Tree.{constants}
use Rattle.ob0_parse_descent.proofs.parser.Parser.parse_constant_section.Goals as goal

pub returns-then-not-has_reserved_word_at : goal.returns-then-not-has_reserved_word_at
returns-then-not-has_reserved_word_at c =
    taken_no_item constants _ _ _ c.requires (no_item 12 refl c.if-not-has_reserved_word_at.ensures)

pub returns-in_err-constants : goal.returns-in_err-constants
returns-in_err-constants c =
    let p = err_from_is_err_and c.from_residual.result c.from_residual.ensures.1 in
    rw (p.1, p.2) (fails_maybe (led_fails leads_declares_constants c.if-not-has_reserved_word_at.ensures.0 c.in_err-constants.ensures))

pub returns : goal.returns
returns c =
    taken_item _ (taken_led leads_declares_constants (constant_declarations_of_vec c.in_ok-constants.constants) c.if-not-has_reserved_word_at.ensures.0 c.in_ok-constants.ensures)
