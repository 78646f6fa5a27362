use Rattle.std.proofs.Common.{refl}
use Rattle.std.proofs.lemmas.Result.{err_from_is_err_and}
use Rattle.ob0_tree.specs.View.{sequence_of_vec}
use Rattle.ob0_parse_descent.proofs.Refusals.{fails_maybe}
use Rattle.ob0_parse_descent.proofs.Expressions.{taken_item, taken_no_item}
use Rattle.ob0_parse_descent.proofs.Leads.{no_item}
use Rattle.ob0_parse_descent.proofs.Led.{taken_led, led_fails, leads_begins}
use Rattle.ob0_tree.specs.Tree.{body}
use Rattle.ob0_parse_descent.proofs.parser.Parser.parse_body.Goals as goal

pub returns-then-not-has_reserved_word_at : goal.returns-then-not-has_reserved_word_at
returns-then-not-has_reserved_word_at c =
    taken_no_item body _ _ _ c.requires (no_item 16 refl c.if-not-has_reserved_word_at.ensures)

pub returns-in_err-statements : goal.returns-in_err-statements
returns-in_err-statements c =
    let p = err_from_is_err_and c.from_residual.result c.from_residual.ensures.1 in
    rw (p.1, p.2) (fails_maybe (led_fails leads_begins c.if-not-has_reserved_word_at.ensures.0 c.in_err-statements.ensures))

pub returns : goal.returns
returns c =
    taken_item _ (taken_led leads_begins (sequence_of_vec c.in_ok-statements.statements) c.if-not-has_reserved_word_at.ensures.0 c.in_ok-statements.ensures)
