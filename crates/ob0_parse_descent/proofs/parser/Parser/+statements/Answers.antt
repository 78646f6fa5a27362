use Rattle.std.proofs.Common.{arith, refl}
use Rattle.std.proofs.lemmas.Result.{err_from_is_err_and}
use Rattle.ob0_tree.specs.View.{items_of, expression_of, statement_of, statement_after_semicolon_of, sequence_of_vec, elsif_of, elsifs_of_vec, else_part_of}
use Rattle.ob0_parse_descent.proofs.Refusals.{fails_in, fails_pass, fails_pass_token, fails_maybe}
use Rattle.ob0_parse_descent.proofs.Expressions.{taken_item, taken_no_item}
use Rattle.ob0_parse_descent.proofs.Items.{taking_none, taking_more, taking_done, taking_fails}
use Rattle.ob0_parse_descent.proofs.Lists.{listing_one, listing_more, listing_done, listing_fails}
use Rattle.ob0_parse_descent.proofs.Leads.{no_item, fails_in_token}
use Rattle.ob0_parse_descent.proofs.Led.{taken_led, led_fails, leads_then_statement, leads_else_branch}
use Rattle.ob0_tree.specs.Tree.{elsif_part, else_part}
use Rattle.ob0_tree.proofs.Viewed.{while_made, repeat_made, if_made}
use Rattle.ob0_parse_descent.proofs.StatementParts.{taken_empty, sequence_fails, taken_branches, branches_fail, taken_elsif, elsif_fails, taken_while, while_fails, taken_repeat, repeat_fails, too_deep, no_if, no_while, no_repeat}
use Rattle.ob0_parse_descent.proofs.SequenceLists.{taken_sequence}
use Rattle.ob0_parse_descent.proofs.parser.Parser.+statements.Goals as goal

pub parse_statement-returns : goal.parse_statement-returns
parse_statement-returns t c =
    taken_empty c.if-has_identifier_at.ensures c.if-has_reserved_word_at.ensures c.if-has_reserved_word_at-2.ensures c.if-has_reserved_word_at-3.ensures

pub parse_statement_after_semicolon-returns-in_err-statement : goal.parse_statement_after_semicolon-returns-in_err-statement
parse_statement_after_semicolon-returns-in_err-statement t c =
    let p = err_from_is_err_and c.from_residual.result c.from_residual.ensures.1 in
    rw (p.1, p.2) (led_fails leads_then_statement c.if-not-has_symbol_at.ensures.0 c.in_err-statement.ensures)

pub parse_statement_after_semicolon-returns : goal.parse_statement_after_semicolon-returns
parse_statement_after_semicolon-returns t c =
    (taken_led leads_then_statement (statement_of c.in_ok-statement.statement) c.if-not-has_symbol_at.ensures.0 c.in_ok-statement.ensures, omega (arith, c.in_ok-statement.ensures.forward))

pub parse_sequence-returns-in_err-first : goal.parse_sequence-returns-in_err-first
parse_sequence-returns-in_err-first t c =
    let p = err_from_is_err_and c.from_residual.result c.from_residual.ensures.1 in
    rw (p.1, p.2) (sequence_fails (fails_in c.in_err-first.ensures))

pub parse_sequence-loop-statements-init : goal.parse_sequence-loop-statements-init
parse_sequence-loop-statements-init t c =
    rw (c.in_ok-push_with_doubling.ensures.added, c.new-statements.ensures.items) (listing_one statement_of statement_after_semicolon_of c.in_ok-first.first c.in_ok-first.ensures)

pub parse_sequence-returns-in_err-statement : goal.parse_sequence-returns-in_err-statement
parse_sequence-returns-in_err-statement t c =
    let p = err_from_is_err_and c.from_residual-in_err-statement.result c.from_residual-in_err-statement.ensures.1 in
    rw (p.1, p.2) (sequence_fails (listing_fails c.loop-statements.invariant c.in_err-statement.ensures))

pub parse_sequence-loop-statements-preserved : goal.parse_sequence-loop-statements-preserved
parse_sequence-loop-statements-preserved t c =
    let item = rw c.in-Some.is at c.in_ok-statement.ensures in
    rw c.in_ok-push_with_doubling-2.ensures.added (listing_more statement_of statement_after_semicolon_of c.loop-statements.statements.items _ c.loop-statements.invariant item.0)

pub parse_sequence-returns : goal.parse_sequence-returns
parse_sequence-returns t c =
    taken_sequence c.loop-statements.statements.items (listing_done c.loop-statements.invariant (rw c.in_default.is at c.in_ok-statement.ensures))

pub parse_if-returns-in_err-inner : goal.parse_if-returns-in_err-inner
parse_if-returns-in_err-inner t c =
    let p = err_from_is_err_and c.from_residual.result c.from_residual.ensures.1 in
    rw (p.1, p.2) (too_deep _ (λ w. refl) no_if c.requires.1 c.in_err-inner.ensures c.requires.0)

pub parse_if-returns-in_err-condition : goal.parse_if-returns-in_err-condition
parse_if-returns-in_err-condition t c =
    let p = err_from_is_err_and c.from_residual-in_err-condition.result c.from_residual-in_err-condition.ensures.1 in
    rw (p.1, p.2) (branches_fail c.in_ok-inner.ensures c.requires.0 (fails_in c.in_err-condition.ensures))

pub parse_if-returns-in_err-start : goal.parse_if-returns-in_err-start
parse_if-returns-in_err-start t c =
    let p = err_from_is_err_and c.from_residual-in_err-start.result c.from_residual-in_err-start.ensures.1 in
    rw (p.1, p.2) (branches_fail c.in_ok-inner.ensures c.requires.0 (fails_pass (expression_of c.in_ok-condition.condition) c.in_ok-condition.ensures (fails_in_token c.in_err-start.ensures)))

pub parse_if-returns-in_err-then : goal.parse_if-returns-in_err-then
parse_if-returns-in_err-then t c =
    let p = err_from_is_err_and c.from_residual-in_err-then.result c.from_residual-in_err-then.ensures.1 in
    rw (p.1, p.2) (branches_fail c.in_ok-inner.ensures c.requires.0 (fails_pass (expression_of c.in_ok-condition.condition) c.in_ok-condition.ensures (fails_pass_token c.in_ok-start.ensures.0 c.in_ok-start.ensures.2 (fails_in c.in_err-then.ensures))))

pub parse_if-returns-in_err-elsifs : goal.parse_if-returns-in_err-elsifs
parse_if-returns-in_err-elsifs t c =
    let p = err_from_is_err_and c.from_residual-in_err-elsifs.result c.from_residual-in_err-elsifs.ensures.1 in
    rw (p.1, p.2) (branches_fail c.in_ok-inner.ensures c.requires.0 (fails_pass (expression_of c.in_ok-condition.condition) c.in_ok-condition.ensures (fails_pass_token c.in_ok-start.ensures.0 c.in_ok-start.ensures.2 (fails_pass (sequence_of_vec c.in_ok-then.then) c.in_ok-then.ensures (fails_in c.in_err-elsifs.ensures)))))

pub parse_if-returns-in_err-otherwise : goal.parse_if-returns-in_err-otherwise
parse_if-returns-in_err-otherwise t c =
    let p = err_from_is_err_and c.from_residual-in_err-otherwise.result c.from_residual-in_err-otherwise.ensures.1 in
    rw (p.1, p.2) (branches_fail c.in_ok-inner.ensures c.requires.0 (fails_pass (expression_of c.in_ok-condition.condition) c.in_ok-condition.ensures (fails_pass_token c.in_ok-start.ensures.0 c.in_ok-start.ensures.2 (fails_pass (sequence_of_vec c.in_ok-then.then) c.in_ok-then.ensures (fails_pass (elsifs_of_vec c.in_ok-elsifs.elsifs) c.in_ok-elsifs.ensures (fails_in c.in_err-otherwise.ensures))))))

pub parse_if-returns-in_err-end : goal.parse_if-returns-in_err-end
parse_if-returns-in_err-end t c =
    let p = err_from_is_err_and c.from_residual-in_err-end.result c.from_residual-in_err-end.ensures.1 in
    rw (p.1, p.2) (branches_fail c.in_ok-inner.ensures c.requires.0 (fails_pass (expression_of c.in_ok-condition.condition) c.in_ok-condition.ensures (fails_pass_token c.in_ok-start.ensures.0 c.in_ok-start.ensures.2 (fails_pass (sequence_of_vec c.in_ok-then.then) c.in_ok-then.ensures (fails_pass (elsifs_of_vec c.in_ok-elsifs.elsifs) c.in_ok-elsifs.ensures (fails_pass (else_part_of c.in_ok-otherwise.otherwise) c.in_ok-otherwise.ensures (fails_in_token c.in_err-end.ensures)))))))

pub parse_if-returns : goal.parse_if-returns
parse_if-returns t c =
    rw (c.in_ok-boxed.ensures.ok, if_made _) (taken_branches (expression_of c.in_ok-condition.condition) (sequence_of_vec c.in_ok-then.then) (elsifs_of_vec c.in_ok-elsifs.elsifs) (else_part_of c.in_ok-otherwise.otherwise) c.in_ok-inner.ensures c.requires.0 c.in_ok-condition.ensures c.in_ok-start.ensures c.in_ok-then.ensures c.in_ok-elsifs.ensures c.in_ok-otherwise.ensures c.in_ok-end.ensures)

pub parse_elsif_parts-loop-elsifs-init : goal.parse_elsif_parts-loop-elsifs-init
parse_elsif_parts-loop-elsifs-init t c =
    rw c.new-elsifs.ensures.items (taking_none elsif_part _ _ _ c.requires)

pub parse_elsif_parts-returns-in_err-elsif : goal.parse_elsif_parts-returns-in_err-elsif
parse_elsif_parts-returns-in_err-elsif t c =
    let p = err_from_is_err_and c.from_residual.result c.from_residual.ensures.1 in
    rw (p.1, p.2) (taking_fails (items_of elsif_of c.loop-elsifs.elsifs.items) c.loop-elsifs.invariant c.in_err-elsif.ensures)

pub parse_elsif_parts-loop-elsifs-preserved : goal.parse_elsif_parts-loop-elsifs-preserved
parse_elsif_parts-loop-elsifs-preserved t c =
    let item = rw c.in-Some.is at c.in_ok-elsif.ensures in
    rw c.in_ok-push_with_doubling.ensures.added (taking_more elsif_of c.loop-elsifs.elsifs.items _ _ _ _ _ _ c.loop-elsifs.invariant item.0)

pub parse_elsif_parts-returns : goal.parse_elsif_parts-returns
parse_elsif_parts-returns t c =
    let absent = rw c.in_default.is at c.in_ok-elsif.ensures in
    taking_done (items_of elsif_of c.loop-elsifs.elsifs.items) c.loop-elsifs.invariant absent

pub parse_elsif-returns-in_err-condition : goal.parse_elsif-returns-in_err-condition
parse_elsif-returns-in_err-condition t c =
    let p = err_from_is_err_and c.from_residual.result c.from_residual.ensures.1 in
    rw (p.1, p.2) (elsif_fails c.if-not-has_reserved_word_at.ensures.0 (fails_in c.in_err-condition.ensures))

pub parse_elsif-returns-in_err-start : goal.parse_elsif-returns-in_err-start
parse_elsif-returns-in_err-start t c =
    let p = err_from_is_err_and c.from_residual-in_err-start.result c.from_residual-in_err-start.ensures.1 in
    rw (p.1, p.2) (elsif_fails c.if-not-has_reserved_word_at.ensures.0 (fails_pass (expression_of c.in_ok-condition.condition) c.in_ok-condition.ensures (fails_in_token c.in_err-start.ensures)))

pub parse_elsif-returns-in_err-then : goal.parse_elsif-returns-in_err-then
parse_elsif-returns-in_err-then t c =
    let p = err_from_is_err_and c.from_residual-in_err-then.result c.from_residual-in_err-then.ensures.1 in
    rw (p.1, p.2) (elsif_fails c.if-not-has_reserved_word_at.ensures.0 (fails_pass (expression_of c.in_ok-condition.condition) c.in_ok-condition.ensures (fails_pass_token c.in_ok-start.ensures.0 c.in_ok-start.ensures.2 c.in_err-then.ensures)))

pub parse_elsif-returns : goal.parse_elsif-returns
parse_elsif-returns t c =
    (taken_elsif (expression_of c.in_ok-condition.condition) (sequence_of_vec c.in_ok-then.then) c.if-not-has_reserved_word_at.ensures.0 c.in_ok-condition.ensures c.in_ok-start.ensures c.in_ok-then.ensures, omega (arith, c.in_ok-condition.ensures.forward, c.in_ok-start.ensures.2, c.in_ok-then.ensures.forward))

pub parse_else_part-returns-then-not-has_reserved_word_at : goal.parse_else_part-returns-then-not-has_reserved_word_at
parse_else_part-returns-then-not-has_reserved_word_at t c =
    taken_no_item else_part _ _ _ c.requires (no_item 11 refl c.if-not-has_reserved_word_at.ensures)

pub parse_else_part-returns-in_err-statements : goal.parse_else_part-returns-in_err-statements
parse_else_part-returns-in_err-statements t c =
    let p = err_from_is_err_and c.from_residual.result c.from_residual.ensures.1 in
    rw (p.1, p.2) (fails_maybe (led_fails leads_else_branch c.if-not-has_reserved_word_at.ensures.0 c.in_err-statements.ensures))

pub parse_else_part-returns : goal.parse_else_part-returns
parse_else_part-returns t c =
    taken_item _ (taken_led leads_else_branch (sequence_of_vec c.in_ok-statements.statements) c.if-not-has_reserved_word_at.ensures.0 c.in_ok-statements.ensures)

pub parse_while-returns-in_err-inner : goal.parse_while-returns-in_err-inner
parse_while-returns-in_err-inner t c =
    let p = err_from_is_err_and c.from_residual.result c.from_residual.ensures.1 in
    rw (p.1, p.2) (too_deep _ (λ w. refl) no_while c.requires.1 c.in_err-inner.ensures c.requires.0)

pub parse_while-returns-in_err-condition : goal.parse_while-returns-in_err-condition
parse_while-returns-in_err-condition t c =
    let p = err_from_is_err_and c.from_residual-in_err-condition.result c.from_residual-in_err-condition.ensures.1 in
    rw (p.1, p.2) (while_fails c.in_ok-inner.ensures c.requires.0 (fails_in c.in_err-condition.ensures))

pub parse_while-returns-in_err-start : goal.parse_while-returns-in_err-start
parse_while-returns-in_err-start t c =
    let p = err_from_is_err_and c.from_residual-in_err-start.result c.from_residual-in_err-start.ensures.1 in
    rw (p.1, p.2) (while_fails c.in_ok-inner.ensures c.requires.0 (fails_pass (expression_of c.in_ok-condition.condition) c.in_ok-condition.ensures (fails_in_token c.in_err-start.ensures)))

pub parse_while-returns-in_err-body : goal.parse_while-returns-in_err-body
parse_while-returns-in_err-body t c =
    let p = err_from_is_err_and c.from_residual-in_err-body.result c.from_residual-in_err-body.ensures.1 in
    rw (p.1, p.2) (while_fails c.in_ok-inner.ensures c.requires.0 (fails_pass (expression_of c.in_ok-condition.condition) c.in_ok-condition.ensures (fails_pass_token c.in_ok-start.ensures.0 c.in_ok-start.ensures.2 (fails_in c.in_err-body.ensures))))

pub parse_while-returns-in_err-end : goal.parse_while-returns-in_err-end
parse_while-returns-in_err-end t c =
    let p = err_from_is_err_and c.from_residual-in_err-end.result c.from_residual-in_err-end.ensures.1 in
    rw (p.1, p.2) (while_fails c.in_ok-inner.ensures c.requires.0 (fails_pass (expression_of c.in_ok-condition.condition) c.in_ok-condition.ensures (fails_pass_token c.in_ok-start.ensures.0 c.in_ok-start.ensures.2 (fails_pass (sequence_of_vec c.in_ok-body.body) c.in_ok-body.ensures (fails_in_token c.in_err-end.ensures)))))

pub parse_while-returns : goal.parse_while-returns
parse_while-returns t c =
    rw (while_made _, c.in_ok-boxed.ensures.ok) (taken_while (expression_of c.in_ok-condition.condition) (sequence_of_vec c.in_ok-body.body) c.in_ok-inner.ensures c.requires.0 c.in_ok-condition.ensures c.in_ok-start.ensures c.in_ok-body.ensures c.in_ok-end.ensures)

pub parse_repeat-returns-in_err-inner : goal.parse_repeat-returns-in_err-inner
parse_repeat-returns-in_err-inner t c =
    let p = err_from_is_err_and c.from_residual.result c.from_residual.ensures.1 in
    rw (p.1, p.2) (too_deep _ (λ w. refl) no_repeat c.requires.1 c.in_err-inner.ensures c.requires.0)

pub parse_repeat-returns-in_err-body : goal.parse_repeat-returns-in_err-body
parse_repeat-returns-in_err-body t c =
    let p = err_from_is_err_and c.from_residual-in_err-body.result c.from_residual-in_err-body.ensures.1 in
    rw (p.1, p.2) (repeat_fails c.in_ok-inner.ensures c.requires.0 (fails_in c.in_err-body.ensures))

pub parse_repeat-returns-in_err-start : goal.parse_repeat-returns-in_err-start
parse_repeat-returns-in_err-start t c =
    let p = err_from_is_err_and c.from_residual-in_err-start.result c.from_residual-in_err-start.ensures.1 in
    rw (p.1, p.2) (repeat_fails c.in_ok-inner.ensures c.requires.0 (fails_pass (sequence_of_vec c.in_ok-body.body) c.in_ok-body.ensures (fails_in_token c.in_err-start.ensures)))

pub parse_repeat-returns-in_err-condition : goal.parse_repeat-returns-in_err-condition
parse_repeat-returns-in_err-condition t c =
    let p = err_from_is_err_and c.from_residual-in_err-condition.result c.from_residual-in_err-condition.ensures.1 in
    rw (p.1, p.2) (repeat_fails c.in_ok-inner.ensures c.requires.0 (fails_pass (sequence_of_vec c.in_ok-body.body) c.in_ok-body.ensures (fails_pass_token c.in_ok-start.ensures.0 c.in_ok-start.ensures.2 c.in_err-condition.ensures)))

pub parse_repeat-returns : goal.parse_repeat-returns
parse_repeat-returns t c =
    rw (repeat_made _, c.in_ok-boxed.ensures.ok) (taken_repeat (sequence_of_vec c.in_ok-body.body) (expression_of c.in_ok-condition.condition) c.in_ok-inner.ensures c.requires.0 c.in_ok-body.ensures c.in_ok-start.ensures c.in_ok-condition.ensures)
