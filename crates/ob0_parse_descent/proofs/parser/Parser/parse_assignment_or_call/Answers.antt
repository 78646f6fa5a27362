use Rattle.std.proofs.Common.{◌≡◌, ◌∙◌, sym, arith}
use Rattle.std.proofs.lemmas.Result.{err_from_is_err_and}
use Rattle.ob0_tree.specs.Tree.{arguments}
use Rattle.ob0_tree.specs.View.{items_of, selector_of, expression_of, arguments_of_vec}
use Rattle.ob0_parse_descent.proofs.Expressions.{taken_item, taken_no_item}
use Rattle.ob0_parse_descent.proofs.NamedStatements.{named_fails, assignment_fails_value, call_fails, call_made, becomes_missing_listed, true_not_false, taken_assignment}
use Rattle.std.specs.Vec.{vec_len}
use Rattle.std.proofs.lemmas.Bool.Decides.{Decides-eqb}
use Rattle.ob0_parse_descent.proofs.parser.Parser.parse_assignment_or_call.Goals as goal

pub returns-in_err-target : goal.returns-in_err-target
returns-in_err-target c =
    let p = err_from_is_err_and c.from_residual.result c.from_residual.ensures.1 in
    rw (p.1, p.2) (named_fails c.requires.0 c.in_err-target.ensures)

pub returns-in_err-value : goal.returns-in_err-value
returns-in_err-value c =
    let p = err_from_is_err_and c.from_residual-in_err-value.result c.from_residual-in_err-value.ensures.1 in
    rw (p.1, p.2) (assignment_fails_value (items_of selector_of c.in_ok-target.target.selectors.items) c.in_ok-target.target.name c.in_ok-target.ensures.0 c.if-has_symbol_at.ensures.0 c.in_err-value.ensures)

pub returns-then-has_symbol_at : goal.returns-then-has_symbol_at
returns-then-has_symbol_at c =
    rw c.in_ok-boxed.ensures.ok (taken_assignment (items_of selector_of c.in_ok-target.target.selectors.items) c.in_ok-target.target.name (expression_of c.in_ok-value.value) c.in_ok-target.ensures.0 c.if-has_symbol_at.ensures.0 c.in_ok-value.ensures)

pub returns-then-not-is_empty : goal.returns-then-not-is_empty
returns-then-not-is_empty c =
    rw c.syntax_error.ensures (becomes_missing_listed c.in_ok-target.target.name c.in_ok-target.target.selectors.items (λ l. let n : vec_len c.in_ok-target.target.selectors ≡ 0 = omega (arith, l, c.in_ok-target.target.selectors.ok) in true_not_false (sym ((Decides-eqb (vec_len c.in_ok-target.target.selectors) 0).1 n) ∙ sym c.if-not-is_empty.ensures)) c.in_ok-target.ensures.0 c.if-has_symbol_at.ensures)

pub returns-in_err-arguments : goal.returns-in_err-arguments
returns-in_err-arguments c =
    let p = err_from_is_err_and c.from_residual-in_err-arguments.result c.from_residual-in_err-arguments.ensures.1 in
    rw (p.1, p.2) (call_fails c.in_ok-target.target.name c.in_ok-target.target.selectors.items (let e = (Decides-eqb (vec_len c.in_ok-target.target.selectors) 0).0 (sym c.if-not-is_empty.ensures) in omega (arith, e, c.in_ok-target.target.selectors.ok)) c.in_ok-target.ensures c.if-has_symbol_at.ensures c.in_err-arguments.ensures)

pub returns-in_default : goal.returns-in_default
returns-in_default c =
    let absent = rw c.in_default.is at c.in_ok-arguments.ensures in
    call_made c.in_ok-target.target.name c.in_ok-target.target.selectors.items (let e = (Decides-eqb (vec_len c.in_ok-target.target.selectors) 0).0 (sym c.if-not-is_empty.ensures) in omega (arith, e, c.in_ok-target.target.selectors.ok)) c.in_ok-target.ensures c.if-has_symbol_at.ensures (taken_no_item arguments _ _ _ c.in_ok-target.ensures.0.within absent)

pub returns : goal.returns
returns c =
    let item = rw c.in-Some.is at c.in_ok-arguments.ensures in
    call_made c.in_ok-target.target.name c.in_ok-target.target.selectors.items (let e = (Decides-eqb (vec_len c.in_ok-target.target.selectors) 0).0 (sym c.if-not-is_empty.ensures) in omega (arith, e, c.in_ok-target.target.selectors.ok)) c.in_ok-target.ensures c.if-has_symbol_at.ensures (taken_item (arguments_of_vec c.in-Some.arguments) item.0)
