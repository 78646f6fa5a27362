use Rattle.std.proofs.lemmas.Result.{err_from_is_err_and}
use Rattle.ob0_tree.specs.View.{expression_of, argument_after_comma_of}
use Rattle.ob0_parse_descent.proofs.Refusals.{fails_in}
use Rattle.ob0_parse_descent.proofs.Lists.{listing_one, listing_more, listing_done, listing_fails}
use Rattle.ob0_parse_descent.proofs.parser.Parser.parse_argument_list.Goals as goal

pub returns-in_err-first : goal.returns-in_err-first
returns-in_err-first c =
    let p = err_from_is_err_and c.from_residual.result c.from_residual.ensures.1 in
    rw (p.1, p.2) (fails_in c.in_err-first.ensures)

pub loop-arguments-init : goal.loop-arguments-init
loop-arguments-init c =
    rw (c.in_ok-push_with_doubling.ensures.added, c.new-arguments.ensures.items) (listing_one expression_of argument_after_comma_of c.in_ok-first.first c.in_ok-first.ensures)

pub returns-in_err-argument : goal.returns-in_err-argument
returns-in_err-argument c =
    let p = err_from_is_err_and c.from_residual-in_err-argument.result c.from_residual-in_err-argument.ensures.1 in
    rw (p.1, p.2) (listing_fails c.loop-arguments.invariant c.in_err-argument.ensures)

pub loop-arguments-preserved : goal.loop-arguments-preserved
loop-arguments-preserved c =
    let item = rw c.in-Some.is at c.in_ok-argument.ensures in
    rw c.in_ok-push_with_doubling-2.ensures.added (listing_more expression_of argument_after_comma_of c.loop-arguments.arguments.items _ c.loop-arguments.invariant item.0)

pub returns : goal.returns
returns c =
    let absent = rw c.in_default.is at c.in_ok-argument.ensures in
    listing_done c.loop-arguments.invariant absent
