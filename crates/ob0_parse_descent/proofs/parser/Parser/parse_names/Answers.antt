use Rattle.std.proofs.Common.{arith}
use Rattle.std.proofs.lemmas.Result.{err_from_is_err_and}
use Rattle.ob0_tree.specs.Tree.{name_after_comma, comma_then_name}
use Rattle.ob0_tree.specs.View.{items_of}
use Rattle.ob0_parse_descent.proofs.Items.{taking_none, taking_more, taking_done}
use Rattle.ob0_parse_descent.proofs.NameLists.{taken_listed, names_fails_first, names_fails_more}
use Rattle.ob0_parse_descent.proofs.parser.Parser.parse_names.Goals as goal

pub returns-in_err-first : goal.returns-in_err-first
returns-in_err-first c =
    let p = err_from_is_err_and c.from_residual.result c.from_residual.ensures.1 in
    rw (p.1, p.2) (names_fails_first c.in_err-first.ensures)

pub returns-in_err-name : goal.returns-in_err-name
returns-in_err-name c =
    let p = err_from_is_err_and c.from_residual-in_err-name.result c.from_residual-in_err-name.ensures.1 in
    rw (p.1, p.2) (names_fails_more (items_of comma_then_name c.loop-more.more.items) c.in_ok-first.ensures.0 c.in_ok-first.ensures.3 c.loop-more.invariant c.in_err-name.ensures.read)

pub loop-more-init : goal.loop-more-init
loop-more-init c = rw c.new-more.ensures.items (taking_none name_after_comma _ _ _ (omega (arith, c.in_ok-first.ensures.1, c.in_ok-first.ensures.3)))

pub loop-more-preserved : goal.loop-more-preserved
loop-more-preserved c =
    let item = rw c.in-Some.is at c.in_ok-name.ensures.read in
    rw c.in_ok-push_with_doubling.ensures.added (taking_more comma_then_name c.loop-more.more.items _ _ _ _ _ _ c.loop-more.invariant item.0)

pub returns : goal.returns
returns c =
    let absent = rw c.in_default.is at c.in_ok-name.ensures.read in
    let others = items_of comma_then_name c.loop-more.more.items in
    rw c.in_ok-first.ensures.2 (taken_listed others c.in_ok-first.ensures.0 c.in_ok-first.ensures.3 (taking_done others c.loop-more.invariant absent))
