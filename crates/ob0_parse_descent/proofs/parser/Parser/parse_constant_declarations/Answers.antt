use Rattle.std.proofs.lemmas.Result.{err_from_is_err_and}
use Rattle.ob0_tree.specs.View.{items_of, constant_declaration_of}
use Rattle.ob0_parse_descent.proofs.Items.{taking_none, taking_more, taking_done, taking_fails}
use Rattle.ob0_tree.specs.Tree.{constant}
use Rattle.ob0_parse_descent.proofs.parser.Parser.parse_constant_declarations.Goals as goal

pub loop-constants-init : goal.loop-constants-init
loop-constants-init c =
    rw c.new-constants.ensures.items (taking_none constant _ _ _ c.requires)

pub returns-in_err-constant : goal.returns-in_err-constant
returns-in_err-constant c =
    let p = err_from_is_err_and c.from_residual.result c.from_residual.ensures.1 in
    rw (p.1, p.2) (taking_fails (items_of constant_declaration_of c.loop-constants.constants.items) c.loop-constants.invariant c.in_err-constant.ensures)

pub loop-constants-preserved : goal.loop-constants-preserved
loop-constants-preserved c =
    let item = rw c.in-Some.is at c.in_ok-constant.ensures in
    rw c.in_ok-push_with_doubling.ensures.added (taking_more constant_declaration_of c.loop-constants.constants.items _ _ _ _ _ _ c.loop-constants.invariant item.0)

pub returns : goal.returns
returns c =
    let absent = rw c.in_default.is at c.in_ok-constant.ensures in
    taking_done (items_of constant_declaration_of c.loop-constants.constants.items) c.loop-constants.invariant absent
