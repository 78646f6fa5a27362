use Rattle.std.proofs.lemmas.Result.{err_from_is_err_and}
use Rattle.ob0_tree.specs.View.{items_of, type_declaration_of}
use Rattle.ob0_parse_descent.proofs.Items.{taking_none, taking_more, taking_done, taking_fails}
use Rattle.ob0_tree.specs.Tree.{type_definition}
use Rattle.ob0_parse_descent.proofs.parser.Parser.parse_type_declarations.Goals as goal

pub loop-types-init : goal.loop-types-init
loop-types-init c =
    rw c.new-types.ensures.items (taking_none type_definition _ _ _ c.requires)

pub returns-in_err-declaration : goal.returns-in_err-declaration
returns-in_err-declaration c =
    let p = err_from_is_err_and c.from_residual.result c.from_residual.ensures.1 in
    rw (p.1, p.2) (taking_fails (items_of type_declaration_of c.loop-types.types.items) c.loop-types.invariant c.in_err-declaration.ensures)

pub loop-types-preserved : goal.loop-types-preserved
loop-types-preserved c =
    let item = rw c.in-Some.is at c.in_ok-declaration.ensures in
    rw c.in_ok-push_with_doubling.ensures.added (taking_more type_declaration_of c.loop-types.types.items _ _ _ _ _ _ c.loop-types.invariant item.0)

pub returns : goal.returns
returns c =
    let absent = rw c.in_default.is at c.in_ok-declaration.ensures in
    taking_done (items_of type_declaration_of c.loop-types.types.items) c.loop-types.invariant absent
