use Rattle.std.proofs.lemmas.Result.{err_from_is_err_and}
use Rattle.ob0_tree.specs.View.{items_of, variable_declaration_of}
use Rattle.ob0_parse_descent.proofs.Items.{taking_none, taking_more, taking_done, taking_fails}
use Rattle.ob0_tree.specs.Tree.{variable}
use Rattle.ob0_parse_descent.proofs.parser.Parser.parse_variable_declarations.Goals as goal

pub loop-variables-init : goal.loop-variables-init
loop-variables-init c =
    rw c.new-variables.ensures.items (taking_none variable _ _ _ c.requires)

pub returns-in_err-declared : goal.returns-in_err-declared
returns-in_err-declared c =
    let p = err_from_is_err_and c.from_residual.result c.from_residual.ensures.1 in
    rw (p.1, p.2) (taking_fails (items_of variable_declaration_of c.loop-variables.variables.items) c.loop-variables.invariant c.in_err-declared.ensures)

pub loop-variables-preserved : goal.loop-variables-preserved
loop-variables-preserved c =
    let item = rw c.in-Some.is at c.in_ok-declared.ensures in
    rw c.in_ok-push_with_doubling.ensures.added (taking_more variable_declaration_of c.loop-variables.variables.items _ _ _ _ _ _ c.loop-variables.invariant item.0)

pub returns : goal.returns
returns c =
    let absent = rw c.in_default.is at c.in_ok-declared.ensures in
    taking_done (items_of variable_declaration_of c.loop-variables.variables.items) c.loop-variables.invariant absent
