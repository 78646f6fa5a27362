use Rattle.std.proofs.Common.{sym, ◌∙◌, arith}
use Rattle.std.proofs.lemmas.Bool.{eqb-true, le-ltb}
use Rattle.ob0_tree.specs.Tree.{nesting}
use Rattle.ob0_inline.specs.Values.{value_factor}
use Rattle.ob0_inline.proofs.Shallower.{value_shallow}
use Rattle.ob0_inline.proofs.nesting_limit.is_edited_text_nested_too_deeply.Goals as goal

pub returns-then-is_written_without_parentheses-clause-deep : goal.returns-then-is_written_without_parentheses-clause-deep
returns-then-is_written_without_parentheses-clause-deep g c = λ ws t leaves spelled low.
    let flat = eqb-true (nesting (value_factor c.args.value)) 0 (sym c.is_written_without_parentheses.ensures ∙ c.if-is_written_without_parentheses.true) in
    sym (le-ltb 100 (nesting t) (omega (arith, low, flat, c.requires.shallow)))

pub returns-then-nesting-lt-MAX_NESTING-clause-deep : goal.returns-then-nesting-lt-MAX_NESTING-clause-deep
returns-then-nesting-lt-MAX_NESTING-clause-deep g c = λ ws t leaves spelled low.
    sym (le-ltb 100 (nesting t) (omega (arith, low, value_shallow c.args.value, c.nesting.ensures, c.if-nesting-lt-MAX_NESTING.true)))

pub returns-clause-deep : goal.returns-clause-deep
returns-clause-deep g c = λ ws t leaves spelled low. c.is_reparsed_text_nested_too_deeply.ensures.deep ws t leaves spelled
