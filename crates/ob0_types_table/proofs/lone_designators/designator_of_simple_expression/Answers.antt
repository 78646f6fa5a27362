use Rattle.std.proofs.Common.{◌≡◌, ◌<◌, length, sym, ap, ◌∙◌, arith}
use Rattle.std.proofs.lemmas.Bool.Decides.{nat_tests}
use Rattle.ob0_tree.proofs.Viewed.{simple_parts}
use Rattle.ob0_tree.specs.declared.tree.SimpleExpression.{out-SimpleExpression}
use Rattle.ob0_tree.specs.View.{addend_of, items_of, term_of}
use Rattle.ob0_types_table.specs.Designators.{designator_of_simple_expression}
use Rattle.ob0_types_table.proofs.DesignatedAlone.{added_designated, signed_designated, term_designated}
use Rattle.ob0_types_table.proofs.lone_designators.designator_of_simple_expression.Goals as goal

pub returns-then-is_empty : goal.returns-then-is_empty
returns-then-is_empty c =
    let s = out-SimpleExpression c.args.s.now in
    let ok = s.more.ok.0 in
    let none : length s.more.items ≡ 0 = grind (arith, nat_tests) in
    c.designator_of_term.ensures ∙ sym (term_designated s.sign (term_of s.first) s.more.items c.in-None.is none) ∙ sym (ap designator_of_simple_expression (simple_parts c.args.s.now))

pub returns-else-is_empty : goal.returns-else-is_empty
returns-else-is_empty c =
    let s = out-SimpleExpression c.args.s.now in
    let ok = s.more.ok.0 in
    let some : 0 < length s.more.items = grind (arith, nat_tests) in
    sym (added_designated s.sign (term_of s.first) s.more.items c.in-None.is some) ∙ sym (ap designator_of_simple_expression (simple_parts c.args.s.now))

pub returns-in-Some : goal.returns-in-Some
returns-in-Some c =
    let s = out-SimpleExpression c.args.s.now in
    sym (signed_designated s.sign (term_of s.first) (items_of addend_of s.more.items) _ c.in-Some.is) ∙ sym (ap designator_of_simple_expression (simple_parts c.args.s.now))
