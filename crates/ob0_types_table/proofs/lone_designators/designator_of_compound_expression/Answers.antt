use Rattle.std.proofs.Common.{sym, ap, ◌∙◌}
use Rattle.ob0_tree.specs.declared.tree.CompoundExpression.{out-CompoundExpression}
use Rattle.ob0_tree.specs.declared.tree.Comparison.{out-Comparison}
use Rattle.ob0_tree.specs.Tree.{relates}
use Rattle.ob0_tree.specs.View.{simple_expression_of}
use Rattle.ob0_language_types.specs.Typing.{lone_designator}
use Rattle.ob0_types_table.proofs.DesignatedAlone.{alone_designated, compared_designated}
use Rattle.ob0_language_types.proofs.TreeParts.{compound_alone, compound_related}
use Rattle.ob0_types_table.proofs.lone_designators.designator_of_compound_expression.Goals as goal

pub returns-in-None : goal.returns-in-None
returns-in-None c =
    let left = simple_expression_of (out-CompoundExpression c.args.c.now).left in
    c.designator_of_simple_expression.ensures ∙ sym (alone_designated left) ∙ sym (ap lone_designator (compound_alone c.args.c.now c.in-None.is))

pub returns-in-Some : goal.returns-in-Some
returns-in-Some c =
    let left = simple_expression_of (out-CompoundExpression c.args.c.now).left in
    let compared = out-Comparison c.in-Some.field-0.value in
    sym (compared_designated left (relates compared.relation (simple_expression_of compared.right))) ∙ sym (ap lone_designator (compound_related c.args.c.now c.in-Some.field-0 c.in-Some.is))
