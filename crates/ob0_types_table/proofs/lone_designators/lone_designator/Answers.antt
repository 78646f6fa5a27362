use Rattle.std.proofs.Common.{sym, ap, ◌∙◌}
use Rattle.ob0_tree.specs.View.{compound_expression_of, expression_of, factor_of}
use Rattle.ob0_language_types.specs.Typing.{lone_designator}
use Rattle.ob0_types_table.proofs.DesignatedAlone.{one_designated}
use Rattle.ob0_types_table.proofs.lone_designators.lone_designator.Goals as goal

pub returns-in-Factor : goal.returns-in-Factor
returns-in-Factor c =
    c.designator_of_factor.ensures ∙ (one_designated (factor_of c.in-Factor.f) ∙ sym (ap (λ e. lone_designator (expression_of e)) c.in-Factor.is))

pub returns-in-CompoundExpression : goal.returns-in-CompoundExpression
returns-in-CompoundExpression c =
    c.designator_of_compound_expression.ensures ∙ (ap (λ e. lone_designator (compound_expression_of e)) c.deref.ensures ∙ sym (ap (λ e. lone_designator (expression_of e)) c.in-CompoundExpression.is))
