use Rattle.std.proofs.Common.{sym, ap, ◌∙◌}
use Rattle.ob0_tree.proofs.Viewed.{designator_made}
use Rattle.ob0_tree.specs.View.{factor_of}
use Rattle.ob0_types_table.specs.Designators.{designator_of_factor}
use Rattle.ob0_types_table.proofs.lone_designators.designator_of_factor.Goals as goal

pub returns-in-Designator : goal.returns-in-Designator
returns-in-Designator c = sym (ap designator_of_factor (designator_made c.in-Designator.d)) ∙ sym (ap (λ f. designator_of_factor (factor_of f)) c.in-Designator.is)

pub returns-in-Integer : goal.returns-in-Integer
returns-in-Integer c = sym (ap (λ f. designator_of_factor (factor_of f)) c.in-Integer.is)

pub returns-in-Parenthesised : goal.returns-in-Parenthesised
returns-in-Parenthesised c = sym (ap (λ f. designator_of_factor (factor_of f)) c.in-Parenthesised.is)

pub returns-in-Not : goal.returns-in-Not
returns-in-Not c = sym (ap (λ f. designator_of_factor (factor_of f)) c.in-Not.is)
