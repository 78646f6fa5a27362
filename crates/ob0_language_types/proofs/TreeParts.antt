-- The tree of an expression is built from the trees of its parts.
use Rattle.std.proofs.Common.{◌≡◌, Some, None, sym, ap, ◌∙◌}
use Rattle.ob0_tree.specs.declared.tree.CompoundExpression.{CompoundExpression, out-CompoundExpression, roll-out-CompoundExpression, back-CompoundExpression-compared}
use Rattle.ob0_tree.specs.declared.tree.Comparison.{Comparison, out-Comparison, roll-out-Comparison}
use Rattle.ob0_tree.specs.declared.tree.Addend.{Addend, out-Addend, roll-out-Addend}
use Rattle.ob0_tree.specs.Tree.{adds, compares, none, one, relates}
use Rattle.ob0_tree.specs.View.{addend_of, maybe_comparison_of, comparison_of, compound_expression_of, simple_expression_of, term_of}
use Rattle.ob0_tree.proofs.Viewed.{addend_made, comparison_made, compound_made}

pub addend_parts : (a : Addend) → addend_of a ≡ adds (out-Addend a).operator (term_of (out-Addend a).term)
addend_parts a = sym (ap addend_of (roll-out-Addend a)) ∙ addend_made (out-Addend a)

pub comparison_parts : (c : Comparison) → comparison_of c ≡ relates (out-Comparison c).relation (simple_expression_of (out-Comparison c).right)
comparison_parts c = sym (ap comparison_of (roll-out-Comparison c)) ∙ comparison_made (out-Comparison c)

pub compound_alone : (e : CompoundExpression) → (out-CompoundExpression e).compared ≡ None → compound_expression_of e ≡ compares (simple_expression_of (out-CompoundExpression e).left) none
compound_alone e h =
    sym (ap compound_expression_of (roll-out-CompoundExpression e)) ∙ compound_made (out-CompoundExpression e)
    ∙ ap (λ c. compares (simple_expression_of (out-CompoundExpression e).left) (maybe_comparison_of (back-CompoundExpression-compared c))) h

pub compound_related : (e : CompoundExpression) (c : _) → (out-CompoundExpression e).compared ≡ Some c → compound_expression_of e ≡ compares (simple_expression_of (out-CompoundExpression e).left) (one (relates (out-Comparison c.value).relation (simple_expression_of (out-Comparison c.value).right)))
compound_related e c h =
    sym (ap compound_expression_of (roll-out-CompoundExpression e)) ∙ compound_made (out-CompoundExpression e)
    ∙ ap (λ o. compares (simple_expression_of (out-CompoundExpression e).left) (maybe_comparison_of (back-CompoundExpression-compared o))) h
    ∙ ap (λ t. compares (simple_expression_of (out-CompoundExpression e).left) (one t)) (comparison_parts c.value)
