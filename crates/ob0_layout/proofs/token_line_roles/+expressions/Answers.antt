use Rattle.std.proofs.Common.{◌≡◌, ◌++◌, IfOk, sym, ap, ◌∙◌, subst}
use Rattle.ob0_tree.proofs.Viewed.{designator_made, simple_parts, term_parts}
use Rattle.ob0_tree.specs.declared.tree.SimpleExpression.{out-SimpleExpression}
use Rattle.ob0_tree.specs.declared.tree.Term.{out-Term}
use Rattle.ob0_tree.specs.View.{items_of, expression_of, compound_expression_of, addend_of, multiplier_of, term_of, factor_of}
use Rattle.ob0_layout.specs.LineRoles.{line_roles, optional_sign_role}
use Rattle.ob0_layout.proofs.Walks.{factor_alone, walk_ends, after_two, after_three}
use Rattle.ob0_layout.proofs.token_line_roles.+expressions.Goals as goal

pub add_expression_roles-returns-in-Factor : goal.add_expression_roles-returns-in-Factor
add_expression_roles-returns-in-Factor t c =
    subst (λ z. IfOk c.add_factor_roles.result (λ _. c.add_factor_roles.new.out.items ≡ c.args.out.now.items ++ z))
    (sym (ap (λ e. line_roles 0 (expression_of e)) c.in-Factor.is ∙ factor_alone 0 (factor_of c.in-Factor.f))) c.add_factor_roles.ensures

pub add_expression_roles-returns-in-CompoundExpression : goal.add_expression_roles-returns-in-CompoundExpression
add_expression_roles-returns-in-CompoundExpression t c =
    subst (λ z. IfOk c.add_compound_expression_roles.result (λ _. c.add_compound_expression_roles.new.out.items ≡ c.args.out.now.items ++ z))
    (ap (λ e. line_roles 0 (compound_expression_of e)) c.deref.ensures ∙ sym (ap (λ e. line_roles 0 (expression_of e)) c.in-CompoundExpression.is)) c.add_compound_expression_roles.ensures

pub add_factor_roles-returns-in-Designator : goal.add_factor_roles-returns-in-Designator
add_factor_roles-returns-in-Designator t c =
    subst (λ z. IfOk c.add_designator_roles.result (λ _. c.add_designator_roles.new.out.items ≡ c.args.out.now.items ++ z))
    (ap (line_roles 0) (sym (designator_made c.in-Designator.d) ∙ sym (ap factor_of c.in-Designator.is))) c.add_designator_roles.ensures

pub add_simple_expression_roles-returns : goal.add_simple_expression_roles-returns
add_simple_expression_roles-returns t c =
    let items = walk_ends c.loop-addend.invariant c.loop-addend-test.false in
    let listed = ap (λ xs. line_roles 0 (items_of addend_of xs)) c.deref-addend-items.ensures.value in
    let s = out-SimpleExpression c.args.s.now in
    after_three c.args.out.now.items (optional_sign_role s.sign) (line_roles 0 (term_of s.first)) (line_roles 0 (items_of addend_of c.deref-addend-items.result.now)) c.in_ok-add_optional_sign_role.ensures c.in_ok-add_term_roles.ensures items listed ∙ ap (λ s. c.args.out.now.items ++ line_roles 0 s) (sym (simple_parts c.args.s.now))

pub add_term_roles-returns : goal.add_term_roles-returns
add_term_roles-returns t c =
    let items = walk_ends c.loop-multiplier.invariant c.loop-multiplier-test.false in
    let listed = ap (λ xs. line_roles 0 (items_of multiplier_of xs)) c.deref-multiplier-items.ensures.value in
    let f = (out-Term c.args.t.now).first in
    after_two c.args.out.now.items (line_roles 0 (factor_of f)) (line_roles 0 (items_of multiplier_of c.deref-multiplier-items.result.now)) c.in_ok-add_factor_roles.ensures items listed ∙ ap (λ t. c.args.out.now.items ++ line_roles 0 t) (sym (term_parts c.args.t.now))
