use Rattle.std.proofs.Common.{◌≡◌, ◌∙◌, ap, sym, rules, arith}
use Rattle.ob0_tree.specs.declared.tree.Factor as factor_module
use Rattle.ob0_tree.specs.declared.tree.Designator.{Designator}
use Rattle.ob0_tree.specs.View.{addend_of, multiplier_of, selector_of, designator_of, factor_of}
use Rattle.ob0_parse.specs.ShiftedTrees.{tree_with_shifted_leaves}
use Rattle.ob0_parse.proofs.Moved.{next_down, ends, parts_moved}
use Rattle.ob0_parse.proofs.MovedParts.{simple_moved, term_moved, designator_moved}
use Rattle.ob0_parse.proofs.leaf_shifts.+expressions.Goals as goal

pub shift_indexes_in_addends-loop-i-preserved : goal.shift_indexes_in_addends-loop-i-preserved
shift_indexes_in_addends-loop-i-preserved t c = next_down c.loop-i.invariant (search (rules, arith)) c.index_mut.ensures.value c.shift_indexes_in_addend.ensures

pub shift_indexes_in_addends-returns : goal.shift_indexes_in_addends-returns
shift_indexes_in_addends-returns t c = parts_moved addend_of c.args.by _ _ (ends c.loop-i.invariant.1 (search (rules, arith)))

pub shift_indexes_in_multipliers-loop-i-preserved : goal.shift_indexes_in_multipliers-loop-i-preserved
shift_indexes_in_multipliers-loop-i-preserved t c = next_down c.loop-i.invariant (search (rules, arith)) c.index_mut.ensures.value c.shift_indexes_in_multiplier.ensures

pub shift_indexes_in_multipliers-returns : goal.shift_indexes_in_multipliers-returns
shift_indexes_in_multipliers-returns t c = parts_moved multiplier_of c.args.by _ _ (ends c.loop-i.invariant.1 (search (rules, arith)))

pub shift_indexes_in_selectors-loop-i-preserved : goal.shift_indexes_in_selectors-loop-i-preserved
shift_indexes_in_selectors-loop-i-preserved t c = next_down c.loop-i.invariant (search (rules, arith)) c.index_mut.ensures.value c.shift_indexes_in_selector.ensures

pub shift_indexes_in_selectors-returns : goal.shift_indexes_in_selectors-returns
shift_indexes_in_selectors-returns t c = parts_moved selector_of c.args.by _ _ (ends c.loop-i.invariant.1 (search (rules, arith)))

pub shift_indexes_in_simple_expression-returns : goal.shift_indexes_in_simple_expression-returns
shift_indexes_in_simple_expression-returns t c = simple_moved c.args.by c.args.s.now c.shift_indexes_in_term.new.t c.shift_indexes_in_addends.new.parts c.shift_indexes_in_term.ensures c.shift_indexes_in_addends.ensures

pub shift_indexes_in_term-returns : goal.shift_indexes_in_term-returns
shift_indexes_in_term-returns t c = term_moved c.args.by c.args.t.now c.shift_indexes_in_factor.new.f c.shift_indexes_in_multipliers.new.parts c.shift_indexes_in_factor.ensures c.shift_indexes_in_multipliers.ensures

pub shift_indexes_in_factor-returns-in-Designator : goal.shift_indexes_in_factor-returns-in-Designator
shift_indexes_in_factor-returns-in-Designator t c =
    let h : designator_of c.shift_indexes_in_designator.new.d ≡ tree_with_shifted_leaves c.args.by (designator_of c.in-Designator.d) =
    c.shift_indexes_in_designator.ensures ∙ ap (λ (d : Designator). tree_with_shifted_leaves c.args.by (designator_of d)) c.in-Designator.d-is in
    let all : factor_of (factor_module.Designator c.shift_indexes_in_designator.new.d) ≡ tree_with_shifted_leaves c.args.by (factor_of c.args.f.now) =
    designator_moved c.args.by c.in-Designator.d c.shift_indexes_in_designator.new.d h ∙ ap (λ f. tree_with_shifted_leaves c.args.by (factor_of f)) (sym c.in-Designator.is) in
    search (rules, factor_module.the_lemmas, all)
