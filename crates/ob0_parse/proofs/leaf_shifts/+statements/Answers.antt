use Rattle.std.proofs.Common.{◌≡◌, Box, Some, refl, sym, ◌∙◌, ap, rules, arith}
use Rattle.std.specs.declared.alloc.Global.{Global}
use Rattle.ob0_tree.specs.declared.tree.Statement as statement_module
use Rattle.ob0_tree.specs.declared.tree.While.{While}
use Rattle.ob0_tree.specs.declared.tree.Repeat.{Repeat}
use Rattle.ob0_tree.specs.Tree.{one, else_branch}
use Rattle.ob0_tree.specs.View.{elsif_of, statement_of, else_part_of, expression_of, sequence_of_list}
use Rattle.ob0_parse.specs.ShiftedTrees.{tree_with_shifted_leaves}
use Rattle.ob0_parse.proofs.Moved.{next_down, ends, parts_moved, sequence_moved}
use Rattle.ob0_parse.proofs.MovedParts.{while_moved, repeat_moved, if_moved}
use Rattle.ob0_parse.proofs.leaf_shifts.+statements.Goals as goal

pub shift_indexes_in_sequence-loop-i-preserved : goal.shift_indexes_in_sequence-loop-i-preserved
shift_indexes_in_sequence-loop-i-preserved t c = next_down c.loop-i.invariant (search (rules, arith)) c.index_mut.ensures.value c.shift_indexes_in_statement.ensures

pub shift_indexes_in_sequence-returns : goal.shift_indexes_in_sequence-returns
shift_indexes_in_sequence-returns t c = sequence_moved c.args.by _ _ (ends c.loop-i.invariant.1 (search (rules, arith)))

pub shift_indexes_in_elsifs-loop-i-preserved : goal.shift_indexes_in_elsifs-loop-i-preserved
shift_indexes_in_elsifs-loop-i-preserved t c = next_down c.loop-i.invariant (search (rules, arith)) c.index_mut.ensures.value c.shift_indexes_in_elsif.ensures

pub shift_indexes_in_elsifs-returns : goal.shift_indexes_in_elsifs-returns
shift_indexes_in_elsifs-returns t c = parts_moved elsif_of c.args.by _ _ (ends c.loop-i.invariant.1 (search (rules, arith)))

pub shift_indexes_in_statement-returns-in-While : goal.shift_indexes_in_statement-returns-in-While
shift_indexes_in_statement-returns-in-While t c =
    let was : c.deref_mut-in-While.result.now ≡ c.in-While.w.value = c.deref_mut-in-While.ensures.value ∙ ap (λ (b : Box While Global). b.value) c.in-While.w-is in
    let all : statement_of (statement_module.While record c.in-While.w { value = c.shift_indexes_in_while.new.w }) ≡ tree_with_shifted_leaves c.args.by (statement_of c.args.s.now) =
    while_moved c.args.by c.in-While.w record c.in-While.w { value = c.shift_indexes_in_while.new.w }
    (c.shift_indexes_in_while.ensures.condition ∙ ap (λ (w : While). tree_with_shifted_leaves c.args.by (expression_of w.condition)) was)
    (c.shift_indexes_in_while.ensures.body ∙ ap (λ (w : While). tree_with_shifted_leaves c.args.by (sequence_of_list w.body.items)) was)
    ∙ ap (λ s. tree_with_shifted_leaves c.args.by (statement_of s)) (sym c.in-While.is) in
    search (rules, statement_module.the_lemmas, all)

pub shift_indexes_in_statement-returns-in-Repeat : goal.shift_indexes_in_statement-returns-in-Repeat
shift_indexes_in_statement-returns-in-Repeat t c =
    let was : c.deref_mut-in-Repeat.result.now ≡ c.in-Repeat.r.value = c.deref_mut-in-Repeat.ensures.value ∙ ap (λ (b : Box Repeat Global). b.value) c.in-Repeat.r-is in
    let all : statement_of (statement_module.Repeat record c.in-Repeat.r { value = c.shift_indexes_in_repeat.new.r }) ≡ tree_with_shifted_leaves c.args.by (statement_of c.args.s.now) =
    repeat_moved c.args.by c.in-Repeat.r record c.in-Repeat.r { value = c.shift_indexes_in_repeat.new.r }
    (c.shift_indexes_in_repeat.ensures.body ∙ ap (λ (r : Repeat). tree_with_shifted_leaves c.args.by (sequence_of_list r.body.items)) was)
    (c.shift_indexes_in_repeat.ensures.condition ∙ ap (λ (r : Repeat). tree_with_shifted_leaves c.args.by (expression_of r.condition)) was)
    ∙ ap (λ s. tree_with_shifted_leaves c.args.by (statement_of s)) (sym c.in-Repeat.is) in
    search (rules, all)

pub shift_indexes_in_if-returns-in-Some : goal.shift_indexes_in_if-returns-in-Some
shift_indexes_in_if-returns-in-Some t c =
    if_moved c.args.by c.args.i.now _ _ _ c.shift_indexes_in_expression.new.e c.shift_indexes_in_sequence.new.statements c.shift_indexes_in_elsifs.new.parts (Some c.shift_indexes_in_sequence-in-Some.new.statements) refl refl refl
    c.shift_indexes_in_expression.ensures c.shift_indexes_in_sequence.ensures c.shift_indexes_in_elsifs.ensures
    (ap (λ s. one (else_branch s)) c.shift_indexes_in_sequence-in-Some.ensures ∙ ap (λ o. tree_with_shifted_leaves c.args.by (else_part_of o)) (sym c.in-Some.is))

pub shift_indexes_in_if-returns-in-None : goal.shift_indexes_in_if-returns-in-None
shift_indexes_in_if-returns-in-None t c =
    if_moved c.args.by c.args.i.now _ _ _ c.shift_indexes_in_expression.new.e c.shift_indexes_in_sequence.new.statements c.shift_indexes_in_elsifs.new.parts _ refl refl refl
    c.shift_indexes_in_expression.ensures c.shift_indexes_in_sequence.ensures c.shift_indexes_in_elsifs.ensures
    (ap else_part_of c.in-None.is ∙ ap (λ o. tree_with_shifted_leaves c.args.by (else_part_of o)) (sym c.in-None.is))
