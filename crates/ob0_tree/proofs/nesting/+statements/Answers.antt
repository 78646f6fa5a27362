use Rattle.std.proofs.Common.{◌≡◌, max, List, [], ◌∷◌, sym, ap, ◌∙◌, refl}
use Rattle.ob0_tree.proofs.Viewed.{while_read, repeat_read, if_parts}
use Rattle.ob0_tree.specs.declared.tree.If.{out-If}
use Rattle.ob0_tree.specs.declared.tree.Statement.{Statement}
use Rattle.ob0_tree.specs.CappedDepth.{capped_to_u32}
use Rattle.ob0_tree.specs.Tree.{nesting, branches}
use Rattle.ob0_tree.specs.View.{items_of, statement_of, statement_after_semicolon_of, sequence_of_list, expression_of, elsif_of, else_part_of}
use Rattle.ob0_tree.proofs.Deepest.{deeper_on, list_ends, two_deep, one_deeper, max_zero}
use Rattle.ob0_tree.proofs.nesting.+statements.Goals as goal

sequence_nests : (ss : List Statement) → nesting (items_of statement_after_semicolon_of ss) ≡ nesting (sequence_of_list ss)
sequence_nests [] = refl
sequence_nests (s ∷ ss) = refl

pub sequence_nesting-loop-s-preserved : goal.sequence_nesting-loop-s-preserved
sequence_nesting-loop-s-preserved t c = deeper_on statement_after_semicolon_of c.s-item.result c.loop-s.invariant c.loop-s-test.true c.s-item.is c.statement_nesting.ensures c.max-deepest.ensures

pub sequence_nesting-returns : goal.sequence_nesting-returns
sequence_nesting-returns t c =
    list_ends c.loop-s.invariant c.loop-s-test.false
    ∙ ap capped_to_u32 (ap (λ xs. nesting (items_of statement_after_semicolon_of xs)) c.deref-s-items.ensures.value ∙ sequence_nests c.args.statements.now.items)

pub elsifs_nesting-loop-e-preserved : goal.elsifs_nesting-loop-e-preserved
elsifs_nesting-loop-e-preserved t c =
    let e = c.e-item.result in
    let parts = two_deep (nesting (expression_of e.condition)) (nesting (sequence_of_list e.then.items)) c.expression_nesting.ensures c.sequence_nesting.ensures c.max.ensures in
    deeper_on elsif_of e c.loop-e.invariant c.loop-e-test.true c.e-item.is parts c.max-deepest.ensures

pub elsifs_nesting-returns : goal.elsifs_nesting-returns
elsifs_nesting-returns t c =
    list_ends c.loop-e.invariant c.loop-e-test.false
    ∙ ap (λ xs. capped_to_u32 (nesting (items_of elsif_of xs))) c.deref-e-items.ensures.value

pub if_nesting-returns-in-Some : goal.if_nesting-returns-in-Some
if_nesting-returns-in-Some t c =
    let i = out-If c.args.i.now in
    let tree = if_parts c.args.i.now ∙ ap (λ o. branches (expression_of i.condition) (sequence_of_list i.then.items) (items_of elsif_of i.elsifs.items) (else_part_of o)) c.in-Some.is in
    let condition = nesting (expression_of i.condition) in
    let then_part = nesting (sequence_of_list i.then.items) in
    let elsifs = nesting (items_of elsif_of i.elsifs.items) in
    let other = nesting (sequence_of_list c.in-Some.statements.items) in
    let first = two_deep condition then_part c.expression_nesting.ensures c.sequence_nesting.ensures c.max-first.ensures in
    let others = two_deep elsifs other c.elsifs_nesting-others.ensures c.sequence_nesting-in-Some.ensures c.max.ensures in
    let all = two_deep (max condition then_part) (max elsifs other) first others c.max-in-Some.ensures in
    one_deeper (max (max condition then_part) (max elsifs other)) all c.capped_increment.ensures ∙ ap (λ t. capped_to_u32 (nesting t)) (sym tree)

pub if_nesting-returns-in-None : goal.if_nesting-returns-in-None
if_nesting-returns-in-None t c =
    let i = out-If c.args.i.now in
    let tree = if_parts c.args.i.now ∙ ap (λ o. branches (expression_of i.condition) (sequence_of_list i.then.items) (items_of elsif_of i.elsifs.items) (else_part_of o)) c.in-None.is in
    let condition = nesting (expression_of i.condition) in
    let then_part = nesting (sequence_of_list i.then.items) in
    let elsifs = nesting (items_of elsif_of i.elsifs.items) in
    let first = two_deep condition then_part c.expression_nesting.ensures c.sequence_nesting.ensures c.max-first.ensures in
    let others = two_deep elsifs 0 c.elsifs_nesting-others.ensures refl (max_zero c.elsifs_nesting-others.result) in
    let all = two_deep (max condition then_part) (max elsifs 0) first others c.max-in-None.ensures in
    one_deeper (max (max condition then_part) (max elsifs 0)) all c.capped_increment-in-None.ensures ∙ ap (λ t. capped_to_u32 (nesting t)) (sym tree)

pub statement_nesting-returns-in-While : goal.statement_nesting-returns-in-While
statement_nesting-returns-in-While t c =
    let condition = nesting (expression_of c.deref-in-While.result.now.condition) in
    let body = nesting (sequence_of_list c.deref-in-While-2.result.now.body.items) in
    let tree = while_read c.in-While.w c.deref-in-While.ensures c.deref-in-While-2.ensures in
    let inner = two_deep condition body c.expression_nesting.ensures c.sequence_nesting.ensures c.max.ensures in
    one_deeper (max condition body) inner c.capped_increment.ensures
    ∙ ap (λ t. capped_to_u32 (nesting t)) (sym tree ∙ sym (ap statement_of c.in-While.is))

pub statement_nesting-returns-in-Repeat : goal.statement_nesting-returns-in-Repeat
statement_nesting-returns-in-Repeat t c =
    let body = nesting (sequence_of_list c.deref-in-Repeat.result.now.body.items) in
    let condition = nesting (expression_of c.deref-in-Repeat-2.result.now.condition) in
    let tree = repeat_read c.in-Repeat.r c.deref-in-Repeat.ensures c.deref-in-Repeat-2.ensures in
    let inner = two_deep body condition c.sequence_nesting-in-Repeat.ensures c.expression_nesting-in-Repeat.ensures c.max-in-Repeat.ensures in
    one_deeper (max body condition) inner c.capped_increment-in-Repeat.ensures
    ∙ ap (λ t. capped_to_u32 (nesting t)) (sym tree ∙ sym (ap statement_of c.in-Repeat.is))
