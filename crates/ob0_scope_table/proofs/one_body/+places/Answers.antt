use Rattle.std.proofs.Common.{sym, ap, ◌∙◌, arith}
use Rattle.ob0_tree.specs.View.{body_of, items_of, procedure_of}
use Rattle.ob0_tree.specs.declared.tree.Block.{out-Block}
use Rattle.ob0_scope_table.proofs.BodyPlaces.{block_place, in_procedure, in_statements, past_end, past_one, place_among}
use Rattle.ob0_scope_table.proofs.one_body.+places.Goals as goal

pub body_bounds_in_block-returns-then-high-p : goal.body_bounds_in_block-returns-then-high-p
body_bounds_in_block-returns-then-high-p t c =
    let statements = body_of (out-Block c.args.b.now).body in
    let here = past_end c.args.low c.args.high c.args.closing statements c.deref-p-items.result.now c.loop-p.p-index c.p-item.result c.loop-p-test.true c.p-item.is (omega (arith, c.if-p-low.true)) (omega (arith, c.if-high-p.true)) in
    sym (block_place c.args.low c.args.high c.args.closing c.args.b.now ∙ (ap (λ xs. place_among c.args.low c.args.high c.args.closing (items_of procedure_of xs) statements) (sym c.deref-p-items.ensures.value) ∙ (sym c.loop-p.invariant ∙ here)))

pub body_bounds_in_block-returns-then-p-low : goal.body_bounds_in_block-returns-then-p-low
body_bounds_in_block-returns-then-p-low t c =
    let statements = body_of (out-Block c.args.b.now).body in
    let here = in_procedure c.args.low c.args.high c.args.closing statements c.deref-p-items.result.now c.loop-p.p-index c.p-item.result c.loop-p-test.true c.p-item.is (omega (arith, c.if-p-low.true)) (omega (arith, c.if-high-p.false)) in
    let whole = block_place c.args.low c.args.high c.args.closing c.args.b.now ∙ (ap (λ xs. place_among c.args.low c.args.high c.args.closing (items_of procedure_of xs) statements) (sym c.deref-p-items.ensures.value) ∙ (sym c.loop-p.invariant ∙ here)) in
    c.body_bounds_in_procedure.ensures ∙ sym whole

pub body_bounds_in_block-loop-p-preserved : goal.body_bounds_in_block-loop-p-preserved
body_bounds_in_block-loop-p-preserved t c =
    past_one c.args.low c.args.high c.args.closing (body_of (out-Block c.args.b.now).body) c.deref-p-items.result.now c.loop-p.p-index c.p-item.result c.loop-p-test.true c.p-item.is (omega (arith, c.if-p-low.false))
    ∙ c.loop-p.invariant

pub body_bounds_in_block-returns : goal.body_bounds_in_block-returns
body_bounds_in_block-returns t c =
    let statements = body_of (out-Block c.args.b.now).body in
    let here = in_statements c.args.low c.args.high c.args.closing statements c.deref-p-items.result.now c.loop-p.p-index (omega (arith, c.loop-p-test.false)) in
    let whole = block_place c.args.low c.args.high c.args.closing c.args.b.now ∙ (ap (λ xs. place_among c.args.low c.args.high c.args.closing (items_of procedure_of xs) statements) (sym c.deref-p-items.ensures.value) ∙ (sym c.loop-p.invariant ∙ here)) in
    c.body_bounds_of_statements.ensures ∙ sym whole
