use Rattle.std.proofs.Common.{sym, ap, ◌∙◌, arith}
use Rattle.ob0_tree.specs.View.{body_of, items_of, procedure_of}
use Rattle.ob0_tree.specs.declared.tree.Block.{out-Block}
use Rattle.ob0_tree.proofs.Viewed.{block_parts}
use Rattle.ob0_types.specs.OneBody.{body_with_token_in_procedures, body_with_token_in_block}
use Rattle.ob0_types.proofs.Procedures.{in_one, past_all, past_one}
use Rattle.ob0_types.proofs.one_body.+blocks.Goals as goal

pub body_with_token_in_block-returns-then-p-token : goal.body_with_token_in_block-returns-then-p-token
body_with_token_in_block-returns-then-p-token t c =
    let statements = body_of (out-Block c.args.b.now).body in
    let here = in_one c.args.token statements c.deref-p-items.result.now c.loop-p.p-index c.p-item.result c.loop-p-test.true c.p-item.is (omega (arith, c.if-p-token.true)) in
    c.body_with_token_in_procedure.ensures
    ∙ sym (ap (body_with_token_in_block c.args.token) (block_parts c.args.b.now) ∙ (ap (λ xs. body_with_token_in_procedures c.args.token (items_of procedure_of xs) statements) (sym c.deref-p-items.ensures.value) ∙ (sym c.loop-p.invariant ∙ here)))

pub body_with_token_in_block-loop-p-preserved : goal.body_with_token_in_block-loop-p-preserved
body_with_token_in_block-loop-p-preserved t c =
    past_one c.args.token (body_of (out-Block c.args.b.now).body) c.deref-p-items.result.now c.loop-p.p-index c.p-item.result c.loop-p-test.true c.p-item.is (omega (arith, c.if-p-token.false)) ∙ c.loop-p.invariant

pub body_with_token_in_block-returns : goal.body_with_token_in_block-returns
body_with_token_in_block-returns t c =
    let statements = body_of (out-Block c.args.b.now).body in
    let here = past_all c.args.token statements c.deref-p-items.result.now c.loop-p.p-index (omega (arith, c.loop-p-test.false)) in
    sym (ap (body_with_token_in_block c.args.token) (block_parts c.args.b.now) ∙ (ap (λ xs. body_with_token_in_procedures c.args.token (items_of procedure_of xs) statements) (sym c.deref-p-items.ensures.value) ∙ (sym c.loop-p.invariant ∙ here)))
