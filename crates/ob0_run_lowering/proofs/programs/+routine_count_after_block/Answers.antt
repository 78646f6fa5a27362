use Rattle.ob0_run_lowering.proofs.LoweredBlocks.{count_ends, count_on}
use Rattle.ob0_run_lowering.proofs.programs.+routine_count_after_block.Goals as goal

pub loop-p-preserved : goal.loop-p-preserved
loop-p-preserved t c = record {
  counted = λ r. count_on r c.deref-p-items.result.now c.loop-p.p-index c.p-item.result c.loop-p.after c.in_ok-routine_count_after_block.field-0 c.in_ok-after.after _ (c.loop-p.invariant.counted r) c.loop-p-test.true c.p-item.is (c.in_ok-routine_count_after_block.ensures r) c.in_ok-after.ensures.1;
}

pub returns : goal.returns
returns t c = λ r. count_ends r c.args.b.now c.deref-p-items.result.now c.loop-p.p-index c.args.count c.loop-p.after (c.loop-p.invariant.counted r) c.loop-p-test.false c.deref-p-items.ensures.value
