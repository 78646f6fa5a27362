use Rattle.ob0_run_lowering.proofs.LaidOut.{table_ends, table_goes_on}
use Rattle.ob0_run_lowering.proofs.type_layouts.lay_out_types.Goals as goal

pub loop-shape-preserved : goal.loop-shape-preserved
loop-shape-preserved c =
    table_goes_on c.type_entries-shape-items.result.now c.loop-shape.shape-index c.loop-shape.layouts.items c.shape-item.result c.in_ok-next.next c.as_slice.result.now c.push.new.self.items c.loop-shape.invariant c.loop-shape-test.true c.shape-item.is c.as_slice.ensures.value c.in_ok-next.ensures c.in_ok-push.ensures.items

pub returns : goal.returns
returns c = table_ends c.type_entries-shape-items.result.now c.loop-shape.shape-index c.loop-shape.layouts.items c.args.known.now.shapes c.loop-shape.invariant c.loop-shape-test.false c.type_entries-shape-items.ensures
