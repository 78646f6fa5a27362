use Rattle.ob0_rpc.proofs.AppendedJson.{plain_next}
use Rattle.ob0_rpc.proofs.json_text.needs_no_escape.Goals as goal

pub loop-byte-preserved : goal.loop-byte-preserved
loop-byte-preserved c = plain_next c.args.text.now c.loop-byte.byte-index _ c.loop-byte-test.true c.loop-byte.invariant c.if-byte-lt32.false c.if-byte-eq34.false c.if-byte-eq92.false
