use Rattle.std.proofs.Common.{arith}
use Rattle.ob0_frame.proofs.Heads.{no_line_more, head_to, no_line_all}
use Rattle.ob0_frame.proofs.head.head_length.Goals as goal

pub returns-then-ends_in_empty_line-clause-head : goal.returns-then-ends_in_empty_line-clause-head
returns-then-ends_in_empty_line-clause-head c = head_to c.args.bytes.now c.loop-end.end c.loop-end.invariant (c.ends_in_empty_line.ensures.0 c.if-ends_in_empty_line.true)

pub loop-end-preserved : goal.loop-end-preserved
loop-end-preserved c = no_line_more c.args.bytes.now c.loop-end.end c.loop-end.invariant (λ ends. let empty = c.ends_in_empty_line.ensures.1 ends in cc)

pub returns-clause-none : goal.returns-clause-none
returns-clause-none c = no_line_all c.args.bytes.now c.loop-end.end (omega arith) c.loop-end.invariant
