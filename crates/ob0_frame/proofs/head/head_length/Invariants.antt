use Rattle.std.proofs.Common.{take}
use Rattle.ob0_frame.specs.Head.{HasNoEmptyLine}
use Rattle.ob0_frame.proofs.head.head_length.Given as goal

abbrev pub invariant-loop-end : goal.invariant-loop-end
invariant-loop-end l = HasNoEmptyLine (take l.end l.bytes)
