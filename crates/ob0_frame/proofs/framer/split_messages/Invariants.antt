use Rattle.std.proofs.Common.{◌-◌, length, map}
use Rattle.ob0_frame.specs.MessageStage.{SplitsMessages}
use Rattle.ob0_frame.proofs.framer.split_messages.Given as goal

abbrev pub invariant-loop-stage : goal.invariant-loop-stage
invariant-loop-stage l = SplitsMessages l.bytes (map (λ v. v.items) l.contents.items) l.taken l.stage

abbrev pub decreases-loop-stage : goal.decreases-loop-stage
decreases-loop-stage l = length l.bytes - l.taken
