use Rattle.std.proofs.Common.{◌≡◌, ◌≤◌, ◌-◌, length, take}
use Rattle.ob0_session.specs.ServeSteps.{WritesToStream}
use Rattle.ob0_session.proofs.complete_writes.write_all_bytes.Given as goal

abbrev pub invariant-loop-written : goal.invariant-loop-written
invariant-loop-written g l = record {
  within : l.written ≤ length l.bytes;
  taken : WritesToStream (g.S.Stream.state l.fn.stream) (g.S.Stream.state l.stream) (take l.written l.bytes);
  same : (g.S.Stream.state l.stream).output.has_failed ≡ (g.S.Stream.state l.fn.stream).output.has_failed;
}

abbrev pub decreases-loop-written : goal.decreases-loop-written
decreases-loop-written g l = length l.bytes - l.written
