use Rattle.std.proofs.Common.{◌≡◌, ◌≤◌, length, ◌-◌}
use Rattle.std.specs.Io.KnownBytes.{Consumes}
use Rattle.ob0_commands.proofs.tracked_input.read_up_to_limit.Given as goal

abbrev pub invariant-loop-fault : goal.invariant-loop-fault
invariant-loop-fault g l = record {
  bound : length l.bytes.items ≤ l.fn.most;
  taken : Consumes (g.R.Read.remaining l.fn.reader) (g.R.Read.remaining l.reader) l.bytes.items;
  unfailed : g.R.TrackedInput.has_failed l.reader ≡ g.R.TrackedInput.has_failed l.fn.reader;
}

abbrev pub decreases-loop-fault : goal.decreases-loop-fault
decreases-loop-fault g l = l.fn.most - length l.bytes.items
