use Rattle.std.proofs.Common.{◌+◌, ◌*◌}
use Rattle.ob0_run_machine.proofs.calls.+call+fn-call-enter.Given as goal

abbrev pub decreases-call : goal.decreases-call
decreases-call l = l.calls * 2

abbrev pub decreases-enter : goal.decreases-enter
decreases-enter l = l.left * 2 + 1
