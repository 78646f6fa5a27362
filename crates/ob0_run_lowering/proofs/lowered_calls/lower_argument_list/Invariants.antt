use Rattle.std.proofs.Common.{length}
use Rattle.ob0_run_lowering.proofs.Called.{ArgumentsMade}
use Rattle.ob0_run_lowering.proofs.lowered_calls.lower_argument_list.Given as goal

abbrev pub invariant-loop-formal : goal.invariant-loop-formal
invariant-loop-formal l = ArgumentsMade l.scene l.formals l.given.items (length l.yielded) l.made.items
