use Rattle.std.proofs.Common.{sym}
use Rattle.ob0_run_machine.specs.LoweredSyntax.{writes_line}
use Rattle.ob0_run_lowering.proofs.Called.{nothing_written, written}
use Rattle.ob0_run_lowering.proofs.lowered_calls.lower_write.Goals as goal

pub returns-in-None : goal.returns-in-None
returns-in-None c = λ x declared. nothing_written c.args.scene.now x c.args.given.now writes_line (sym c.in-None.ensures) declared

pub returns-in_ok-n-in-Some : goal.returns-in_ok-n-in-Some
returns-in_ok-n-in-Some c = λ x declared. written c.args.scene.now x c.args.given.now c.in-Some.e.now c.in_ok-n-in-Some.n (sym c.in-Some.ensures) c.in_ok-n-in-Some.ensures declared
