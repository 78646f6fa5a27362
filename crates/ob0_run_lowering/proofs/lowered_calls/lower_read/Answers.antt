use Rattle.std.proofs.Common.{sym}
use Rattle.ob0_run_machine.specs.LoweredSyntax.{writes_line}
use Rattle.ob0_run_lowering.proofs.Called.{nothing_read, lower_read}
use Rattle.ob0_run_lowering.proofs.lowered_calls.lower_read.Goals as goal

pub returns-in-None : goal.returns-in-None
returns-in-None c = λ x declared. nothing_read c.args.scene.now x c.args.given.now writes_line (sym c.in-None.ensures) declared

pub returns-in_ok-at-in-Some : goal.returns-in_ok-at-in-Some
returns-in_ok-at-in-Some c = λ x declared. lower_read c.args.scene.now x c.args.given.now c.in-Some.e.now c.in_ok-at-in-Some.at (sym c.in-Some.ensures) c.in_ok-at-in-Some.ensures declared
