use Rattle.std.proofs.Common.{length, string_bytes}
use Rattle.ob0_commands.proofs.Lines.{Gathered}
use Rattle.ob0_commands.proofs.check_command.diagnosis_lines_at_positions.Given as goal

abbrev pub invariant-loop-diagnosis : goal.invariant-loop-diagnosis
invariant-loop-diagnosis l = Gathered l.reported l.positions (length l.yielded) (string_bytes l.lines)
