use Rattle.std.proofs.Common.{length, ◌-◌}
use Rattle.ob0_commands.proofs.Gathering.{Gathered}
use Rattle.ob0_commands.proofs.input_numbers.parse_number_list.Given as goal

abbrev pub invariant-loop-at : goal.invariant-loop-at
invariant-loop-at l = Gathered l.text l.at l.numbers.items

abbrev pub decreases-loop-at : goal.decreases-loop-at
decreases-loop-at l = length l.text - l.at
