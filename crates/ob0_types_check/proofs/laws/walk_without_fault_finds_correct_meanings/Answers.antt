use Rattle.ob0_types_check.proofs.BlocksKnown.{walk_without_fault_finds_correct_meanings-holds}
use Rattle.ob0_types_check.proofs.laws.walk_without_fault_finds_correct_meanings.Goals as goal

pub returns : goal.returns
returns c = walk_without_fault_finds_correct_meanings-holds
