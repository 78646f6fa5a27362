use Rattle.ob0_world_determined.proofs.laws.resolution_is_determined.Goals as goal
use Rattle.ob0_world_determined.proofs.Tables.{resolution_is_determined}

pub returns : goal.returns
returns c = resolution_is_determined
