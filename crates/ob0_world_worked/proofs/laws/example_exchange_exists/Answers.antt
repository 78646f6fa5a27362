use Rattle.ob0_world_worked.proofs.WorkedExchange.{example_exchange_exists}
use Rattle.ob0_world_worked.proofs.laws.example_exchange_exists.Goals as goal

pub returns : goal.returns
returns c = example_exchange_exists c.constant_uses_are_factors.ensures c.inlining_keeps_typing_and_runs.ensures c.inlining_everywhere_keeps_typing_and_runs.ensures
