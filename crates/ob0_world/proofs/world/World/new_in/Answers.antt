use Rattle.std.proofs.Common.{refl, subst, sym}
use Rattle.ob0_world_rules.specs.ClientAndServer.{ClientAndServer}
use Rattle.ob0_world.specs.Queues.{CountsAreAtMost, IsReachable}
use Rattle.ob0_world.proofs.Counting.{within_start}
use Rattle.ob0_world.proofs.Stepping.{reached_start}
use Rattle.ob0_world.proofs.world.World.new_in.Goals as goal

pub invariant_of-result : goal.invariant_of-result
invariant_of-result g c = λ has_not_ended. (
  subst (λ (w : ClientAndServer). CountsAreAtMost 0 w.editor) (sym c.in-Ok.ensures.model) (within_start c.args.unit),
  subst (λ (w : ClientAndServer). IsReachable w) (sym c.in-Ok.ensures.model) (reached_start c.args.unit),
)

pub returns-in-Ok-clause-start : goal.returns-in-Ok-clause-start
returns-in-Ok-clause-start g c = record { begins = c.in-Ok.ensures; none = refl; has_not_ended = refl }
