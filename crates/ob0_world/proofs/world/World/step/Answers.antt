use Rattle.std.proofs.Common.{◌<◌, ◌-◌, ◌^◌, refl, subst, sym}
use Rattle.ob0_world.specs.ModelValues.{model_event_of}
use Rattle.ob0_world.specs.Worlds.{World}
use Rattle.ob0_world.proofs.Counting.{few, within_step}
use Rattle.ob0_world.proofs.Stepping.{made_step, reached_more, reached_holds, reached_mirrors}
use Rattle.ob0_world.proofs.world.World.step.Goals as goal

pub perform_event-requires : goal.perform_event-requires
perform_event-requires g c = few c.self.inside.steps c.self.inside.connection.model.editor (c.self.invariant c.if-self.false).0 (subst (λ (w : World). w.steps < 2 ^ 63 - 1) (sym c.self.view_is) c.requires.few)

pub invariant_of-self : goal.invariant_of-self
invariant_of-self g c = λ has_not_ended. (
  within_step c.self.inside.steps c.self.inside.connection.model (c.self.invariant c.if-self.false).0 (model_event_of c.args.event.now) c.perform_event.new.self.model c.in-Ok.ensures.ok.0,
  reached_more c.self.inside.connection.model (model_event_of c.args.event.now) c.perform_event.new.self.model (c.self.invariant c.if-self.false).1 c.in-Ok.ensures.ok.0,
)

pub returns-in-Ok-clause-holds : goal.returns-in-Ok-clause-holds
returns-in-Ok-clause-holds g c =
    reached_holds c.perform_event.new.self.model (reached_more c.self.inside.connection.model (model_event_of c.args.event.now) c.perform_event.new.self.model (c.self.invariant c.if-self.false).1 c.in-Ok.ensures.ok.0)

pub returns-in-Ok-clause-mirror : goal.returns-in-Ok-clause-mirror
returns-in-Ok-clause-mirror g c =
    reached_mirrors c.perform_event.new.self.model (reached_more c.self.inside.connection.model (model_event_of c.args.event.now) c.perform_event.new.self.model (c.self.invariant c.if-self.false).1 c.in-Ok.ensures.ok.0)

pub returns-in-Ok-clause-ok : goal.returns-in-Ok-clause-ok
returns-in-Ok-clause-ok g c = made_step _ _ _ _ _ c.self.view_is c.if-self.false c.in-Ok.ensures.ok c.in-Ok.ensures.wire c.prove_queues_match.ensures refl c.if-self.false
