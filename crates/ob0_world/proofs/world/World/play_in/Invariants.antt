use Rattle.std.proofs.Common.{◌≡◌, false, take, map}
use Rattle.ob0_world.specs.ModelValues.{model_event_of}
use Rattle.ob0_world.specs.Worlds.{Connection, IsInitialConnection, IsConnectionCourse}
use Rattle.ob0_world.proofs.world.World.play_in.Given as goal

-- the events so far lead from an initial connection to the world's connection
abbrev pub invariant-loop-event : goal.invariant-loop-event
invariant-loop-event g l =
    (begin : Connection)
    × IsInitialConnection l.fn.unit begin
    × IsConnectionCourse begin (map model_event_of (take l.event-index l.events)) l.world.connection
    × (l.world.steps ≡ l.event-index)
    × (l.world.ended ≡ false)
