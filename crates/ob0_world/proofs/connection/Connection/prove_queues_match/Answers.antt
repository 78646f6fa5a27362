use Rattle.std.proofs.Common.{subst}
use Rattle.ob0_world.specs.Worlds.{QueuesMatch}
use Rattle.ob0_world.proofs.Tied.{tied}
use Rattle.ob0_world.proofs.connection.Connection.prove_queues_match.Goals as goal

pub returns : goal.returns
returns g c =
    subst QueuesMatch c.self.view_is
    (tied c.self.inside.editor c.self.inside.to_server.items c.self.inside.session c.self.inside.to_editor.items c.self.inside.applied.items c.self.inside.made.items c.self.inside.taken.items c.self.inside.got.items c.self.invariant)
