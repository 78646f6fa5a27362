use Rattle.std.proofs.Common.{refl, ap, subst}
use Rattle.std.specs.Str.{chars}
use Rattle.std.specs.Prelude.{OnOk}
use Rattle.ob0_world_rules.specs.EditorActs.{open_document}
use Rattle.ob0_world.specs.Queues.{wire_from_fields}
use Rattle.ob0_world.specs.Worlds.{Connection, AppendsAtMostOneContent}
use Rattle.ob0_world.proofs.Moved.{sent_sound, sent_shows, writes_sent, open_applies}
use Rattle.ob0_world.proofs.connection.Connection.open.Goals as goal

pub invariant_of-self-2 : goal.invariant_of-self-2
invariant_of-self-2 g c =
    let i = c.self.inside in
    sent_sound (open_document c.args.uri.now (chars c.args.text.now)) i.editor c.open.new.self c.in_ok-content.content i.to_server.items c.send.new.queue.items i.to_editor.items i.session c.send.result
    c.in_ok-content.ensures.ok c.send.ensures.ok c.send.ensures.err c.self.invariant

pub returns-clause-ok : goal.returns-clause-ok
returns-clause-ok g c =
    let i = c.self.inside in
    sent_shows (open_document c.args.uri.now (chars c.args.text.now)) c.args.self.now.model i.editor c.open.new.self c.in_ok-content.content i.to_server.items c.send.new.queue.items i.to_editor.items i.session i.applied.items i.made.items c.send.result
    (ap (λ (w : Connection). w.model) c.self.view_is) (open_applies i.editor c.args.uri.now (chars c.args.text.now)) refl c.in_ok-content.ensures.ok c.send.ensures.ok c.self.invariant

pub returns-clause-wire : goal.returns-clause-wire
returns-clause-wire g c =
    let i = c.self.inside in
    subst (λ (w : Connection). OnOk c.send.result (AppendsAtMostOneContent w.wire (wire_from_fields i.session i.taken.items c.send.new.queue.items i.got.items i.to_editor.items))) c.self.view_is
    (writes_sent i.session i.taken.items i.to_server.items i.got.items i.to_editor.items c.send.new.queue.items c.in_ok-content.content c.send.result c.send.ensures.ok)
