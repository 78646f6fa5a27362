use Rattle.std.proofs.Common.{refl, ap, subst, map}
use Rattle.ob0_text.specs.OpenDocuments.{text_change_of}
use Rattle.std.specs.Prelude.{OnOk}
use Rattle.ob0_world_rules.specs.EditorActs.{change_document}
use Rattle.ob0_world.specs.Queues.{wire_from_fields}
use Rattle.ob0_world.specs.Worlds.{Connection, AppendsAtMostOneContent}
use Rattle.ob0_world.proofs.Moved.{sent_sound, sent_shows, writes_sent, change_applies}
use Rattle.ob0_world.proofs.connection.Connection.change.Goals as goal

pub invariant_of-self-2 : goal.invariant_of-self-2
invariant_of-self-2 g c =
    let i = c.self.inside in
    sent_sound (change_document c.args.uri.now (map text_change_of c.args.changes.now)) i.editor c.change.new.self c.in_ok-content.content i.to_server.items c.send.new.queue.items i.to_editor.items i.session c.send.result
    c.in_ok-content.ensures.ok c.send.ensures.ok c.send.ensures.err c.self.invariant

pub returns-clause-ok : goal.returns-clause-ok
returns-clause-ok g c =
    let i = c.self.inside in
    sent_shows (change_document c.args.uri.now (map text_change_of c.args.changes.now)) c.args.self.now.model i.editor c.change.new.self c.in_ok-content.content i.to_server.items c.send.new.queue.items i.to_editor.items i.session i.applied.items i.made.items c.send.result
    (ap (λ (w : Connection). w.model) c.self.view_is) (change_applies i.editor c.args.uri.now (map text_change_of c.args.changes.now)) refl c.in_ok-content.ensures.ok c.send.ensures.ok c.self.invariant

pub returns-clause-wire : goal.returns-clause-wire
returns-clause-wire g c =
    let i = c.self.inside in
    subst (λ (w : Connection). OnOk c.send.result (AppendsAtMostOneContent w.wire (wire_from_fields i.session i.taken.items c.send.new.queue.items i.got.items i.to_editor.items))) c.self.view_is
    (writes_sent i.session i.taken.items i.to_server.items i.got.items i.to_editor.items c.send.new.queue.items c.in_ok-content.content c.send.result c.send.ensures.ok)
