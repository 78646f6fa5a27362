use Rattle.std.proofs.Common.{arith}
use Rattle.ob0_world_editor.proofs.Hearing.{if_ok}
use Rattle.ob0_world_editor.proofs.Shallow.{rewriting_reported}
use Rattle.ob0_world_editor.proofs.message_writer.whole_text_notification.Goals as goal

pub returns : goal.returns
returns c =
    let sent_all = rw c.as_slice-changes.ensures at c.notification_text.ensures in
    if_ok c.notification_text.result (λ content sent.
    rewriting_reported content.items c.args.uri.now c.args.version c.args.text.now c.requires (sent (record { shallow = omega arith })).reads)
    sent_all
