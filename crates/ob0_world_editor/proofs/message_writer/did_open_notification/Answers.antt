use Rattle.std.proofs.Common.{arith}
use Rattle.ob0_world_editor.proofs.Hearing.{if_ok}
use Rattle.ob0_world_editor.proofs.Shallow.{opening_reported}
use Rattle.ob0_world_editor.proofs.message_writer.did_open_notification.Goals as goal

pub returns : goal.returns
returns c =
    if_ok c.notification_text.result (λ content sent.
    opening_reported content.items c.args.uri.now c.args.version c.args.text.now c.requires (sent (record { shallow = omega arith })).reads)
    c.notification_text.ensures
