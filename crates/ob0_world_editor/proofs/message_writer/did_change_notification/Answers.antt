use Rattle.ob0_world_editor.proofs.Hearing.{if_ok}
use Rattle.ob0_world_editor.proofs.Shallow.{changing_reported, shallow_change_params}
use Rattle.ob0_world_editor.proofs.message_writer.did_change_notification.Goals as goal

pub returns : goal.returns
returns c =
    if_ok c.notification_text.result (λ content sent.
    changing_reported content.items c.args.uri.now c.args.version c.args.changes.now c.requires
    (sent (record { shallow = shallow_change_params c.args.uri.now c.args.version c.args.changes.now })).reads)
    c.notification_text.ensures
