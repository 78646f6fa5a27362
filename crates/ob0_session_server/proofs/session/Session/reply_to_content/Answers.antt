use Rattle.std.proofs.Common.{Some, None, refl}
use Rattle.std.proofs.lemmas.Result.{IfOk-weaker}
use Rattle.ob0_rpc.specs.MessageViews.{message_view}
use Rattle.ob0_session_server.proofs.Answering.{answered, refused}
use Rattle.ob0_session_server.proofs.session.Session.reply_to_content.Goals as goal

pub returns-in-Ok-Request : goal.returns-in-Ok-Request
returns-in-Ok-Request g c =
    let read = c.in-Ok-Request.ensures in
    IfOk-weaker c.reply_to_request.result _ _ (λ sent h.
    answered c.args.self.now c.args.content.now (Some read.0) (message_view c.in-Ok-Request.field-0) sent c.reply_to_request.new.self read.1 read.2 (rw (c.in-Ok-Request.field-0-is, ← c.as_str.ensures.value) h)) c.reply_to_request.ensures

pub returns-in-Ok-Notice : goal.returns-in-Ok-Notice
returns-in-Ok-Notice g c =
    let read = c.in-Ok-Notice.ensures in
    IfOk-weaker c.react_to_notification.result _ _ (λ sent h.
    answered c.args.self.now c.args.content.now (Some read.0) (message_view c.in-Ok-Notice.field-0) sent c.react_to_notification.new.self read.1 read.2 (rw (c.in-Ok-Notice.field-0-is, ← c.as_str-in-Ok-Notice.ensures.value) h)) c.react_to_notification.ensures

pub returns-in-Ok-Ignored : goal.returns-in-Ok-Ignored
returns-in-Ok-Ignored g c =
    let read = c.in-Ok-Ignored.ensures in
    answered c.args.self.now c.args.content.now (Some read.0) (message_view c.in-Ok-Ignored.field-0) None c.args.self.now read.1 read.2 (rw c.in-Ok-Ignored.field-0-is (refl, refl))

pub returns-in-Err : goal.returns-in-Err
returns-in-Err g c =
    IfOk-weaker c.fault_response.result _ _ (λ sent h.
    refused c.args.self.now c.args.content.now c.in-Err.fault sent c.in-Err.ensures h.0 h.1) c.fault_response.ensures
