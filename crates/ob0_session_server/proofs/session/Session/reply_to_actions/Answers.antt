use Rattle.std.proofs.Common.{ap, refl}
use Rattle.std.proofs.lemmas.Result.{IfOk-weaker}
use Rattle.ob0_rpc.specs.MessageViews.{json_of_id, action_kinds_view}
use Rattle.ob0_session_answers.specs.Actions.{WritesAnswerToActionsRequest}
use Rattle.ob0_session_server.specs.Answers.{actions_reply}
use Rattle.ob0_session_server.proofs.Answering.{reacts_about}
use Rattle.ob0_session_server.proofs.session.Session.reply_to_actions.Goals as goal

pub returns : goal.returns
returns g c =
    let s = c.args.self.now in
    let id = json_of_id c.args.id.now in
    IfOk-weaker c.reply_to_document_request.result _ _ (λ sent h.
    reacts_about s c.reply_to_document_request.new.self id c.args.uri.now
    (λ version. actions_reply s.held.unit (record { id = id; client = s.client; uri = c.args.uri.now; version = version; range = c.args.range; only = action_kinds_view c.args.only.now }))
    (λ version unit text message. WritesAnswerToActionsRequest unit (record { id = id; client = s.client; uri = c.args.uri.now; version = version; range = c.args.range; only = action_kinds_view c.args.only.now }) text message) sent
    (λ version text message a. (a.0, a.1, (message, refl, a.2))) h) (rw (ap (λ s. s.client) c.self.view_is) at c.reply_to_document_request.ensures)
