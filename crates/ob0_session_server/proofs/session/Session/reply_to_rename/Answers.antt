use Rattle.std.proofs.Common.{ap, refl}
use Rattle.std.proofs.lemmas.Result.{IfOk-weaker}
use Rattle.ob0_rpc.specs.MessageViews.{document_place_view, json_of_id}
use Rattle.ob0_session_answers.specs.RenamingAnswers.{WritesAnswerToRenameRequest}
use Rattle.ob0_session_server.specs.Answers.{rename_reply}
use Rattle.ob0_session_server.proofs.Answering.{reacts_about}
use Rattle.ob0_session_server.proofs.session.Session.reply_to_rename.Goals as goal

pub returns : goal.returns
returns g c =
    let s = c.args.self.now in
    let place = document_place_view c.args.place.now in
    let id = json_of_id c.args.id.now in
    IfOk-weaker c.reply_to_document_request.result _ _ (λ sent h.
    reacts_about s c.reply_to_document_request.new.self id place.uri (λ version. rename_reply s.held.unit (record { id = id; client = s.client; at = place; version = version; new = c.args.new.now }))
    (λ version unit text message. WritesAnswerToRenameRequest unit (record { id = id; client = s.client; at = place; version = version; new = c.args.new.now }) text message) sent
    (λ version text message a. (a.0, a.1, (message, refl, a.2))) h) (rw (c.as_str.ensures.value, ap (λ s. s.client) c.self.view_is) at c.reply_to_document_request.ensures)
