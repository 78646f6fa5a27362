use Rattle.std.proofs.Common.{refl}
use Rattle.std.proofs.lemmas.Result.{IfOk-weaker}
use Rattle.ob0_rpc.specs.MessageViews.{document_place_view, json_of_id}
use Rattle.ob0_session_answers.specs.Questions.{WritesAnswerToQuestion, references_question}
use Rattle.ob0_session_server.specs.Answers.{question_reply}
use Rattle.ob0_session_server.proofs.Answering.{reacts_about}
use Rattle.ob0_session_server.proofs.session.Session.reply_to_references.Goals as goal

pub returns : goal.returns
returns g c =
    let s = c.args.self.now in
    let place = document_place_view c.args.place.now in
    let id = json_of_id c.args.id.now in
    IfOk-weaker c.reply_to_document_request.result _ _ (λ sent h.
    reacts_about s c.reply_to_document_request.new.self id place.uri (λ version. question_reply s.held.unit id place (references_question c.args.include_declaration)) (λ version unit text message. WritesAnswerToQuestion unit id place (references_question c.args.include_declaration) text message) sent
    (λ version text message a. (a.0, a.1, (message, refl, a.2))) h) (rw c.as_str.ensures.value at c.reply_to_document_request.ensures)
