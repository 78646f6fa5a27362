use Rattle.std.proofs.Common.{refl, string_bytes}
use Rattle.std.proofs.lemmas.Result.{IfOk-weaker}
use Rattle.ob0_rpc.specs.MessageViews.{document_place_view, json_of_id}
use Rattle.ob0_session_answers.specs.Questions.{WritesAnswerToQuestion, definition_question, hover_question, prepare_rename_question}
use Rattle.ob0_session_answers.specs.FormattingAnswers.{WritesAnswerToFormattingRequest}
use Rattle.ob0_session_server.specs.Answers.{question_reply, formatting_reply}
use Rattle.ob0_session_server.proofs.Answering.{reacts_about}
use Rattle.ob0_session_server.proofs.session.Session.reply_to_parsed_request.Goals as goal

pub returns-in-Hover : goal.returns-in-Hover
returns-in-Hover g c =
    let s = c.args.self.now in
    let place = document_place_view c.in-Hover.place in
    let id = json_of_id c.args.id.now in
    rw c.in-Hover.is (IfOk-weaker c.reply_to_document_request.result _ _ (λ sent h.
    reacts_about s c.reply_to_document_request.new.self id place.uri (λ version. question_reply s.held.unit id place hover_question) (λ version unit text message. WritesAnswerToQuestion unit id place hover_question text message) sent (λ version text message a. (a.0, a.1, (message, refl, a.2))) h) (rw c.as_str.ensures.value at c.reply_to_document_request.ensures))

pub returns-in-Definition : goal.returns-in-Definition
returns-in-Definition g c =
    let s = c.args.self.now in
    let place = document_place_view c.in-Definition.place in
    let id = json_of_id c.args.id.now in
    rw c.in-Definition.is (IfOk-weaker c.reply_to_document_request-in-Definition.result _ _ (λ sent h.
    reacts_about s c.reply_to_document_request-in-Definition.new.self id place.uri (λ version. question_reply s.held.unit id place definition_question) (λ version unit text message. WritesAnswerToQuestion unit id place definition_question text message) sent (λ version text message a. (a.0, a.1, (message, refl, a.2))) h)
    (rw c.as_str-in-Definition.ensures.value at c.reply_to_document_request-in-Definition.ensures))

pub returns-in-PrepareRename : goal.returns-in-PrepareRename
returns-in-PrepareRename g c =
    let s = c.args.self.now in
    let place = document_place_view c.in-PrepareRename.place in
    let id = json_of_id c.args.id.now in
    rw c.in-PrepareRename.is (IfOk-weaker c.reply_to_document_request-in-PrepareRename.result _ _ (λ sent h.
    reacts_about s c.reply_to_document_request-in-PrepareRename.new.self id place.uri (λ version. question_reply s.held.unit id place prepare_rename_question) (λ version unit text message. WritesAnswerToQuestion unit id place prepare_rename_question text message) sent (λ version text message a. (a.0, a.1, (message, refl, a.2))) h)
    (rw c.as_str-in-PrepareRename.ensures.value at c.reply_to_document_request-in-PrepareRename.ensures))

pub returns-in-Formatting : goal.returns-in-Formatting
returns-in-Formatting g c =
    let s = c.args.self.now in
    let id = json_of_id c.args.id.now in
    rw c.in-Formatting.is (IfOk-weaker c.reply_to_document_request-in-Formatting.result _ _ (λ sent h.
    reacts_about s c.reply_to_document_request-in-Formatting.new.self id (string_bytes c.in-Formatting.uri) (λ version. formatting_reply s.held.unit id c.in-Formatting.indent) (λ version unit text message. WritesAnswerToFormattingRequest unit id c.in-Formatting.indent text message) sent (λ version text message a. (a.0, a.1, (message, refl, a.2))) h)
    (rw c.as_str-in-Formatting.ensures.value at c.reply_to_document_request-in-Formatting.ensures))
