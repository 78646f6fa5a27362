use Rattle.std.proofs.Common.{◌≡◌, ap, refl, subst, sym}
use Rattle.std.proofs.lemmas.Result.{IfOk-weaker}
use Rattle.ob0_rpc.specs.MessageViews.{json_of_id}
use Rattle.ob0_text.specs.OpenDocuments.{OpenDocuments}
use Rattle.ob0_session_server.specs.Answers.{ServerState}
use Rattle.ob0_session_server.proofs.Answering.{replies_about}
use Rattle.ob0_session_server.proofs.session.Session.reply_to_document_request.Goals as goal

pub returns : goal.returns
returns g c =
    IfOk-weaker c.reply_for_outcome.result _ _ (λ sent replies.
    replies_about c.self.inside.phase c.self.inside.client c.self.inside.documents c.answer_request.new.self c.args.self.now (json_of_id c.args.id.now) c.args.uri.now (g.Q.DocumentRequest.answers c.args.request.now) c.in_ok-outcome.outcome sent
    c.self.view_is c.answer_request.ensures.same c.in_ok-outcome.ensures.outcome replies) c.reply_for_outcome.ensures
