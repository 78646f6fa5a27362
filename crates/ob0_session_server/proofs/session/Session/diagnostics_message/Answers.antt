use Rattle.std.proofs.Common.{ap, subst}
use Rattle.ob0_text.specs.OpenDocuments.{OpenDocuments, document_at}
use Rattle.ob0_session_server.specs.Answers.{ServerState, publication_reply}
use Rattle.ob0_session_server.specs.ReplyViews.{SendsReply}
use Rattle.ob0_session_server.proofs.Answering.{published_with}
use Rattle.ob0_session_server.proofs.session.Session.diagnostics_message.Goals as goal

pub returns-clause-says : goal.returns-clause-says
returns-clause-says g c =
    let uri = c.args.uri.now in
    subst (λ (held : OpenDocuments). SendsReply (publication_reply held.unit uri (document_at held uri)) c.message_of_outcome.result)
    (ap (λ (s : ServerState). s.held) c.self.view_is)
    (published_with c.self.inside.documents uri c.in_ok-outcome.outcome c.message_of_outcome.result c.in_ok-outcome.ensures.outcome c.message_of_outcome.ensures)
