use Rattle.ob0_session_documents.proofs.OtherDocuments.{opened_elsewhere, still_theirs}
use Rattle.ob0_session_documents.proofs.analysed_documents.AnalysedDocuments.did_open.Goals as goal

pub invariant_of-self-2 : goal.invariant_of-self-2
invariant_of-self-2 g c =
    still_theirs c.self.inside.documents c.did_open.new.self c.self.inside.analyses c.take-before.new.self c.args.uri.now c.self.invariant c.take-before.ensures.others
    (opened_elsewhere _ _ _ _ _ c.in_ok-did_open.ensures.ok)
