use Rattle.ob0_session_documents.proofs.OtherDocuments.{lost_elsewhere, still_theirs}
use Rattle.ob0_session_documents.proofs.analysed_documents.AnalysedDocuments.lose.Goals as goal

pub invariant_of-self : goal.invariant_of-self
invariant_of-self g c =
    still_theirs c.self.inside.documents c.lose.new.self c.self.inside.analyses c.take.new.self c.args.uri.now c.self.invariant c.take.ensures.others
    (lost_elsewhere _ _ _ c.lose.ensures)
