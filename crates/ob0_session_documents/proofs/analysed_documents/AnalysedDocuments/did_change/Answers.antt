use Rattle.std.proofs.Common.{map}
use Rattle.std.proofs.Math.Facts.{to_z-of_z}
use Rattle.ob0_text.specs.OpenDocuments.{text_change_of}
use Rattle.ob0_session_documents.proofs.OtherDocuments.{changed_elsewhere, lost_elsewhere, still_theirs}
use Rattle.ob0_session_documents.proofs.analysed_documents.AnalysedDocuments.did_change.Goals as goal

pub invariant_of-self : goal.invariant_of-self
invariant_of-self g c =
    still_theirs c.self.inside.documents c.did_change.new.self c.self.inside.analyses c.take-before.new.self c.args.uri.now c.self.invariant c.take-before.ensures.others
    (lost_elsewhere _ _ _ c.in_err-did_change.ensures.err)

pub invariant_of-self-2 : goal.invariant_of-self-2
invariant_of-self-2 g c =
    still_theirs c.self.inside.documents c.did_change.new.self c.self.inside.analyses c.take-before.new.self c.args.uri.now c.self.invariant c.take-before.ensures.others
    (changed_elsewhere _ _ _ c.args.version (map text_change_of c.as_slice.result.now) (rw (to_z-of_z c.ranges.version) at c.in_ok-did_change.ensures.ok))
