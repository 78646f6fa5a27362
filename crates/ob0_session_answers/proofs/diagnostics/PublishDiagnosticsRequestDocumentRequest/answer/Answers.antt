use Rattle.std.proofs.Math.Facts.{to_z-of_z}
use Rattle.std.proofs.lemmas.Result.{IfOk-weaker}
use Rattle.ob0_session_answers.proofs.diagnostics.PublishDiagnosticsRequestDocumentRequest.answer.Goals as goal

pub returns : goal.returns
returns g c =
    let list = c.in_ok-list.ensures in
    IfOk-weaker c.publication.result _ _ (λ message sent. (list.0, list.1, sent list.0 list.2)) (rw (to_z-of_z c.ranges.version) at c.publication.ensures)
