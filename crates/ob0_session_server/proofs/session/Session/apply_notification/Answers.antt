use Rattle.std.proofs.Common.{rules}
use Rattle.std.proofs.Math.Facts.{to_z-of_z}
use Rattle.std.proofs.lemmas.Result.{IfOk-weaker}
use Rattle.std.specs.Int.{w64}
use Rattle.ob0_session_server.proofs.session.Session.apply_notification.Goals as goal

pub returns-in-Change : goal.returns-in-Change
returns-in-Change g c =
    IfOk-weaker c.change_and_publish_diagnostics.result _ _ (λ sent h.
    rw c.in-Change.is (rw (to_z-of_z {w = w64} {z = c.in-Change.version} (search rules)) at h)) c.change_and_publish_diagnostics.ensures
