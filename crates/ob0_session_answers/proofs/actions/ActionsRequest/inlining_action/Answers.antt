use Rattle.std.proofs.Common.{refl}
use Rattle.std.proofs.Math.Facts.{to_z-of_z}
use Rattle.ob0_session_answers.proofs.actions.ActionsRequest.inlining_action.Goals as goal

pub returns : goal.returns
returns c = rw (to_z-of_z c.ranges.version, c.inlining_title-title.ensures) refl
