use Rattle.std.proofs.Math.Facts.{to_z-of_z}
use Rattle.std.proofs.lemmas.Result.{IfOk-weaker}
use Rattle.ob0_session_answers.specs.RenamingAnswers.{rename_request_view}
use Rattle.ob0_session_json.proofs.Plain.{workspace_edit_can_be_sent}
use Rattle.ob0_session_answers.proofs.rename_request.RenameRequest.answer_with_edits.Goals as goal

pub returns : goal.returns
returns c =
    let requested = rename_request_view c.args.self.now c.args.version in
    let there = rw (to_z-of_z c.ranges.version, c.as_str.ensures.value) at c.success_response_text.ensures in
    IfOk-weaker c.success_response_text.result _ _ (λ bytes sent. sent (workspace_edit_can_be_sent requested.client requested.at.uri requested.version c.args.edits.now)) there
