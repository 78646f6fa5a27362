use Rattle.std.proofs.Math.Facts.{to_z-of_z}
use Rattle.std.proofs.lemmas.Result.{IfOk-weaker}
use Rattle.ob0_session_answers.specs.Actions.{inlining_action_value, actions_request_view, inlining_title}
use Rattle.ob0_session_json.proofs.Plain.{one_can, shallow_action}
use Rattle.ob0_session_answers.proofs.actions.ActionsRequest.answer_with_one_action.Goals as goal

pub returns : goal.returns
returns c =
    let requested = actions_request_view c.args.self.now c.args.version in
    let es = c.args.edits.now in
    let there = rw (c.as_slice.ensures, c.inlining_action.ensures, to_z-of_z c.ranges.version) at c.success_response_text.ensures in
    IfOk-weaker c.success_response_text.result _ _ (λ bytes sent. sent (one_can (inlining_action_value requested c.args.how es) (shallow_action requested.client requested.uri requested.version es (inlining_title c.args.how)))) there
