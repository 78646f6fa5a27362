use Rattle.std.proofs.Math.Facts.{to_z-of_z}
use Rattle.std.proofs.lemmas.Result.{IfOk-weaker}
use Rattle.ob0_session_answers.specs.Actions.{inlining_action_value, actions_request_view, inlining_title}
use Rattle.ob0_session_json.proofs.Plain.{shallow_action, two_can}
use Rattle.ob0_edits.specs.declared.inline_question.InliningKind.TheVariants.{OneUse, Everywhere}
use Rattle.ob0_session_answers.proofs.actions.ActionsRequest.answer_with_actions.Goals as goal

pub returns-in-Some-Some : goal.returns-in-Some-Some
returns-in-Some-Some c =
    let requested = actions_request_view c.args.self.now c.args.version in
    let here = c.in-Some-Some.here.items in
    let everywhere = c.in-Some-Some.everywhere.items in
    let there = rw (c.as_slice-in-Some-Some-2.ensures, c.inlining_action.ensures, c.inlining_action-in-Some-Some.ensures, c.as_slice.ensures.value, c.as_slice-in-Some-Some.ensures.value, to_z-of_z c.ranges.version) at c.success_response_text.ensures in
    let can = two_can (inlining_action_value requested OneUse here) (inlining_action_value requested Everywhere everywhere)
    (shallow_action requested.client requested.uri requested.version here (inlining_title OneUse)) (shallow_action requested.client requested.uri requested.version everywhere (inlining_title Everywhere)) in
    rw (c.in-Some-Some.is-0, c.in-Some-Some.is-1) (IfOk-weaker c.success_response_text.result _ _ (λ bytes sent. sent can) there)
