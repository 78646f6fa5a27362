use Rattle.std.proofs.Common.{◌∙◌, ℕ, List, subst}
use Rattle.std.proofs.lemmas.Result.{IfOk-weaker}
use Rattle.ob0_rpc.specs.MessageViews.{json_of_id}
use Rattle.ob0_rpc.specs.WrittenMessages.{Writes}
use Rattle.ob0_session_json.specs.JsonShapes.{edit_refusal_message}
use Rattle.ob0_session_json.proofs.refusals.refusal_message_for_reason.Goals as goal

pub returns : goal.returns
returns c =
    let reported = c.as_str.ensures.value ∙ c.in_ok-text.ensures in
    IfOk-weaker c.refusal_message.result _ _ (λ bytes sent. subst (λ (said : List ℕ). Writes (edit_refusal_message (json_of_id c.args.id.now) said) bytes.items) reported sent) c.refusal_message.ensures
