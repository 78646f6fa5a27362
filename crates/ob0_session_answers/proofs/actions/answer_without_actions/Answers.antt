use Rattle.std.proofs.Common.{arith}
use Rattle.std.proofs.lemmas.Result.{IfOk-weaker}
use Rattle.ob0_session_answers.proofs.actions.answer_without_actions.Goals as goal

pub returns : goal.returns
returns c =
    let there = rw c.as_slice.ensures at c.success_response_text.ensures in
    IfOk-weaker c.success_response_text.result _ _ (λ bytes sent. sent (record { shallow = omega arith })) there
