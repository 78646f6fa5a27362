use Rattle.std.proofs.Common.{◌∙◌, ◌≤◌, ap, subst, sym}
use Rattle.std.proofs.lemmas.Result.{IfOk-weaker}
use Rattle.serde_json.specs.Data.{Data, depth}
use Rattle.serde_json.specs.View.{view}
use Rattle.serde_json.specs.Written.{has_float}
use Rattle.ob0_rpc.specs.WrittenMessages.{Writes}
use Rattle.ob0_rpc.proofs.Whole.{plain_result, shallow_result}
use Rattle.ob0_rpc.proofs.value_messages.result.Goals as goal

pub returns : goal.returns
returns c =
    let is = c.in_ok-message.ensures in
    IfOk-weaker c.message_text.result _ _ (λ bytes text whole can.
    let plain = ap has_float is ∙ plain_result c.args.id.now (view c.args.value) whole in
    let small = subst (λ (d : Data). depth d ≤ 127) (sym is) (shallow_result c.args.id.now (view c.args.value) can.shallow) in
    subst (λ (d : Data). Writes d bytes.items) is (text plain small)) c.message_text.ensures
