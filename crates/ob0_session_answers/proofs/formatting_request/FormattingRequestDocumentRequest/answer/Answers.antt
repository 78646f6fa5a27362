use Rattle.std.proofs.Common.{◌∙◌, ℕ, List, Option, Result, Vec, Global, codes, ap, inl, inr, refl, subst}
use Rattle.std.proofs.lemmas.Result.{IfOk-weaker}
use Rattle.serde_json.specs.Data.{Data}
use Rattle.ob0_rpc.specs.MessageViews.{json_of_id}
use Rattle.ob0_rpc.specs.JsonShapes.{result_message}
use Rattle.ob0_rpc.specs.WrittenMessages.{Writes}
use Rattle.ob0_text.specs.RefusalTexts.{refusal_text}
use Rattle.ob0_text.specs.declared.edits.Edit.{Edit}
use Rattle.ob0_text.specs.declared.refusals.EditRefusal.{EditRefusal}
use Rattle.ob0_text.specs.declared.refusals.EditRefusal.TheVariants.{TooLong}
use Rattle.ob0_edits.specs.FormattingEdits.{IsOptionalFormatResult, IsFormatResult}
use Rattle.ob0_session_json.specs.JsonShapes.{edit_refusal_message, edit_list_value}
use Rattle.ob0_session_json.proofs.Plain.{edits_can_be_sent}
use Rattle.ob0_session_answers.proofs.formatting_request.FormattingRequestDocumentRequest.answer.Goals as goal

pub returns-in-Ok : goal.returns-in-Ok
returns-in-Ok g c =
    let unit = g.T.TextStore.unit_of c.args.text.now in
    let text : List ℕ = g.T.TextStore.content c.args.text.now in
    let outcome = subst (λ (o : Option (Result (Vec Edit Global) EditRefusal)). IsOptionalFormatResult unit c.args.self.now.indent text o) c.in-Some.is c.in_ok-outcome.ensures in
    let laid = subst (λ (o : Result (Vec Edit Global) EditRefusal). IsFormatResult unit c.args.self.now.indent text o) c.in-Ok.is outcome in
    let is = ap edit_list_value c.as_slice.ensures.value in
    IfOk-weaker c.success_response_text.result _ _ (λ bytes sent. (
      result_message (json_of_id c.args.self.now.id.now) (edit_list_value c.in-Ok.edits.items),
      inl (c.in-Ok.edits.items, laid, refl),
      subst (λ (d : Data). Writes (result_message (json_of_id c.args.self.now.id.now) d) bytes.items) is (sent (edits_can_be_sent c.as_slice.result.now)),
    )) c.success_response_text.ensures

pub returns-in-Err : goal.returns-in-Err
returns-in-Err g c =
    let unit = g.T.TextStore.unit_of c.args.text.now in
    let text : List ℕ = g.T.TextStore.content c.args.text.now in
    let outcome = subst (λ (o : Option (Result (Vec Edit Global) EditRefusal)). IsOptionalFormatResult unit c.args.self.now.indent text o) c.in-Some.is c.in_ok-outcome.ensures in
    let long = subst (λ (o : Result (Vec Edit Global) EditRefusal). IsFormatResult unit c.args.self.now.indent text o) c.in-Err.is outcome in
    IfOk-weaker c.refusal_message_for_reason.result _ _ (λ bytes sent. (
      edit_refusal_message (json_of_id c.args.self.now.id.now) (refusal_text TooLong),
      inr (inl (long.1, refl)),
      subst (λ (said : List ℕ). Writes (edit_refusal_message (json_of_id c.args.self.now.id.now) said) bytes.items) (ap refusal_text long.0) sent,
    )) c.refusal_message_for_reason.ensures

pub returns-in-None : goal.returns-in-None
returns-in-None g c =
    let unit = g.T.TextStore.unit_of c.args.text.now in
    let text : List ℕ = g.T.TextStore.content c.args.text.now in
    let ill = subst (λ (o : Option (Result (Vec Edit Global) EditRefusal)). IsOptionalFormatResult unit c.args.self.now.indent text o) c.in-None.is c.in_ok-outcome.ensures in
    IfOk-weaker c.refusal_message_for_ill_typed_text.result _ _ (λ bytes sent. (edit_refusal_message (json_of_id c.args.self.now.id.now) (codes "ill-typed"), inr (inr (ill, refl)), sent)) c.refusal_message_for_ill_typed_text.ensures
