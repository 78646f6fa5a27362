use Rattle.std.proofs.Common.{ℕ, List, Option, Some, Result, Vec, Global, codes, ap, inl, inr, refl, subst}
use Rattle.std.proofs.Math.Facts.{to_z-of_z}
use Rattle.std.proofs.lemmas.Result.{IfOk-weaker}
use Rattle.serde_json.specs.Data.{Data}
use Rattle.ob0_rpc.specs.JsonShapes.{result_message}
use Rattle.ob0_rpc.specs.WrittenMessages.{Writes}
use Rattle.ob0_text.specs.RefusalTexts.{refusal_text}
use Rattle.ob0_text.specs.declared.edits.Edit.{Edit}
use Rattle.ob0_text.specs.declared.refusals.EditRefusal.{EditRefusal}
use Rattle.ob0_session_answers.specs.RenamingAnswers.{rename_request_view, edits_for_client}
use Rattle.ob0_edits.specs.Renamings.{IsOptionalRenameResult}
use Rattle.ob0_session_json.specs.JsonShapes.{edit_refusal_message}
use Rattle.ob0_session_answers.proofs.rename_request.RenameRequestDocumentRequest.answer.Goals as goal

pub returns-in-Ok : goal.returns-in-Ok
returns-in-Ok g c =
    let unit = g.T.TextStore.unit_of c.args.text.now in
    let text : List ℕ = g.T.TextStore.content c.args.text.now in
    let requested = rename_request_view c.args.self.now c.args.version in
    let found = subst (λ (a : Option (Result (Vec Edit Global) EditRefusal)). IsOptionalRenameResult unit text requested.at.position requested.new a) c.in-Some.is c.in_ok-outcome.ensures in
    let renames = subst (λ (o : Result (Vec Edit Global) EditRefusal). IsOptionalRenameResult unit text requested.at.position requested.new (Some o)) c.in-Ok.is found in
    let is = ap (edits_for_client requested) c.as_slice.ensures.value in
    IfOk-weaker c.answer_with_edits.result _ _ (λ bytes sent. (
      result_message requested.id (edits_for_client requested c.in-Ok.edits.items),
      inl (c.in-Ok.edits.items, renames, refl),
      subst (λ (d : Data). Writes (result_message requested.id d) bytes.items) is sent,
    )) (rw (to_z-of_z c.ranges.version) at c.answer_with_edits.ensures)

pub returns-in-Err : goal.returns-in-Err
returns-in-Err g c =
    let unit = g.T.TextStore.unit_of c.args.text.now in
    let text : List ℕ = g.T.TextStore.content c.args.text.now in
    let requested = rename_request_view c.args.self.now c.args.version in
    let found = subst (λ (a : Option (Result (Vec Edit Global) EditRefusal)). IsOptionalRenameResult unit text requested.at.position requested.new a) c.in-Some.is c.in_ok-outcome.ensures in
    let why = subst (λ (o : Result (Vec Edit Global) EditRefusal). IsOptionalRenameResult unit text requested.at.position requested.new (Some o)) c.in-Err.is found in
    IfOk-weaker c.refusal_message_for_reason.result _ _ (λ bytes sent. (edit_refusal_message requested.id (refusal_text c.in-Err.refusal), inr (inl (c.in-Err.refusal, why, refl)), sent)) c.refusal_message_for_reason.ensures

pub returns-in-None : goal.returns-in-None
returns-in-None g c =
    let unit = g.T.TextStore.unit_of c.args.text.now in
    let text : List ℕ = g.T.TextStore.content c.args.text.now in
    let requested = rename_request_view c.args.self.now c.args.version in
    let found = subst (λ (a : Option (Result (Vec Edit Global) EditRefusal)). IsOptionalRenameResult unit text requested.at.position requested.new a) c.in-None.is c.in_ok-outcome.ensures in
    IfOk-weaker c.refusal_message_for_ill_typed_text.result _ _ (λ bytes sent. (edit_refusal_message requested.id (codes "ill-typed"), inr (inr (found, refl)), sent)) c.refusal_message_for_ill_typed_text.ensures
