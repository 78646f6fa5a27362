-- Proves that a reply determines the contents that are sent for it.
use Rattle.std.proofs.Common.{◌≡◌, ◌∙◌, ℕ, ◌++◌, true, false, Option, Some, None, List, [], ◌∷◌, map, refl, sym, ap, inl, inr, if◌then◌else◌}
use Rattle.std.specs.Prelude.{ℤ, Vec, codes}
use Rattle.std.specs.declared.alloc.Global.{Global}
use mathlib.Core.List.{map-map}
use Rattle.serde_json.specs.Data.{Data, array, item, member, no_items, no_members, object}
use Rattle.serde_json.specs.View.{items_of}
use Rattle.serde_json.specs.Written.{compact_text}
use Rattle.ob0_text.specs.RefusalTexts.{refusal_text}
use Rattle.ob0_text.specs.declared.edits.Edit.{Edit}
use Rattle.ob0_text.specs.declared.edits.Indent.{Indent}
use Rattle.ob0_text.specs.declared.position_types.Range.{Range}
use Rattle.ob0_text.specs.declared.position_types.Unit.{Unit}
use Rattle.ob0_text.specs.declared.refusals.EditRefusal.{EditRefusal}
use Rattle.ob0_edits_tokens.specs.Replacements.{range_and_text}
use Rattle.ob0_rpc.specs.declared.client_capabilities.ClientFeatures.{ClientFeatures}
use Rattle.ob0_rpc.specs.JsonShapes.{range_value, result_message, text_value}
use Rattle.ob0_edits.specs.Renamings.{IsRenameRefusedInText}
use Rattle.ob0_analysis.specs.ReportedErrors.{IsWellTypedModule}
use Rattle.ob0_analysis.specs.TextBytes.{utf8}
use Rattle.ob0_edits.specs.InliningEdits.{IsInlineResultInText}
use Rattle.ob0_edits.specs.declared.inline_question.InliningKind.{InliningKind}
use Rattle.ob0_edits.specs.declared.inline_question.InliningKind.TheVariants.{OneUse, Everywhere}
use Rattle.ob0_session_answers.specs.Actions.{VersionedActionsRequest, ListsActions, offered_action_values, first_offset_in_range, inlining_title, wants_inlining}
use Rattle.ob0_session_answers.specs.Diagnostics.{diagnostic_of}
use Rattle.ob0_session_answers.specs.FormattingAnswers.{AnswersFormattingRequest}
use Rattle.ob0_session_answers.specs.RenamingAnswers.{AnswersRenameRequest, VersionedRenameRequest, edits_for_client}
use Rattle.ob0_session_json.specs.JsonShapes.{code_action_value, edit_refusal_message, edit_value, publication, versioned_document_value}
use Rattle.ob0_session_server.specs.Answers.{SendsMessage, diagnostics_reply, question_reply, formatting_reply, no_reply, actions_reply, rename_reply, fixed_reply}
use Rattle.ob0_world_rules.proofs.OneInlining.{inlines_or_refused, inlines_parts}
use Rattle.ob0_world_rules.proofs.OneLayout.{lays_out_or_long, lays_out_said}
use Rattle.ob0_world_rules.proofs.OneRenaming.{refuses_one, renames_or_refused, renames_parts}
use Rattle.ob0_world_determined.specs.DeterminedOutput.{DiagnosesAreDetermined, ReplyContentsAreDetermined, ResolutionIsDetermined}
use Rattle.ob0_world_determined.proofs.NamesShown.{name_one}

sends_one : (message another : Data) (sent other : List (List ℕ)) → message ≡ another → SendsMessage message sent → SendsMessage another other → sent ≡ other
sends_one message another sent other same (bytes, is, writes) (more, is_too, writes_too) =
    is ∙ ap (λ b. b ∷ []) (writes.text ∙ ap compact_text same ∙ sym writes_too.text) ∙ sym is_too

-- ---- edits as values

abbrev value_of_parts : Range × List ℕ → Data
value_of_parts p = object (member (codes "newText") (text_value p.1) (member (codes "range") (range_value p.0.start p.0.end) no_members))

values_by_parts : (xs ys : List Edit) → map range_and_text xs ≡ map range_and_text ys → map edit_value xs ≡ map edit_value ys
values_by_parts xs ys same = sym (map-map value_of_parts range_and_text xs) ∙ (ap (map value_of_parts) same ∙ map-map value_of_parts range_and_text ys)

-- returns edits, given as JSON values, as a WorkspaceEdit in the form that the client accepts
abbrev workspace_with : ClientFeatures → List ℕ → ℤ → List Data → Data
workspace_with client uri version vs =
    if client.accepts_document_changes
    then object (member (codes "documentChanges") (array (item (object (member (codes "edits") (array (items_of vs)) (member (codes "textDocument") (versioned_document_value uri version) no_members))) no_items)) no_members)
    else object (member (codes "changes") (object (member uri (array (items_of vs)) no_members)) no_members)

abbrev action_with : VersionedActionsRequest → InliningKind → List Data → Data
action_with requested how vs = code_action_value (workspace_with requested.client requested.uri requested.version vs) (inlining_title how)

-- ---- layouts

formats_one : (unit : Unit) (id : Data) (indent : Indent) (text : List ℕ) (message another : Data) → AnswersFormattingRequest unit id indent text message → AnswersFormattingRequest unit id indent text another → message ≡ another
formats_one unit id indent text message another (inl (xs, h, is)) (inl (ys, k, too)) =
    is ∙ ap (λ vs. result_message id (array (items_of vs))) (values_by_parts xs ys (lays_out_said unit indent text xs ys h k)) ∙ sym too
formats_one unit id indent text message another (inl (xs, h, is)) (inr (inl (long, too))) = absurd (lays_out_or_long unit indent text xs h long)
formats_one unit id indent text message another (inl (xs, h, is)) (inr (inr (unfit, too))) = absurd (unfit h.before)
formats_one unit id indent text message another (inr (inl (long, is))) (inl (ys, k, too)) = absurd (lays_out_or_long unit indent text ys k long)
formats_one unit id indent text message another (inr (inl (long, is))) (inr (inl (also, too))) = is ∙ sym too
formats_one unit id indent text message another (inr (inl (long, is))) (inr (inr (unfit, too))) = absurd (unfit long.before)
formats_one unit id indent text message another (inr (inr (unfit, is))) (inl (ys, k, too)) = absurd (unfit k.before)
formats_one unit id indent text message another (inr (inr (unfit, is))) (inr (inl (long, too))) = absurd (unfit long.before)
formats_one unit id indent text message another (inr (inr (unfit, is))) (inr (inr (nor, too))) = is ∙ sym too

-- ---- new names

module _ (unit : Unit) (requested : VersionedRenameRequest) (text : List ℕ) where
  fits_refused : (refusal : EditRefusal) → IsRenameRefusedInText unit text requested.at.position requested.new refusal → IsWellTypedModule (utf8 text)
  fits_refused refusal h =
      record { tree = _; text_of = record { scanned = h.names.module_read.source; scan = h.read.scan; module_of = h.read.well_typed.resolved.parsed.module_of }; well_typed = h.read.well_typed.well_typed }

  for_client : (xs ys : List Edit) → map edit_value xs ≡ map edit_value ys → edits_for_client requested xs ≡ edits_for_client requested ys
  for_client xs ys same = ap (workspace_with requested.client requested.at.uri requested.version) same

  renaming_one : (message another : Data) → AnswersRenameRequest unit requested text message → AnswersRenameRequest unit requested text another → message ≡ another
  renaming_one message another (inl (xs, h, is)) (inl (ys, k, too)) =
      is ∙ ap (result_message requested.id) (for_client xs ys (values_by_parts xs ys (renames_parts unit text requested.at.position requested.new xs ys h k))) ∙ sym too
  renaming_one message another (inl (xs, h, is)) (inr (inl (why, k, too))) = absurd (renames_or_refused unit text requested.at.position requested.new xs why h k)
  renaming_one message another (inl (xs, h, is)) (inr (inr (unfit, too))) = absurd (unfit h.runs.old)
  renaming_one message another (inr (inl (why, h, is))) (inl (ys, k, too)) = absurd (renames_or_refused unit text requested.at.position requested.new ys why k h)
  renaming_one message another (inr (inl (why, h, is))) (inr (inl (other, k, too))) =
      is ∙ ap (λ w. edit_refusal_message requested.id (refusal_text w)) (refuses_one unit text requested.at.position requested.new why other h k) ∙ sym too
  renaming_one message another (inr (inl (why, h, is))) (inr (inr (unfit, too))) = absurd (unfit (fits_refused why h))
  renaming_one message another (inr (inr (unfit, is))) (inl (ys, k, too)) = absurd (unfit k.runs.old)
  renaming_one message another (inr (inr (unfit, is))) (inr (inl (why, k, too))) = absurd (unfit (fits_refused why k))
  renaming_one message another (inr (inr (unfit, is))) (inr (inr (nor, too))) = is ∙ sym too

-- ---- actions

module _ (unit : Unit) (requested : VersionedActionsRequest) (text : List ℕ) where
  abbrev offset : ℕ
  offset = first_offset_in_range unit text requested.range

  offered_one : (how : InliningKind) (a b : Option (Vec Edit Global)) → IsInlineResultInText how unit text offset a → IsInlineResultInText how unit text offset b → offered_action_values requested how a ≡ offered_action_values requested how b
  offered_one how (Some xs) (Some ys) h k =
      ap (λ vs. action_with requested how vs ∷ []) (values_by_parts xs.items ys.items (inlines_parts unit text offset xs how ys h k))
  offered_one how (Some xs) None h k = absurd (inlines_or_refused unit text offset xs how h k)
  offered_one how None (Some ys) h k = absurd (inlines_or_refused unit text offset ys how k h)
  offered_one how None None h k = refl

  fits_offered : (how : InliningKind) (a : Option (Vec Edit Global)) → IsInlineResultInText how unit text offset a → IsWellTypedModule (utf8 text)
  fits_offered how (Some xs) h = h.runs.old
  fits_offered how None h =
      record { tree = _; text_of = record { scanned = h.module_read.source; scan = h.read.scan; module_of = h.read.parsed.module_of }; well_typed = h.read.well_typed }

  apart : {A : Type 0} → wants_inlining requested ≡ true → wants_inlining requested ≡ false → A
  apart h k = let no : true ≡ false = sym h ∙ k in absurd (cc)

  lists_one : (value other : Data) → ListsActions unit requested text value → ListsActions unit requested text other → value ≡ other
  lists_one value other (inl h) (inl k) =
      h.listed
      ∙ (λ i. array (items_of (offered_one OneUse h.here k.here h.offers_here k.offers_here i ++ offered_one Everywhere h.everywhere k.everywhere h.offers_everywhere k.offers_everywhere i)))
      ∙ sym k.listed
  lists_one value other (inl h) (inr (inl unwanted, too)) = apart h.wanted unwanted
  lists_one value other (inl h) (inr (inr unfit, too)) = absurd (unfit (fits_offered OneUse h.here h.offers_here))
  lists_one value other (inr (inl unwanted, is)) (inl k) = apart k.wanted unwanted
  lists_one value other (inr (inr unfit, is)) (inl k) = absurd (unfit (fits_offered OneUse k.here k.offers_here))
  lists_one value other (inr (why, is)) (inr (other_why, too)) = is ∙ sym too

-- ---- everything

pub reply_contents_are_determined : DiagnosesAreDetermined → ResolutionIsDetermined → ReplyContentsAreDetermined
reply_contents_are_determined reports tables no_reply sent other h k = h ∙ sym k
reply_contents_are_determined reports tables (fixed_reply message) sent other h k = sends_one message message sent other refl h k
reply_contents_are_determined reports tables (diagnostics_reply unit uri version text) sent other (ds, (list, reports_list, is), sends) (es, (more, reports_too, too), sends_too) =
    let same : ds ≡ es = is ∙ ap (map (diagnostic_of unit text)) (reports (utf8 text) list more reports_list reports_too) ∙ sym too in
    sends_one _ _ sent other (ap (publication uri (Some version)) same) sends sends_too
reply_contents_are_determined reports tables (formatting_reply unit id indent text) sent other (message, h, sends) (another, k, sends_too) = sends_one message another sent other (formats_one unit id indent text message another h k) sends sends_too
reply_contents_are_determined reports tables (question_reply unit id at question text) sent other (value, h, sends) (another, k, sends_too) =
    sends_one _ _ sent other (ap (result_message id) (name_one tables unit text at question value another h k)) sends sends_too
reply_contents_are_determined reports tables (rename_reply unit requested text) sent other (message, h, sends) (another, k, sends_too) = sends_one message another sent other (renaming_one unit requested text message another h k) sends sends_too
reply_contents_are_determined reports tables (actions_reply unit requested text) sent other (message, (value, h, is), sends) (another, (more, k, too), sends_too) =
    sends_one message another sent other (is ∙ ap (result_message requested.id) (lists_one unit requested text value more h k) ∙ sym too) sends sends_too
