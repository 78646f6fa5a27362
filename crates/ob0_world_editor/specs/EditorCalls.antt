-- Defines the effect of each call of the code's `Editor`, for the contracts of its functions.
-- Rule: none; used in the contracts of the code's `Editor`.
use Rattle.std.specs.Prelude.{◌≡◌, ◌<◌, ◌-◌, ◌^◌, ⊤, ℕ, Bool, true, false, pos, List, [], ◌∷◌, Vec, Option, Some, None, length, map, option_map, slice_get}
use Rattle.std.specs.List.{remove}
use Rattle.std.specs.FinMap as map_of
use Rattle.std.specs.declared.alloc.Global.{Global}
use Rattle.ob0_text.specs.OpenDocuments.{Changed}
use Rattle.ob0_world_rules.specs.TextEdits.{Replacement, whole_text_change}
use Rattle.ob0_world_rules.specs.ClientAndServer.{OpenDocument, SentAsk, AppliedEdit, Editor, editor_document_with_uri, MessageToServer, notifies}
use Rattle.ob0_world_rules.specs.EditorActs.{version_as_natural, ActResult, result_of_changing_text, edits_of_answer_to_request, remove_answer_to_request}
use Rattle.ob0_world_editor.specs.ModelValues.{model_answer_of, model_applied_edit_of}
use Rattle.ob0_world_rules.specs.TextEdits.{replacements_of_edits}
use Rattle.ob0_world_editor.specs.MessagesToServer.{IsMessageToServer}
use Rattle.ob0_world_editor.specs.declared.applied_edits.ApplyOutcome as applying
use Rattle.ob0_world_editor.specs.declared.editor.ReceivedAnswer as answer
use Rattle.ob0_world_editor.specs.declared.editor.RewrittenDocument as rewritten

-- States that the number of openings, the number of sent requests, and each open document's version
-- are less than 2^63 - 1. So each of them can still grow by one.
pub record CountsCanGrow (e : Editor) : Type 0 where
  pub openings : e.openings < 2 ^ 63 - 1
  pub asks : length e.requested < 2 ^ 63 - 1
  pub versions : (uri : List ℕ) (d : OpenDocument) → editor_document_with_uri e uri ≡ Some d → version_as_natural d.version < 2 ^ 63 - 1

-- returns whether the list has an edit
abbrev pub has_edits : List Replacement → Bool
has_edits [] = false
has_edits (e ∷ es) = true

-- States that the content is the only message in the list of sent messages. If there is no content
-- (None), states that the list is empty.
abbrev pub IsSentContent : List SentAsk → List MessageToServer → Option (Vec ℕ Global) → Type 0
IsSentContent requested [] None = ⊤
IsSentContent requested [] (Some content) = ⊥
IsSentContent requested (message ∷ more) None = ⊥
IsSentContent requested (message ∷ more) (Some content) =
    IsMessageToServer requested message content.items × (more ≡ [])

-- States that `new` is the editor after the act with the result `done`, and that the content is the
-- message that the act sends. If the act sends no message, the content is None.
abbrev pub PerformsAct : ActResult → Option (Vec ℕ Global) → Editor → Type 0
PerformsAct done content new = (new ≡ done.editor) × IsSentContent new.requested done.sent content

-- states that `new` is the editor after the act with the result `done`, and that the act sent and
-- applied nothing
abbrev pub SendsAndAppliesNothing : ActResult → Editor → Type 0
SendsAndAppliesNothing done new = (new ≡ done.editor) × (done.sent ≡ []) × (done.applied ≡ [])

-- States that this is the outcome of an act that applies an answer and has the result `done`.
-- `held` says whether the editor had the answer, and `new` is the editor after the act.
abbrev pub IsApplyOutcome : ActResult → Bool → applying.ApplyOutcome → Editor → Type 0
IsApplyOutcome done held applying.TheVariants.NoSuchAnswer new = SendsAndAppliesNothing done new × (held ≡ false)
IsApplyOutcome done held applying.TheVariants.Dropped new = SendsAndAppliesNothing done new × (held ≡ true)
IsApplyOutcome done held (applying.TheVariants.EditsMade applied content) new =
    PerformsAct done (Some content) new × (done.applied ≡ model_applied_edit_of applied ∷ []) × (held ≡ true)

-- ---- applying an answer, step by step

-- States that the first answer to request `k` in the list has this index, counted from 0. So the
-- list without the element at this index is the list without that answer
-- (`remove_answer_to_request`). If there is no index (None), states that there is no such answer.
abbrev pub IsIndexOfAnswer : List answer.ReceivedAnswer → ℕ → Option ℕ → Type 0
IsIndexOfAnswer answers k (Some i) =
    (i < length answers)
    × (edits_of_answer_to_request k (map model_answer_of answers)
    ≡ option_map (λ a. replacements_of_edits a.edits.items) (slice_get answers i))
    × (remove_answer_to_request k (map model_answer_of answers) ≡ map model_answer_of (remove answers i))
IsIndexOfAnswer answers k None = edits_of_answer_to_request k (map model_answer_of answers) ≡ None

-- returns the editor `e` after the document of `r` has got the new text, the version and the
-- opening number in `r`
abbrev pub editor_with_new_text : Editor → rewritten.RewrittenDocument → Editor
editor_with_new_text e r =
    let a : AppliedEdit = model_applied_edit_of r.applied in
    record e {
      documents
          = map_of.insert e.documents a.uri
          (record { version = pos r.version; text = a.after; opening = r.opening });
    }

-- returns the notification that gives the server the whole new text of the document of `r`
abbrev pub new_text_notification : rewritten.RewrittenDocument → MessageToServer
new_text_notification r =
    let a : AppliedEdit
    = model_applied_edit_of r.applied in notifies (Changed a.uri (pos r.version) (whole_text_change a.after ∷ []))

-- States that the act with the result `done` gives the document the new text in `r`, applies the
-- edit in `r`, and sends the notification of the new text. The version in `r` is less than 2^63.
pub record RewritesDocument (old : Editor) (done : ActResult) (r : rewritten.RewrittenDocument) : Type 0 where
  pub text : done.editor ≡ editor_with_new_text old r
  pub applied : done.applied ≡ model_applied_edit_of r.applied ∷ []
  pub says : done.sent ≡ new_text_notification r ∷ []
  pub few : r.version < 2 ^ 63

-- States that the act gives the document the new text in `r` (`RewritesDocument`), or that there is
-- neither an act nor a new text (both are None). If only one of the two is None, this is false.
abbrev pub RewritesDocumentUnlessBothNone : Editor → Option ActResult → Option rewritten.RewrittenDocument → Type 0
RewritesDocumentUnlessBothNone e None None = ⊤
RewritesDocumentUnlessBothNone e None (Some r) = ⊥
RewritesDocumentUnlessBothNone e (Some done) None = ⊥
RewritesDocumentUnlessBothNone e (Some done) (Some r) = RewritesDocument e done r

-- returns the result of the act that gives the open document `d` the text `text_after_edits`, or
-- None if that text is None
abbrev pub result_of_changing_text_if_edited : Editor → List ℕ → OpenDocument → Option (List ℕ) → Option ActResult
result_of_changing_text_if_edited e uri d text_after_edits =
    let applied : List ℕ → AppliedEdit = λ text. record { uri = uri; before = d.text; after = text } in
    option_map (λ text. result_of_changing_text e uri d text (whole_text_change text ∷ []) (applied text ∷ [])) text_after_edits

-- states that `new` is the editor with the document's new text, and that the content is the
-- notification of that text
abbrev pub StoresNewText : Editor → rewritten.RewrittenDocument → Vec ℕ Global → Editor → Type 0
StoresNewText old r content new =
    (new ≡ editor_with_new_text old r) × IsMessageToServer new.requested (new_text_notification r) content.items

-- States that the outcome is `EditsMade`, with the applied edit in `r` and the content of the
-- notification of the new text. `new` is the editor with that text.
abbrev pub IsRewriteOutcome : Editor → rewritten.RewrittenDocument → applying.ApplyOutcome → Editor → Type 0
IsRewriteOutcome old r applying.TheVariants.NoSuchAnswer new = ⊥
IsRewriteOutcome old r applying.TheVariants.Dropped new = ⊥
IsRewriteOutcome old r (applying.TheVariants.EditsMade applied content) new =
    (new ≡ editor_with_new_text old r)
    × (model_applied_edit_of applied ≡ model_applied_edit_of r.applied)
    × IsMessageToServer new.requested (new_text_notification r) content.items
