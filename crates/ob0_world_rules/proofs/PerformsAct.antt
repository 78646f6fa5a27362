-- Lists the possible results of an act of the editor, as seven cases. A claim that holds in each
-- case holds for every act.
use Rattle.std.proofs.Common.{◌≡◌, ℕ, cond, List, [], ◌∷◌, refl, sym, subst}
use Rattle.std.specs.Prelude.{Option, Some, None, is_some, unwrap_or, option_and_then}
use Rattle.std.proofs.lemmas.Option.{same_Some, none-some}
use Rattle.ob0_text.specs.OpenDocuments.{TextChange}
use Rattle.ob0_world_rules.specs.TextEdits.{Replacement, text_after_edits, whole_text_change, text_after_changes}
use Rattle.ob0_world_rules.specs.Asks.{Ask}
use Rattle.ob0_world_rules.specs.ClientAndServer.{OpenDocument, SentAsk, Editor, sent_ask_with_number, editor_document_with_uri, AppliedEdit}
use Rattle.ob0_world_rules.specs.EditorActs.{EditorAct, open_document, change_document, close_document, request_edits, apply, discard, ActResult, result_without_messages, result_of_opening_document, result_of_changing_text, result_of_closing_document, result_of_sending_ask, edits_of_answer_to_request, editor_without_answer, document_if_unchanged_since_ask, result_of_applying_answer, act_result}
use Rattle.ob0_world_rules.proofs.SameDocument.{Same, same_from}

-- the edit that gives the document d the text `text`
abbrev pub edit_of : List ℕ → OpenDocument → List ℕ → AppliedEdit
edit_of uri d text = record { uri = uri; before = d.text; after = text }

pub record OfEach (e : Editor) (P : ActResult → Type 0) : Type 0 where
  pub still : P (result_without_messages e)
  pub opened : (uri text : List ℕ) → editor_document_with_uri e uri ≡ None → P (result_of_opening_document e uri text)
  pub changed : (uri : List ℕ) (d : OpenDocument) (how : List TextChange) (text : List ℕ) → editor_document_with_uri e uri ≡ Some d → text_after_changes e.unit (Some d.text) how ≡ Some text → P (result_of_changing_text e uri d text how [])
  pub closed : (uri : List ℕ) (d : OpenDocument) → editor_document_with_uri e uri ≡ Some d → P (result_of_closing_document e uri)
  pub asked : (uri : List ℕ) (ask : Ask) (d : OpenDocument) → editor_document_with_uri e uri ≡ Some d → P (result_of_sending_ask e uri ask d)
  pub made : (k : ℕ) (edits : List Replacement) (a : SentAsk) (d : OpenDocument) (text : List ℕ) → edits_of_answer_to_request k e.answers ≡ Some edits → sent_ask_with_number e.requested k ≡ Some a → Same e a d → text_after_edits e.unit d.text edits ≡ Some text
      → P (result_of_changing_text (editor_without_answer e k) a.uri d text (whole_text_change text ∷ []) (edit_of a.uri d text ∷ []))
  pub dropped : (k : ℕ) → P (result_without_messages (editor_without_answer e k))

-- If the composition of two partial functions has a result, both have one.
pub then_some : {A B : Type 0} (f : A → Option B) (o : Option A) (y : B) → option_and_then f o ≡ Some y → (x : A) × (o ≡ Some x) × (f x ≡ Some y)
then_some f None y h = absurd (none-some y h)
then_some f (Some x) y h = (x, refl, h)

-- the result of applying answer k, if its edits can be made
pub record Applies (e : Editor) (k : ℕ) (done : ActResult) : Type 0 where
  pub edits : List Replacement
  pub requested : SentAsk
  pub document : OpenDocument
  pub text : List ℕ
  pub held : edits_of_answer_to_request k e.answers ≡ Some edits
  pub numbered : sent_ask_with_number e.requested k ≡ Some requested
  pub same : Same e requested document
  pub makes : text_after_edits e.unit document.text edits ≡ Some text
  pub is : done ≡ result_of_changing_text (editor_without_answer e k) requested.uri document text (whole_text_change text ∷ []) (edit_of requested.uri document text ∷ [])

pub applied_so : (e : Editor) (k : ℕ) (done : ActResult) → option_and_then (result_of_applying_answer (editor_without_answer e k) k) (edits_of_answer_to_request k e.answers) ≡ Some done → Applies e k done
applied_so e k done h =
    let (edits, held, then_asked) = then_some _ (edits_of_answer_to_request k e.answers) done h in
    let (a, numbered, then_open) = then_some _ (sent_ask_with_number e.requested k) done then_asked in
    let (d, found, then_edited) = then_some _ (option_and_then (document_if_unchanged_since_ask a) (editor_document_with_uri e a.uri)) done then_open in
    let (text, makes, is) = then_some _ (text_after_edits e.unit d.text edits) done then_edited in
    record { edits = edits; requested = a; document = d; text = text; held = held; numbered = numbered; same = same_from e a d found; makes = makes; is = sym (same_Some _ done is) }

module _ (e : Editor) (P : ActResult → Type 0) (each : OfEach e P) where
  by_value : (o : Option ActResult) (other : ActResult) → P other → ((done : ActResult) → o ≡ Some done → P done) → P (unwrap_or o other)
  by_value None other this that = this
  by_value (Some done) other this that = that done refl

  by_open : (uri : List ℕ) (yes' no' : ActResult) → ((d : OpenDocument) → editor_document_with_uri e uri ≡ Some d → P yes') → (editor_document_with_uri e uri ≡ None → P no') → P (cond (is_some (editor_document_with_uri e uri)) yes' no')
  by_open uri yes' no' this that = go (editor_document_with_uri e uri) refl
    where
      go : (o : Option OpenDocument) → editor_document_with_uri e uri ≡ o → P (cond (is_some o) yes' no')
      go None is = that is
      go (Some d) is = this d is

  abbrev changed_by : List ℕ → List TextChange → OpenDocument → Option ActResult
  changed_by uri how d = option_and_then (λ text. Some (result_of_changing_text e uri d text how [])) (text_after_changes e.unit (Some d.text) how)

  pub of_each : (act : EditorAct) → P (act_result e act)
  of_each (open_document uri text) = by_open uri (result_without_messages e) (result_of_opening_document e uri text) (λ d is. each.still) (each.opened uri text)
  of_each (change_document uri how) =
      by_value (option_and_then (changed_by uri how) (editor_document_with_uri e uri)) (result_without_messages e) each.still
      (λ done h.
      let (d, at, then_made) = then_some (changed_by uri how) (editor_document_with_uri e uri) done h in
      let (text, made, is) = then_some (λ text. Some (result_of_changing_text e uri d text how [])) (text_after_changes e.unit (Some d.text) how) done then_made in
      subst P (same_Some _ done is) (each.changed uri d how text at made))
  of_each (close_document uri) = by_open uri (result_of_closing_document e uri) (result_without_messages e) (each.closed uri) (λ is. each.still)
  of_each (request_edits uri ask) =
      by_value (option_and_then (λ d. Some (result_of_sending_ask e uri ask d)) (editor_document_with_uri e uri)) (result_without_messages e) each.still
      (λ done h.
      let (d, at, is) = then_some (λ d. Some (result_of_sending_ask e uri ask d)) (editor_document_with_uri e uri) done h in
      subst P (same_Some _ done is) (each.asked uri ask d at))
  of_each (apply k) =
      by_value (option_and_then (result_of_applying_answer (editor_without_answer e k) k) (edits_of_answer_to_request k e.answers)) (result_without_messages (editor_without_answer e k)) (each.dropped k)
      (λ done h.
      let a : Applies e k done = applied_so e k done h in
      subst P (sym a.is) (each.made k a.edits a.requested a.document a.text a.held a.numbered a.same a.makes))
  of_each (discard k) = each.dropped k
