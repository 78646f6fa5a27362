-- Proves that asks and answers are found by their numbers. Also proves that the calls of the code's
-- editor that open a document, ask or apply an answer perform the acts of the model's editor.
use Rattle.std.proofs.Common.{◌≡◌, ◌∙◌, ◌<◌, ◌≤◌, ◌+◌, ℕ, zero, suc, Bool, true, false, cond, List, [], ◌∷◌, ◌++◌, length, take, drop, get_or, map, Option, Some, None, option_map, arith, refl, ap, sym, subst, add-one}
use Rattle.std.specs.Prelude.{Vec, is_some, unwrap_or, option_and_then, slice_get, ◌==◌}
use Rattle.std.specs.declared.alloc.Global.{Global}
use Rattle.std.proofs.lemmas.List.{map-append, length-map}
use Rattle.std.proofs.lemmas.Option.{slice_get-map, slice_get_read}
use Rattle.std.proofs.Math.Seq.{drop-cons}
use Rattle.ob0_world_editor.specs.declared.editor.SentAsk as requested
use Rattle.ob0_world_editor.specs.declared.editor.ReceivedAnswer as answer
use Rattle.ob0_world_editor.specs.declared.applied_edits.ApplyOutcome as applying
use Rattle.ob0_world_editor.specs.declared.editor.RewrittenDocument as rewritten
use Rattle.ob0_world_rules.specs.TextEdits.{Replacement}
use Rattle.ob0_world_rules.specs.Asks.{Ask}
use Rattle.ob0_world_rules.specs.ClientAndServer.{OpenDocument, SentAsk, ReceivedAnswer, Editor, sent_ask_with_number, editor_document_with_uri}
use Rattle.ob0_world_rules.specs.EditorActs.{open_document, request_edits, apply, ActResult, result_without_messages, result_of_opening_document, result_of_sending_ask, edits_of_answer_to_request, remove_answer_to_request, editor_without_answer, result_of_applying_answer, act_result}
use Rattle.ob0_world_editor.specs.ModelValues.{model_sent_ask_of, model_answer_of}
use Rattle.ob0_world_rules.specs.TextEdits.{replacements_of_edits}
use Rattle.ob0_world_editor.specs.MessagesToServer.{IsRequestWithNumber, SentRequestAsksForEdits}
use Rattle.ob0_world_editor.specs.EditorCalls.{CountsCanGrow, IsSentContent, PerformsAct, IsIndexOfAnswer, IsApplyOutcome, RewritesDocumentUnlessBothNone, IsRewriteOutcome}

-- ---- asks

pub numbered_at : (xs : List requested.SentAsk) (n i : ℕ) (a : requested.SentAsk) → n ≡ suc i → i < length xs → a ≡ get_or xs i a → Some (model_sent_ask_of a) ≡ sent_ask_with_number (map model_sent_ask_of xs) n
numbered_at xs n i a is within at =
    subst (λ m. Some (model_sent_ask_of a) ≡ sent_ask_with_number (map model_sent_ask_of xs) m) (sym is)
    (sym (slice_get-map model_sent_ask_of xs i ∙ ap (option_map model_sent_ask_of) (slice_get_read xs (length xs) i a refl within at)))

past_end : {A : Type 0} (xs : List A) (i : ℕ) → length xs ≤ i → slice_get xs i ≡ None
past_end [] i h = refl
past_end (x ∷ xs) zero h = absurd (omega arith)
past_end (x ∷ xs) (suc i) h = past_end xs i (omega arith)

pub numbered_past : (xs : List requested.SentAsk) (n i : ℕ) → n ≡ suc i → length xs ≤ i → None ≡ sent_ask_with_number (map model_sent_ask_of xs) n
numbered_past xs n i is past =
    subst (λ m. None ≡ sent_ask_with_number (map model_sent_ask_of xs) m) (sym is) (sym (slice_get-map model_sent_ask_of xs i ∙ ap (option_map model_sent_ask_of) (past_end xs i past)))

-- ---- the place of an answer

-- states that no answer before place i is the answer to ask k
pub record Looked (xs : List answer.ReceivedAnswer) (k i : ℕ) : Type 0 where
  pub held : edits_of_answer_to_request k (map model_answer_of xs) ≡ edits_of_answer_to_request k (map model_answer_of (drop i xs))
  pub rest : remove_answer_to_request k (map model_answer_of xs) ≡ map model_answer_of (take i xs) ++ remove_answer_to_request k (map model_answer_of (drop i xs))

pub looked_here : (xs : List answer.ReceivedAnswer) (k i : ℕ) (a : answer.ReceivedAnswer) → i < length xs → a ≡ get_or xs i a → a.number == k ≡ true → Looked xs k i → IsIndexOfAnswer xs k (Some i)
looked_here xs k i a h at this looked =
    let cut : drop i xs ≡ a ∷ drop (suc i) xs = drop-cons xs i a h ∙ ap (λ x. x ∷ drop (suc i) xs) (sym at) in (
      h,
      looked.held ∙ rw (cut, this) refl ∙ sym (ap (option_map (λ (x : answer.ReceivedAnswer). replacements_of_edits x.edits.items)) (slice_get_read xs (length xs) i a refl h at)),
      looked.rest ∙ rw (cut, this) (sym (map-append model_answer_of (take i xs) (drop (suc i) xs))),
    )

-- If the editor has no answer to ask k, removing it changes nothing.
pub none_goes : (k : ℕ) (list : List ReceivedAnswer) → edits_of_answer_to_request k list ≡ None → remove_answer_to_request k list ≡ list
none_goes k [] h = refl
none_goes k (a ∷ rest) h = go (a.number == k) h (none_goes k rest)
  where
    go : (b : Bool) → cond b (Some a.edits) (edits_of_answer_to_request k rest) ≡ None → (edits_of_answer_to_request k rest ≡ None → remove_answer_to_request k rest ≡ rest) → cond b rest (a ∷ remove_answer_to_request k rest) ≡ a ∷ rest
    go true h next = absurd (cc)
    go false h next = ap (λ xs. a ∷ xs) (next h)

-- ---- the outcome for an answer

pub use_edits : (xs : List answer.ReceivedAnswer) (i : ℕ) (a : answer.ReceivedAnswer) → i < length xs → a ≡ get_or xs i a → Some (replacements_of_edits a.edits.items) ≡ option_map (λ (x : answer.ReceivedAnswer). replacements_of_edits x.edits.items) (slice_get xs i)
use_edits xs i a h at = sym (ap (option_map (λ (x : answer.ReceivedAnswer). replacements_of_edits x.edits.items)) (slice_get_read xs (length xs) i a refl h at))

-- An editor with one answer less still has room for its counts.
pub few_without : (e : Editor) (k : ℕ) → CountsCanGrow e → CountsCanGrow (editor_without_answer e k)
few_without e k few = record { openings = few.openings; asks = few.asks; versions = few.versions }

-- The outcome for an answer that the editor doesn't have is `NoSuchAnswer`.
pub comes_not_held : (e : Editor) (k : ℕ) (o : Option (List Replacement)) → o ≡ edits_of_answer_to_request k e.answers → o ≡ None → IsApplyOutcome (act_result e (apply k)) (is_some (edits_of_answer_to_request k e.answers)) applying.TheVariants.NoSuchAnswer (editor_without_answer e k)
comes_not_held e k o is none =
    let absent : edits_of_answer_to_request k e.answers ≡ None = sym is ∙ none in
    subst (λ x. IsApplyOutcome (unwrap_or (option_and_then (result_of_applying_answer (editor_without_answer e k) k) x) (result_without_messages (editor_without_answer e k))) (is_some x) applying.TheVariants.NoSuchAnswer (editor_without_answer e k)) (sym absent)
    ((refl, refl, refl), refl)

-- The outcome for an answer whose edits can't be applied is `Dropped`.
pub comes_dropped : (e rest : Editor) (k : ℕ) (edits : List Replacement) → edits_of_answer_to_request k e.answers ≡ Some edits → rest ≡ editor_without_answer e k → RewritesDocumentUnlessBothNone rest (result_of_applying_answer rest k edits) None → IsApplyOutcome (act_result e (apply k)) (is_some (edits_of_answer_to_request k e.answers)) applying.TheVariants.Dropped rest
comes_dropped e rest k edits held is made =
    subst (λ (r : Editor). IsApplyOutcome (act_result e (apply k)) (is_some (edits_of_answer_to_request k e.answers)) applying.TheVariants.Dropped r) (sym is)
    (subst (λ x. IsApplyOutcome (unwrap_or (option_and_then (result_of_applying_answer (editor_without_answer e k) k) x) (result_without_messages (editor_without_answer e k))) (is_some x) applying.TheVariants.Dropped (editor_without_answer e k)) (sym held)
    (go (result_of_applying_answer (editor_without_answer e k) k edits) (subst (λ r. RewritesDocumentUnlessBothNone r (result_of_applying_answer r k edits) None) is made)))
  where
    go : (o : Option ActResult) → RewritesDocumentUnlessBothNone (editor_without_answer e k) o None → IsApplyOutcome (unwrap_or o (result_without_messages (editor_without_answer e k))) true applying.TheVariants.Dropped (editor_without_answer e k)
    go None h = ((refl, refl, refl), refl)
    go (Some done) h = absurd h

-- The outcome for an answer whose edits were made is `EditsMade`.
pub comes_made : (e rest new : Editor) (k : ℕ) (edits : List Replacement) (r : rewritten.RewrittenDocument) (a : applying.ApplyOutcome) → edits_of_answer_to_request k e.answers ≡ Some edits → rest ≡ editor_without_answer e k → RewritesDocumentUnlessBothNone rest (result_of_applying_answer rest k edits) (Some r) → IsRewriteOutcome rest r a new
    → IsApplyOutcome (act_result e (apply k)) (is_some (edits_of_answer_to_request k e.answers)) a new
comes_made e rest new k edits r applying.TheVariants.NoSuchAnswer held is made applied = absurd applied
comes_made e rest new k edits r applying.TheVariants.Dropped held is made applied = absurd applied
comes_made e rest new k edits r (applying.TheVariants.EditsMade a content) held is made applied =
    subst (λ x. IsApplyOutcome (unwrap_or (option_and_then (result_of_applying_answer (editor_without_answer e k) k) x) (result_without_messages (editor_without_answer e k))) (is_some x) (applying.TheVariants.EditsMade a content) new) (sym held)
    (go (result_of_applying_answer (editor_without_answer e k) k edits) (subst (λ x. RewritesDocumentUnlessBothNone x (result_of_applying_answer x k edits) (Some r)) is made) (subst (λ x. IsRewriteOutcome x r (applying.TheVariants.EditsMade a content) new) is applied))
  where
    go : (o : Option ActResult) → RewritesDocumentUnlessBothNone (editor_without_answer e k) o (Some r) → IsRewriteOutcome (editor_without_answer e k) r (applying.TheVariants.EditsMade a content) new → IsApplyOutcome (unwrap_or o (result_without_messages (editor_without_answer e k))) true (applying.TheVariants.EditsMade a content) new
    go None h applied = absurd h
    go (Some done) h (is_new, is_applied, says) = (
      (is_new ∙ sym h.text, subst (λ sent. IsSentContent new.requested sent (Some content)) (sym h.says) (says, refl)),
      h.applied ∙ ap (λ x. x ∷ []) (sym is_applied),
      refl,
    )

-- ---- documents

-- Opening a document that isn't open has the result that `result_of_opening_document` defines.
pub opens_so : (e new : Editor) (uri text : List ℕ) (content : Option (Vec ℕ Global)) → editor_document_with_uri e uri ≡ None → PerformsAct (result_of_opening_document e uri text) content new → PerformsAct (act_result e (open_document uri text)) content new
opens_so e new uri text content none acts = subst (λ o. PerformsAct (cond (is_some o) (result_without_messages e) (result_of_opening_document e uri text)) content new) (sym none) acts

pub open_already : (e new : Editor) (uri text : List ℕ) (d : OpenDocument) → editor_document_with_uri e uri ≡ Some d → new ≡ e → PerformsAct (act_result e (open_document uri text)) None new
open_already e new uri text d at is = subst (λ o. PerformsAct (cond (is_some o) (result_without_messages e) (result_of_opening_document e uri text)) None new) (sym at) (is, tt)

-- ---- asking

slice_get_last : {A : Type 0} (xs : List A) (x : A) → slice_get (xs ++ x ∷ []) (length xs) ≡ Some x
slice_get_last [] x = refl
slice_get_last (y ∷ xs) x = slice_get_last xs x

-- The editor has sent one more request, and the content is that request.
pub asks_once_more : (e new : Editor) (uri : List ℕ) (ask : Ask) (d : OpenDocument) (content : Vec ℕ Global) (n : ℕ) (older : List requested.SentAsk) (this : requested.SentAsk) → editor_document_with_uri e uri ≡ Some d → map model_sent_ask_of older ≡ e.requested → n ≡ length older
    → model_sent_ask_of this ≡ record { ask = ask; uri = uri; text = d.text; opening = d.opening; version = d.version } → new ≡ record e { requested = map model_sent_ask_of (older ++ this ∷ []) } → IsRequestWithNumber (n + 1) uri ask content.items
    → PerformsAct (act_result e (request_edits uri ask)) (Some content) new
asks_once_more e new uri ask d content n older this at were count is is_new request =
    let a : SentAsk = record { ask = ask; uri = uri; text = d.text; opening = d.opening; version = d.version } in
    let grown : map model_sent_ask_of (older ++ this ∷ []) ≡ e.requested ++ a ∷ [] = map-append model_sent_ask_of older (this ∷ []) ∙ (λ i. were i ++ is i ∷ []) in
    let now : new ≡ record e { requested = e.requested ++ a ∷ [] } = is_new ∙ (λ i. record e { requested = grown i }) in
    let number : n + 1 ≡ suc (length e.requested) = rw add-one (ap suc (count ∙ sym (length-map older model_sent_ask_of) ∙ ap length were)) in
    subst (λ o. PerformsAct (unwrap_or (option_and_then (λ d. Some (result_of_sending_ask e uri ask d)) o) (result_without_messages e)) (Some content) new) (sym at) (
      now,
      (
        (subst (λ k. IsRequestWithNumber k uri ask content.items) number request, subst (λ (x : Editor). SentRequestAsksForEdits x.requested (suc (length e.requested)) uri ask) (sym now) (record { sent = a; is = slice_get_last e.requested a; about = refl; same_ask = refl })),
        refl,
      ),
    )
