-- Proves that a document with the opening number and the version that are stored with a request
-- also has the text that is stored with it. The reason is that opening numbers are never reused,
-- and that each change of a document's text raises its version.
use Rattle.std.proofs.Common.{◌≡◌, ◌∙◌, ℕ, zero, suc, ◌+◌, ◌≤◌, ◌<◌, Bool, true, false, cond, List, [], ◌∷◌, ◌++◌, refl, sym, ap, subst, arith, ◌&&◌}
use Rattle.std.specs.Prelude.{ℤ, pos, negsuc, Option, Some, None, All, option_and_then, slice_get, ◌==◌}
use Rattle.std.specs.Str.{bytes_eq}
use Rattle.std.specs.Ordering.{nat_cmp}
use Rattle.std.specs.Cmp.Lexicographic.{slice_cmp}
use Rattle.std.specs.FinMap as map_of
use Rattle.std.proofs.lemmas.Bool.{eqb-true, and_parts}
use Rattle.std.proofs.lemmas.Option.{cond_some, same_Some, none-some}
use Rattle.std.proofs.lemmas.List.Elements.{All-nil, All-head, All-tail, All-weaker, All-push}
use Rattle.ob0_text.specs.declared.position_types.Unit.{Unit}
use Rattle.ob0_text.specs.OpenDocuments.{TextChange}
use Rattle.ob0_world_rules.specs.ClientAndServer.{OpenDocument, EditorDocuments, SentAsk, ReceivedAnswer, Editor, new_editor, sent_ask_with_number, editor_document_with_uri, AppliedEdit}
use Rattle.ob0_world_rules.specs.Asks.{Ask}
use Rattle.ob0_world_rules.specs.EditorActs.{version_as_natural, next_version, is_same_version, result_of_opening_document, result_of_changing_text, result_of_closing_document, result_of_sending_ask, document_if_unchanged_since_ask}
use Rattle.ob0_world_rules.proofs.UriLaws.{get_put, get_removed, same_uri}

-- states that a request was made earlier: its opening's number isn't fresh, and in that opening versions have only
-- risen
record Past (e : Editor) (a : SentAsk) : Type 0 where
  known : a.opening ≤ e.openings
  risen : (d : OpenDocument) → editor_document_with_uri e a.uri ≡ Some d → d.opening ≡ a.opening → version_as_natural a.version ≤ version_as_natural d.version

-- states that the document of the request is d, with the same opening and the same version
pub record Same (e : Editor) (a : SentAsk) (d : OpenDocument) : Type 0 where
  pub at : editor_document_with_uri e a.uri ≡ Some d
  pub opening : d.opening ≡ a.opening
  pub version : d.version ≡ a.version

-- Versions that are found equal are equal.
same_versions : (v w : ℤ) → is_same_version v w ≡ true → v ≡ w
same_versions (pos n) (pos m) is = ap pos (eqb-true n m is)
same_versions (pos n) (negsuc m) is = absurd (cc)
same_versions (negsuc n) (pos m) is = absurd (cc)
same_versions (negsuc n) (negsuc m) is = ap negsuc (eqb-true n m is)

pub same_from : (e : Editor) (a : SentAsk) (d : OpenDocument) → option_and_then (document_if_unchanged_since_ask a) (editor_document_with_uri e a.uri) ≡ Some d → Same e a d
same_from e a d h = go (editor_document_with_uri e a.uri) refl h
  where
    go : (o : Option OpenDocument) → editor_document_with_uri e a.uri ≡ o → option_and_then (document_if_unchanged_since_ask a) o ≡ Some d → Same e a d
    go None is h = absurd (none-some d h)
    go (Some x) is h =
        let both : (x.opening == a.opening && is_same_version x.version a.version ≡ true) × (x ≡ d) = cond_some _ x d h in
        let tests : (x.opening == a.opening ≡ true) × (is_same_version x.version a.version ≡ true) = and_parts _ _ both.0 in
        record {
          at = is ∙ ap Some both.1;
          opening = ap (λ y. y.opening) (sym both.1) ∙ eqb-true _ _ tests.0;
          version = ap (λ y. y.version) (sym both.1) ∙ same_versions x.version a.version tests.1;
        }

-- states that in the later editor an earlier request has the same document only if it had it before
record Later (e e' : Editor) : Type 0 where
  past : (a : SentAsk) → Past e a → Past e' a
  same : (a : SentAsk) (d : OpenDocument) → Past e a → Same e' a d → Same e a d

-- ---- each change of the editor

-- A document found after an insertion is the inserted one, or was found before.
pub found : (docs : EditorDocuments) (uri q : List ℕ) (new d : OpenDocument) (P : Type 0) → map_of.get (map_of.insert docs uri new) q ≡ Some d
    → (q ≡ uri → new ≡ d → P) → (map_of.get docs q ≡ Some d → P) → P
found docs uri q new d P h this other = go (bytes_eq q uri) refl (sym (get_put docs uri new q) ∙ h)
  where
    go : (b : Bool) → bytes_eq q uri ≡ b → cond b (Some new) (map_of.get docs q) ≡ Some d → P
    go true is h = this (same_uri q uri is) (same_Some new d h)
    go false is h = other h

-- A document found after a removal was found before.
pub left : (docs : EditorDocuments) (uri q : List ℕ) (d : OpenDocument) → map_of.get (map_of.remove docs uri) q ≡ Some d → map_of.get docs q ≡ Some d
left docs uri q d h = go (bytes_eq q uri) (sym (get_removed docs uri q) ∙ h)
  where
    go : (b : Bool) → cond b None (map_of.get docs q) ≡ Some d → map_of.get docs q ≡ Some d
    go true h = absurd (none-some d h)
    go false h = h

-- Changing the editor's requests or answers doesn't change the document of any request.
later_documents : (e : Editor) (list : List SentAsk) (kept : List ReceivedAnswer) → Later e (record e { requested = list; answers = kept })
later_documents e list kept =
    record {
      past = λ a past. record { known = past.known; risen = past.risen };
      same = λ a d past same. record { at = same.at; opening = same.opening; version = same.version };
    }

-- Opening a document doesn't give an earlier request its document back, since the opening number is fresh.
later_open : (e : Editor) (uri : List ℕ) (new : OpenDocument) → new.opening ≡ e.openings + 1 → Later e (record e { documents = map_of.insert e.documents uri new; openings = e.openings + 1 })
later_open e uri new fresh =
    record {
      past = λ a past. record {
        known = let known : a.opening ≤ e.openings = past.known in omega arith;
        risen = λ d at opening. found e.documents uri a.uri new d (version_as_natural a.version ≤ version_as_natural d.version) at (λ same is. absurd (not_fresh a past d is opening)) (λ was. past.risen d was opening);
      };
      same = λ a d past same. found e.documents uri a.uri new d (Same e a d) same.at (λ at is. absurd (not_fresh a past d is same.opening)) (λ was. record { at = was; opening = same.opening; version = same.version });
    }
  where
    not_fresh : (a : SentAsk) → Past e a → (d : OpenDocument) → new ≡ d → d.opening ≡ a.opening → ⊥
    not_fresh a past d is opening =
        let known : a.opening ≤ e.openings = past.known in
        let equal : e.openings + 1 ≡ a.opening = sym fresh ∙ ap (λ y. y.opening) is ∙ opening in
        omega arith

-- Revising a document doesn't give an earlier request its document back, since the version rises.
later_revise : (e : Editor) (uri : List ℕ) (d new : OpenDocument) → new.opening ≡ d.opening → version_as_natural d.version < version_as_natural new.version → editor_document_with_uri e uri ≡ Some d → Later e (record e { documents = map_of.insert e.documents uri new })
later_revise e uri d new same_opening rises was_open =
    record {
      past = λ a past. record {
        known = past.known;
        risen = λ x at opening. found e.documents uri a.uri new x (version_as_natural a.version ≤ version_as_natural x.version) at
            (λ same is. let old : version_as_natural a.version ≤ version_as_natural d.version = risen_before a past x same is opening in
            let version : version_as_natural new.version ≡ version_as_natural x.version = ap (λ y. version_as_natural y.version) is in omega arith)
            (λ was. past.risen x was opening);
      };
      same = λ a x past same. found e.documents uri a.uri new x (Same e a x) same.at
          (λ at is. let old : version_as_natural a.version ≤ version_as_natural d.version = risen_before a past x at is same.opening in
          let version : version_as_natural new.version ≡ version_as_natural x.version = ap (λ y. version_as_natural y.version) is in
          let equal : version_as_natural x.version ≡ version_as_natural a.version = ap version_as_natural same.version in absurd (omega arith))
          (λ was. record { at = was; opening = same.opening; version = same.version });
    }
  where
    risen_before : (a : SentAsk) → Past e a → (x : OpenDocument) → a.uri ≡ uri → new ≡ x → x.opening ≡ a.opening → version_as_natural a.version ≤ version_as_natural d.version
    risen_before a past x same is opening = past.risen d (ap (editor_document_with_uri e) same ∙ was_open) (sym same_opening ∙ ap (λ y. y.opening) is ∙ opening)

later_close : (e : Editor) (uri : List ℕ) → Later e (record e { documents = map_of.remove e.documents uri })
later_close e uri =
    record {
      past = λ a past. record { known = past.known; risen = λ d at opening. past.risen d (left e.documents uri a.uri d at) opening };
      same = λ a d past same. record { at = left e.documents uri a.uri d same.at; opening = same.opening; version = same.version };
    }

-- ---- what the model's editor keeps

-- states that an earlier request's document has the text that was asked about, if it has the same opening and version
record IsKnown (e : Editor) (a : SentAsk) : Type 0 where
  past : Past e a
  same_text : (d : OpenDocument) → Same e a d → d.text ≡ a.text

pub record Knows (e : Editor) : Type 0 where
  openings : (uri : List ℕ) (d : OpenDocument) → editor_document_with_uri e uri ≡ Some d → d.opening ≤ e.openings
  asks : All (IsKnown e) e.requested

later_asks : (e e' : Editor) → Later e e' → (list : List SentAsk) → All (IsKnown e) list → All (IsKnown e') list
later_asks e e' later list all =
    All-weaker (IsKnown e) (IsKnown e') (λ a known. record { past = later.past a known.past; same_text = λ d same. known.same_text d (later.same a d known.past same) }) list all

known_numbered : (e : Editor) (list : List SentAsk) (k : ℕ) (a : SentAsk) → All (IsKnown e) list → slice_get list k ≡ Some a → IsKnown e a
known_numbered e [] k a all h = absurd (none-some a h)
known_numbered e (x ∷ list) zero a all h = subst (IsKnown e) (same_Some x a h) (All-head (IsKnown e) x list all)
known_numbered e (x ∷ list) (suc k) a all h = known_numbered e list k a (All-tail (IsKnown e) x list all) h

-- A document with the opening and the version of request k has the text of that request.
pub same_text : (e : Editor) (k : ℕ) (a : SentAsk) (d : OpenDocument) → Knows e → sent_ask_with_number e.requested k ≡ Some a → Same e a d → d.text ≡ a.text
same_text e zero a d knows h same = absurd (none-some a h)
same_text e (suc k) a d knows h same = (known_numbered e e.requested k a knows.asks h).same_text d same

pub knows_first : (unit : Unit) → Knows (new_editor unit)
knows_first unit = record { openings = λ uri d at. absurd (none-some d (sym (map_of.get-empty (slice_cmp nat_cmp) uri) ∙ at)); asks = All-nil (IsKnown (new_editor unit)) }

pub knows_other : (e : Editor) (list : List ReceivedAnswer) → Knows e → Knows (record e { answers = list })
knows_other e list knows = record { openings = knows.openings; asks = later_asks e (record e { answers = list }) (later_documents e e.requested list) e.requested knows.asks }

pub knows_open : (e : Editor) (uri text : List ℕ) → Knows e → Knows (result_of_opening_document e uri text).editor
knows_open e uri text knows =
    let d : OpenDocument = record { version = pos 1; text = text; opening = e.openings + 1 } in
    record {
      openings = λ q x at. found e.documents uri q d x (x.opening ≤ e.openings + 1) at
          (λ same is. subst (λ y. y.opening ≤ e.openings + 1) is (omega arith))
          (λ was. let known : x.opening ≤ e.openings = knows.openings q x was in omega arith);
      asks = later_asks e (result_of_opening_document e uri text).editor (later_open e uri d refl) e.requested knows.asks;
    }

pub knows_rewrite : (e : Editor) (uri : List ℕ) (d : OpenDocument) (text : List ℕ) (how : List TextChange) (applied : List AppliedEdit) → editor_document_with_uri e uri ≡ Some d → Knows e → Knows (result_of_changing_text e uri d text how applied).editor
knows_rewrite e uri d text how applied was_open knows =
    let new : OpenDocument = record d { version = next_version d.version; text = text } in
    record {
      openings = λ q x at. found e.documents uri q new x (x.opening ≤ e.openings) at
          (λ same is. subst (λ y. y.opening ≤ e.openings) is (knows.openings uri d was_open))
          (λ was. knows.openings q x was);
      asks = later_asks e (result_of_changing_text e uri d text how applied).editor (later_revise e uri d new refl (omega arith) was_open) e.requested knows.asks;
    }

pub knows_close : (e : Editor) (uri : List ℕ) → Knows e → Knows (result_of_closing_document e uri).editor
knows_close e uri knows =
    record {
      openings = λ q x at. knows.openings q x (left e.documents uri q x at);
      asks = later_asks e (result_of_closing_document e uri).editor (later_close e uri) e.requested knows.asks;
    }

pub knows_ask : (e : Editor) (uri : List ℕ) (ask : Ask) (d : OpenDocument) → editor_document_with_uri e uri ≡ Some d → Knows e → Knows (result_of_sending_ask e uri ask d).editor
knows_ask e uri ask d was_open knows =
    let a : SentAsk = record { ask = ask; uri = uri; text = d.text; opening = d.opening; version = d.version } in
    let new : Editor = (result_of_sending_ask e uri ask d).editor in
    record {
      openings = knows.openings;
      asks = All-push (IsKnown new) e.requested a (later_asks e new (later_documents e (e.requested ++ a ∷ []) e.answers) e.requested knows.asks)
          (record {
            past = record {
              known = knows.openings uri d was_open;
              risen = λ x at opening. subst (λ y. version_as_natural d.version ≤ version_as_natural y.version) (same_Some d x (sym was_open ∙ at)) (omega arith);
            };
            same_text = λ x same. ap (λ y. y.text) (same_Some x d (sym same.at ∙ was_open));
          });
    }
