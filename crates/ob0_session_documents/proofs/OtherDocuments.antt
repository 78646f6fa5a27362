-- Proves that a change of one document leaves the other documents, and their kept analyses,
-- unchanged.
use Rattle.std.proofs.Common.{◌≡◌, ◌∙◌, ℕ, ℤ, true, false, cond, List, Option, Some, None, refl, ap}
use Rattle.std.specs.Ordering.{nat_cmp, eq_by_cmp}
use Rattle.std.specs.Cmp.Lexicographic.{slice_cmp, nat_list_cmp_total}
use Rattle.std.specs.Str.{bytes_eq}
use Rattle.std.specs.FinMap as map_of
use Rattle.std.proofs.lemmas.Map.Text.{is_eq-slice_cmp}
use Rattle.std.proofs.lemmas.Slice.Eq.{bytes_eq-Decides}
use Rattle.ob0_text.specs.OpenDocuments.{Documents, Document, OpenDocuments, TextChange, InStep, OutOfStep, document_at, documents_after_open, documents_after_change, changed_document, documents_after_loss, documents_after_close, update_document_if_open}
use Rattle.ob0_text.proofs.EntryLaws.{updated-some, updated-none}
use Rattle.ob0_session_documents.specs.KeptAnalyses.{AnalysesMatchTexts, KeepsOnlyOtherAnalyses}
use Rattle.ob0_session_documents.specs.declared.analysis_cache.AnalysisCache.{AnalysisCache}

unequal : (u uri : List ℕ) → (u ≡ uri → ⊥) → bytes_eq u uri ≡ false
unequal u uri other = (elim (bytes_eq u uri) as (λ b. bytes_eq u uri ≡ b → b ≡ false) [
  | true ↦ λ e. absurd (other ((bytes_eq-Decides u uri).0 e))
  | false ↦ λ e. refl
]) refl

apart : (u uri : List ℕ) → (u ≡ uri → ⊥) → eq_by_cmp (slice_cmp nat_cmp) u uri ≡ false
apart u uri other = is_eq-slice_cmp u uri ∙ unequal u uri other

module _ (m : Documents) (uri u : List ℕ) (other : u ≡ uri → ⊥) where
  inserted : (d : Document) → map_of.get (map_of.insert m uri d) u ≡ map_of.get m u
  inserted d = map_of.get-insert nat_list_cmp_total m uri d u ∙ ap (λ b. cond b (Some d) (map_of.get m u)) (apart u uri other)

  removed : map_of.get (map_of.remove m uri) u ≡ map_of.get m u
  removed = map_of.get-remove nat_list_cmp_total m uri u ∙ ap (λ b. cond b None (map_of.get m u)) (apart u uri other)

  updated_at : (f : Document → Document) (found : Option Document) → map_of.get m uri ≡ found → map_of.get (update_document_if_open m uri f) u ≡ map_of.get m u
  updated_at f None e = ap (λ n. map_of.get n u) (updated-none m uri f e)
  updated_at f (Some d) e = ap (λ n. map_of.get n u) (updated-some m uri f d e) ∙ inserted (f d)

-- Holds if both states have the same document at every uri except this one.
abbrev pub AgreesElsewhere : OpenDocuments → List ℕ → OpenDocuments → Type 0
AgreesElsewhere old uri new = (u : List ℕ) → (u ≡ uri → ⊥) → document_at new u ≡ document_at old u

pub opened_elsewhere : (old new : OpenDocuments) (uri : List ℕ) (version : ℤ) (text : List ℕ) → new ≡ documents_after_open old uri version text → AgreesElsewhere old uri new
opened_elsewhere old new uri version text is u other = ap (λ d. document_at d u) is ∙ inserted old.by_uri uri u other (InStep version text)

pub changed_elsewhere : (old new : OpenDocuments) (uri : List ℕ) (version : ℤ) (changes : List TextChange) → new ≡ documents_after_change old uri version changes → AgreesElsewhere old uri new
changed_elsewhere old new uri version changes is u other =
    ap (λ d. document_at d u) is ∙ updated_at old.by_uri uri u other (changed_document old.unit version changes) _ refl

pub lost_elsewhere : (old new : OpenDocuments) (uri : List ℕ) → new ≡ documents_after_loss old uri → AgreesElsewhere old uri new
lost_elsewhere old new uri is u other = ap (λ d. document_at d u) is ∙ updated_at old.by_uri uri u other (λ _. OutOfStep) _ refl

pub closed_elsewhere : (old new : OpenDocuments) (uri : List ℕ) → new ≡ documents_after_close old uri → AgreesElsewhere old uri new
closed_elsewhere old new uri is u other = ap (λ d. document_at d u) is ∙ removed old.by_uri uri u other

-- If the analysis of a document was removed and only that document changed, each kept analysis is
-- of the current text of its document.
pub still_theirs : (old new : OpenDocuments) (before after : AnalysisCache) (uri : List ℕ)
    → AnalysesMatchTexts old before → KeepsOnlyOtherAnalyses before uri after → AgreesElsewhere old uri new → AnalysesMatchTexts new after
still_theirs old new before after uri theirs others agrees u text kept =
    let was = others u text kept in
    let there = theirs u text was.0 in (there.0, agrees u was.1 ∙ there.1)
