-- Defines which analyses the cache contains, and which analyses it may contain after a call. Also
-- defines when each analysis in the cache belongs to the current text of its document.
use Rattle.std.specs.Prelude.{◌≡◌, ◌⊎◌, ℕ, ℤ, List, Contains, Option, Some, None, String, string_bytes}
use Rattle.std.specs.Str.{chars}
use Rattle.std.specs.declared.alloc.Global.{Global}
use Rattle.lru.specs.LruCache.{LruCache}
use Rattle.ob0_text.specs.OpenDocuments.{OpenDocuments, InStep, document_at}
use Rattle.ob0_session_documents.specs.declared.analysis_cache.AnalysisCache.{AnalysisCache}

-- States that the cache contains an analysis of the text `text` under this uri. In the specs, an
-- analysis is represented by its text. If there is no cache yet (None), this never holds.
abbrev pub CacheContains : Option (LruCache (String Global) (List ℕ)) → List ℕ → List ℕ → Type 0
CacheContains None uri text = ⊥
CacheContains (Some cache) uri text =
    (key : String Global) × Contains cache.entries (key, text) × (string_bytes key ≡ uri)

-- States that the cache of `analyses` contains an analysis of this text for the document with this
-- uri.
abbrev pub KeepsAnalysis : AnalysisCache → List ℕ → List ℕ → Type 0
KeepsAnalysis analyses = CacheContains analyses.by_uri

-- States that every analysis in `new` was already in `old`.
abbrev pub AddsNoAnalysis : AnalysisCache → AnalysisCache → Type 0
AddsNoAnalysis old new = (uri text : List ℕ) → KeepsAnalysis new uri text → KeepsAnalysis old uri text

-- States that every analysis in `new` was already in `old`, and that no analysis in `new` belongs
-- to this document.
abbrev pub KeepsOnlyOtherAnalyses : AnalysisCache → List ℕ → AnalysisCache → Type 0
KeepsOnlyOtherAnalyses old document new =
    (uri text : List ℕ)
    → KeepsAnalysis new uri text
    → KeepsAnalysis old uri text × (uri ≡ document → ⊥)

-- States that every analysis in `new` was already in `old` or is the added analysis: the analysis
-- of the text `its_text` of this document.
abbrev pub AddsOnlyThisAnalysis : AnalysisCache → List ℕ → List ℕ → AnalysisCache → Type 0
AddsOnlyThisAnalysis old document its_text new =
    (uri text : List ℕ) → KeepsAnalysis new uri text
    → KeepsAnalysis old uri text ⊎ ((uri ≡ document) × (text ≡ its_text))

-- States that the document with this uri is open and in step, and has this text (as bytes of
-- UTF-8).
abbrev pub HasDocumentText : OpenDocuments → List ℕ → List ℕ → Type 0
HasDocumentText documents uri text =
    (version : ℤ) × (document_at documents uri ≡ Some (InStep version (chars text)))

-- States that each analysis in the cache is the analysis of its document's current text.
abbrev pub AnalysesMatchTexts : OpenDocuments → AnalysisCache → Type 0
AnalysesMatchTexts documents analyses =
    (uri text : List ℕ) → KeepsAnalysis analyses uri text → HasDocumentText documents uri text
