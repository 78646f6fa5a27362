-- Proves that the answer about the name at a position meets its definition, and that its JSON value
-- is shallow enough for a message (`FitsInMessage`).
use Rattle.std.proofs.Common.{◌≡◌, ◌≤◌, ℕ, List, [], ◌∷◌, Option, Some, None, map, subst, arith}
use Rattle.std.specs.Str.{chars, IsUtf8}
use Rattle.serde_json.specs.Data.{null, array, items_depth}
use Rattle.serde_json.specs.View.{items_of}
use Rattle.ob0_rpc.specs.WrittenMessages.{FitsInMessage}
use Rattle.ob0_scan.specs.declared.lexeme.Span.{Span}
use Rattle.ob0_scope_table.specs.Resolution.{Resolution}
use Rattle.ob0_text.specs.declared.position_types.Unit.{Unit}
use Rattle.ob0_analysis.specs.AnalysisAnswers.{AnswersExactlyIfWellTyped, IsResolvedWellTypedModule}
use Rattle.ob0_analysis.specs.ReportedErrors.{IsWellTypedModule}
use Rattle.ob0_analysis.specs.TextBytes.{utf8}
use Rattle.ob0_session_answers.specs.Questions.{location_value_of_span}
use Rattle.ob0_analysis.proofs.Scanning.{utf8_of}

-- Holds if the text is a module and its names have this answer, or there is no answer (None) and
-- the text isn't a well-typed module.
abbrev pub FoundOf : {A : Type 0} → List ℕ → (Resolution → A → Type 0) → Option A → Type 0
FoundOf text is (Some answer) = (names : Resolution) × IsResolvedWellTypedModule (utf8 text) names × is names answer
FoundOf text is None = IsWellTypedModule (utf8 text) → ⊥

pub found_of : {A : Type 0} (bytes text : List ℕ) (is : Resolution → A → Type 0) (found : Option A) → IsUtf8 bytes → chars bytes ≡ text
    → AnswersExactlyIfWellTyped bytes (λ names answer. is names answer) found → FoundOf text is found
found_of bytes text is (Some answer) u same h =
    (h.0, subst (λ (t : List ℕ). IsResolvedWellTypedModule t h.0) (utf8_of bytes text u same) h.1, h.2)
found_of bytes text is None u same h = subst (λ (t : List ℕ). IsWellTypedModule t → ⊥) (utf8_of bytes text u same) h

-- ---- values that can be sent

shallow_locations : (unit : Unit) (uri text : List ℕ) (spans : List Span) → items_depth (items_of (map (location_value_of_span unit uri text) spans)) ≤ 3
shallow_locations unit uri text [] = omega arith
shallow_locations unit uri text (s ∷ ss) = omega (arith, shallow_locations unit uri text ss)

pub locations_can_be_sent : (unit : Unit) (uri text : List ℕ) (spans : List Span) → FitsInMessage (array (items_of (map (location_value_of_span unit uri text) spans)))
locations_can_be_sent unit uri text spans = record { shallow = omega (arith, shallow_locations unit uri text spans) }

pub null_can_be_sent : FitsInMessage null
null_can_be_sent = record { shallow = omega arith }
