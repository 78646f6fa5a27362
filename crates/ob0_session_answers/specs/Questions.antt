-- Defines the answers to hover, definition, references and prepareRename: four questions about the
-- name or field at a position of a document's text.
-- Rule: docs/PROTOCOL.md, Requests on documents 2 to 5.
use Rattle.std.specs.Prelude.{◌≡◌, ◌⊎◌, ℕ, List, Bool, Option, Some, None, map, option_map}
use Rattle.serde_json.specs.Data.{Data, null, array, no_items}
use Rattle.serde_json.specs.View.{items_of}
use Rattle.ob0_scan.specs.declared.lexeme.Span.{Span}
use Rattle.ob0_text.specs.Texts.{offset_of}
use Rattle.ob0_text.specs.Units.{width_of}
use Rattle.ob0_text.specs.declared.position_types.Unit.{Unit}
use Rattle.ob0_edits_tokens.specs.Ranges.{range_of}
use Rattle.ob0_scope_table.specs.Resolution.{Resolution}
use Rattle.ob0_refs.specs.NameHovers.{HoverTextWithSpan}
use Rattle.ob0_refs.specs.Questions.{AreReferencesAtOffset, hover_at_offset, definition_at_offset, renamable_span_at_offset}
use Rattle.ob0_rpc.specs.Requests.{DocumentPlace}
use Rattle.ob0_rpc.specs.JsonShapes.{range_value, result_message}
use Rattle.ob0_rpc.specs.WrittenMessages.{Writes}
use Rattle.ob0_analysis.specs.AnalysisAnswers.{IsResolvedWellTypedModule}
use Rattle.ob0_analysis.specs.ReportedErrors.{IsWellTypedModule}
use Rattle.ob0_analysis.specs.TextBytes.{utf8}
use Rattle.ob0_session_json.specs.JsonShapes.{hover_value, location_value_of_range}

-- A question about the name or field at a position: hover, definition, references or prepareRename.
pub data NameQuestion : Type 0 where
  hover_question : NameQuestion
  definition_question : NameQuestion
  -- A question for references. The Bool says whether the declaration is included.
  references_question : Bool → NameQuestion
  prepare_rename_question : NameQuestion

-- ---- JSON values. `unit` is the unit of positions, and `text` has the text's characters.

-- Returns the JSON value of the range that a span covers in the text.
abbrev pub range_value_of_span : Unit → List ℕ → Span → Data
range_value_of_span unit text span =
    let range = range_of (width_of unit) text span in range_value range.start range.end

-- Returns the JSON value of a span's location in the document with this uri.
abbrev pub location_value_of_span : Unit → List ℕ → List ℕ → Span → Data
location_value_of_span unit uri text span = location_value_of_range uri (range_of (width_of unit) text span)

-- Returns the JSON value of a hover result: the hover text, and the range of the name or field that
-- it describes.
abbrev pub hover_value_with_range : Unit → List ℕ → HoverTextWithSpan → Data
hover_value_with_range unit text shown = hover_value shown.text (range_value_of_span unit text shown.span)

-- Returns this JSON value, or the JSON value null for None.
abbrev pub value_or_null : Option Data → Data
value_or_null (Some value) = value
value_or_null None = null

-- Returns the byte offset of the position `at.position` in the text. The position is counted in
-- `unit`.
abbrev pub offset_of_place : Unit → List ℕ → DocumentPlace → ℕ
offset_of_place unit text at = offset_of (width_of unit) text at.position

-- States that the JSON value is the list of the locations of all references to the name or field at
-- the position, in text order. The list contains the declaration only if `include` is true.
abbrev pub AnswersReferencesQuestion : Unit → List ℕ → DocumentPlace → Bool → Resolution → Data → Type 0
AnswersReferencesQuestion unit text at include names value =
    (spans : List Span)
    × AreReferencesAtOffset names (offset_of_place unit text at) include spans
    × (value ≡ array (items_of (map (location_value_of_span unit at.uri text) spans)))

-- States that the JSON value answers the question about a well-typed module. `names` says which
-- declaration each name of the module refers to.
abbrev pub AnswersQuestionInModule : Unit → List ℕ → DocumentPlace → NameQuestion → Resolution → Data → Type 0
AnswersQuestionInModule unit text at hover_question names value =
    value
    ≡ value_or_null
    (option_map (hover_value_with_range unit text) (hover_at_offset names (offset_of_place unit text at)))
AnswersQuestionInModule unit text at definition_question names value =
    value
    ≡ value_or_null
    (option_map (location_value_of_span unit at.uri text) (definition_at_offset names (offset_of_place unit text at)))
AnswersQuestionInModule unit text at (references_question include) names value =
    AnswersReferencesQuestion unit text at include names value
AnswersQuestionInModule unit text at prepare_rename_question names value =
    value
    ≡ value_or_null
    (option_map (range_value_of_span unit text) (renamable_span_at_offset names (offset_of_place unit text at)))

-- Returns the answer to a question about a text that isn't a well-typed module: an empty list for
-- references, otherwise null.
abbrev pub answer_for_ill_typed_text : NameQuestion → Data
answer_for_ill_typed_text hover_question = null
answer_for_ill_typed_text definition_question = null
answer_for_ill_typed_text (references_question include) = array no_items
answer_for_ill_typed_text prepare_rename_question = null

-- ---- the answer to a question about a text

-- States that the JSON value answers the question about a position in this text. If the text isn't
-- a well-typed module, the value is `answer_for_ill_typed_text`.
abbrev pub AnswersQuestion : Unit → List ℕ → DocumentPlace → NameQuestion → Data → Type 0
AnswersQuestion unit text at question value =
    ((names : Resolution)
    × IsResolvedWellTypedModule (utf8 text) names
    × AnswersQuestionInModule unit text at question names value)
    ⊎ (¬ IsWellTypedModule (utf8 text) × (value ≡ answer_for_ill_typed_text question))

-- States that `content` is the text, as bytes, of a message that answers this question. The message
-- has the id of the request that asks the question.
abbrev pub WritesAnswerToQuestion : Unit → Data → DocumentPlace → NameQuestion → List ℕ → List ℕ → Type 0
WritesAnswerToQuestion unit id at question text content =
    (value : Data)
    × AnswersQuestion unit text at question value
    × Writes (result_message id value) content
