-- Defines the answers to hover, definition, references and prepareRename at a byte offset. The
-- answers are about the name or field that the identifier at the offset refers to.
-- Rule: docs/PROTOCOL.md, Requests on documents 3 to 5.
use Rattle.std.specs.Prelude.{◌≡◌, ◌==◌, ℕ, Bool, true, false, not, nat_lt, List, [], map, if◌then◌else◌, Option, Some, None, option_map, option_and_then, unwrap_or}
use Rattle.std.specs.List.{filter}
use Rattle.ob0_scan.specs.declared.lexeme.Span.{Span}
use Rattle.ob0_tree.specs.ParsedModule.{ParsedModule}
use Rattle.ob0_tree.specs.TokenIndexLeaves.{token_text_at}
use Rattle.ob0_language_names.specs.Scopes.{predeclared_count}
use Rattle.ob0_language_values.specs.Values.{Shape}
use Rattle.ob0_scope_table.specs.Resolution.{Resolution, token_span}
use Rattle.ob0_types_fields.specs.FieldTypes.{typed_field}
use Rattle.ob0_types_fields.specs.declared.field_identifier.FieldIdentifier.{FieldIdentifier}
use Rattle.ob0_types_fields.specs.FieldIdentifiers.{field_declaring_token, field_index_in_record, field_tokens_in_module}
use Rattle.ob0_types.specs.IdentifierMeanings.{identifier_meaning_at_offset}
use Rattle.ob0_types.specs.declared.identifier_meanings.IdentifierWithMeaning.{IdentifierWithMeaning}
use Rattle.ob0_types.specs.declared.identifier_meanings.IdentifierMeaning.{IdentifierMeaning}
use Rattle.ob0_types.specs.declared.identifier_meanings.IdentifierMeaning.TheVariants.{Name, Field}
use Rattle.ob0_refs.specs.NameAnswers.{answer_about_name}
use Rattle.ob0_refs.specs.Places.{declaring_identifier_span, reference_spans_of_declaration}
use Rattle.ob0_refs.specs.Hovers.{field_text, type_text}
use Rattle.ob0_refs.specs.NameHovers.{HoverTextWithSpan, hover_of_name}
use Rattle.ob0_refs.specs.declared.answer_types.At as answer
use Rattle.ob0_refs.specs.declared.answer_types.Of.TheVariants as answer_of

-- ---- the name or field that the identifier at a place refers to

-- Returns the index of a field among the fields of its record, counted from 0. The field is found
-- by its name. Returns 0 if it isn't found.
abbrev pub field_index_or_zero : ParsedModule → FieldIdentifier → ℕ
field_index_or_zero m x = unwrap_or (field_index_in_record m x.owner (token_text_at m.source x.token)) 0

-- returns the answer about a field's identifier: the identifier's span, the field's record, and the
-- field's index in the record
abbrev pub answer_about_field : ParsedModule → FieldIdentifier → answer.At
answer_about_field m x =
    record { span = token_span m.source x.token; of = answer_of.Field x.owner (field_index_or_zero m x) }

-- returns the answer about the identifier with this token index and this meaning: its span, and the
-- declaration or field to which it refers
abbrev pub answer_about_identifier : ParsedModule → ℕ → IdentifierMeaning → answer.At
answer_about_identifier m token (Name ordinal) = answer_about_name m (record { token = token; ordinal = ordinal })
answer_about_identifier m token (Field k) = answer_about_field m (record { token = token; owner = k })

-- returns the answer about the name or field at a byte offset, or None if there is no name or field
-- at the offset
abbrev pub answer_at_offset : Resolution → ℕ → Option answer.At
answer_at_offset r offset =
    option_map (λ (x : IdentifierWithMeaning). answer_about_identifier r.module_read x.token x.means) (identifier_meaning_at_offset r offset)

-- ---- prepareRename: the span of the name or field, if it can be renamed

-- returns the span of the identifier with this token index and this meaning, or None for a
-- predeclared name
abbrev pub renamable_span_of_identifier : ParsedModule → ℕ → IdentifierMeaning → Option Span
renamable_span_of_identifier m token (Name ordinal) =
    if nat_lt ordinal predeclared_count then None else Some (token_span m.source token)
renamable_span_of_identifier m token (Field k) = Some (token_span m.source token)

-- Returns the span of the identifier at a byte offset if it can be renamed. Returns None if no
-- identifier at the offset refers to a name or field, or if the name is predeclared.
abbrev pub renamable_span_at_offset : Resolution → ℕ → Option Span
renamable_span_at_offset r offset =
    option_and_then (λ (x : IdentifierWithMeaning). renamable_span_of_identifier r.module_read x.token x.means)
    (identifier_meaning_at_offset r offset)

-- ---- definition: the span of the identifier that declares the name or field

-- returns the span of the identifier that declares a field, or None if the field isn't found
abbrev pub definition_of_field : ParsedModule → FieldIdentifier → Option Span
definition_of_field m x =
    option_map (token_span m.source) (field_declaring_token m x.owner (token_text_at m.source x.token))

-- Returns the span of the identifier that declares the name or field that an identifier refers to.
-- Returns None for a predeclared name, and for a field that isn't found.
abbrev pub definition_of_identifier : ParsedModule → ℕ → IdentifierMeaning → Option Span
definition_of_identifier m token (Name ordinal) = declaring_identifier_span m ordinal
definition_of_identifier m token (Field k) = definition_of_field m (record { token = token; owner = k })

-- Returns the span of the identifier that declares the name or field at a byte offset. Returns None
-- if there is no name or field at the offset, if the name is predeclared, or if the field isn't
-- found.
abbrev pub definition_at_offset : Resolution → ℕ → Option Span
definition_at_offset r offset =
    option_and_then (λ (x : IdentifierWithMeaning). definition_of_identifier r.module_read x.token x.means)
    (identifier_meaning_at_offset r offset)

-- ---- references: the spans of all identifiers that refer to the name or field

-- returns these token indexes without the given token index, or all of them for None
abbrev pub list_without_optional_token : Option ℕ → List ℕ → List ℕ
list_without_optional_token None tokens = tokens
list_without_optional_token (Some token) tokens = filter (λ other. not (other == token)) tokens

-- Returns the token indexes of all identifiers that refer to a field, in text order. The identifier
-- that declares the field is included only if the third argument is true.
abbrev pub field_reference_tokens : Resolution → FieldIdentifier → Bool → List ℕ
field_reference_tokens r x true = field_tokens_in_module r x.owner (token_text_at r.module_read.source x.token)
field_reference_tokens r x false =
    list_without_optional_token (field_declaring_token r.module_read x.owner (token_text_at r.module_read.source x.token))
    (field_tokens_in_module r x.owner (token_text_at r.module_read.source x.token))

-- Returns the spans of all identifiers that refer to a field, in text order. The identifier that
-- declares the field is included only if `include` is true.
abbrev pub field_reference_spans : Resolution → Bool → FieldIdentifier → List Span
field_reference_spans r include x = map (token_span r.module_read.source) (field_reference_tokens r x include)

-- Returns the spans of the references to the name or field that the identifier with this token
-- index and this meaning refers to. The declaring identifier is among the references if `include`
-- is true.
abbrev pub references_of_identifier : Resolution → Bool → ℕ → IdentifierMeaning → List Span
references_of_identifier r include token (Name ordinal) = reference_spans_of_declaration r.module_read ordinal include
references_of_identifier r include token (Field k) = field_reference_spans r include (record { token = token; owner = k })

-- Returns the spans of the references to the name or field that an identifier refers to. If there
-- is no identifier (None), the list is empty. The declaring identifier is among the references if
-- `include` is true.
abbrev pub references_of_optional_identifier : Resolution → Bool → Option IdentifierWithMeaning → List Span
references_of_optional_identifier r include None = []
references_of_optional_identifier r include (Some x) = references_of_identifier r include x.token x.means

-- Returns the spans of the references to the name or field at a byte offset. If there is no name or
-- field at the offset, the list is empty. The declaring identifier is among the references if
-- `include` is true.
abbrev pub references_at_offset : Resolution → ℕ → Bool → List Span
references_at_offset r offset include = references_of_optional_identifier r include (identifier_meaning_at_offset r offset)

-- States that these are the spans of the references to the name or field at a byte offset. The list
-- is empty if there is no name or field. The declaring identifier is among the references if
-- `include` is true.
abbrev pub AreReferencesAtOffset : Resolution → ℕ → Bool → List Span → Type 0
AreReferencesAtOffset r offset include spans = spans ≡ references_at_offset r offset include

-- ---- hover: a text about the name or field

-- returns the hover text of a field's identifier, given the identifier's token index and the
-- field's type
abbrev pub hover_of_field_with_type : Resolution → ℕ → Shape → HoverTextWithSpan
hover_of_field_with_type r token s =
    record {
      span = token_span r.module_read.source token;
      text = field_text (token_text_at r.module_read.source token) (type_text s);
    }

-- Returns the hover text of an identifier that declares or selects a field. The text shows the
-- field's type. Returns None if the field isn't found.
abbrev pub hover_of_field : Resolution → FieldIdentifier → Option HoverTextWithSpan
hover_of_field r x = option_map (λ f. hover_of_field_with_type r x.token f.shape) (typed_field r x)

-- Returns the hover text of the identifier with this token index and this meaning. Returns None if
-- the name has no hover text or the field isn't found.
abbrev pub hover_of_identifier : Resolution → ℕ → IdentifierMeaning → Option HoverTextWithSpan
hover_of_identifier r token (Name ordinal) =
    hover_of_name r.module_read (record { token = token; ordinal = ordinal })
hover_of_identifier r token (Field k) = hover_of_field r (record { token = token; owner = k })

-- Returns the hover text of the identifier at a byte offset. Returns None if there is no name or
-- field at the offset, if the name has no hover text, or if the field isn't found.
abbrev pub hover_at_offset : Resolution → ℕ → Option HoverTextWithSpan
hover_at_offset r offset =
    option_and_then (λ (x : IdentifierWithMeaning). hover_of_identifier r x.token x.means) (identifier_meaning_at_offset r offset)
