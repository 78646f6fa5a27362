-- States laws about hover, definition and renaming at an identifier that refers to a field.
-- Rule: none; used in contracts of the functions in `laws`.
use Rattle.std.specs.Prelude.{◌≡◌, ℕ, true, Some, None, map, is_some}
use Rattle.std.specs.List.{Contains}
use Rattle.ob0_scan.specs.declared.lexeme.Span.{Span}
use Rattle.ob0_tree.specs.TokenIndexLeaves.{token_text_at}
use Rattle.ob0_scope_table.specs.Resolution.{Resolution, token_span}
use Rattle.ob0_scope.specs.NamesAtPlaces.{name_at_offset}
use Rattle.ob0_types_fields.specs.FieldIdentifiers.{module_field_at_offset, field_tokens_in_module}
use Rattle.ob0_types.specs.CheckedModules.{IsWellTyped}
use Rattle.ob0_refs.specs.Questions.{hover_at_offset, definition_at_offset, references_at_offset, answer_at_offset}
use Rattle.ob0_refs.specs.declared.answer_types.Of.TheVariants as answer_of

-- States that the identifier at the byte offset `offset` has the span `span` and refers to a field
-- of the record with the ordinal `k`. `index` is the field's index in that record
-- (`field_index_or_zero`).
abbrev pub IdentifierRefersToField : Resolution → ℕ → Span → ℕ → ℕ → Type 0
IdentifierRefersToField r offset span k index =
    answer_at_offset r offset ≡ Some record { span = span; of = answer_of.Field k index }

-- States that in a valid module, definition finds a span at each identifier that refers to a field.
-- Such an identifier is the field's declaration or a selector.
abbrev pub FieldsHaveDefinitions : Type 0
FieldsHaveDefinitions =
    (r : Resolution) (offset k index : ℕ) (span : Span)
    → IsWellTyped r
    → IdentifierRefersToField r offset span k index
    → is_some (definition_at_offset r offset) ≡ true

-- States that renaming at the byte offset `offset` finds a field of the record with the ordinal
-- `k`, and no name. The renaming changes the field's identifiers (`field_tokens_in_module`). These
-- identifiers are exactly the references to the field, including its declaration. The identifier at
-- the offset is one of them and has the span `span`.
pub record RenamesFieldAtOffset (r : Resolution) (offset : ℕ) (span : Span) (k : ℕ) : Type 0 where
  pub token : ℕ
  pub no_name : name_at_offset r.module_read offset ≡ None
  pub field : module_field_at_offset r offset ≡ Some record { token = token; owner = k }
  pub place : token_span r.module_read.source token ≡ span
  pub uses : references_at_offset r offset true
      ≡ map (token_span r.module_read.source) (field_tokens_in_module r k (token_text_at r.module_read.source token))
  pub itself : Contains (references_at_offset r offset true) span

-- States that renaming at any identifier that refers to a field finds that field and changes
-- exactly its references.
abbrev pub FieldRenamingChangesReferences : Type 0
FieldRenamingChangesReferences =
    (r : Resolution) (offset k index : ℕ) (span : Span)
    → IdentifierRefersToField r offset span k index
    → RenamesFieldAtOffset r offset span k

-- States that in a valid module, hover returns a text at each identifier that refers to a field.
-- Such an identifier is the field's declaration or a selector.
abbrev pub FieldsHaveHovers : Type 0
FieldsHaveHovers =
    (r : Resolution) (offset k index : ℕ) (span : Span)
    → IsWellTyped r
    → IdentifierRefersToField r offset span k index
    → is_some (hover_at_offset r offset) ≡ true
