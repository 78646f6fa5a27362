-- Defines the renaming of the declaration or record field at a place in a text. Also defines the
-- tokens at which the new name is written, and the conflicts of that name.
-- Rule: docs/PROTOCOL.md, Requests on documents 6, Refusals of edits.
use Rattle.std.specs.Prelude.{◌≡◌, ℕ, Bool, true, false, nat_lt, if◌then◌else◌, List, [], Option, Some, None, option_and_then, option_map, slice_get}
use Rattle.ob0_scan.specs.TextWithTokens.{TextWithTokens}
use Rattle.ob0_text.specs.Texts.{offset_of}
use Rattle.ob0_text.specs.Units.{width_of}
use Rattle.ob0_text.specs.declared.position_types.Position.{Position}
use Rattle.ob0_text.specs.declared.position_types.Range.{Range}
use Rattle.ob0_text.specs.declared.position_types.Unit as counting
use Rattle.ob0_tree.specs.ParsedModule as read
use Rattle.ob0_tree.specs.TokenIndexLeaves.{token_text_at}
use Rattle.ob0_tree.specs.Tree.{Tree, identifiers, module_text, occurrences}
use Rattle.ob0_tree.specs.declared.tree.Role.TheVariants as role
use Rattle.ob0_language_names.specs.Names.{Name, same_name}
use Rattle.ob0_language_names.specs.Scopes.{predeclared_count}
use Rattle.ob0_scope.specs.Renames.{namesake_ordinal}
use Rattle.ob0_scope_table.specs.Resolution.{Resolution, declaring_names, token_span, declaration_token}
use Rattle.ob0_edits_tokens.specs.Replacements.{text_after_replacement}
use Rattle.ob0_edits_tokens.specs.Ranges.{range_of}
use Rattle.ob0_scope.specs.NamesAtPlaces.{name_at_offset, tokens_bound_to_declaration}
use Rattle.ob0_scope.specs.declared.bound_names.BoundName as named
use Rattle.ob0_types_fields.specs.declared.field_identifier.FieldIdentifier.{FieldIdentifier}
use Rattle.ob0_types_fields.specs.FieldIdentifiers.{field_declaring_token, module_field_at_offset, field_tokens_in_module}

-- A requested renaming. `text` is the text as characters, and `unit` is the unit of its positions.
-- `names` is the text's module with its names bound to declarations. The old name is at `place`,
-- and `new` is the new name.
pub record Renaming : Type 0 where
  pub unit : counting.Unit
  pub text : List ℕ
  pub names : Resolution
  pub place : Position
  pub new : Name

-- Returns the renaming to `new` of the name at a place in a text. `names` is the text's module with
-- its names bound to declarations.
abbrev pub renaming_at_place : counting.Unit → List ℕ → Resolution → Position → List ℕ → Renaming
renaming_at_place unit text names place new =
    record { unit = unit; text = text; names = names; place = place; new = new }

-- Returns the parsed module of the renaming's text.
abbrev pub module_of_renaming : Renaming → read.ParsedModule
module_of_renaming r = r.names.module_read

-- Returns the tree of the renaming's module, in which each name is a text.
abbrev pub named_tree_of_renaming : Renaming → Tree Name module_text
named_tree_of_renaming r = read.named_tree_of (module_of_renaming r)

-- ---- the target: the declaration or field at a place

-- The target of a renaming: a predeclared name, a declaration, a field, or `nothing` if no name and
-- no field is at the place.
pub data RenameTarget : Type 0 where
  nothing : RenameTarget
  predeclared : RenameTarget
  -- A declaration, given by its ordinal.
  declaration : ℕ → RenameTarget
  -- A field, given by the ordinal of its record and by its name.
  record_field : ℕ → Name → RenameTarget

-- Returns the target for a name that is bound to the declaration with the ordinal `ordinal`. The
-- target is `predeclared` if the ordinal is below `predeclared_count`, otherwise it is that
-- declaration.
abbrev pub target_of_ordinal : ℕ → RenameTarget
target_of_ordinal ordinal = if nat_lt ordinal predeclared_count then predeclared else declaration ordinal

-- Returns the target for an identifier that declares or selects a field: that field. If there is no
-- such identifier (None), returns `nothing`.
abbrev pub target_of_optional_field : TextWithTokens → Option FieldIdentifier → RenameTarget
target_of_optional_field source None = nothing
target_of_optional_field source (Some x) = record_field x.owner (token_text_at source x.token)

-- Returns the target at a place, given the name and the field that were looked up at this place. If
-- there is no name (None), returns the target for the field `f`.
abbrev pub target_of_name_or_field : TextWithTokens → Option named.BoundName → Option FieldIdentifier → RenameTarget
target_of_name_or_field source (Some n) f = target_of_ordinal n.ordinal
target_of_name_or_field source None f = target_of_optional_field source f

-- Returns the target at a byte offset: the declaration to which the name at the offset is bound, or
-- otherwise the field at the offset. Returns `nothing` if the offset is on neither.
abbrev pub rename_target_at : Resolution → ℕ → RenameTarget
rename_target_at names offset =
    target_of_name_or_field names.module_read.source (name_at_offset names.module_read offset) (module_field_at_offset names offset)

-- Returns the target of the renaming, which is found at the position `r.place`. Returns `nothing`
-- if no name and no field is at that position.
abbrev pub renaming_target : Renaming → RenameTarget
renaming_target r = rename_target_at r.names (offset_of (width_of r.unit) r.text r.place)

-- States that the renaming's target is the declaration with the ordinal `d`.
abbrev pub TargetsDeclaration : Renaming → ℕ → Type 0
TargetsDeclaration r d = renaming_target r ≡ declaration d

-- States that the renaming's target is the field `f` of the record with the ordinal `k`.
abbrev pub TargetsField : Renaming → ℕ → Name → Type 0
TargetsField r k f = renaming_target r ≡ record_field k f

-- ---- the tokens at which the new name is written

-- Returns the index of the token at which the declaration with the ordinal `ordinal` declares its
-- name. Returns None if there is no such token, as for a predeclared name.
abbrev pub declaring_token : read.ParsedModule → ℕ → Option ℕ
declaring_token m ordinal =
    declaration_token (declaring_names (identifiers role.DeclaringName (read.tree_of m))) ordinal

-- Returns whether the declaration with the ordinal `d` has the name `new`. For a predeclared name
-- the result is false.
abbrev pub declaration_has_name : read.ParsedModule → ℕ → Name → Bool
declaration_has_name m d new =
    elim (declaring_token m d)
    [ Some token ↦ same_name (token_text_at m.source token) new | None ↦ false ]

-- Returns the indexes, in text order, of the tokens that a renaming of the declaration with the
-- ordinal `d` to `new` changes. These tokens declare `d`, refer to it or repeat its name after END.
-- The list is empty if `d` already has the name `new`.
abbrev pub tokens_to_rename : read.ParsedModule → ℕ → Name → List ℕ
tokens_to_rename m d new = if declaration_has_name m d new then [] else tokens_bound_to_declaration m d true

-- Returns the indexes of the tokens that declare or select the field `f` of the record with the
-- ordinal `k`. The list is empty if `new` is equal to `f`.
abbrev pub field_tokens_to_rename : Resolution → ℕ → Name → Name → List ℕ
field_tokens_to_rename names k f new = if same_name new f then [] else field_tokens_in_module names k f

-- Returns the text, in bytes, after the new name is written in place of the tokens with the indexes
-- `tokens`.
abbrev pub text_after_renaming : Renaming → List ℕ → List ℕ
text_after_renaming r tokens = text_after_replacement (module_of_renaming r).source tokens r.new

-- ---- conflicts of the new name

-- Returns the range of the token with the index `token`.
abbrev pub token_range : Renaming → ℕ → Range
token_range r token = range_of (width_of r.unit) r.text (token_span (module_of_renaming r).source token)

-- Returns the range of the identifier that already declares the new name in the block of the
-- declaration with the ordinal `d`. Returns None if no other declaration of that block has the new
-- name.
abbrev pub conflicting_declaration_range : Renaming → ℕ → Option Range
conflicting_declaration_range r d =
    option_map (token_range r)
    (option_and_then (declaring_token (module_of_renaming r)) (namesake_ordinal (named_tree_of_renaming r) d r.new))

-- Returns the range of the identifier that declares a field with the new name in the record with
-- the ordinal `k`. Returns None if the record has no such field.
abbrev pub conflicting_field_range : Renaming → ℕ → Option Range
conflicting_field_range r k = option_map (token_range r) (field_declaring_token (module_of_renaming r) k r.new)

-- Returns the range of the occurrence with the number `k`, counted from 0 in text order. Returns
-- None if the text has no occurrence with that number.
abbrev pub occurrence_range : Renaming → ℕ → Option Range
occurrence_range r k =
    option_map (token_range r) (slice_get (occurrences (read.tree_of (module_of_renaming r))) k)
