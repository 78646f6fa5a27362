-- The name at an offset of a module's text, and the tokens that are bound to a declaration.
-- Rule: docs/PROTOCOL.md, Requests on documents 3 to 6.
use Rattle.std.specs.Prelude.{ℕ, Bool, true, false, not, ◌&&◌, ◌||◌, ◌==◌, ◌≡◌, if◌then◌else◌, List, [], ◌∷◌, Option, map, option_map, option_and_then}
use Rattle.std.specs.List.{filter, find, zip}
use Rattle.ob0_tree.specs.declared.tree.Role.{Role}
use Rattle.ob0_tree.specs.declared.tree.Role.TheVariants as role
use Rattle.ob0_tree.specs.IdentifierIndexes.{identifier_names}
use Rattle.ob0_tree.specs.ParsedModule.{ParsedModule, named_tree_of, tree_of}
use Rattle.ob0_tree.specs.TokenIndexLeaves.{token_text_at, token_value_at}
use Rattle.ob0_tree.specs.Tree.{identifiers, mapped_tree}
use Rattle.ob0_language_names.specs.Names.{Label, Name, declared, same_ordinal_label}
use Rattle.ob0_language_names.specs.Occurrences.{label_ordinal}
use Rattle.ob0_scope_table.specs.Resolution.{token_span}
use Rattle.ob0_scope_table.specs.Spans.{is_in_span_or_at_end}
use Rattle.ob0_language_names.specs.Scopes.{numbered, renamed}
use Rattle.ob0_scope.specs.declared.bound_names.BoundName as named

-- an identifier: its role, its token and its label; the label is the declaration's ordinal, or the
-- identifier's spelling if the identifier is unbound
abbrev pub LabelledIdentifier : Type 0
LabelledIdentifier = (Role × ℕ) × Label

-- returns the identifiers of a module in text order, each with its role, its token and its label
abbrev pub labelled_identifiers : ParsedModule → List LabelledIdentifier
labelled_identifiers m =
    zip (identifiers role.DeclaringName (tree_of m)) (identifier_names (numbered (named_tree_of m)))

-- returns the first identifier that contains a byte offset or ends there; None if there is no such
-- identifier
abbrev pub identifier_at_offset : ParsedModule → ℕ → Option LabelledIdentifier
identifier_at_offset m offset = find (λ s. is_in_span_or_at_end offset (token_span m.source s.0.1)) (labelled_identifiers m)

-- returns the token of an identifier and the ordinal of its declaration; None if the identifier is
-- unbound
abbrev pub bound_name_of : LabelledIdentifier → Option named.BoundName
bound_name_of s = option_map (λ ordinal. record { token = s.0.1; ordinal = ordinal }) (label_ordinal s.1)

-- returns the bound name that contains a byte offset or ends there; None if no identifier is at the
-- offset, or the identifier is a field, the module's name or an unbound name
abbrev pub name_at_offset : ParsedModule → ℕ → Option named.BoundName
name_at_offset m offset = option_and_then bound_name_of (identifier_at_offset m offset)

-- returns whether this is the role of a declaring identifier
abbrev pub is_declaring_role : Role → Bool
is_declaring_role role.DeclaringName = true
is_declaring_role role.LookedUpName = false
is_declaring_role role.ClosingName = false
is_declaring_role role.FieldName = false
is_declaring_role role.ModuleName = false

-- returns whether an identifier is bound to the declaration with ordinal `d`; the declaring
-- identifier counts only if `include` is true
abbrev pub identifier_is_bound_to_declaration : Bool → ℕ → LabelledIdentifier → Bool
identifier_is_bound_to_declaration include d s = same_ordinal_label s.1 (declared d) && (include || not (is_declaring_role s.0.0))

-- returns the tokens of the identifiers that are bound to the declaration with ordinal `d`; the
-- declaring identifier is included only if `include` is true
abbrev pub tokens_bound_to_declaration : ParsedModule → ℕ → Bool → List ℕ
tokens_bound_to_declaration m d include = map (λ s. s.0.1) (filter (identifier_is_bound_to_declaration include d) (labelled_identifiers m))

-- returns whether a token is in a list
abbrev pub is_among : ℕ → List ℕ → Bool
is_among i [] = false
is_among i (x ∷ xs) = i == x || is_among i xs

-- States that renaming the declaration with ordinal `d` to any name writes this name at each token
-- in the list `tokens` and changes nothing else.
abbrev pub RenamingChangesExactlyTokens : ParsedModule → ℕ → List ℕ → Type 0
RenamingChangesExactlyTokens m d tokens =
    (new : Name)
    → renamed (named_tree_of m) d new
    ≡ mapped_tree (λ i. if is_among i tokens then new else token_text_at m.source i) (token_value_at m.source)
    (tree_of m)
