-- Defines the span of the identifier that declares a name, and the spans of the references to it.
-- Rule: docs/PROTOCOL.md, Requests on documents 4, 5.
use Rattle.std.specs.Prelude.{ℕ, Bool, List, Option, map, option_map}
use Rattle.ob0_scan.specs.declared.lexeme.Span.{Span}
use Rattle.ob0_tree.specs.ParsedModule.{ParsedModule, tree_of}
use Rattle.ob0_tree.specs.Tree.{identifiers}
use Rattle.ob0_tree.specs.declared.tree.Role.TheVariants as role
use Rattle.ob0_scope_table.specs.Resolution.{declaring_names, token_span, declaration_token}
use Rattle.ob0_scope.specs.NamesAtPlaces.{tokens_bound_to_declaration}

-- Returns the span of the identifier that declares the name with this ordinal. Returns None for a
-- predeclared name, and if no declaration has this ordinal.
abbrev pub declaring_identifier_span : ParsedModule → ℕ → Option Span
declaring_identifier_span m ordinal =
    option_map (token_span m.source)
    (declaration_token (declaring_names (identifiers role.DeclaringName (tree_of m))) ordinal)

-- Returns the spans of the references to the declaration with the ordinal `d`, in text order. The
-- declaring identifier is among the references if `include` is true.
abbrev pub reference_spans_of_declaration : ParsedModule → ℕ → Bool → List Span
reference_spans_of_declaration m d include = map (token_span m.source) (tokens_bound_to_declaration m d include)
