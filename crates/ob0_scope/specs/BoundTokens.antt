-- The identifiers of a module that a table of ordinals binds to a declaration.
-- Rule: none; used in private contracts of `bound_names.rt`.
use Rattle.std.specs.Prelude.{ℕ, ◌+◌, Bool, true, false, not, ◌&&◌, if◌then◌else◌, List, [], ◌∷◌, Option, Some, None, drop}
use Rattle.ob0_scan.specs.declared.lexeme.Token.{Token}
use Rattle.ob0_scan.specs.declared.lexeme.TokenKind.{TokenKind}
use Rattle.ob0_scan.specs.declared.lexeme.TokenKind.TheVariants as kind
use Rattle.ob0_language_names.specs.Scopes.{same_ordinal}
use Rattle.ob0_scope_table.specs.Spans.{is_in_span_or_at_end}

-- returns whether this is the kind of an identifier
abbrev pub is_identifier : TokenKind → Bool
is_identifier kind.Identifier = true
is_identifier (kind.ReservedWord word) = false
is_identifier (kind.Integer value) = false
is_identifier (kind.Symbol symbol) = false

-- returns whether a token is an identifier that contains the byte offset `offset` or ends there
abbrev pub is_identifier_at_offset : ℕ → Token → Bool
is_identifier_at_offset offset t = is_identifier t.kind && is_in_span_or_at_end offset t.span

-- Returns the indexes of the entries of a list that equal the ordinal `d`, without the index
-- `omitted`. The first entry of the list has the index `i`.
abbrev pub tokens_with_ordinal : Option ℕ → ℕ → ℕ → List (Option ℕ) → List ℕ
tokens_with_ordinal omitted d i [] = []
tokens_with_ordinal omitted d i (ordinal ∷ ordinals) =
    if same_ordinal ordinal d && not (same_ordinal omitted i)
    then i ∷ tokens_with_ordinal omitted d (i + 1) ordinals
    else tokens_with_ordinal omitted d (i + 1) ordinals

-- returns the tokens with indexes of at least `first` that have the ordinal `d` in a table, except
-- the token `omitted`
abbrev pub tokens_bound_in_table : Option ℕ → ℕ → ℕ → List (Option ℕ) → List ℕ
tokens_bound_in_table omitted d first ordinals = tokens_with_ordinal omitted d first (drop first ordinals)

-- returns the token to omit from the tokens bound to a declaration: the declaring token, or None if
-- `include` is true
abbrev pub omitted_token : Bool → Option ℕ → Option ℕ
omitted_token include declaring = if include then None else declaring

-- returns the first token that can refer to a declaration: the declaring token, or 0 for a
-- predeclared name
abbrev pub first_bound_token : Option ℕ → ℕ
first_bound_token None = 0
first_bound_token (Some token) = token
