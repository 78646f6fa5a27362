-- Defines how a tree whose leaves are token indexes spells tokens. Also defines how these indexes
-- are replaced by the tokens' texts and values.
-- Rule: none; used in contracts about trees whose leaves are token indexes.
use Rattle.std.specs.Prelude.{ℕ, ◌+◌, Option, Some, None, List, [], ◌∷◌, slice_get}
use Rattle.ob0_scan.specs.declared.lexeme.TokenKind.{TokenKind}
use Rattle.ob0_scan.specs.declared.lexeme.TokenKind.TheVariants as kind
use Rattle.ob0_scan.specs.declared.lexeme.Token.{Token}
use Rattle.ob0_scan.specs.TextWithTokens.{TextWithTokens, text_in_span}
use Rattle.ob0_tree.specs.Terminals.{Terminal, Name, Number, WordOrSymbol, EndOfText}
use Rattle.ob0_tree.specs.Tree.{Sort, Tree, mapped_tree}

-- Returns the token with the index `i` and the given kind, as it is spelled by a tree whose leaves
-- are token indexes. An identifier has `i` as its name, and an integer has `i` as its number.
abbrev pub indexed_terminal : ℕ → TokenKind → Terminal ℕ
indexed_terminal i kind.Identifier = Name i
indexed_terminal i (kind.Integer value) = Number i
indexed_terminal i k = WordOrSymbol k

-- Returns the tokens of a list as they are spelled by a tree whose leaves are token indexes,
-- followed by the end of the text. The first token of the list has the index `i`.
abbrev pub indexed_terminals_from : ℕ → List Token → List (Terminal ℕ)
indexed_terminals_from i [] = EndOfText ∷ []
indexed_terminals_from i (t ∷ ts) = indexed_terminal i t.kind ∷ indexed_terminals_from (i + 1) ts

-- Returns the tokens of a text as they are spelled by a tree whose leaves are token indexes,
-- followed by the end of the text. The first token has the index 0.
abbrev pub indexed_terminals : List Token → List (Terminal ℕ)
indexed_terminals ts = indexed_terminals_from 0 ts

-- Returns the part of `text` that is the token's text, or the empty text if there is no token
-- (None).
abbrev pub token_text_or_empty : List ℕ → Option Token → List ℕ
token_text_or_empty text None = []
token_text_or_empty text (Some t) = text_in_span text t.span

-- Returns the value of an integer token, given its kind, or 0 for any other kind.
abbrev pub integer_value_or_zero : TokenKind → ℕ
integer_value_or_zero (kind.Integer value) = value
integer_value_or_zero _ = 0

-- Returns the value of an integer token. Returns 0 for any other token, or if there is no token
-- (None).
abbrev pub token_value_or_zero : Option Token → ℕ
token_value_or_zero None = 0
token_value_or_zero (Some t) = integer_value_or_zero t.kind

-- Returns the text of the token with this index, or the empty text if there is no such token.
abbrev pub token_text_at : TextWithTokens → ℕ → List ℕ
token_text_at s i = token_text_or_empty s.text (slice_get s.tokens i)

-- Returns the value of the integer token with this index. Returns 0 if the token isn't an integer
-- or there is no such token.
abbrev pub token_value_at : TextWithTokens → ℕ → ℕ
token_value_at s i = token_value_or_zero (slice_get s.tokens i)

-- Returns the tree with texts and values in place of token indexes. The index of each identifier is
-- replaced by the identifier's text, and the index of each integer by the integer's value.
abbrev pub tree_with_names : {s : Sort} → TextWithTokens → Tree ℕ s → Tree (List ℕ) s
tree_with_names s t = mapped_tree (token_text_at s) (token_value_at s) t
