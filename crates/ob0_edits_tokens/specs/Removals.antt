-- Defines the text that results if a constant's declaration is removed and identifiers after the
-- declaration are replaced.
-- Rule: docs/PROTOCOL.md, Requests on documents 9.
use Rattle.std.specs.Prelude.{◌≡◌, ℕ, suc, ◌<◌, ◌⊎◌, nat_le, ◌&&◌, if◌then◌else◌, List, [], ◌∷◌, length, map, Some}
use Rattle.ob0_scan.specs.declared.lexeme.ReservedWord.TheVariants as reserved
use Rattle.ob0_scan.specs.declared.lexeme.Symbol.TheVariants as symbol
use Rattle.ob0_scan.specs.declared.lexeme.TokenKind.TheVariants as token
use Rattle.ob0_scan.specs.declared.lexeme.Span.{Span}
use Rattle.ob0_scan.specs.declared.lexeme.Token.{Token}
use Rattle.ob0_scan.specs.TextWithTokens.{TextWithTokens}
use Rattle.ob0_text.specs.Patches.{Cut, text_after_cuts_from_offset}
use Rattle.ob0_edits_tokens.specs.WordReplacements.{WordChanges}
use Rattle.ob0_edits_tokens.specs.Replacements.{token_at_or_empty, token_span_or_empty, replacement_cut}

-- Returns the change that removes the words from the index `first` to the index `last`, both
-- included. It changes all other words as `changes` does.
abbrev pub changes_with_removal : ℕ → ℕ → WordChanges → WordChanges
changes_with_removal first last changes k = if nat_le first k && nat_le k last then Some [] else changes k

-- States that the tokens from the index `first` to the index `last` may be a declaration in a CONST
-- section. `first` is less than `last`, and both tokens exist. Only three tokens are checked. The
-- first token is an identifier, and the last token is a `;`. If a token precedes the first one,
-- that token is CONST or another `;`.
pub record MayBeConstantDeclaration (tokens : List Token) (first last : ℕ) : Type 0 where
  pub order : first < last
  pub inside : last < length tokens
  pub name : (token_at_or_empty tokens first).kind ≡ token.Identifier
  pub end : (token_at_or_empty tokens last).kind ≡ token.Symbol symbol.Semicolon
  pub preceded : (k : ℕ)
      → suc k ≡ first
      → ((token_at_or_empty tokens k).kind ≡ token.ReservedWord reserved.Const)
      ⊎ ((token_at_or_empty tokens k).kind ≡ token.Symbol symbol.Semicolon)

-- Returns the span from the start of the token with the index `first` to the end of the token with
-- the index `last`.
abbrev pub span_of_tokens : List Token → ℕ → ℕ → Span
span_of_tokens tokens first last =
    record { start = (token_span_or_empty tokens first).start; end = (token_span_or_empty tokens last).end }

-- Returns the cut, in byte offsets, that removes the tokens with the indexes `first` to `last` and
-- all text between them.
abbrev pub removal_cut : List Token → ℕ → ℕ → Cut
removal_cut tokens first last =
    record { from = (token_span_or_empty tokens first).start; to = (token_span_or_empty tokens last).end; new = [] }

-- Returns the text after two kinds of edits. The tokens with the indexes `first` to `last` and all
-- text between them are removed. Each token whose index is in `token_indexes` is replaced by `new`.
abbrev pub text_after_removal_and_replacement : TextWithTokens → ℕ → ℕ → List ℕ → List ℕ → List ℕ
text_after_removal_and_replacement s first last token_indexes new =
    text_after_cuts_from_offset s.text 0 (removal_cut s.tokens first last ∷ map (replacement_cut s.tokens new) token_indexes)
