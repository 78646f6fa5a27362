-- Defines the spans of tokens, in bytes.
-- Rule: none; used in contracts about the places of tokens in a text.
use Rattle.std.specs.Prelude.{ℕ, ◌<◌, ◌≤◌, Bool, nat_le, ◌&&◌, List, [], ◌∷◌, Option, Some, None, slice_get}
use Rattle.ob0_scan.specs.declared.lexeme.Span.{Span}
use Rattle.ob0_scan.specs.declared.lexeme.Token.{Token}
use Rattle.ob0_scan.specs.TextWithTokens.{TextWithTokens}

-- returns the span of a token, or an empty span at the text's start for None
abbrev pub span_or_empty : Option Token → Span
span_or_empty None = record { start = 0; end = 0 }
span_or_empty (Some t) = t.span

-- returns the span of a token, or an empty span at the text's start if there is no such token
abbrev pub token_span : TextWithTokens → ℕ → Span
token_span source token = span_or_empty (slice_get source.tokens token)

-- returns whether a byte offset is in a span or at its end
abbrev pub is_in_span_or_at_end : ℕ → Span → Bool
is_in_span_or_at_end offset span = nat_le span.start offset && nat_le offset span.end

-- States that each token has at least one byte and begins at or after the end of the token before
-- it. The first token begins at or after the byte offset `from`.
abbrev pub TokensAreDisjoint : ℕ → List Token → Type 0
TokensAreDisjoint from [] = Unit {0}
TokensAreDisjoint from (t ∷ ts) =
    (from ≤ t.span.start) × ((t.span.start < t.span.end) × TokensAreDisjoint t.span.end ts)
