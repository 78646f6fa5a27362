-- Converts spans of a text to ranges of positions.
-- Rule: docs/PROTOCOL.md, Positions; LSP 3.17, Range.
use Rattle.std.specs.Prelude.{ℕ, List, [], ◌∷◌}
use Rattle.ob0_scan.specs.declared.lexeme.Span.{Span}
use Rattle.ob0_text.specs.declared.position_types.Range.{Range}
use Rattle.ob0_text.specs.Texts.{position_of}

-- Converts a span of bytes of the text to a range of positions. `width` gives the number of units
-- of a character.
abbrev pub range_of : (ℕ → ℕ) → List ℕ → Span → Range
range_of width text span =
    record { start = position_of width text span.start; end = position_of width text span.end }

-- Returns a list with two byte offsets for each span: its start and its end. The spans keep their
-- order.
unfoldable pub span_bounds : List Span → List ℕ
span_bounds [] = []
span_bounds (span ∷ spans) = span.start ∷ span.end ∷ span_bounds spans
