-- Defines two tests for the removal of a declaration: whether a token is a `;`, and whether a span
-- contains another span.
-- Rule: docs/PROTOCOL.md, Requests on documents 9.
use Rattle.std.specs.Prelude.{Bool, true, false, nat_le, ◌&&◌}
use Rattle.ob0_scan.specs.declared.lexeme.Span.{Span}
use Rattle.ob0_scan.specs.declared.lexeme.TokenKind.{TokenKind}
use Rattle.ob0_scan.specs.declared.lexeme.TokenKind.TheVariants as kind
use Rattle.ob0_scan.specs.declared.lexeme.Symbol.TheVariants as symbol

-- Returns whether the span `outer` contains the span `inner`. The two may be equal.
abbrev pub contains_span : Span → Span → Bool
contains_span outer inner = nat_le outer.start inner.start && nat_le inner.end outer.end

-- Returns whether a token of this kind is a `;`.
abbrev pub is_semicolon : TokenKind → Bool
is_semicolon k =
    elim k [ kind.Symbol s ↦ elim s [ symbol.Semicolon ↦ true | _ ↦ false ] | _ ↦ false ]
