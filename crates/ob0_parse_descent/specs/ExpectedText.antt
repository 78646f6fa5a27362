-- Defines the text that follows `expected` in the message of a syntax error.
-- Rule: docs/LANGUAGE.md, Syntax faults 2.
use Rattle.std.specs.Prelude.{ℕ, List, codes}
use Rattle.ob0_scan.specs.LexemeClasses.{reserved_word_text, symbol_text}
use Rattle.ob0_parse_descent.specs.declared.refusal.ExpectedSyntax.{ExpectedSyntax}
use Rattle.ob0_parse_descent.specs.declared.refusal.ExpectedSyntax.TheVariants as expected

-- Returns the text for an expected token or construct. The text for a reserved word or symbol is
-- its spelling.
abbrev pub expected_text : ExpectedSyntax → List ℕ
expected_text expected.Type = codes "type"
expected_text expected.Expression = codes "expression"
expected_text expected.Identifier = codes "identifier"
expected_text expected.EndOfText = codes "end of text"
expected_text (expected.Word word) = reserved_word_text word
expected_text (expected.Symbol symbol) = symbol_text symbol
