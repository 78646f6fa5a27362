-- Defines which tokens and comments a scanner has found up to a place in its text.
-- Rule: none; used in private contracts about the scanner.
use Rattle.std.specs.Prelude.{◌≡◌, ℕ, ◌-◌, ◌<◌, ◌≤◌, List, ◌++◌, length, take, drop}
use Rattle.std.specs.Str.{IsCharBoundary, IsUtf8}
use Rattle.std.specs.List.{All}
use Rattle.ob0_scan.specs.declared.lexeme.Span.{Span}
use Rattle.ob0_scan.specs.declared.lexeme.Token.{Token}
use Rattle.ob0_scan.specs.declared.fault.Fault.{Fault}
use Rattle.ob0_scan.specs.TextLexemes.{Lexeme, text_of_lexemes, AreLeadingLexemes, LexesInto}
use Rattle.ob0_scan.specs.TextWithTokens.{tokens_of_lexemes_from, comments_of_lexemes_from, IsRangeOf, max_faults, max_text_length}
use Rattle.ob0_scan.specs.Faults.{AreFirstFaultsFromOffset}

-- States that the text up to the byte offset `at` is cut into lexemes, each the first lexeme of the
-- remaining text. `tokens` and `comments` are exactly the tokens and the comments among these
-- lexemes.
pub record IsCutIntoLexemesUpToOffset (text : List ℕ) (at : ℕ) (tokens : List Token) (comments : List Span)
    : Type 0 where
  pub lexemes : List Lexeme
  pub each : AreLeadingLexemes lexemes (drop at text)
  pub front : text_of_lexemes lexemes ≡ take at text
  pub tokens_are : tokens ≡ tokens_of_lexemes_from 0 lexemes
  pub comments_are : comments ≡ comments_of_lexemes_from 0 lexemes

-- States that a scanner that has read the text up to the byte offset `at` has found these tokens,
-- comments and faults. If there is no fault so far, the text up to `at` is cut into lexemes. If
-- there is a fault, the text can't be cut into lexemes. The faults found so far, followed by the
-- faults of the remaining text, are the faults of the whole text.
pub record IsScannedUpToOffset (text : List ℕ) (at : ℕ) (tokens : List Token) (comments : List Span)
    (faults : List Fault) : Type 0 where
  pub utf8 : IsUtf8 text
  pub short : length text ≤ max_text_length
  pub place : IsCharBoundary text at
  pub few : length faults ≤ max_faults
  pub room : at < length text → length faults < max_faults
  pub ranges : All (λ fault. IsRangeOf text fault.span) faults
  pub reported : (more : List Fault)
      → AreFirstFaultsFromOffset (max_faults - length faults) at (drop at text) more
      → AreFirstFaultsFromOffset max_faults 0 text (faults ++ more)
  pub cut : length faults ≡ 0 → IsCutIntoLexemesUpToOffset text at tokens comments
  pub cannot_cut : 0 < length faults → (lexemes : List Lexeme) → LexesInto text lexemes → ⊥
