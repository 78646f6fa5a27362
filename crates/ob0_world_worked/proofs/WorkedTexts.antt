-- Defines the lexemes of the example text and of the texts that result from its edits, and proves
-- that they are the scans of these texts.
use Rattle.std.proofs.Common.{◌≡◌, ◌∙◌, ◌≤◌, ℕ, zero, suc, Bool, true, List, [], ◌∷◌, ◌++◌, length, encode_utf8_all, refl, sym, ap, arith}
use Rattle.std.specs.Prelude.{codes, nat_lt}
use Rattle.std.specs.List.{list_all}
use Rattle.std.specs.Str.{IsAscii, IsUtf8, chars}
use Rattle.std.proofs.lemmas.Bool.{and_parts, ltb-true}
use Rattle.std.proofs.lemmas.Str.{IsUtf8-from_ascii, chars-IsAscii, encodes-chars}
use Rattle.ob0_scan.specs.declared.lexeme.ReservedWord.{ReservedWord}
use Rattle.ob0_scan.specs.declared.lexeme.ReservedWord.TheVariants as reserved
use Rattle.ob0_scan.specs.declared.lexeme.Symbol.{Symbol}
use Rattle.ob0_scan.specs.declared.lexeme.Symbol.TheVariants as symbol
use Rattle.ob0_scan.specs.declared.lexeme.TokenKind.TheVariants as token
use Rattle.ob0_scan.specs.declared.lexeme.LexemeKind.TheVariants as lexeme
use Rattle.ob0_scan.specs.LexemeClasses.{reserved_word_text, symbol_text}
use Rattle.ob0_scan.specs.TextLexemes.{Lexeme, text_of_lexemes}
use Rattle.ob0_scan.specs.TextWithTokens.{TextWithTokens, IsScan, comments_of_lexemes_from, tokens_of_lexemes_from}
use Rattle.ob0_world_worked.specs.WorkedText.{example_text}
use Rattle.ob0_world_worked.proofs.LexemeTests.{are_disjoint, lexed_so}

-- ---- ASCII

abbrev pub is_ascii_text : List ℕ → Bool
is_ascii_text bytes = list_all (λ b. nat_lt b 128) bytes

pub ascii_of : (bytes : List ℕ) → is_ascii_text bytes ≡ true → IsAscii bytes
ascii_of [] h i = omega (arith)
ascii_of (b ∷ bs) h zero = ltb-true b 128 (and_parts (nat_lt b 128) (is_ascii_text bs) h).0
ascii_of (b ∷ bs) h (suc i) = ascii_of bs (and_parts (nat_lt b 128) (is_ascii_text bs) h).1 i

pub utf8_so : (bytes : List ℕ) → is_ascii_text bytes ≡ true → IsUtf8 bytes
utf8_so bytes h = IsUtf8-from_ascii bytes (ascii_of bytes h)

pub chars_so : (bytes : List ℕ) → is_ascii_text bytes ≡ true → chars bytes ≡ bytes
chars_so bytes h = chars-IsAscii bytes (ascii_of bytes h)

pub bytes_so : (bytes : List ℕ) → is_ascii_text bytes ≡ true → encode_utf8_all bytes ≡ bytes
bytes_so bytes h = sym (ap encode_utf8_all (chars_so bytes h)) ∙ encodes-chars bytes (utf8_so bytes h)

-- ---- lexemes

abbrev pub word : ReservedWord → Lexeme
word w = record { kind = lexeme.Token (token.ReservedWord w); text = reserved_word_text w }

abbrev pub mark : Symbol → Lexeme
mark s = record { kind = lexeme.Token (token.Symbol s); text = symbol_text s }

abbrev pub name : List ℕ → Lexeme
name text = record { kind = lexeme.Token token.Identifier; text = text }

abbrev pub white : List ℕ → Lexeme
white text = record { kind = lexeme.WhiteSpace; text = text }

abbrev pub space : Lexeme
space = white (32 ∷ [])

abbrev pub newline : Lexeme
newline = white (10 ∷ [])

abbrev pub indented : Lexeme
indented = white (10 ∷ 32 ∷ 32 ∷ [])

abbrev pub two : Lexeme
two = record { kind = lexeme.Token (token.Integer 2); text = codes "2" }

-- the text with these lexemes for the declaration of the constant, the name of the variable and the value that it gets
abbrev pub lexemes_with : List Lexeme → List ℕ → Lexeme → List Lexeme
lexemes_with declaration x value =
    (word reserved.Module ∷ space ∷ name (codes "M") ∷ mark symbol.Semicolon ∷ newline ∷ word reserved.Const ∷ [])
    ++ (declaration
    ++ (word reserved.Var ∷ indented ∷ name x ∷ mark symbol.Colon ∷ space ∷ name (codes "INTEGER") ∷ mark symbol.Semicolon ∷ newline
    ∷ word reserved.Begin ∷ indented ∷ name x ∷ space ∷ mark symbol.Becomes ∷ space ∷ value ∷ mark symbol.Semicolon ∷ indented
    ∷ name (codes "Write") ∷ mark symbol.LeftParen ∷ name x ∷ mark symbol.RightParen ∷ newline
    ∷ word reserved.End ∷ space ∷ name (codes "M") ∷ mark symbol.Dot ∷ newline ∷ []))

abbrev pub declares_n : List Lexeme
declares_n = indented ∷ name (codes "n") ∷ space ∷ mark symbol.Equal ∷ space ∷ two ∷ mark symbol.Semicolon ∷ newline ∷ []

abbrev pub worked_lexemes : List Lexeme
worked_lexemes = lexemes_with declares_n (codes "x") (name (codes "n"))

abbrev pub renamed_lexemes : List Lexeme
renamed_lexemes = lexemes_with declares_n (codes "y") (name (codes "n"))

abbrev pub inlined_lexemes : List Lexeme
inlined_lexemes = lexemes_with declares_n (codes "x") two

abbrev pub without_lexemes : List Lexeme
without_lexemes = lexemes_with (white (10 ∷ 32 ∷ 32 ∷ 10 ∷ []) ∷ []) (codes "x") two

-- ---- scans

abbrev pub scanned_of : List Lexeme → TextWithTokens
scanned_of ls = record { text = text_of_lexemes ls; tokens = tokens_of_lexemes_from 0 ls; comments = comments_of_lexemes_from 0 ls }

pub scan_so : (ls : List Lexeme) → is_ascii_text (text_of_lexemes ls) ≡ true → length (text_of_lexemes ls) ≤ 1048576 → are_disjoint ls ≡ true → IsScan (scanned_of ls)
scan_so ls ascii short apart =
    record { utf8 = utf8_so (text_of_lexemes ls) ascii; short = short; lexemes = ls; lexed = lexed_so (text_of_lexemes ls) ls refl apart; tokens = refl; comments = refl }

pub worked_is : text_of_lexemes worked_lexemes ≡ example_text
worked_is = refl

pub worked_short : length example_text ≤ 1048576
worked_short = let l : length example_text ≡ 77 = refl in omega (arith, l)

pub worked_scan : IsScan (scanned_of worked_lexemes)
worked_scan = scan_so worked_lexemes refl worked_short refl

pub renamed_scan : IsScan (scanned_of renamed_lexemes)
renamed_scan = scan_so renamed_lexemes refl (let l : length (text_of_lexemes renamed_lexemes) ≡ 77 = refl in omega (arith, l)) refl

pub inlined_scan : IsScan (scanned_of inlined_lexemes)
inlined_scan = scan_so inlined_lexemes refl (let l : length (text_of_lexemes inlined_lexemes) ≡ 77 = refl in omega (arith, l)) refl

pub without_scan : IsScan (scanned_of without_lexemes)
without_scan = scan_so without_lexemes refl (let l : length (text_of_lexemes without_lexemes) ≡ 71 = refl in omega (arith, l)) refl
