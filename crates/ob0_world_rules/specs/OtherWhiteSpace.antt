-- Defines the texts that an editor may make when it makes the edits of an answer. They have the
-- same tokens as the edited text, but perhaps other white space, as the file's own line ends.
-- Rule: docs/PROMISES.md, The rules for an editor.
use Rattle.std.specs.Prelude.{◌≡◌, ◌≤◌, ◌==◌, ℕ, List, [], ◌∷◌, ◌++◌, map, length, if◌then◌else◌}
use Rattle.std.specs.Str.{IsUtf8}
use Rattle.ob0_scan.specs.TextLexemes.{Lexeme, LexesInto}
use Rattle.ob0_scan.specs.TextWithTokens.{words_of_lexemes, max_text_length}
use Rattle.ob0_edits.specs.TextBytes.{utf8}
use Rattle.ob0_world_rules.specs.TextEdits.{Replacement}

-- the line end of a file: LF, CR LF or CR
pub data FileLineEnd : Type 0 where
  line_feed : FileLineEnd
  carriage_return_line_feed : FileLineEnd
  carriage_return : FileLineEnd

-- returns the characters of this line end
abbrev pub line_end_text : FileLineEnd → List ℕ
line_end_text line_feed = 10 ∷ []
line_end_text carriage_return_line_feed = 13 ∷ 10 ∷ []
line_end_text carriage_return = 13 ∷ []

-- returns the text with this line end in place of each LF
abbrev pub text_with_line_ends : FileLineEnd → List ℕ → List ℕ
text_with_line_ends ends [] = []
text_with_line_ends ends (c ∷ text) =
    (if c == 10 then line_end_text ends else c ∷ []) ++ text_with_line_ends ends text

-- returns the edits with this line end in place of each LF of their new texts
abbrev pub edits_with_line_ends : FileLineEnd → List Replacement → List Replacement
edits_with_line_ends ends edits =
    map (λ e. record { range = e.range; text = text_with_line_ends ends e.text }) edits

-- States that both texts have the same tokens, in the same order. So they differ only in white
-- space and comments. The text `made` consists of Unicode scalar values, and isn't longer than the
-- text of a module may be.
pub record HaveSameTokens (edited made : List ℕ) : Type 0 where
  pub lexemes : List Lexeme
  pub edited_lexemes : LexesInto (utf8 edited) lexemes
  pub others : List Lexeme
  pub made_lexemes : LexesInto (utf8 made) others
  pub same : words_of_lexemes others ≡ words_of_lexemes lexemes
  pub scalar_values : IsUtf8 (utf8 made)
  pub short : length (utf8 made) ≤ max_text_length
