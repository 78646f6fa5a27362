-- Defines pieces of a line and stretches. A piece is a run of characters other than LF and CR. A
-- stretch is a piece with at least one character. These definitions don't bound a stretch's length.
-- The stretches that the code makes have at most 64 bytes.
-- Rule: none; used in private contracts about passes over a text.
use Rattle.std.specs.Prelude.{◌≡◌, ℕ, ◌+◌, ◌-◌, ◌<◌, ◌≤◌, false, ◌||◌, ◌==◌, if◌then◌else◌, nat_lt, nat_le, List, length, take, drop, sum_by}
use Rattle.std.specs.List.{All}
use Rattle.std.specs.Str.{IsUtf8, chars}
use Rattle.ob0_text.specs.declared.stretches.Stretch.{Stretch}
use Rattle.ob0_text.specs.Texts.{LF, CR}

-- States that the character or byte is neither LF nor CR.
abbrev pub IsNotLineBreak : ℕ → Type 0
IsNotLineBreak c = (c == LF || c == CR) ≡ false

-- Returns the number of UTF-16 units that one byte of UTF-8 counts for. The first byte of a
-- four-byte character counts for 2, and the first byte of any other character for 1. Every other
-- byte counts for 0.
abbrev pub utf16_units_at_byte : ℕ → ℕ
utf16_units_at_byte b =
    (if nat_lt b 0x80 || nat_le 0xC0 b then 1 else 0) + (if nat_le 0xF0 b then 1 else 0)

-- States that no character of the list is LF or CR, and that the widths of the characters add up to
-- `units`.
pub record AreInOneLineWithUnits (width : ℕ → ℕ) (cs : List ℕ) (units : ℕ) : Type 0 where
  pub no_line_break : All IsNotLineBreak cs
  pub width_sum : sum_by width cs ≡ units

-- States that `s` is a piece of one line: whole characters from the byte offset `from` to `s.end`,
-- with `s.units` units. The piece may be empty.
pub record IsPieceOfLine (width : ℕ → ℕ) (text : List ℕ) (from : ℕ) (s : Stretch) : Type 0 where
  pub ordered : from ≤ s.end
  pub inside : s.end ≤ length text
  pub whole : IsUtf8 (take (s.end - from) (drop from text))
  pub in_one_line : AreInOneLineWithUnits width (chars (take (s.end - from) (drop from text))) s.units

-- States that `s` is a stretch: at least one whole character, all of one line, from the byte offset
-- `from` to `s.end`, with `s.units` units.
pub record IsStretch (width : ℕ → ℕ) (text : List ℕ) (from : ℕ) (s : Stretch) : Type 0 where
  pub further : from < s.end
  pub inside : s.end ≤ length text
  pub whole : IsUtf8 (take (s.end - from) (drop from text))
  pub in_one_line : AreInOneLineWithUnits width (chars (take (s.end - from) (drop from text))) s.units
