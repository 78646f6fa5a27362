-- Defines the byte offsets at which the lines of a text start. A line starts after an LF, and after
-- a CR that no LF follows. So the two bytes next to an offset decide whether a line starts there.
-- The start of the text counts as an offset after an LF.
--
-- A change of the text keeps the line starts before it. The code tests the inserted bytes and one
-- byte on either side, and shifts the starts after the change (`table-mended` in `StartLaws`). A CR
-- and an LF that a change joins or separates need no separate case. The resulting line starts are
-- correct because of four facts, which are lemmas of `StartLaws`:
-- - The starts of a whole text are `line_starts_after_bytes 0 (LF ∷ bytes) []` (`table`, proved
--   character by character with `following_ends`).
-- - If a run of bytes has two parts, the starts in the first part come first, then the starts in
--   the second part (`following-append`).
-- - Whether a line starts at the end of a run depends only on the first byte after the run
--   (`following-next`).
-- - If a run begins at a greater offset, its starts are greater by the same number of bytes
--   (`following-moved`).
-- Rule: docs/PROTOCOL.md, Positions 2 (by bytes, for the table of lines).
use Rattle.std.specs.Prelude.{◌≡◌, ℕ, suc, ◌+◌, ◌-◌, ◌<◌, ◌≤◌, if◌then◌else◌, List, [], ◌∷◌, ◌++◌, length, map, reverse, slice_index, refl}
use Rattle.std.specs.Str.{chars}
use Rattle.std.specs.Coded.{Coded, code_by, coded×, coded_list, coded_ℕ}
use Rattle.ob0_text.specs.declared.position_types.Unit.{Unit}
use Rattle.ob0_text.specs.Units.{coded_position_unit}
use Rattle.ob0_text.specs.Texts.{Line, lines, ends_line, byte_len}

-- Returns a line's characters followed by its ending.
abbrev pub line_with_ending : Line → List ℕ
line_with_ending l = l.body ++ l.ending

-- Returns the byte offsets at which consecutive lines start, if the first of them starts at `at`.
unfoldable pub line_starts_from : ℕ → List Line → List ℕ
line_starts_from at [] = []
line_starts_from at (l ∷ ls) = at ∷ line_starts_from (at + byte_len (line_with_ending l)) ls

-- Returns the byte offsets at which the lines of a text start.
abbrev pub line_starts : List ℕ → List ℕ
line_starts text = line_starts_from 0 (lines text)

-- Returns the byte offsets at which a line starts directly after one of these bytes. `at` is the
-- offset directly after the first of these bytes. The bytes `next` follow the last one.
unfoldable pub line_starts_after_bytes : ℕ → List ℕ → List ℕ → List ℕ
line_starts_after_bytes at [] next = []
line_starts_after_bytes at (b ∷ bs) next =
    if ends_line b (bs ++ next)
    then at ∷ line_starts_after_bytes (suc at) bs next
    else line_starts_after_bytes (suc at) bs next

-- States that each number in the list is less than the bound.
abbrev pub AreAllBelow : ℕ → List ℕ → Type 0
AreAllBelow bound ns = (k : ℕ) → k < length ns → slice_index ns k < bound

-- States that each number in the list is at least the bound.
abbrev pub AreAllAtLeast : ℕ → List ℕ → Type 0
AreAllAtLeast bound ns = (k : ℕ) → k < length ns → bound ≤ slice_index ns k

-- States that in an ascending list of starts, `count` is the number of starts below `offset`. More
-- precisely: if `starts` is a list of numbers below `offset` followed by a list of numbers at or
-- above `offset`, the first of these lists has `count` numbers.
abbrev pub IsCountOfStartsBefore : List ℕ → ℕ → ℕ → Type 0
IsCountOfStartsBefore starts offset count =
    (front back : List ℕ) → starts ≡ front ++ back → AreAllBelow offset front → AreAllAtLeast offset back
    → count ≡ length front

-- A text, and the unit in which its positions are counted.
pub record TextWithUnit : Type 0 where
  pub text : List ℕ
  pub unit : Unit

-- The encoding of a text with its unit as a pair, which can be decoded again (`Coded`). The model
-- of the store `Lines` requires such an encoding.
abbrev pub coded_text_with_unit : Coded TextWithUnit
coded_text_with_unit =
    code_by (List ℕ × Unit) (coded× (coded_list coded_ℕ) coded_position_unit) (λ t. (t.text, t.unit))
    (λ p. record { text = p.0; unit = p.1 }) (λ t. refl)

-- Returns the line starts that the two lists of a line table store. `front` has the starts of the
-- first lines. `back` has the other starts, the last line first, each as its distance from the end
-- of the text. `len` is the length of the text in bytes.
abbrev pub starts_in_front_and_back : ℕ → List ℕ → List ℕ → List ℕ
starts_in_front_and_back len front back = front ++ map (λ d. len - d) (reverse back)

-- The table of a text's lines: the byte offsets at which they start, and the text's length in
-- bytes.
pub record LineStartTable : Type 0 where
  pub starts : List ℕ
  pub len : ℕ

-- States that the table `t` has the line starts of this text, as byte offsets, and the length of
-- this text in bytes.
pub record IsLineTableOf (text : List ℕ) (t : LineStartTable) : Type 0 where
  pub starts : t.starts ≡ line_starts (chars text)
  pub len : t.len ≡ length text
