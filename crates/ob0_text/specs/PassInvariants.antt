-- Defines the invariants of passes over a text. A pass advances through the text to a byte offset
-- or to a position, and keeps track of its place. `PositionsCanBeCountedInRest` says that the
-- position of each later offset can be counted from the place. `OffsetsCanBeFoundInRest` says that
-- the offsets of the sought position and of each later position can be found from the place. For
-- each kind of step a lemma shows that the step preserves the invariant (`PositionSteps`,
-- `PlaceSteps`). So stopping and resuming a pass needs no separate case. A pass towards a position
-- doesn't count the characters of earlier lines, so `OffsetsCanBeFoundInRest` covers only positions
-- at or after the sought one.
-- Rule: none; used in private contracts about passes over a text.
use Rattle.std.specs.Prelude.{◌≡◌, ℕ, ◌+◌, ◌-◌, ◌<◌, ◌≤◌, ◌⊎◌, if◌then◌else◌, ◌==◌, List, ◌++◌, length, drop}
use Rattle.std.specs.Str.{IsUtf8, chars}
use Rattle.ob0_text.specs.declared.passes.PlaceInText.{PlaceInText}
use Rattle.ob0_text.specs.declared.position_types.Position.{Position}
use Rattle.ob0_text.specs.Texts.{text_before, byte_len, position_of}

-- Returns the position with this line and character.
abbrev pub position_at_character : ℕ → ℕ → Position
position_at_character line character = record { line = line; character = character }

-- Converts the position `p`, which is counted from the place with this line and character, to a
-- position in the whole text.
abbrev pub absolute_position : ℕ → ℕ → Position → Position
absolute_position line character p =
    if p.line == 0 then position_at_character line (character + p.character) else position_at_character (line + p.line) p.character

-- Converts the position `p` in the whole text to a position that is counted from the place with
-- this line and character. This is the inverse of `absolute_position`.
abbrev pub relative_position : ℕ → ℕ → Position → Position
relative_position line character p =
    if p.line == line then position_at_character 0 (p.character - character) else position_at_character (p.line - line) p.character

-- States that the position `q` equals `p` or comes before `p` in the text.
abbrev pub PositionIsAtOrBefore : Position → Position → Type 0
PositionIsAtOrBefore q p = (q.line < p.line) ⊎ ((q.line ≡ p.line) × (q.character ≤ p.character))

-- States that `rest` is the text without its first `offset` bytes, and that `rest` consists of
-- whole characters.
pub record IsTextAfterOffset (text rest : List ℕ) (offset : ℕ) : Type 0 where
  pub front : List ℕ
  pub split : text ≡ front ++ rest
  pub utf8 : IsUtf8 rest
  pub here : length front ≡ offset

-- States that a pass at the place with this byte offset, line and character can count the position
-- of each later offset. The pass counts in `rest`, the text after the place. The line and the
-- character are at most the number of bytes before the place.
pub record PositionsCanBeCountedInRest (width : ℕ → ℕ) (text rest : List ℕ) (offset line character : ℕ) : Type 0 where
  pub rest_is : IsTextAfterOffset text rest offset
  pub lines_fit : line + length rest ≤ length text
  pub characters_fit : character + length rest ≤ length text
  pub same : (o : ℕ)
      → offset ≤ o
      → absolute_position line character (position_of width (chars rest) (o - offset))
      ≡ position_of width (chars text) o

-- States that the positions of all later offsets can be counted from the place `p`.
abbrev pub PositionsCanBeCountedFromPlace : (ℕ → ℕ) → List ℕ → PlaceInText → Type 0
PositionsCanBeCountedFromPlace width text p = PositionsCanBeCountedInRest width text (drop p.offset text) p.offset p.line p.character

-- States that the place with this byte offset, line and character is at or before the position
-- `sought`. The offsets of `sought` and of each later position can be found from this place in
-- `rest`, the text after the place.
pub record OffsetsCanBeFoundInRest (width : ℕ → ℕ) (text : List ℕ) (sought : Position) (rest : List ℕ)
    (offset line character : ℕ) : Type 0 where
  pub rest_is : IsTextAfterOffset text rest offset
  pub at_or_before_sought : PositionIsAtOrBefore (position_at_character line character) sought
  pub same : (p : Position)
      → PositionIsAtOrBefore sought p
      → offset + byte_len (text_before width (chars rest) (relative_position line character p))
      ≡ byte_len (text_before width (chars text) p)

-- States that the place `p` is at or before the position `sought`. The offsets of `sought` and of
-- each later position can be found from `p`.
abbrev pub OffsetsCanBeFoundFromPlace : (ℕ → ℕ) → List ℕ → Position → PlaceInText → Type 0
OffsetsCanBeFoundFromPlace width text sought p =
    OffsetsCanBeFoundInRest width text sought (drop p.offset text) p.offset p.line p.character
