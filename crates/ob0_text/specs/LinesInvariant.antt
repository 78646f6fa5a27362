-- Defines when the line table and the counted piece in the store `Lines` match the store's text. A
-- counted piece is a part of a line whose units have been counted.
-- Rule: none; used in the invariant of `Lines`.
use Rattle.std.specs.Prelude.{ℕ, List}
use Rattle.ob0_text.specs.declared.counted_pieces.CountedPiece.{CountedPiece}
use Rattle.ob0_text.specs.declared.position_types.Unit.{Unit}
use Rattle.ob0_text.specs.LineStarts.{IsLineTableOf, LineStartTable}
use Rattle.ob0_text.specs.Stretches.{IsPieceOfLine}
use Rattle.ob0_text.specs.Units.{width_of}

-- States that `table` has the line starts and the length of the text. Also states that the counted
-- piece `c` is correct: the characters from `c.start` to `c.end_and_units.end` are in one line, and
-- have `c.end_and_units.units` units, counted in `unit`.
pub record TableAndPieceMatchText (text : List ℕ) (unit : Unit) (table : LineStartTable) (c : CountedPiece) : Type 0 where
  pub lines : IsLineTableOf text table
  pub piece : IsPieceOfLine (width_of unit) text c.start c.end_and_units
