use Rattle.std.proofs.Common.{◌≡◌, map, take}
use Rattle.std.specs.Str.{chars}
use Rattle.ob0_text.specs.Texts.{position_of}
use Rattle.ob0_text.specs.Units.{width_of}
use Rattle.ob0_text.specs.PassInvariants.{PositionsCanBeCountedFromPlace}
use Rattle.ob0_text.proofs.line_lookups.positions_from_line_table.Given as goal

abbrev pub invariant-loop-offset : goal.invariant-loop-offset
invariant-loop-offset l = record {
  place : PositionsCanBeCountedFromPlace (width_of l.unit) l.text l.place;
  done : l.positions.items ≡ map (position_of (width_of l.unit) (chars l.text)) (take l.offset-index l.offsets);
}
