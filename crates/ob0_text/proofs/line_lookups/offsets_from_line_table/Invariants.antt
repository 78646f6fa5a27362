use Rattle.std.proofs.Common.{◌≡◌, map, take}
use Rattle.std.specs.Str.{chars}
use Rattle.ob0_text.specs.Texts.{offset_of}
use Rattle.ob0_text.specs.Units.{width_of}
use Rattle.ob0_text.specs.PassInvariants.{OffsetsCanBeFoundFromPlace}
use Rattle.ob0_text.proofs.line_lookups.offsets_from_line_table.Given as goal

abbrev pub invariant-loop-position : goal.invariant-loop-position
invariant-loop-position l = record {
  place : OffsetsCanBeFoundFromPlace (width_of l.unit) l.text l.last l.place;
  done : l.offsets.items ≡ map (offset_of (width_of l.unit) (chars l.text)) (take l.position-index l.positions);
}
