use Rattle.std.proofs.Common.{refl}
use Rattle.ob0_text.specs.Units.{width_of}
use Rattle.ob0_text.proofs.CountedPieces.{empty_piece}
use Rattle.ob0_text.proofs.counted_pieces.piece_end_within_units.Goals as goal

pub extend_piece_within_units-requires-2-clause-is : goal.extend_piece_within_units-requires-2-clause-is
extend_piece_within_units-requires-2-clause-is c = empty_piece (width_of c.args.unit) c.args.text.now c.args.start _ c.requires.start refl refl
