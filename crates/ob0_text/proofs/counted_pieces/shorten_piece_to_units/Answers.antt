use Rattle.std.proofs.Common.{refl}
use Rattle.ob0_text.specs.Units.{width_of}
use Rattle.ob0_text.proofs.CountedPieces.{empty_piece}
use Rattle.ob0_text.proofs.counted_pieces.shorten_piece_to_units.Goals as goal

pub returns-in_default-clause-is : goal.returns-in_default-clause-is
returns-in_default-clause-is c = empty_piece (width_of c.args.unit) c.args.text.now c.args.start _ c.requires.start refl refl
