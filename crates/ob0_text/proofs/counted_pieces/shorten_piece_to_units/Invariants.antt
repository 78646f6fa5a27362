use Rattle.ob0_text.specs.Units.{width_of}
use Rattle.ob0_text.specs.Stretches.{IsPieceOfLine}
use Rattle.ob0_text.proofs.counted_pieces.shorten_piece_to_units.Given as goal

abbrev pub invariant-loop-kept : goal.invariant-loop-kept
invariant-loop-kept l = IsPieceOfLine (width_of l.fn.unit) l.text l.start l.kept

abbrev pub decreases-loop-kept : goal.decreases-loop-kept
decreases-loop-kept l = l.kept.end
