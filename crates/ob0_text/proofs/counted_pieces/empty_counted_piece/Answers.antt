use Rattle.std.proofs.Common.{refl, arith}
use Rattle.ob0_text.proofs.CountedPieces.{empty_piece}
use Rattle.ob0_text.proofs.counted_pieces.empty_counted_piece.Goals as goal

pub returns : goal.returns
returns c = λ width text. empty_piece width text 0 _ (omega arith) refl refl
