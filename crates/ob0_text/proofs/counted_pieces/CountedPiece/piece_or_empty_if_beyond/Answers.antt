use Rattle.std.proofs.Common.{◌++◌, take}
use Rattle.ob0_text.proofs.CountedPieces.{piece_stays}
use Rattle.ob0_text.proofs.counted_pieces.CountedPiece.piece_or_empty_if_beyond.Goals as goal

pub returns : goal.returns
returns c = λ width text rest is inside. piece_stays width text rest c.args.self.start c.args.offset c.args.self.end_and_units is c.if-self-offset.false inside

pub returns-then-self-offset : goal.returns-then-self-offset
returns-then-self-offset c = λ width text rest is inside. c.empty_counted_piece.ensures width (take c.args.offset text ++ rest)
