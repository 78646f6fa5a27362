use Rattle.ob0_analysis.proofs.Pieces.{in_front}
use Rattle.ob0_analysis.proofs.differences.extend_common_prefix.Goals as goal

pub loop-count-preserved : goal.loop-count-preserved
loop-count-preserved c =
    let piece = c.have_equal_bytes_at.ensures in
    let yes = c.loop-count-test.true in
    (piece.inside_a yes, piece.inside_b yes, in_front c.args.a.now c.args.b.now c.loop-count.count c.args.size c.loop-count.invariant.2 (piece.same yes))
