use Rattle.std.proofs.Common.{◌≡◌, ◌+◌, ◌-◌, ◌≤◌, length, take, drop, subst, arith}
use Rattle.std.proofs.lemmas.Bool.Decides.{nat_tests}
use Rattle.ob0_analysis.proofs.Pieces.{following}
use Rattle.ob0_analysis.proofs.differences.extend_common_suffix.Goals as goal

pub loop-count-preserved : goal.loop-count-preserved
loop-count-preserved c =
    let a = c.args.a.now in
    let b = c.args.b.now in
    let count = c.loop-count.count in
    let size = c.args.size in
    let piece = c.have_equal_bytes_at.ensures.same c.if-have_equal_bytes_at.true in
    let room : count + size ≤ c.args.most = grind (arith, nat_tests) in
    let in_a : length a - count - size ≡ length a - (count + size) = omega arith in
    let in_b : length b - count - size ≡ length b - (count + size) = omega arith in
    let same_at_a = subst (λ k. take size (drop k a) ≡ take size (drop (length b - count - size) b)) in_a piece in
    let same = subst (λ k. take size (drop (length a - (count + size)) a) ≡ take size (drop k b)) in_b same_at_a in
    (room, following a b count size (omega (arith, room, c.requires.in_a)) (omega (arith, room, c.requires.in_b)) c.loop-count.invariant.1 same)
