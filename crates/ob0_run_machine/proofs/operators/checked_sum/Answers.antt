use Rattle.std.proofs.Common.{◌≡◌, arith, ◌+ℤ◌, pos, FitsSigned, w32, w64, of_z, to_z}
use Rattle.std.proofs.Math.Facts.{to_z-of_z}
use Rattle.std.proofs.lemmas.Int.{ints}
use Rattle.ob0_run_machine.proofs.Sums.{fits_by, wide}
use Rattle.ob0_run_machine.proofs.operators.checked_sum.Goals as goal

pub returns-else-distance-gt4294967295 : goal.returns-else-distance-gt4294967295
returns-else-distance-gt4294967295 c =
    let l : to_z w64 (of_z w64 (to_z w32 (of_z w32 c.args.left))) ≡ c.args.left = omega (arith, ints) in
    let r : to_z w64 (of_z w64 (to_z w32 (of_z w32 c.args.right))) ≡ c.args.right = omega (arith, ints) in
    let s = wide c.args.left c.args.right c.ranges.left c.ranges.right in
    let few : FitsSigned w32 (c.args.left +ℤ c.args.right) = fits_by c.args.left c.args.right (c.args.left +ℤ c.args.right +ℤ pos 2147483648) c.cast_unsigned-distance.result c.ranges.left c.ranges.right
    (simp (l, r, to_z-of_z s.0, to_z-of_z s.1) at c.cast_unsigned-distance.ensures) (omega (arith, ints)) (omega (arith, c.if-distance-gt4294967295.false)) in
    (few, omega (arith, ints))
