use Rattle.std.proofs.Common.{◌≡◌, arith, ◌*ℤ◌, w32, w64, of_z, to_z}
use Rattle.std.proofs.Math.Facts.{to_z-of_z}
use Rattle.std.proofs.lemmas.Int.{ints}
use Rattle.ob0_run_machine.proofs.Sums.{narrowed, product_wide}
use Rattle.ob0_run_machine.proofs.operators.checked_product.Goals as goal

pub returns : goal.returns
returns c =
    let l : to_z w64 (of_z w64 (to_z w32 (of_z w32 c.args.left))) ≡ c.args.left = omega (arith, ints) in
    let r : to_z w64 (of_z w64 (to_z w32 (of_z w32 c.args.right))) ≡ c.args.right = omega (arith, ints) in
    let wide = product_wide c.args.left c.args.right c.ranges.left c.ranges.right in
    let is : to_z w64 (of_z w64 (to_z w64 (of_z w64 (to_z w32 (of_z w32 c.args.left))) *ℤ to_z w64 (of_z w64 (to_z w32 (of_z w32 c.args.right))))) ≡ c.args.left *ℤ c.args.right = simp (l, r, to_z-of_z wide) in
    narrowed (c.args.left *ℤ c.args.right) _ is c.if-product-gt2147483647.false c.if-product-ltminus2147483648.false
