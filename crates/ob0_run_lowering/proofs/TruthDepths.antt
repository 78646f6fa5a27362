-- Proves how deeply rows of `&` and OR are nested.
use Rattle.std.proofs.Common.{◌≡◌, ℕ, ◌≤◌, suc, refl, max, subst, sym, arith}
use Rattle.std.proofs.Math.Nat.{le-max_right}
use Rattle.ob0_run_machine.specs.declared.code.TruthList.{out-TruthList}
use Rattle.ob0_run_machine.specs.declared.code.Truth.{All, Any}
use Rattle.ob0_run_lowering.specs.TruthDepths.{WholeIsNoDeeperThanLeft, IsNotNestedOnLeft, conjunction_depth, disjunction_depth}
use Rattle.ob0_run_lowering.specs.declared.lowered_expression.LoweredExpression.{LoweredExpression}

pub all_deep : (c : _) → conjunction_depth (All c) ≡ suc (conjunction_depth (out-TruthList c.value).first)
all_deep c = refl

pub any_deep : (c : _) → disjunction_depth (Any c) ≡ suc (disjunction_depth (out-TruthList c.value).first)
any_deep c = refl

pub as_deep : (n m : ℕ) → n ≡ m → n ≤ max 1 m
as_deep n m h = subst (λ k. k ≤ max 1 m) (sym h) (le-max_right 1 m)

pub still_flat : {left whole : LoweredExpression} → WholeIsNoDeeperThanLeft left whole → IsNotNestedOnLeft left → IsNotNestedOnLeft whole
still_flat h f = record { bounds_and_depth = omega (arith, h.bounds_and_depth, f.bounds_and_depth); bounds_or_depth = omega (arith, h.bounds_or_depth, f.bounds_or_depth) }
