-- Counts how deep conjunctions, and how deep disjunctions, are nested in the left operands of a
-- truth.
-- Rule: none; used in contracts of lowering.
use Rattle.std.specs.Prelude.{◌≤◌, ℕ, suc, max}
use Rattle.ob0_run_machine.specs.declared.code.Truth as truth
use Rattle.ob0_run_machine.specs.declared.code.Truth.{Truth}
use Rattle.ob0_run_lowering.specs.declared.lowered_expression.LoweredExpression.{LoweredExpression}
use Rattle.ob0_run_lowering.specs.declared.lowered_expression.LoweredExpression.TheVariants as code

-- Returns how many conjunctions follow one another in first operands: the truth itself, its first
-- operand, the first operand of this operand, and so on. Returns 0 if the truth isn't a conjunction.
abbrev pub conjunction_depth : Truth → ℕ
conjunction_depth (truth.Both' pointer left right) = suc (conjunction_depth left)
conjunction_depth (truth.All' pointer first shape row) = suc (conjunction_depth first)
conjunction_depth _ = 0

-- Returns how many disjunctions follow one another in first operands: the truth itself, its first
-- operand, the first operand of this operand, and so on. Returns 0 if the truth isn't a disjunction.
abbrev pub disjunction_depth : Truth → ℕ
disjunction_depth (truth.Either' pointer left right) = suc (disjunction_depth left)
disjunction_depth (truth.Any' pointer first shape row) = suc (disjunction_depth first)
disjunction_depth _ = 0

-- returns how many conjunctions follow one another in the first operands of an expression's code
-- (`conjunction_depth`), or 0 if the code isn't a truth
abbrev pub conjunction_depth_of_code : LoweredExpression → ℕ
conjunction_depth_of_code (code.Truth t) = conjunction_depth t
conjunction_depth_of_code _ = 0

-- returns how many disjunctions follow one another in the first operands of an expression's code
-- (`disjunction_depth`), or 0 if the code isn't a truth
abbrev pub disjunction_depth_of_code : LoweredExpression → ℕ
disjunction_depth_of_code (code.Truth t) = disjunction_depth t
disjunction_depth_of_code _ = 0

-- States that an expression's code isn't a conjunction whose first operand is a conjunction, and
-- isn't a disjunction whose first operand is a disjunction.
pub record IsNotNestedOnLeft (l : LoweredExpression) : Type 0 where
  pub bounds_and_depth : conjunction_depth_of_code l ≤ 1
  pub bounds_or_depth : disjunction_depth_of_code l ≤ 1

-- States that the code `whole` of an operation is nested no deeper than the code `left` of its left
-- operand. This holds for conjunctions and for disjunctions. A depth of 1 is always allowed.
pub record WholeIsNoDeeperThanLeft (left whole : LoweredExpression) : Type 0 where
  pub bounds_and_depth : conjunction_depth_of_code whole ≤ max 1 (conjunction_depth_of_code left)
  pub bounds_or_depth : disjunction_depth_of_code whole ≤ max 1 (disjunction_depth_of_code left)
