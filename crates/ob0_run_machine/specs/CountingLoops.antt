-- Defines the limit of a counting loop. A counting loop is a WHILE with the condition
-- `variable < limit`, whose last statement adds a literal to a variable.
-- Rule: none; for contracts of the machine.
use Rattle.std.specs.Prelude.{◌≡◌, ℤ, List}
use Rattle.ob0_run_machine.specs.declared.code.Comparator.TheVariants.{Less}
use Rattle.ob0_run_machine.specs.declared.code.Truth.{Truth}
use Rattle.ob0_run_machine.specs.declared.statements.CountingCondition.{CountingCondition}
use Rattle.ob0_run_machine.specs.declared.statements.CountingLimit.{CountingLimit}
use Rattle.ob0_run_machine.specs.declared.statements.CountingLimit.TheVariants as limit
use Rattle.ob0_run_machine.specs.Evaluation.{Levels, cell_at, gives, number_value}
use Rattle.ob0_run_machine.specs.LoweredSyntax as lowered
use Rattle.ob0_run_machine.specs.LoweredCodeViews.{truth_of, variable_comparison}

-- returns the value of a limit: its literal, or the number in the cell at its address
abbrev pub limit_value : List ℤ → CountingLimit → ℤ
limit_value cells (limit.Literal n) = n
limit_value cells (limit.Address address) = cell_at cells address

-- States that, in the activations `ls`, an expression has the value of this limit, whatever numbers
-- the cells have.
abbrev pub IsCountingLimit : Levels → lowered.Number → CountingLimit → Type 0
IsCountingLimit ls n l = (cells : List ℤ) → number_value ls cells n ≡ gives (limit_value cells l)

-- States that the condition `t` compares the variable of `c` by `<` with an expression. This
-- expression has the value of the limit of `c`.
abbrev pub IsCountingCondition : Levels → Truth → CountingCondition → Type 0
IsCountingCondition ls t c =
    (n : lowered.Number) × (truth_of t ≡ variable_comparison Less c.variable n) × IsCountingLimit ls n c.limit
