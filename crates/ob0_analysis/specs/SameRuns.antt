-- States that two texts are well-typed modules with the same runs.
-- Rule: docs/PROTOCOL.md, Requests on documents 10.
use Rattle.std.specs.Prelude.{ℕ, List}
use Rattle.ob0_language_runs.specs.EditLaws.{HaveSameRuns}
use Rattle.ob0_analysis.specs.ReportedErrors.{IsWellTypedModule}

-- States that both texts are well-typed modules with the same run for every input and all bounds on
-- calls and on turns of loops.
pub record RunsAsBefore (before after : List ℕ) : Type 0 where
  pub old : IsWellTypedModule before
  pub new : IsWellTypedModule after
  pub same : HaveSameRuns new.tree old.tree
