-- Arguments that are passed one after the other.
use Rattle.std.proofs.Common.{◌≡◌, ℕ, ℤ, List, map, take, drop}
use Rattle.ob0_run_machine.specs.declared.code.Argument.{Argument}
use Rattle.ob0_run_machine.specs.Evaluation.{Levels, StepResult}
use Rattle.ob0_run_machine.specs.Execution.{CallArguments, pass_arguments}
use Rattle.ob0_run_machine.specs.LoweredCodeViews.{argument_of}

-- What was passed so far, with what is left, is the whole. The first `base` cells are those before the call.
pub record Passing (ls : Levels) (base : ℕ) (before : List ℤ) (whole : StepResult CallArguments) (as_given : List Argument) (index : ℕ) (now : CallArguments) : Type 0 where
  pub so_far : whole ≡ pass_arguments ls before (map argument_of (drop index as_given)) now
  pub kept : take base now.cells ≡ before
