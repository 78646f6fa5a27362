use Rattle.ob0_run_machine.specs.Levels.{levels_of}
use Rattle.std.proofs.Common.{[], ◌∷◌, ◌++◌}
use Rattle.ob0_run_machine.specs.CountingLoops.{IsCountingLimit}
use Rattle.ob0_run_machine.specs.LoweredSyntax as lowered
use Rattle.ob0_run_machine.specs.LoweredCodeViews.{variable_comparison, truth_of}
use Rattle.ob0_run_machine.specs.declared.code.Comparator.TheVariants.{Less}
use Rattle.ob0_run_machine.specs.declared.code.Instruction.{Increase}
use Rattle.ob0_run_machine.proofs.Executing.{InBranches, InRepeat, InSequence, InWhile}
use Rattle.ob0_run_machine.proofs.statements.+execution.Given as goal

abbrev pub invariant-run_elsifs-loop-branch : goal.invariant-run_elsifs-loop-branch
invariant-run_elsifs-loop-branch g l = InBranches (goal.F-post g l.enter) l.fn.machine l.machine l.turns (levels_of l.level) l.i l.branch-items l.branch-index

abbrev pub invariant-run_general_while-loop-left : goal.invariant-run_general_while-loop-left
invariant-run_general_while-loop-left g l = InWhile (goal.F-post g l.enter) l.fn.machine l.machine l.turns (levels_of l.level) (truth_of l.w.condition) l.w.body.items l.left

abbrev pub decreases-run_general_while-loop-left : goal.decreases-run_general_while-loop-left
decreases-run_general_while-loop-left g l = l.left

abbrev pub invariant-run_counting_loop-again : goal.invariant-run_counting_loop-again
invariant-run_counting_loop-again g l = (n : lowered.Number) → IsCountingLimit (levels_of l.level) n l.fn.condition.limit → InWhile (goal.F-post g l.enter) l.fn.machine l.machine l.turns (levels_of l.level) (variable_comparison Less l.fn.condition.variable n) (l.statements ++ Increase l.fn.increased l.fn.by ∷ []) l.left

abbrev pub decreases-run_counting_loop-again : goal.decreases-run_counting_loop-again
decreases-run_counting_loop-again g l = l.left

abbrev pub invariant-run_sequence_inline-loop-s : goal.invariant-run_sequence_inline-loop-s
invariant-run_sequence_inline-loop-s g l = InSequence (goal.F-post g l.enter) l.fn.machine l.machine l.turns (levels_of l.level) l.statements l.s-index

abbrev pub invariant-run_repeat-loop-machine : goal.invariant-run_repeat-loop-machine
invariant-run_repeat-loop-machine g l = InRepeat (goal.F-post g l.enter) l.fn.machine l.machine l.turns (levels_of l.level) l.r l.further

abbrev pub decreases-run_repeat-loop-machine : goal.decreases-run_repeat-loop-machine
decreases-run_repeat-loop-machine g l = l.further
