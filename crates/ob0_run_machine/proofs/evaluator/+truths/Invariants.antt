use Rattle.ob0_run_machine.specs.declared.code.TruthList.{out-TruthList}
use Rattle.ob0_run_machine.specs.Evaluation.{truth_value}
use Rattle.ob0_run_machine.specs.Levels.{levels_of}
use Rattle.ob0_run_machine.specs.LoweredCodeViews.{conjunction_of, disjunction_of}
use Rattle.ob0_run_machine.proofs.TruthList.{Joined, with_and, with_or}
use Rattle.ob0_run_machine.proofs.evaluator.+truths.Given as goal

abbrev pub invariant-evaluate_conjunction_list-loop-t : goal.invariant-evaluate_conjunction_list-loop-t
invariant-evaluate_conjunction_list-loop-t l = Joined with_and (levels_of l.level) l.cells (truth_value (levels_of l.level) l.cells (conjunction_of l.several)) (out-TruthList l.several).rest.items l.t-index l.left

abbrev pub invariant-evaluate_disjunction_list-loop-t : goal.invariant-evaluate_disjunction_list-loop-t
invariant-evaluate_disjunction_list-loop-t l = Joined with_or (levels_of l.level) l.cells (truth_value (levels_of l.level) l.cells (disjunction_of l.several)) (out-TruthList l.several).rest.items l.t-index l.left
