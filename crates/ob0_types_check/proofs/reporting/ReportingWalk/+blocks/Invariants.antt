use Rattle.ob0_tree.specs.View.{procedure_of}
use Rattle.ob0_types_check.specs.DeclarationFaults.{report_on_procedures}
use Rattle.ob0_types_check.specs.WalksOverSomeBodies.{walk_progress_of, includes_body}
use Rattle.ob0_types_check.proofs.Chains.{Chained}
use Rattle.ob0_types_check.proofs.reporting.ReportingWalk.+blocks.Given as goal

abbrev pub invariant-report_procedures-loop-p : goal.invariant-report_procedures-loop-p
invariant-report_procedures-loop-p l = Chained (report_on_procedures (includes_body l.initial.wanted)) procedure_of l.initial.self.faults.items (walk_progress_of l.initial.self.checker_state l.initial.bodies_with_faults.items) l.p-items l.p-index l.self.faults.items (walk_progress_of l.self.checker_state l.bodies_with_faults.items)
