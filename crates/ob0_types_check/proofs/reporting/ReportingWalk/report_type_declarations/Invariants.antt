use Rattle.ob0_tree.specs.View.{type_declaration_of}
use Rattle.ob0_types_check.specs.DeclarationFaults.{report_on_type_declarations}
use Rattle.ob0_types_check.specs.CheckerViews.{declarations_in_state}
use Rattle.ob0_types_check.proofs.Chains.{Chained}
use Rattle.ob0_types_check.proofs.reporting.ReportingWalk.report_type_declarations.Given as goal

abbrev pub invariant-loop-d : goal.invariant-loop-d
invariant-loop-d l = Chained report_on_type_declarations type_declaration_of l.initial.self.faults.items (declarations_in_state l.initial.self.checker_state) l.types l.d-index l.self.faults.items (declarations_in_state l.self.checker_state)
