use Rattle.ob0_tree.specs.View.{variable_declaration_of}
use Rattle.ob0_types_check.specs.DeclarationFaults.{report_on_variable_declarations}
use Rattle.ob0_types_check.specs.CheckerViews.{declarations_in_state}
use Rattle.ob0_types_check.proofs.Chains.{Chained}
use Rattle.ob0_types_check.proofs.reporting.ReportingWalk.report_variable_declarations.Given as goal

abbrev pub invariant-loop-v : goal.invariant-loop-v
invariant-loop-v l = Chained report_on_variable_declarations variable_declaration_of l.initial.self.faults.items (declarations_in_state l.initial.self.checker_state) l.variables l.v-index l.self.faults.items (declarations_in_state l.self.checker_state)
