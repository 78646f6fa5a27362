use Rattle.ob0_tree.specs.View.{parameter_section_after_semicolon_of}
use Rattle.ob0_types_check.specs.DeclarationFaults.{report_on_parameter_sections}
use Rattle.ob0_types_check.specs.CheckerViews.{heading_in_state}
use Rattle.ob0_types_check.proofs.Chains.{Chained}
use Rattle.ob0_types_check.proofs.reporting.ReportingWalk.report_parameter_sections.Given as goal

abbrev pub invariant-loop-s : goal.invariant-loop-s
invariant-loop-s l = Chained report_on_parameter_sections parameter_section_after_semicolon_of l.initial.self.faults.items (heading_in_state l.initial.self.checker_state l.initial.formals.items) l.sections l.s-index l.self.faults.items (heading_in_state l.self.checker_state l.formals.items)
