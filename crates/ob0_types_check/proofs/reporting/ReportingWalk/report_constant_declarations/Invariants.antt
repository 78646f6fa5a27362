use Rattle.ob0_tree.specs.View.{constant_declaration_of}
use Rattle.ob0_types_check.specs.DeclarationFaults.{report_on_constant_declarations}
use Rattle.ob0_types_check.specs.CheckerViews.{declarations_in_state}
use Rattle.ob0_types_check.proofs.Chains.{Chained}
use Rattle.ob0_types_check.proofs.reporting.ReportingWalk.report_constant_declarations.Given as goal

abbrev pub invariant-loop-c : goal.invariant-loop-c
invariant-loop-c l = Chained report_on_constant_declarations constant_declaration_of l.initial.self.faults.items (declarations_in_state l.initial.self.checker_state) l.constants l.c-index l.self.faults.items (declarations_in_state l.self.checker_state)
