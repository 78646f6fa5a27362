use Rattle.std.proofs.Common.{sym, ap, ◌∙◌}
use Rattle.ob0_language_names.specs.BlockParts.{section_types}
use Rattle.ob0_tree.specs.View.{type_section_of}
use Rattle.ob0_types_check.specs.DeclarationFaults.{report_on_type_declarations}
use Rattle.ob0_types_check.specs.CheckerViews.{declarations_in_state}
use Rattle.ob0_types_check.proofs.Chains.{reports_nothing, reports_same}
use Rattle.ob0_types_check.proofs.ReportedDeclarations.{types_ended}
use Rattle.ob0_types_check.proofs.reporting.ReportingWalk.report_type_section.Goals as goal

pub returns-in-None : goal.returns-in-None
returns-in-None c =
    let p = declarations_in_state c.args.self.now.checker_state in
    reports_same (reports_nothing c.args.self.now.faults.items p) (sym (ap (λ z. report_on_type_declarations p (section_types (type_section_of z))) c.in-None.is ∙ types_ended p))
