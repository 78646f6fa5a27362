use Rattle.std.proofs.Common.{sym, ap, ◌∙◌}
use Rattle.std.proofs.lemmas.Result.{on_ok_weaker}
use Rattle.ob0_language_names.specs.BlockParts.{formal_parameter_sections}
use Rattle.ob0_tree.specs.View.{formals_of, parameter_section_after_semicolon_of, items_of}
use Rattle.ob0_types_check.specs.DeclarationFaults.{report_on_parameter_sections}
use Rattle.ob0_types_check.specs.CheckerViews.{heading_in_state}
use Rattle.ob0_types_check.proofs.Chains.{reports_nothing, reports_same}
use Rattle.ob0_types_check.proofs.ReportedDeclarations.{sections_ended, sections_listed}
use Rattle.ob0_types_check.proofs.reporting.ReportingWalk.report_parameter_sections_if_any.Goals as goal

pub returns-in-None : goal.returns-in-None
returns-in-None c =
    let h = heading_in_state c.args.self.now.checker_state c.args.formals.now.items in
    reports_same (reports_nothing c.args.self.now.faults.items h) (sym (ap (λ z. report_on_parameter_sections h (formal_parameter_sections (formals_of z))) c.in-None.is ∙ sections_ended h))

pub returns-in-Some : goal.returns-in-Some
returns-in-Some c =
    let h = heading_in_state c.args.self.now.checker_state c.args.formals.now.items in
    let ss = c.in-Some.sections.items in
    on_ok_weaker c.report_parameter_sections.result (λ reports. reports_same reports
    (ap (λ z. report_on_parameter_sections h (items_of parameter_section_after_semicolon_of z)) c.as_slice.ensures.value
    ∙ sym (ap (report_on_parameter_sections h) (ap (λ z. formal_parameter_sections (formals_of z)) c.in-Some.is ∙ sections_listed ss)))) c.report_parameter_sections.ensures
