use Rattle.std.proofs.Common.{map, sym, ap, ◌∙◌, subst}
use Rattle.ob0_scan.specs.TextWithTokens.{IsScan}
use Rattle.ob0_scope_table.specs.Resolution.{Resolution}
use Rattle.ob0_analysis.specs.ReportedErrors.{ReportsErrorsOf, reported_diagnosis_of, reported_diagnosis_of_fault}
use Rattle.ob0_analysis.proofs.Scanning.{reports_module}
use Rattle.ob0_analysis.proofs.text_errors.diagnose_module.Goals as goal

pub returns : goal.returns
returns c =
    let names = c.in_ok-checked.ensures.names in
    let reported = map reported_diagnosis_of c.in_ok-reported.reported.items in
    let scan = subst IsScan (c.tokens.ensures.source ∙ ap (λ (r : Resolution). r.module_read.source) (sym names)) c.text-text.ensures.scan in
    subst (λ (r : Resolution). ReportsErrorsOf r.module_read.source.text reported) names
    (reports_module c.in_ok-checked.checked reported c.scan_is_unique.ensures c.tree_is_unique.ensures scan c.in_ok-checked.ensures.checked (c.in_ok-reported.ensures ∙ ap (map reported_diagnosis_of_fault) c.faults.ensures.value))
