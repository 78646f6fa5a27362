use Rattle.std.proofs.Common.{◌∙◌, ℕ, List, ap, inr, map, sym, subst}
use Rattle.std.proofs.lemmas.Result.{IfOk-weaker}
use Rattle.ob0_analysis.specs.ReportedErrors.{ReportsErrorsOf, reported_diagnosis_of, reported_diagnosis_of_fault}
use Rattle.ob0_analysis.specs.AnalysisInvariants.{IsValidAnalysisResult, text_of_analysis_result}
use Rattle.ob0_analysis.proofs.Scanning.{finds_lexemes}
use Rattle.ob0_analysis.proofs.analysis.Analysis.diagnoses.Goals as goal

pub returns-in-Unscannable-clause-reported : goal.returns-in-Unscannable-clause-reported
returns-in-Unscannable-clause-reported c =
    let by = subst IsValidAnalysisResult c.in-Unscannable.is c.self.invariant in
    IfOk-weaker c.diagnoses_of_faults.result _ _ (λ list is.
    subst (λ (t : List ℕ). ReportsErrorsOf t (map reported_diagnosis_of list.items)) (sym (ap text_of_analysis_result c.in-Unscannable.is) ∙ c.self.view_is) (inr (finds_lexemes _ _ _ by.0 by.1 (is ∙ ap (map reported_diagnosis_of_fault) c.as_slice.ensures.value)))) c.diagnoses_of_faults.ensures
