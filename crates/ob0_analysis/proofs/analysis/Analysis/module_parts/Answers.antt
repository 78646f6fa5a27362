use Rattle.std.proofs.Common.{◌∙◌, ℕ, List, ap, sym, subst}
use Rattle.ob0_analysis.specs.ReportedErrors.{IsWellTypedModule}
use Rattle.ob0_analysis.specs.AnalysisInvariants.{IsValidAnalysisResult, text_of_analysis_result}
use Rattle.ob0_analysis.proofs.Scanning.{no_lexemes_is_none}
use Rattle.ob0_analysis.proofs.analysis.Analysis.module_parts.Goals as goal

pub returns-in-Unscannable : goal.returns-in-Unscannable
returns-in-Unscannable c =
    let by = subst IsValidAnalysisResult c.in-Unscannable.is c.self.invariant in
    subst (λ (t : List ℕ). IsWellTypedModule t → ⊥) (sym (ap text_of_analysis_result c.in-Unscannable.is) ∙ c.self.view_is) (no_lexemes_is_none _ by.0)
