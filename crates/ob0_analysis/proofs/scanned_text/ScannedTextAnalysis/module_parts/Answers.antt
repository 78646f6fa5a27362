use Rattle.std.proofs.Common.{◌∙◌, ℕ, List, ap, sym, subst}
use Rattle.ob0_analysis.specs.ReportedErrors.{IsWellTypedModule}
use Rattle.ob0_analysis.specs.AnalysisInvariants.{IsValidParseOutcome, text_of_parse_outcome}
use Rattle.ob0_analysis.proofs.Scanning.{refused_is_none}
use Rattle.ob0_analysis.proofs.scanned_text.ScannedTextAnalysis.module_parts.Goals as goal

pub returns-in-NoTree : goal.returns-in-NoTree
returns-in-NoTree c =
    let by = subst IsValidParseOutcome c.in-NoTree.is c.self.invariant in
    subst (λ (t : List ℕ). IsWellTypedModule t → ⊥) (sym (ap text_of_parse_outcome c.in-NoTree.is) ∙ c.self.view_is) (refused_is_none c.in-NoTree.ill.tokens c.in-NoTree.ill.refusal c.scan_is_unique.ensures c.text-text.ensures.scan by.0.0 by.0.1)
