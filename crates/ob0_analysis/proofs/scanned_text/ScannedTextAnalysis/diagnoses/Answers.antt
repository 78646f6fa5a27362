use Rattle.std.proofs.Common.{subst}
use Rattle.ob0_analysis.specs.AnalysisInvariants.{IsValidParseOutcome}
use Rattle.ob0_analysis.proofs.scanned_text.ScannedTextAnalysis.diagnoses.Goals as goal

pub diagnose_refusal-requires : goal.diagnose_refusal-requires
diagnose_refusal-requires c = (subst IsValidParseOutcome c.in-NoTree.is c.self.invariant).0.0
