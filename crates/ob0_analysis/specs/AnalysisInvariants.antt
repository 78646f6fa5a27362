-- Defines the invariants of the analysis of a text.
-- Rule: none; used in private contracts about the results that an analysis keeps.
use Rattle.std.specs.Prelude.{ℕ, IfSome, List, string_bytes}
use Rattle.ob0_scan.specs.ScanRefusals.{AreFaultsOfRefusedText}
use Rattle.ob0_scan.specs.TextWithTokens.{TextWithTokens, IsScannable}
use Rattle.ob0_parse.specs.KeptTreeTokens.{KeptTreesMatchTokens}
use Rattle.ob0_parse.specs.IsRightParseRefusal.{IsRightParseRefusal}
use Rattle.ob0_parse_descent.specs.declared.refusal.ParseRefusal.{ParseRefusal}
use Rattle.ob0_parse_descent.specs.declared.refusal.ParseRefusal.TheVariants.{Syntax, TooDeep, Memory}
use Rattle.ob0_analysis.specs.LastModule.{IsLastModuleOf}
use Rattle.ob0_analysis.specs.declared.analysis.AnalysisResult.{AnalysisResult}
use Rattle.ob0_analysis.specs.declared.analysis.AnalysisResult.TheVariants.{Unscannable, Scannable}
use Rattle.ob0_analysis.specs.declared.scanned_text.ReanalysisFailure.{ReanalysisFailure}
use Rattle.ob0_analysis.specs.declared.scanned_text.ReanalysisFailure.TheVariants as reanalysis_failure
use Rattle.ob0_analysis.specs.declared.scanned_text.ParseOutcome.{ParseOutcome}
use Rattle.ob0_analysis.specs.declared.scanned_text.ParseOutcome.TheVariants.{NoTree, Module}

-- States that the refusal isn't `Memory`, a failed allocation.
abbrev pub IsNotMemoryRefusal : ParseRefusal → Type 0
IsNotMemoryRefusal (Syntax token expected) = Unit {0}
IsNotMemoryRefusal (TooDeep token) = Unit {0}
IsNotMemoryRefusal Memory = ⊥

-- States that the parser refuses these tokens with this refusal, and that the refusal isn't
-- `Memory`, a failed allocation.
abbrev pub IsRefusedByParser : TextWithTokens → ParseRefusal → Type 0
IsRefusedByParser tokens refusal = IsRightParseRefusal tokens refusal × IsNotMemoryRefusal refusal

-- Returns the text that was parsed.
abbrev pub text_of_parse_outcome : ParseOutcome → List ℕ
text_of_parse_outcome (NoTree ill) = ill.tokens.text
text_of_parse_outcome (Module m) = m.module_read.source.text

-- States that the outcome of parsing a text is right. If the text has no tree, the parser refuses
-- its tokens with this refusal, and the kept trees match its tokens. Also, `last` is None or has
-- the names and types of the last module before this text. If the text is a module, states nothing,
-- because a `ModuleParts` has its own invariant.
abbrev pub IsValidParseOutcome : ParseOutcome → Type 0
IsValidParseOutcome (NoTree ill) =
    IsRefusedByParser ill.tokens ill.refusal
    × KeptTreesMatchTokens ill.tokens.tokens ill.kept
    × IfSome ill.last (IsLastModuleOf ill.tokens)
IsValidParseOutcome (Module m) = Unit {0}

-- States that the reason why a changed text wasn't analysed is right. If the reason is lexical
-- faults, the text can't be scanned, and these are the lexical faults to report for it
-- (`AreFaultsOfRefusedText`). The reason `Memory`, a failed allocation, is always right.
abbrev pub IsRightReanalysisFailure : List ℕ → ReanalysisFailure → Type 0
IsRightReanalysisFailure text (reanalysis_failure.Faults faults last) = (IsScannable text → ⊥) × AreFaultsOfRefusedText text faults.items
IsRightReanalysisFailure text reanalysis_failure.Memory = Unit {0}

-- Returns the text that was analysed.
abbrev pub text_of_analysis_result : AnalysisResult → List ℕ
text_of_analysis_result (Unscannable ill) = string_bytes ill.text
text_of_analysis_result (Scannable read) = read

-- States that the result of analysing a text is right. If the result is lexical faults, the text
-- can't be scanned, and these are the lexical faults to report for it (`AreFaultsOfRefusedText`).
-- States nothing about any other result, because a `ScannedTextAnalysis` has its own invariant.
abbrev pub IsValidAnalysisResult : AnalysisResult → Type 0
IsValidAnalysisResult (Unscannable ill) =
    (IsScannable (string_bytes ill.text) → ⊥) × AreFaultsOfRefusedText (string_bytes ill.text) ill.faults.items
IsValidAnalysisResult (Scannable read) = Unit {0}
