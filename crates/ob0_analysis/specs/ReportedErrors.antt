-- Defines the errors that are reported for a text. A text has none exactly if it is a well-typed
-- module.
-- Rule: docs/PROTOCOL.md, Publishing 3; docs/LANGUAGE.md, Lexemes 7, Syntax faults,
-- Faults of scopes and types 1.
use Rattle.std.specs.Prelude.{◌≡◌, ◌⊎◌, ◌≤◌, ◌<◌, ◌++◌, ◌∷◌, ℕ, List, [], Option, Some, None, map, length, slice_get, codes, string_bytes}
use Rattle.ob0_scan.specs.FaultCodeTexts.{fault_code_name, fault_code_message}
use Rattle.ob0_scan.specs.ScanRefusals.{AreFaultsOfRefusedText}
use Rattle.ob0_scan.specs.TextWithTokens.{TextWithTokens, IsScannable, IsScanOf, max_faults}
use Rattle.ob0_scan.specs.declared.fault.Fault.{Fault}
use Rattle.ob0_scan.specs.declared.lexeme.Span.{Span}
use Rattle.ob0_scan.specs.declared.lexeme.Token.{Token}
use Rattle.ob0_tree.specs.Module.{IsModuleWithTree}
use Rattle.ob0_tree.specs.Tree.{Tree, module_text}
use Rattle.ob0_tree.specs.ParsedModule.{named_tree_of}
use Rattle.ob0_language_names.specs.Names.{Name}
use Rattle.ob0_scope_table.specs.Resolution.{IsResolution, Resolution}
use Rattle.ob0_language_types.specs.WellTyped.{WellTyped}
use Rattle.ob0_types.specs.FaultOrder.{AreFirstFaultsOfModule}
use Rattle.ob0_parse_descent.specs.ExpectedText.{expected_text}
use Rattle.ob0_parse.specs.IsRightParseRefusal.{IsRightParseRefusal}
use Rattle.ob0_parse_descent.specs.declared.refusal.ParseRefusal.{ParseRefusal}
use Rattle.ob0_parse_descent.specs.declared.refusal.ParseRefusal.TheVariants.{Syntax, TooDeep, Memory}
use Rattle.ob0_analysis.specs.declared.diagnoses.Diagnosis.{Diagnosis}

-- In this file a text is the list of its UTF-8 bytes. Spans count these bytes.

-- A reported error of a text: the name of its code, its message and its span in bytes.
pub record ReportedDiagnosis : Type 0 where
  pub code : List ℕ
  pub message : List ℕ
  pub span : Span

-- Returns the code, message and span of a diagnosis.
abbrev pub reported_diagnosis_of : Diagnosis → ReportedDiagnosis
reported_diagnosis_of d = record { code = d.code.now; message = string_bytes d.message; span = d.span }

-- States that the text is a module with this tree.
pub record IsTextOfTree (tree : Tree Name module_text) (text : List ℕ) : Type 0 where
  pub scanned : TextWithTokens
  pub scan : IsScanOf text scanned
  pub module_of : IsModuleWithTree scanned tree

-- States that the text is a well-typed module.
pub record IsWellTypedModule (text : List ℕ) : Type 0 where
  pub tree : Tree Name module_text
  pub text_of : IsTextOfTree tree text
  pub well_typed : WellTyped tree

-- ---- the errors of a text with lexical faults

-- Returns the reported error for one fault of lexemes, names or types.
abbrev pub reported_diagnosis_of_fault : Fault → ReportedDiagnosis
reported_diagnosis_of_fault fault =
    record { code = fault_code_name fault.code; message = fault_code_message fault.code; span = fault.span }

-- States that the text can't be scanned and that the list reports its lexical faults, at most the
-- first hundred.
pub record ReportsLexicalFaults (text : List ℕ) (reported : List ReportedDiagnosis) : Type 0 where
  pub unscannable : IsScannable text → ⊥
  pub faults : List Fault
  pub of_text : AreFaultsOfRefusedText text faults
  pub all : reported ≡ map reported_diagnosis_of_fault faults

-- ---- the error of a text that can be scanned and that the parser refuses

-- Returns the span of a token, or an empty span at the end of the text if there is no token.
abbrev pub span_or_end : List ℕ → Option Token → Span
span_or_end text (Some token) = token.span
span_or_end text None = record { start = length text; end = length text }

-- Returns the span of the token with this index, or an empty span at the end of the text if there
-- is no such token.
abbrev pub token_span_or_end : TextWithTokens → ℕ → Span
token_span_or_end s token = span_or_end s.text (slice_get s.tokens token)

-- Returns the reported error for a syntax error at the span `place`. The message is the word
-- *expected*, followed by `word`.
abbrev pub syntax_error_diagnosis : List ℕ → Span → ReportedDiagnosis
syntax_error_diagnosis word place =
    record { code = codes "Syntax"; message = codes "expected " ++ word; span = place }

-- Returns the reported error for a construct at this span that is nested too deep.
abbrev pub depth_error_diagnosis : Span → ReportedDiagnosis
depth_error_diagnosis place = record { code = codes "TooDeep"; message = codes "nested too deep"; span = place }

-- States that the error `c` reports this refusal of the text with the tokens `s`, at the token that
-- the parser refused. This is false if the refusal is `Memory`, a failed allocation.
abbrev pub IsDiagnosisOfRefusal : TextWithTokens → ParseRefusal → ReportedDiagnosis → Type 0
IsDiagnosisOfRefusal s (Syntax token expected) c = c ≡ syntax_error_diagnosis (expected_text expected) (token_span_or_end s token)
IsDiagnosisOfRefusal s (TooDeep token) c = c ≡ depth_error_diagnosis (token_span_or_end s token)
IsDiagnosisOfRefusal s Memory c = ⊥

-- States that the text can be scanned, but the parser refuses it. The list must have only one error
-- (`parser_diagnosis`), which reports the parser's refusal.
pub record ReportsParserRefusal (text : List ℕ) (reported : List ReportedDiagnosis) : Type 0 where
  pub scanned : TextWithTokens
  pub scan : IsScanOf text scanned
  pub refusal : ParseRefusal
  pub refused : IsRightParseRefusal scanned refusal
  pub parser_diagnosis : ReportedDiagnosis
  pub reports_refusal : IsDiagnosisOfRefusal scanned refusal parser_diagnosis
  pub only_diagnosis : reported ≡ parser_diagnosis ∷ []

-- ---- the errors of a text with a tree that isn't well-typed

-- States that the text has a tree that isn't well-typed. The list must report the first faults of
-- the text's names and types: at least one, and at most a hundred.
pub record ReportsNameAndTypeFaults (text : List ℕ) (reported : List ReportedDiagnosis) : Type 0 where
  pub names : Resolution
  pub resolved : IsResolution names
  pub scan : IsScanOf text names.module_read.source
  pub ill_typed : WellTyped (named_tree_of names.module_read) → ⊥
  pub faults : List Fault
  pub first : AreFirstFaultsOfModule names faults
  pub some : 0 < length faults
  pub few : length faults ≤ max_faults
  pub all : reported ≡ map reported_diagnosis_of_fault faults

-- ---- the errors of any text

-- States that the list reports the errors of a text that isn't a well-typed module. These are the
-- text's lexical faults, or the parser's refusal, or the faults of names and types.
abbrev pub ReportsErrorsOfInvalidText : List ℕ → List ReportedDiagnosis → Type 0
ReportsErrorsOfInvalidText text reported =
    ReportsLexicalFaults text reported ⊎ (ReportsParserRefusal text reported ⊎ ReportsNameAndTypeFaults text reported)

-- States that the list has exactly the errors to report for the text. The list is empty if the text
-- is a well-typed module. Otherwise the list reports the text's errors.
abbrev pub ReportsErrorsOf : List ℕ → List ReportedDiagnosis → Type 0
ReportsErrorsOf text reported =
    (IsWellTypedModule text × (reported ≡ []))
    ⊎ (¬ IsWellTypedModule text × ReportsErrorsOfInvalidText text reported)

-- ---- a law about the parser's refusal

-- States that two reports of the parser's refusal are equal if they are about the same text.
abbrev pub ReportedRefusalIsUnique : Type 0
ReportedRefusalIsUnique =
    (text : List ℕ) (a b : List ReportedDiagnosis) → ReportsParserRefusal text a → ReportsParserRefusal text b → a ≡ b
