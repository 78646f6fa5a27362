-- Proves that a text is a well-typed module or has errors, from the results of the scanner, the
-- parser and the checks.
use Rattle.std.proofs.Common.{◌≡◌, ◌⊎◌, ◌<◌, ◌∙◌, ◌+◌, ◌++◌, ◌∷◌, ℕ, List, [], length, drop, map, encode_utf8_all, inl, inr, refl, sym, ap, subst, arith}
use Rattle.std.proofs.lemmas.List.{take-append-drop}
use Rattle.std.specs.Str.{chars, IsUtf8}
use Rattle.std.proofs.lemmas.Str.{encodes-chars}
use Rattle.ob0_scan.specs.ScanRefusals.{AreFaultsOfRefusedText}
use Rattle.ob0_scan.specs.TextWithTokens.{TextWithTokens, IsScan, IsScannable, IsScanOf}
use Rattle.ob0_scan.specs.declared.fault.Fault.{Fault}
use Rattle.ob0_tree.specs.Terminals.{Terminal, EndOfText}
use Rattle.ob0_tree.specs.Module.{IsModuleWithTree, terminals_of_text}
use Rattle.ob0_tree.specs.Tree.{Tree, module_text}
use Rattle.ob0_parse.specs.IsRightParseRefusal.{NoModuleBeginsWithTokens, IsRightParseRefusal}
use Rattle.ob0_parse_descent.specs.declared.refusal.ParseRefusal.{ParseRefusal}
use Rattle.ob0_parse_descent.specs.declared.refusal.ParseRefusal.TheVariants.{Syntax, TooDeep, Memory}
use Rattle.ob0_scope_table.specs.Resolution.{Resolution}
use Rattle.ob0_tree.specs.ParsedModule.{ParsedModule, named_tree_of}
use Rattle.ob0_types.specs.CheckedModules.{CheckedModule, IsCorrectlyChecked, IsWellTyped}
use Rattle.ob0_language_types.specs.WellTyped.{WellTyped}
use Rattle.ob0_analysis.specs.AnalysisAnswers.{IsResolvedWellTypedModule}
use Rattle.ob0_analysis.specs.AnalysisInvariants.{IsNotMemoryRefusal}
use Rattle.ob0_analysis.specs.ReportedErrors.{ReportedDiagnosis, IsWellTypedModule, IsDiagnosisOfRefusal, ReportsErrorsOf, ReportsErrorsOfInvalidText, reported_diagnosis_of_fault}
use Rattle.ob0_analysis.specs.TextBytes.{utf8}

-- The UTF-8 bytes of a text's characters are the bytes of the text.
pub utf8_of : (bytes text : List ℕ) → IsUtf8 bytes → chars bytes ≡ text → bytes ≡ utf8 text
utf8_of bytes text u is = sym (encodes-chars bytes u) ∙ ap encode_utf8_all is

abbrev pub OneScan : Type 0
OneScan = (s t : TextWithTokens) → IsScan s → IsScan t → s.text ≡ t.text → s ≡ t

scannable : (text : List ℕ) → IsWellTypedModule text → IsScannable text
scannable text w = subst IsScannable w.text_of.scan.of (w.text_of.scan.scan.short, (w.text_of.scan.scan.lexemes, w.text_of.scan.scan.lexed))

pub finds_lexemes : (text : List ℕ) (faults : List Fault) (reported : List ReportedDiagnosis) → (IsScannable text → ⊥) → AreFaultsOfRefusedText text faults → reported ≡ map reported_diagnosis_of_fault faults
    → ¬ IsWellTypedModule text × ReportsErrorsOfInvalidText text reported
finds_lexemes text faults reported bad are is =
    (λ w. bad (scannable text w), inl (record { unscannable = bad; faults = faults; of_text = are; all = is }))

-- If no module begins with these tokens, no tree is the tree of a module with all the tokens.
none : (s : TextWithTokens) (i : ℕ) (tree : Tree (List ℕ) module_text) → NoModuleBeginsWithTokens s i → IsModuleWithTree s tree → ⊥
none s i tree h is =
    let all : List (Terminal (List ℕ)) = terminals_of_text s ++ (EndOfText ∷ []) in
    h tree (drop (i + 1) all) is.shallow (ap (λ (w : List (Terminal (List ℕ))). w ++ (EndOfText ∷ [])) (sym is.spelled) ∙ sym (take-append-drop (i + 1) all))

unformed : (s : TextWithTokens) (i : ℕ) → OneScan → IsScan s → NoModuleBeginsWithTokens s i → IsWellTypedModule s.text → ⊥
unformed s i one scan h w =
    let same : w.text_of.scanned ≡ s = one w.text_of.scanned s w.text_of.scan.scan scan w.text_of.scan.of in
    none s i w.tree h (subst (λ (x : TextWithTokens). IsModuleWithTree x w.tree) same w.text_of.module_of)

-- A text without lexemes, or one that the parser refuses, isn't a well-typed module.
pub no_lexemes_is_none : (text : List ℕ) → (IsScannable text → ⊥) → IsWellTypedModule text → ⊥
no_lexemes_is_none text bad w = bad (scannable text w)

pub refused_is_none : (s : TextWithTokens) (refusal : ParseRefusal) → OneScan → IsScan s → IsRightParseRefusal s refusal → IsNotMemoryRefusal refusal → IsWellTypedModule s.text → ⊥
refused_is_none s (Syntax i expected) one scan by decided = unformed s i one scan by.1
refused_is_none s (TooDeep i) one scan by decided = unformed s i one scan by.1
refused_is_none s Memory one scan by decided = absurd decided

pub finds_parser : (s : TextWithTokens) (refusal : ParseRefusal) (c : ReportedDiagnosis) → OneScan → IsScan s → IsRightParseRefusal s refusal → IsDiagnosisOfRefusal s refusal c
    → ¬ IsWellTypedModule s.text × ReportsErrorsOfInvalidText s.text (c ∷ [])
finds_parser s (Syntax i expected) c one scan by at =
    (unformed s i one scan by.1, inr (inl (record { scanned = s; scan = record { of = refl; scan = scan }; refusal = Syntax i expected; refused = by; parser_diagnosis = c; reports_refusal = at; only_diagnosis = refl })))
finds_parser s (TooDeep i) c one scan by at =
    (unformed s i one scan by.1, inr (inl (record { scanned = s; scan = record { of = refl; scan = scan }; refusal = TooDeep i; refused = by; parser_diagnosis = c; reports_refusal = at; only_diagnosis = refl })))
finds_parser s Memory c one scan by at = absurd at

abbrev pub OneTree : Type 0
OneTree = (text : TextWithTokens) (a b : Tree (List ℕ) module_text) → IsModuleWithTree text a → IsModuleWithTree text b → a ≡ b

-- A text whose tree isn't well-typed isn't a well-typed module, because a text has only one tree.
ill_typed : (s : TextWithTokens) (tree : Tree (List ℕ) module_text) → OneScan → OneTree → IsScan s → IsModuleWithTree s tree → (WellTyped tree → ⊥) → IsWellTypedModule s.text → ⊥
ill_typed s tree one only scan is ill w =
    let same : w.text_of.scanned ≡ s = one w.text_of.scanned s w.text_of.scan.scan scan w.text_of.scan.of in
    ill (subst WellTyped (only s w.tree tree (subst (λ (x : TextWithTokens). IsModuleWithTree x w.tree) same w.text_of.module_of) is) w.well_typed)

some_of : (faults : List Fault) → (faults ≡ [] → ⊥) → 0 < length faults
some_of [] some = absurd (some refl)
some_of (f ∷ fs) some = omega arith

pub finds_types : (c : CheckedModule) (reported : List ReportedDiagnosis) → OneScan → OneTree → IsScan c.names.module_read.source → IsCorrectlyChecked c → (c.faults ≡ [] → ⊥) → reported ≡ map reported_diagnosis_of_fault c.faults
    → ¬ IsWellTypedModule c.names.module_read.source.text × ReportsErrorsOfInvalidText c.names.module_read.source.text reported
finds_types c reported one only scan checked bad is =
    let s : TextWithTokens = c.names.module_read.source in
    let tree : Tree (List ℕ) module_text = named_tree_of c.names.module_read in
    let ill : WellTyped tree → ⊥ = λ w. bad (checked.reported.1 w) in (
      ill_typed s tree one only scan checked.resolved.parsed.module_of ill,
      inr (inr (record {
        names = c.names;
        resolved = checked.resolved;
        scan = record { of = refl; scan = scan };
        ill_typed = ill;
        faults = c.faults;
        first = checked.first;
        some = some_of c.faults bad;
        few = checked.few;
        all = is;
      })),
    )

-- If checking finds a fault in a text's module, the text isn't a well-typed module.
pub faulty_is_none : (text : List ℕ) (c : CheckedModule) (m : Resolution) → c.names ≡ m → OneScan → OneTree → IsScanOf text m.module_read.source → IsCorrectlyChecked c → (c.faults ≡ [] → ⊥) → IsWellTypedModule text → ⊥
faulty_is_none text c m is one only read checked bad =
    let s : TextWithTokens = c.names.module_read.source in
    let here : IsScanOf text s = subst (λ (r : Resolution). IsScanOf text r.module_read.source) (sym is) read in
    subst (λ (t : List ℕ). IsWellTypedModule t → ⊥) here.of (ill_typed s (named_tree_of c.names.module_read) one only here.scan checked.resolved.parsed.module_of (λ w. bad (checked.reported.1 w)))

-- If the checked module is a scan of the text and is well-typed, it is the text's module.
pub module_in : (text : List ℕ) (names m : Resolution) → names ≡ m → IsScanOf text m.module_read.source → IsWellTyped names → IsResolvedWellTypedModule text names
module_in text names m is read w = record { scan = subst (λ (r : Resolution). IsScanOf text r.module_read.source) (sym is) read; well_typed = w }

-- A text that has a well-typed module with its bindings is a well-typed module.
abbrev pub is_module : (text : List ℕ) (names : Resolution) → IsResolvedWellTypedModule text names → IsWellTypedModule text
is_module text names h =
    record { tree = named_tree_of names.module_read; text_of = record { scanned = names.module_read.source; scan = h.scan; module_of = h.well_typed.resolved.parsed.module_of }; well_typed = h.well_typed.well_typed }

some_or_none : (faults : List Fault) → (faults ≡ []) ⊎ (faults ≡ [] → ⊥)
some_or_none [] = inl refl
some_or_none (f ∷ fs) = inr (λ e. absurd (omega (arith, ap length e)))

-- The report of a text with a tree is empty exactly if the module is well-typed.
pub reports_module : (c : CheckedModule) (reported : List ReportedDiagnosis) → OneScan → OneTree → IsScan c.names.module_read.source → IsCorrectlyChecked c → reported ≡ map reported_diagnosis_of_fault c.faults
    → ReportsErrorsOf c.names.module_read.source.text reported
reports_module c reported one only scan checked is =
    let m : ParsedModule = c.names.module_read in
    elim (some_or_none c.faults) [
      | inl none ↦
          let fits : IsWellTyped c.names = record { resolved = checked.resolved; well_typed = checked.reported.0 none } in
          inl (is_module m.source.text c.names (module_in m.source.text c.names c.names refl (record { of = refl; scan = scan }) fits), is ∙ ap (map reported_diagnosis_of_fault) none)
      | inr some ↦ inr (finds_types c reported one only scan checked some is)
    ]
