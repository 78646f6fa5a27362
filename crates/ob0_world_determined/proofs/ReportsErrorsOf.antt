-- Proves that a text has at most one list of diagnostics.
use Rattle.std.proofs.Common.{◌≡◌, ◌∙◌, ℕ, suc, ◌+◌, None, Bool, true, false, cond, List, [], ◌∷◌, ◌++◌, map, take, drop, filter, replicate, refl, sym, ap, subst, inl, inr, arith}
use Rattle.std.specs.Prelude.{slice_index_or}
use Rattle.std.specs.List.{sum_by}
use Rattle.std.specs.Cmp.{IsStrictWeakOrder, IsTotalOrder, nat_cmp_total, on_total, then_total}
use Rattle.std.specs.List.Sorted.{IsPermutation, IsSorted, ties}
use Rattle.std.specs.Ordering.{nat_cmp, ordering_reverse, ordering_then, is_lt}
use Rattle.std.specs.declared.cmp.Ordering.{Ordering}
use Rattle.std.specs.declared.cmp.Ordering.TheVariants.{Less, Equal, Greater}
use Rattle.std.proofs.lemmas.List.{take-append-drop}
use Rattle.std.proofs.lemmas.List.Sorted.{sum_by-IsPermutation}
use Rattle.std.proofs.lemmas.List.Sums.{sum_by-cons}
use Rattle.std.proofs.lemmas.Map.Lookups.{exact_unsigned}
use Rattle.ob0_scan.specs.Faults.{AreReportedFaultsOf}
use Rattle.ob0_scan.specs.TextWithTokens.{TextWithTokens, IsScan, IsScannable, IsScanOf}
use Rattle.ob0_scan.specs.declared.fault.FaultCode.{FaultCode}
use Rattle.ob0_scan.specs.declared.fault.FaultCode.TheVariants as code
use Rattle.ob0_scan.specs.declared.fault.Fault.{Fault}
use Rattle.ob0_text.proofs.StableSort.{one_sorted, rises_sorted}
use Rattle.ob0_tree.specs.Terminals.{Terminal, EndOfText}
use Rattle.ob0_tree.specs.Module.{IsModuleWithTree, terminals_of_text}
use Rattle.ob0_tree.specs.ParsedModule.{tree_of, named_tree_of}
use Rattle.ob0_tree.specs.TokenIndexLeaves.{token_text_at, tree_with_names}
use Rattle.ob0_tree.specs.Tree.{Tree, module_text, occurrences}
use Rattle.ob0_parse.specs.IsRightParseRefusal.{NoModuleBeginsWithTokens, IsRightParseRefusal}
use Rattle.ob0_parse_descent.specs.declared.refusal.ParseRefusal.{ParseRefusal}
use Rattle.ob0_parse_descent.specs.declared.refusal.ParseRefusal.TheVariants.{Syntax, TooDeep, Memory}
use Rattle.ob0_scope_table.specs.DuplicatesAndEndNames.{tree_declaration_faults}
use Rattle.ob0_scope_table.specs.FaultsAtTokens.{fault_with_span}
use Rattle.ob0_language_names.specs.Occurrences.{labels_of_occurrences}
use Rattle.ob0_language_names.specs.BlockParts.{module_block}
use Rattle.ob0_scope_table.specs.Resolution.{Resolution, IsResolution, declaring_names, is_duplicate_or_end_name_fault, is_undeclared_fault, undeclared_faults_from_labels}
use Rattle.ob0_tree.specs.declared.tree.Role.TheVariants as role
use Rattle.ob0_tree.specs.Tree.{identifiers}
use Rattle.ob0_types.specs.FaultOrder.{AreFirstFaultsOfModule, fault_code_number, compare_faults, all_faults_of, compare_spans}
use Rattle.ob0_types_check.specs.DeclarationFaults.{includes_every_body, undeclared_name_and_type_faults, report_on_block, report_on_module, walk_progress_at_module_start}
use Rattle.ob0_types_check.proofs.WalksOverSomeBodies.{closing_of}
use Rattle.ob0_types_check.specs.KnownDeclarations.{known_declarations_at_module_start, predeclared_meanings}
use Rattle.ob0_analysis.specs.ReportedErrors.{ReportedDiagnosis, IsDiagnosisOfRefusal, ReportedRefusalIsUnique, ReportsErrorsOf, ReportsErrorsOfInvalidText, ReportsLexicalFaults, ReportsParserRefusal, ReportsNameAndTypeFaults, reported_diagnosis_of_fault}
use Rattle.ob0_world_rules.proofs.OneModule.{Same, same_module}
use Rattle.ob0_world_determined.specs.DeterminedOutput.{DiagnosesAreDetermined, ResolutionIsDetermined}
use Rattle.ob0_world_determined.proofs.SameTables.{Like, block_like}

abbrev pub OneScan : Type 0
OneScan = (s t : TextWithTokens) → IsScan s → IsScan t → s.text ≡ t.text → s ≡ t

abbrev pub OneScanReport : Type 0
OneScanReport = (text : List ℕ) (faults others : List Fault) → AreReportedFaultsOf text faults → AreReportedFaultsOf text others → faults ≡ others

-- ---- a text has no lexemes, no tree or no types

scannable : (text : List ℕ) (s : TextWithTokens) → IsScanOf text s → IsScannable text
scannable text s scan = subst IsScannable scan.of (scan.scan.short, (scan.scan.lexemes, scan.scan.lexed))

-- No tree is a module's if no module begins with these tokens.
none : (s : TextWithTokens) (i : ℕ) (tree : Tree (List ℕ) module_text) → NoModuleBeginsWithTokens s i → IsModuleWithTree s tree → ⊥
none s i tree h is =
    let all : List (Terminal (List ℕ)) = terminals_of_text s ++ (EndOfText ∷ []) in
    h tree (drop (i + 1) all) is.shallow (ap (λ (w : List (Terminal (List ℕ))). w ++ (EndOfText ∷ [])) (sym is.spelled) ∙ sym (take-append-drop (i + 1) all))

not_refused : (s : TextWithTokens) (why : ParseRefusal) (c : ReportedDiagnosis) (tree : Tree (List ℕ) module_text) → IsRightParseRefusal s why → IsDiagnosisOfRefusal s why c → IsModuleWithTree s tree → ⊥
not_refused s (Syntax i expected) c tree by is module_is = none s i tree by.1 module_is
not_refused s (TooDeep i) c tree by is module_is = none s i tree by.1 module_is
not_refused s Memory c tree by is module_is = is

-- ---- faults in order

-- the codes in the order of their numbers
abbrev codes_in_order : List FaultCode
codes_in_order =
    code.TooLong ∷ code.TooLong ∷ code.BadChar ∷ code.OpenComment ∷ code.NumberTooLarge ∷ code.NumberJoinsLetter ∷ code.TooLong ∷ code.TooLong ∷ code.TooLong ∷ code.TooLong
    ∷ code.Duplicate ∷ code.Undeclared ∷ code.EndName ∷ code.WrongKind ∷ code.TypeMismatch ∷ code.NotConstant ∷ code.ConstFault ∷ code.ArrayLength ∷ code.TypeTooLarge
    ∷ code.ArgumentCount ∷ code.NotVariable ∷ code.NoField ∷ code.NotArray ∷ code.NotRecord ∷ []

abbrev code_with : ℕ → FaultCode
code_with n = slice_index_or codes_in_order n code.TooLong

coded : (x : FaultCode) → code_with (fault_code_number x) ≡ x
coded x =
    elim x as (λ y. code_with (fault_code_number y) ≡ y) [
      | code.TooLong ↦ refl
      | code.BadChar ↦ refl
      | code.OpenComment ↦ refl
      | code.NumberTooLarge ↦ refl
      | code.NumberJoinsLetter ↦ refl
      | code.Duplicate ↦ refl
      | code.Undeclared ↦ refl
      | code.EndName ↦ refl
      | code.WrongKind ↦ refl
      | code.TypeMismatch ↦ refl
      | code.NotConstant ↦ refl
      | code.ConstFault ↦ refl
      | code.ArrayLength ↦ refl
      | code.TypeTooLarge ↦ refl
      | code.ArgumentCount ↦ refl
      | code.NotVariable ↦ refl
      | code.NoField ↦ refl
      | code.NotArray ↦ refl
      | code.NotRecord ↦ refl
    ]

fault_order : IsTotalOrder compare_faults
fault_order =
    then_total (then_total (on_total (λ (f : Fault). f.span.start) nat_cmp_total) (on_total (λ (f : Fault). f.span.end) nat_cmp_total)) (on_total (λ (f : Fault). fault_code_number f.code) nat_cmp_total)

then_equal : (a b : Ordering) → ordering_then a b ≡ Equal → (a ≡ Equal) × (b ≡ Equal)
then_equal Less b h = absurd (cc)
then_equal Equal b h = (refl, h)
then_equal Greater b h = absurd (cc)

same_fault : (x y : Fault) → compare_faults x y ≡ Equal → x ≡ y
same_fault x y h =
    let parts = then_equal (compare_spans x y) (nat_cmp (fault_code_number x.code) (fault_code_number y.code)) h in
    let places = then_equal (nat_cmp x.span.start y.span.start) (nat_cmp x.span.end y.span.end) parts.0 in
    let starts : x.span.start ≡ y.span.start = exact_unsigned x.span.start y.span.start places.0 in
    let ends : x.span.end ≡ y.span.end = exact_unsigned x.span.end y.span.end places.1 in
    let codes : x.code ≡ y.code = sym (coded x.code) ∙ ap code_with (exact_unsigned (fault_code_number x.code) (fault_code_number y.code) parts.1) ∙ coded y.code in
    λ i. record { code = codes i; span = record { start = starts i; end = ends i } }

abbrev is_below : Fault → Fault → Bool
is_below x y = is_lt (compare_faults x y)

less_only : (o : Ordering) → is_lt o ≡ true → o ≡ Less
less_only Less h = refl
less_only Equal h = absurd (cc)
less_only Greater h = absurd (cc)

weak : IsStrictWeakOrder is_below
weak = record {
  one_way = λ x y h. ap is_lt (fault_order.antisymm y x ∙ ap ordering_reverse (less_only (compare_faults x y) h));
  chain = λ x y z h k. go x y z (compare_faults x y) refl (compare_faults y z) refl h k;
}
  where
    back : (x y : Fault) → compare_faults x y ≡ Greater → compare_faults y x ≡ Less
    back x y h = fault_order.antisymm y x ∙ ap ordering_reverse h

    forth : (x y : Fault) → compare_faults x y ≡ Less → compare_faults y x ≡ Greater
    forth x y h = fault_order.antisymm y x ∙ ap ordering_reverse h

    go : (x y z : Fault) (a : Ordering) → compare_faults x y ≡ a → (b : Ordering) → compare_faults y z ≡ b → is_lt (compare_faults x y) ≡ false → is_lt (compare_faults y z) ≡ false → is_lt (compare_faults x z) ≡ false
    go x y z Less p b q h k = absurd (let no : true ≡ false = sym (ap is_lt p) ∙ h in cc)
    go x y z Equal p b q h k = ap is_lt (fault_order.congr x y z p) ∙ k
    go x y z Greater p Less q h k = absurd (let no : true ≡ false = sym (ap is_lt q) ∙ k in cc)
    go x y z Greater p Equal q h k = ap is_lt (forth z x (sym (fault_order.congr y z x q) ∙ back x y p))
    go x y z Greater p Greater q h k = ap is_lt (forth z x (fault_order.trans z y x (back y z q) (back x y p)))

tied_same : (x y : Fault) → ties is_below x y ≡ true → y ≡ x
tied_same x y h = go (compare_faults x y) refl (is_below y x) refl
  where
    go : (a : Ordering) → compare_faults x y ≡ a → (b : Bool) → is_below y x ≡ b → y ≡ x
    go Less p b q = absurd (let none : ties is_below x y ≡ false = rw (ap is_lt p) refl in cc)
    go Equal p b q = sym (same_fault x y p)
    go Greater p b q = absurd (let low : is_below y x ≡ true = ap is_lt (fault_order.antisymm y x ∙ ap ordering_reverse p) in let none : ties is_below x y ≡ false = rw (ap is_lt p, low) refl in cc)

abbrev counts : Fault → Fault → ℕ
counts q x = cond (ties is_below q x) 1 0

one_more : (n : ℕ) → 1 + n ≡ suc n
one_more n = omega arith

none_more : (n : ℕ) → 0 + n ≡ n
none_more n = omega arith

copies : (q : Fault) (xs : List Fault) → filter (ties is_below q) xs ≡ replicate (sum_by (counts q) xs) q
copies q [] = refl
copies q (x ∷ xs) = go (ties is_below q x) refl (copies q xs)
  where
    go : (b : Bool) → ties is_below q x ≡ b → filter (ties is_below q) xs ≡ replicate (sum_by (counts q) xs) q → filter (ties is_below q) (x ∷ xs) ≡ replicate (sum_by (counts q) (x ∷ xs)) q
    go true t more =
        let count : sum_by (counts q) (x ∷ xs) ≡ suc (sum_by (counts q) xs) = sum_by-cons (counts q) x xs ∙ ap (λ b. cond b 1 0 + sum_by (counts q) xs) t ∙ one_more (sum_by (counts q) xs) in
        ap (λ b. cond b (x ∷ filter (ties is_below q) xs) (filter (ties is_below q) xs)) t ∙ (λ i. tied_same q x t i ∷ more i) ∙ sym (ap (λ n. replicate n q) count)
    go false t more =
        let count : sum_by (counts q) (x ∷ xs) ≡ sum_by (counts q) xs = sum_by-cons (counts q) x xs ∙ ap (λ b. cond b 1 0 + sum_by (counts q) xs) t ∙ none_more (sum_by (counts q) xs) in
        ap (λ b. cond b (x ∷ filter (ties is_below q) xs) (filter (ties is_below q) xs)) t ∙ more ∙ sym (ap (λ n. replicate n q) count)

-- A list of faults has at most one sorted permutation.
sorted_one : (faults xs ys : List Fault) → IsPermutation faults xs → IsPermutation faults ys → IsSorted compare_faults xs → IsSorted compare_faults ys → xs ≡ ys
sorted_one faults xs ys p q sorted sorted_too =
    one_sorted is_below weak xs ys (rises_sorted is_below weak xs sorted) (rises_sorted is_below weak ys sorted_too)
    (λ f. copies f xs ∙ ap (λ n. replicate n f) (sum_by-IsPermutation (counts f) faults xs p ∙ sym (sum_by-IsPermutation (counts f) faults ys q)) ∙ sym (copies f ys))

-- ---- faults of names and types

module _ (r q : Resolution) (h : IsResolution r) (k : IsResolution q) (e : Same r.module_read q.module_read) (tables : ResolutionIsDetermined) where
  first_like : Like (known_declarations_at_module_start r) (known_declarations_at_module_start q)
  first_like = record {
    source = e.source;
    ordinals = tables r q h k (e.source, e.tree);
    declared = ap (λ ds. predeclared_meanings ++ map (λ token. None) ds) (h.declaring ∙ ap (λ t. declaring_names (identifiers role.DeclaringName t)) e.tree ∙ sym k.declaring);
    made = refl;
  }

  same_of_names : r.faults ≡ q.faults
  same_of_names =
      h.reported.by_kind ∙ (λ i. tree_declaration_faults (token_text_at (e.source i)) (e.tree i) ++ undeclared_faults_from_labels (occurrences (e.tree i)) (labels_of_occurrences (tree_with_names (e.source i) (e.tree i)))) ∙ sym k.reported.by_kind

  same_reported : undeclared_name_and_type_faults r ≡ undeclared_name_and_type_faults q
  unfolding undeclared_name_and_type_faults
  same_reported =
      let found : (report_on_module includes_every_body r).faults ≡ (report_on_module includes_every_body q).faults =
      (block_like r.module_read.closing (walk_progress_at_module_start r) (walk_progress_at_module_start q) (module_block (tree_of r.module_read)) first_like).faults ∙ ap (λ t. (report_on_block includes_every_body (closing_of t) (walk_progress_at_module_start q) (module_block t)).faults) e.tree in
      λ i. filter is_undeclared_fault (same_of_names i) ++ found i

  same_faults : (xs ys : List Fault) → AreFirstFaultsOfModule r xs → AreFirstFaultsOfModule q ys → xs ≡ ys
  same_faults xs ys a b =
      let found : map (fault_with_span r.module_read.source) (all_faults_of r) ≡ map (fault_with_span q.module_read.source) (all_faults_of q) = λ i. map (fault_with_span (e.source i)) (same_reported i ++ filter is_duplicate_or_end_name_fault (same_of_names i)) in
      a.first ∙ ap (take 100) (sorted_one _ a.all b.all (subst (λ fs. IsPermutation fs a.all) found a.joined) b.joined a.in_order b.in_order) ∙ sym b.first

types_one : (text : List ℕ) (list other : List ReportedDiagnosis) → ResolutionIsDetermined → ReportsNameAndTypeFaults text list → ReportsNameAndTypeFaults text other → list ≡ other
types_one text list other tables a b =
    let e : Same a.names.module_read b.names.module_read = same_module text a.names.module_read b.names.module_read a.scan a.resolved.parsed b.scan b.resolved.parsed in
    a.all ∙ ap (map reported_diagnosis_of_fault) (same_faults a.names b.names a.resolved b.resolved e tables a.faults b.faults a.first b.first) ∙ sym b.all

-- ---- every text

module _ (scans : OneScan) (reports : OneScanReport) (refusals : ReportedRefusalIsUnique) (tables : ResolutionIsDetermined) (text : List ℕ) where
  one_source : (s t : TextWithTokens) → IsScanOf text s → IsScanOf text t → s ≡ t
  one_source s t p q = scans s t p.scan q.scan (p.of ∙ sym q.of)

  lexemes_only : {A : Type 0} (list : List ReportedDiagnosis) (s : TextWithTokens) → ReportsLexicalFaults text list → IsScanOf text s → A
  lexemes_only list s h scan = absurd (h.unscannable (scannable text s scan))

  parser_only : {A : Type 0} (list other : List ReportedDiagnosis) → ReportsParserRefusal text list → ReportsNameAndTypeFaults text other → A
  parser_only list other h k =
      let same : k.names.module_read.source ≡ h.scanned = one_source k.names.module_read.source h.scanned k.scan h.scan in
      absurd (not_refused h.scanned h.refusal h.parser_diagnosis (named_tree_of k.names.module_read) h.refused h.reports_refusal (subst (λ s. IsModuleWithTree s (named_tree_of k.names.module_read)) same k.resolved.parsed.module_of))

  faults_one : (list other : List ReportedDiagnosis) → ReportsErrorsOfInvalidText text list → ReportsErrorsOfInvalidText text other → list ≡ other
  faults_one list other (inl a) (inl b) = a.all ∙ ap (map reported_diagnosis_of_fault) (reports text a.faults b.faults a.of_text.reported b.of_text.reported) ∙ sym b.all
  faults_one list other (inl a) (inr (inl b)) = lexemes_only list b.scanned a b.scan
  faults_one list other (inl a) (inr (inr b)) = lexemes_only list b.names.module_read.source a b.scan
  faults_one list other (inr (inl a)) (inl b) = lexemes_only other a.scanned b a.scan
  faults_one list other (inr (inl a)) (inr (inl b)) = refusals text list other a b
  faults_one list other (inr (inl a)) (inr (inr b)) = parser_only list other a b
  faults_one list other (inr (inr a)) (inl b) = lexemes_only other a.names.module_read.source b a.scan
  faults_one list other (inr (inr a)) (inr (inl b)) = parser_only other list b a
  faults_one list other (inr (inr a)) (inr (inr b)) = types_one text list other tables a b

  report_one : (list other : List ReportedDiagnosis) → ReportsErrorsOf text list → ReportsErrorsOf text other → list ≡ other
  report_one list other (inl (fits, a)) (inl (fits_too, b)) = a ∙ sym b
  report_one list other (inl (fits, a)) (inr (unfit, b)) = absurd (unfit fits)
  report_one list other (inr (unfit, a)) (inl (fits, b)) = absurd (unfit fits)
  report_one list other (inr (unfit, a)) (inr (unfit_too, b)) = faults_one list other a b

pub diagnoses_are_determined : OneScan → OneScanReport → ReportedRefusalIsUnique → ResolutionIsDetermined → DiagnosesAreDetermined
diagnoses_are_determined scans reports refusals tables text list other a b = report_one scans reports refusals tables text list other a b
