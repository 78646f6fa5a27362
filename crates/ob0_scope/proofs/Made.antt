-- Proves that after a walk over a module, the table of its marks and its faults make it a resolved
-- module.
use Rattle.std.proofs.Common.{◌≡◌, ℕ, Bool, true, false, not, ◌||◌, Option, Some, None, List, [], ◌∷◌, ◌++◌, map, length, refl, sym, ap, ◌∙◌, subst, is_some, if◌then◌else◌, replicate, ◌==◌}
use Rattle.std.proofs.lemmas.List.Folds.{list_any-append}
use Rattle.std.specs.List.{filter, list_any}
use Rattle.std.proofs.lemmas.Bool.{or_parts}
use Rattle.ob0_scan.specs.declared.fault.FaultCode.TheVariants as code
use Rattle.ob0_scan.specs.declared.fault.FaultCode.{FaultCode}
use Rattle.ob0_scan.specs.TextWithTokens.{TextWithTokens}
use Rattle.ob0_tree.specs.declared.tree.Role.TheVariants as role
use Rattle.ob0_tree.specs.Tree.{identifiers, occurrences}
use Rattle.ob0_tree.specs.ParsedModule.{ParsedModule, TreeMatchesText, tree_of}
use Rattle.ob0_tree.specs.TokenIndexLeaves.{token_text_at}
use Rattle.ob0_scope_table.specs.DuplicatesAndEndNames.{declaration_faults}
use Rattle.ob0_scope_table.specs.FaultsAtTokens.{fault_at_token}
use Rattle.ob0_scope_table.specs.declared.faults.FaultAtTokens.{FaultAtTokens}
use Rattle.ob0_language_names.specs.Names.{Name, naming_by_spelling}
use Rattle.ob0_scope_table.specs.Resolution.{AreNameFaultsOf, IsNumberingTable, IsResolution, OnlyIdentifiersHaveOrdinals, declaring_names, is_duplicate_or_end_name_fault, is_undeclared_fault, is_unbound, label_from_table, ordinal_in, undeclared_faults_from_labels, undeclared_faults, undeclared_faults_from_table, ordinal_and_spelling}
use Rattle.ob0_language_names.specs.Scopes.{label_from_ordinal}
use Rattle.ob0_scope_numbering.specs.OrdinalMarks.{table_with_marks}
use Rattle.ob0_scope_numbering.specs.MarkWalk.{WalkState, initial_walk_state}
use Rattle.ob0_scope_numbering.specs.IdentifierWalk.{visit_module}
use Rattle.ob0_scope_numbering.specs.IdentifierSpellings.{original_spellings}
use Rattle.ob0_scope_table.proofs.Bound.{bindings_by_table}
use Rattle.ob0_scope_numbering.proofs.Passing.{HasMarks, at_start, module_passed}
use Rattle.ob0_scope_numbering.proofs.Tables.{kept_elsewhere, marks_in_table, none_at}
use Rattle.ob0_scope.proofs.TwiceOnce.{twice_alone, twice_where}
use Rattle.ob0_tree.proofs.Occurring.{looked_up-occurrences}

undeclared_none : (o : Option ℕ) (token : ℕ) (rest : List FaultAtTokens) → list_any is_duplicate_or_end_name_fault rest ≡ false → list_any is_duplicate_or_end_name_fault (if is_some o then rest else fault_at_token code.Undeclared token ∷ rest) ≡ false
undeclared_none None token rest e = e
undeclared_none (Some k) token rest e = e

undeclared_declares : (ordinals : List (Option ℕ)) (is : List ℕ) → list_any is_duplicate_or_end_name_fault (undeclared_faults_from_table ordinals is) ≡ false
undeclared_declares ordinals [] = refl
undeclared_declares ordinals (i ∷ is) = undeclared_none (ordinal_in ordinals i) i (undeclared_faults_from_table ordinals is) (undeclared_declares ordinals is)

unbound_one : (o : Option ℕ) (x : Name) (token : ℕ) (rest other : List FaultAtTokens) → rest ≡ other
    → (if is_some o then rest else fault_at_token code.Undeclared token ∷ rest) ≡ (if is_unbound (label_from_ordinal naming_by_spelling o x) then fault_at_token code.Undeclared token ∷ other else other)
unbound_one None x token rest other e = ap (λ fs. fault_at_token code.Undeclared token ∷ fs) e
unbound_one (Some k) x token rest other e = e

unbound_all : (source : TextWithTokens) (ordinals : List (Option ℕ)) (is : List ℕ) → undeclared_faults_from_table ordinals is ≡ undeclared_faults_from_labels is (map (label_from_table source ordinals) is)
unbound_all source ordinals [] = refl
unbound_all source ordinals (i ∷ is) =
    unbound_one (ordinal_in ordinals i) (token_text_at source i) i (undeclared_faults_from_table ordinals is) (undeclared_faults_from_labels is (map (label_from_table source ordinals) is)) (unbound_all source ordinals is)

occurrences_kept : (o : Option ℕ) (token : ℕ) (rest : List FaultAtTokens) → filter is_undeclared_fault rest ≡ rest
    → filter is_undeclared_fault (if is_some o then rest else fault_at_token code.Undeclared token ∷ rest) ≡ (if is_some o then rest else fault_at_token code.Undeclared token ∷ rest)
occurrences_kept None token rest e = ap (λ fs. fault_at_token code.Undeclared token ∷ fs) e
occurrences_kept (Some k) token rest e = e

all_occurrences : (ordinals : List (Option ℕ)) (is : List ℕ) → filter is_undeclared_fault (undeclared_faults_from_table ordinals is) ≡ undeclared_faults_from_table ordinals is
all_occurrences ordinals [] = refl
all_occurrences ordinals (i ∷ is) = occurrences_kept (ordinal_in ordinals i) i (undeclared_faults_from_table ordinals is) (all_occurrences ordinals is)

not_false : (a : Bool) → not a ≡ false → a ≡ true
not_false true e = refl
not_false false e = absurd (cc)

apart : (c : FaultCode) (first last : ℕ) → is_duplicate_or_end_name_fault (record { code = c; first = first; last = last }) ≡ true → is_undeclared_fault (record { code = c; first = first; last = last }) ≡ false
apart code.Undeclared first last e = absurd (cc)
apart _ first last e = refl

left_out : (b : Bool) (f : FaultAtTokens) (fs gs : List FaultAtTokens) → b ≡ false → fs ≡ gs → (if b then f ∷ fs else fs) ≡ gs
left_out true f fs gs e h = absurd (cc)
left_out false f fs gs e h = h

declarations_left_out : (fs gs : List FaultAtTokens) → list_any (λ f. not (is_duplicate_or_end_name_fault f)) fs ≡ false → filter is_undeclared_fault (fs ++ gs) ≡ filter is_undeclared_fault gs
declarations_left_out [] gs e = refl
declarations_left_out (f ∷ fs) gs e =
    let h = or_parts (not (is_duplicate_or_end_name_fault f)) (list_any (λ f. not (is_duplicate_or_end_name_fault f)) fs) e in
    left_out (is_undeclared_fault f) f (filter is_undeclared_fault (fs ++ gs)) (filter is_undeclared_fault gs) (apart f.code f.first f.last (not_false (is_duplicate_or_end_name_fault f) h.0)) (declarations_left_out fs gs h.1)

no_more : (a b : Bool) → b ≡ false → (a || b) ≡ a
no_more true b e = refl
no_more false b e = e

pub undeclared_unbound : (m : ParsedModule) (ordinals : List (Option ℕ)) → IsNumberingTable m ordinals → undeclared_faults_from_table ordinals (occurrences (tree_of m)) ≡ undeclared_faults m
undeclared_unbound m ordinals numbering =
    unbound_all m.source ordinals (occurrences (tree_of m)) ∙ ap (undeclared_faults_from_labels (occurrences (tree_of m))) (sym (bindings_by_table m ordinals numbering))

-- The faults of a module are the faults of its declarations, then the undeclared names.
pub faults_reported : (m : ParsedModule) (ordinals : List (Option ℕ)) → IsNumberingTable m ordinals → AreNameFaultsOf m (declaration_faults m ++ undeclared_faults_from_table ordinals (occurrences (tree_of m)))
faults_reported m ordinals numbering =
    let once = declaration_faults m in
    let unbound = undeclared_faults_from_table ordinals (occurrences (tree_of m)) in
    let each : unbound ≡ undeclared_faults m = undeclared_unbound m ordinals numbering in
    record {
      by_kind = ap (λ fs. once ++ fs) each;
      declared_twice = list_any-append is_duplicate_or_end_name_fault once unbound
          ∙ (no_more (list_any is_duplicate_or_end_name_fault once) (list_any is_duplicate_or_end_name_fault unbound) (undeclared_declares ordinals (occurrences (tree_of m))) ∙ twice_where m);
      undeclared = declarations_left_out once unbound (twice_alone m) ∙ (all_occurrences ordinals (occurrences (tree_of m)) ∙ each);
    }

-- A module with its faults and a table that has all its marks is resolved.
pub resolution_marked : (m : ParsedModule) (ordinals : List (Option ℕ)) (declaration_tokens uses : List ℕ) (once faults : List FaultAtTokens) → TreeMatchesText m → HasMarks (ordinal_in ordinals) (visit_module (tree_of m) (initial_walk_state (original_spellings m.source))).marks → OnlyIdentifiersHaveOrdinals m ordinals
    → declaration_tokens ≡ declaring_names (identifiers role.DeclaringName (tree_of m)) → uses ≡ occurrences (tree_of m) → once ≡ declaration_faults m → faults ≡ once ++ undeclared_faults_from_table ordinals uses
    → IsResolution (record { module_read = m; ordinals = ordinals; declaration_tokens = declaration_tokens; uses = uses; faults = faults })
resolution_marked m ordinals declaration_tokens uses once faults parsed are_there alone declaring occurring twice all =
    let numbered_so = module_passed (ordinal_in ordinals) (label_from_ordinal naming_by_spelling) (original_spellings m.source) (tree_of m) (initial_walk_state (original_spellings m.source)) (at_start (original_spellings m.source)) in
    let paired = module_passed (ordinal_in ordinals) ordinal_and_spelling (original_spellings m.source) (tree_of m) (initial_walk_state (original_spellings m.source)) (at_start (original_spellings m.source)) in
    let numbering : IsNumberingTable m ordinals = (numbered_so.agree are_there).1 in
    record {
      parsed = parsed;
      numbering = numbering;
      binding = (paired.agree are_there).1;
      ordinals_only_at_names = alone;
      declaring = declaring;
      occurring = occurring;
      reported = subst (AreNameFaultsOf m) (sym (all ∙ (λ i. twice i ++ undeclared_faults_from_table ordinals (occurring i)))) (faults_reported m ordinals numbering);
    }

-- A visited module with its faults and the table of its marks is resolved.
pub resolution_made : (m : ParsedModule) (v : WalkState) (ordinals : List (Option ℕ)) (declaration_tokens uses : List ℕ) (once faults : List FaultAtTokens) → TreeMatchesText m → v ≡ visit_module (tree_of m) (initial_walk_state (original_spellings m.source))
    → ordinals ≡ table_with_marks (replicate (length m.source.tokens) None) v.marks → declaration_tokens ≡ v.declaration_tokens → uses ≡ v.uses → once ≡ declaration_faults m → faults ≡ once ++ undeclared_faults_from_table ordinals uses
    → IsResolution (record { module_read = m; ordinals = ordinals; declaration_tokens = declaration_tokens; uses = uses; faults = faults })
resolution_made m v ordinals declaration_tokens uses once faults parsed gone tabled declares occurs twice all =
    let w = original_spellings m.source in
    let passed = module_passed (ordinal_in ordinals) (label_from_ordinal naming_by_spelling) w (tree_of m) (initial_walk_state w) (at_start w) in
    let table : ordinals ≡ table_with_marks (replicate (length m.source.tokens) None) (visit_module (tree_of m) (initial_walk_state w)).marks = tabled ∙ ap (λ (v : WalkState). table_with_marks (replicate (length m.source.tokens) None) v.marks) gone in
    let marks = (visit_module (tree_of m) (initial_walk_state w)).marks in
    let nothing : List (Option ℕ) = replicate (length m.source.tokens) None in
    resolution_marked m ordinals declaration_tokens uses once faults parsed (marks_in_table m w v ordinals parsed gone tabled)
    (λ token e.
    ap (λ (os : List (Option ℕ)). ordinal_in os token) table
    ∙ (kept_elsewhere marks nothing token (ap (list_any (λ i. i == token)) passed.tokens ∙ e) ∙ none_at (length m.source.tokens) token))
    (declares ∙ (ap (λ (v : WalkState). v.declaration_tokens) gone ∙ passed.declared))
    (occurs ∙ (ap (λ (v : WalkState). v.uses) gone ∙ (passed.used ∙ looked_up-occurrences role.DeclaringName (λ n xs. refl) (tree_of m)))) twice all
