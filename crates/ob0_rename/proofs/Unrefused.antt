-- Proves that a declaration's own name is free, and that each declaration of a block is a
-- declaration of the module. No other declaration of the block has the name, because names are
-- declared once (`own_name_free`).
use Rattle.std.proofs.Common.{◌≡◌, ℕ, suc, ◌≤◌, ◌<◌, ◌==◌, ◌&&◌, ◌||◌, not, Bool, true, false, if◌then◌else◌, Option, Some, None, List, [], ◌∷◌, ◌++◌, refl, sym, ap, ◌∙◌, arith, append-nil, le_trans, le_refl, subst}
use Rattle.std.specs.List.{list_any}
use Rattle.std.specs.Option.{option_or}
use Rattle.std.proofs.lemmas.Bool.{and_parts, or_parts}
use Rattle.std.proofs.lemmas.List.Folds.{list_any-append}
use Rattle.std.proofs.lemmas.Slice.Eq.{bytes_eq-Decides}
use Rattle.ob0_tree.specs.Tree.{Tree, block, declares, declares_procedure, end, forms_block, forms_module, item, items, module_text, more, procedure}
use Rattle.ob0_language_names.specs.ConsistentNames.{are_distinct, names_declared_in_block, block_has_consistent_names, has_consistent_names, formals_have_distinct_fields, is_among, procedure_has_consistent_names, procedure_list_has_consistent_names, types_have_distinct_fields, variables_have_distinct_fields}
use Rattle.ob0_language_names.specs.Names.{Name, same_name}
use Rattle.ob0_language_names.specs.Occurrences.{IsFreeName, labels_of_occurrences, scopes_in_block, scopes_in_procedure, scopes_in_procedure_list, declares_ordinal, another_declaration_has_name}
use Rattle.ob0_language_names.specs.BlockParts.{constant_names, formal_parameter_names, formal_parameter_sections, module_block, declared_type_names, procedure_name, section_constants, section_types, section_variables, variable_names}
use Rattle.ob0_scope.specs.Renames.{namesake_ordinal, namesake_in_scopes, other_declaration_with_name}
use Rattle.ob0_language_names.specs.Scopes.{Scope, ordinal_after_block, ordinal_after_names, ordinal_after_procedure, ordinal_after_procedure_list, body_scope, declare_names, declare_procedure_names, first_procedure_ordinal, first_type_ordinal, first_variable_ordinal, scope_before_procedures, scope_before_types, scope_before_variables}
use Rattle.ob0_language_names.proofs.DistinctNames.{distinct-onto, labels_in, onto, onto-append, own_name}
use Rattle.ob0_language_names.proofs.Ordinals.{le-ordinal_after_block, le-ordinal_after_names, le-ordinal_after_procedure, le-ordinal_after_procedure_list}
use Rattle.ob0_language_names.proofs.RenamedDeclarations.{Clashes, labels_of_declared_names-own, labels_in-names, own_names-block}
use Rattle.ob0_language_names.proofs.NameEquality.{same_name-comm}
use Rattle.ob0_scope_table.proofs.Declared.{after_names_in_procedure, names_in, names_in_procedure, names_in_procedures}
use Rattle.ob0_rename.proofs.Kept.{AreSo, InScope, in_scope-names, same_module, so-append}

-- ---- no other declaration of its block has a declaration's own name

module _ (d : ℕ) (new : Name) where
  among_declared : (s : Scope Name) → InScope d new s → declares_ordinal s d ≡ true → is_among new (labels_in own_name s) ≡ true
  among_declared [] so e = absurd (cc)
  among_declared (b ∷ s) so e = one (b.1 == d) refl e (among_declared s so.1)
    where
      either : (c : Bool) → is_among new (labels_in own_name s) ≡ true → (c || is_among new (labels_in own_name s)) ≡ true
      either true later = refl
      either false later = later

      one : (c : Bool) → (b.1 == d) ≡ c → (c || declares_ordinal s d) ≡ true → (declares_ordinal s d ≡ true → is_among new (labels_in own_name s) ≡ true) → (same_name new b.0 || is_among new (labels_in own_name s)) ≡ true
      one true h e later = ap (λ v. v || is_among new (labels_in own_name s)) ((bytes_eq-Decides new b.0).1 (sym (so.0 h)))
      one false h e later = either (same_name new b.0) (later e)

  none_another : (s : Scope Name) → is_among new (labels_in own_name s) ≡ false → another_declaration_has_name s d new ≡ false
  none_another [] e = refl
  none_another (b ∷ s) e =
      let parts = or_parts (same_name new b.0) (is_among new (labels_in own_name s)) e in
      (λ i. ((same_name-comm b.0 new ∙ parts.0) i && not (b.1 == d)) || none_another s parts.1 i)

  no_clash : (s : Scope Name) → InScope d new s → are_distinct (labels_in own_name s) ≡ true → Clashes d new s ≡ false
  no_clash [] so once = refl
  no_clash (b ∷ s) so once =
      let onces = and_parts (not (is_among b.0 (labels_in own_name s))) (are_distinct (labels_in own_name s)) once in
      one (b.1 == d) refl (declares_ordinal s d) refl onces.0 (no_clash s so.1 onces.1)
    where
      off : (v : Bool) → not v ≡ true → v ≡ false
      off true e = absurd (cc)
      off false e = refl

      one : (c : Bool) → (b.1 == d) ≡ c → (q : Bool) → declares_ordinal s d ≡ q → not (is_among b.0 (labels_in own_name s)) ≡ true → (declares_ordinal s d && another_declaration_has_name s d new) ≡ false
          → ((c || declares_ordinal s d) && ((same_name b.0 new && not c) || another_declaration_has_name s d new)) ≡ false
      one true h q g away later =
          let alone : is_among new (labels_in own_name s) ≡ false = ap (λ x. is_among x (labels_in own_name s)) (sym (so.0 h)) ∙ off (is_among b.0 (labels_in own_name s)) away in
          first (same_name b.0 new) ∙ none_another s alone
        where
          first : (v : Bool) → ((v && false) || another_declaration_has_name s d new) ≡ another_declaration_has_name s d new
          first true = refl
          first false = refl
      one false h true g away later = test (same_name b.0 new) refl
        where
          test : (v : Bool) → same_name b.0 new ≡ v → (declares_ordinal s d && ((v && true) || another_declaration_has_name s d new)) ≡ false
          test true e =
              let there : is_among b.0 (labels_in own_name s) ≡ true = ap (λ x. is_among x (labels_in own_name s)) ((bytes_eq-Decides b.0 new).0 e) ∙ among_declared s so.1 g in
              absurd (let clash : true ≡ false = sym there ∙ off (is_among b.0 (labels_in own_name s)) away in cc)
          test false e = later
      one false h false g away later = (λ i. g i && ((same_name b.0 new && true) || another_declaration_has_name s d new))

  pub in_scope-procedures : (k : ℕ) (ps : Tree Name (items procedure)) (s : Scope Name) → AreSo d new k (names_in_procedures ps) → InScope d new s → InScope d new (declare_procedure_names k ps s)
  in_scope-procedures k end s h so = so
  in_scope-procedures k (more (declares_procedure x fs b closing) rest) s h so =
      let p : Tree Name (item procedure) = declares_procedure x fs b closing in
      let parts = so-append d new k (names_in_procedure p) (names_in_procedures rest) h in
      in_scope-procedures (ordinal_after_procedure (suc k) p) rest ((x, k) ∷ s) (subst (λ n. AreSo d new n (names_in_procedures rest)) (sym (after_names_in_procedure k p)) parts.1) (parts.0.0, so)

  mutual
    block_clear : (j : ℕ) (own : List Name) (b : Tree Name block) → InScope d new (declare_names j own []) → AreSo d new (ordinal_after_names j own) (names_in b) → block_has_consistent_names own b ≡ true
        → list_any (Clashes d new) (scopes_in_block (ordinal_after_names j own) (declare_names j own []) b) ≡ false
    block_clear j own (forms_block (declares cs ts vs ps) statements) s h once =
        let b : Tree Name block = forms_block (declares cs ts vs ps) statements in
        let k : ℕ = ordinal_after_names j own in
        let mine : Scope Name = body_scope k b (declare_names j own []) in
        let xs = constant_names (section_constants cs) in
        let ys = declared_type_names (section_types ts) in
        let zs = variable_names (section_variables vs) in
        let parts = so-append d new k xs (ys ++ (zs ++ names_in_procedures ps)) h in
        let parts₁ = so-append d new (first_type_ordinal k b) ys (zs ++ names_in_procedures ps) parts.1 in
        let parts₂ = so-append d new (first_variable_ordinal k b) zs (names_in_procedures ps) parts₁.1 in
        let s₁ = in_scope-names d new k xs (declare_names j own []) parts.0 s in
        let s₂ = in_scope-names d new (first_type_ordinal k b) ys (scope_before_types k b (declare_names j own [])) parts₁.0 s₁ in
        let s₃ = in_scope-names d new (first_variable_ordinal k b) zs (scope_before_variables k b (declare_names j own [])) parts₂.0 s₂ in
        let s₄ = in_scope-procedures (first_procedure_ordinal k b) ps (scope_before_procedures k b (declare_names j own [])) parts₂.1 s₃ in
        let onces = and_parts (are_distinct (own ++ names_declared_in_block b)) (types_have_distinct_fields (section_types ts) && (variables_have_distinct_fields (section_variables vs) && procedure_list_has_consistent_names ps)) once in
        let onces₁ = and_parts (types_have_distinct_fields (section_types ts)) (variables_have_distinct_fields (section_variables vs) && procedure_list_has_consistent_names ps) onces.1 in
        let onces₂ = and_parts (variables_have_distinct_fields (section_variables vs)) (procedure_list_has_consistent_names ps) onces₁.1 in
        let in_scope : are_distinct (labels_in own_name mine) ≡ true =
        ap are_distinct (own_names-block k b (declare_names j own [])
        ∙ ap (onto (names_declared_in_block b)) (labels_in-names own_name j own [] ∙ ap (λ xs. onto xs []) (labels_of_declared_names-own j own)))
        ∙ (ap are_distinct (sym (onto-append own (names_declared_in_block b) [])) ∙ (distinct-onto (own ++ names_declared_in_block b) [] ∙ (ap are_distinct (append-nil (own ++ names_declared_in_block b)) ∙ onces.0))) in
        λ i. no_clash mine s₄ in_scope i || procedures_clear (first_procedure_ordinal k b) ps parts₂.1 onces₂.1 i

    procedures_clear : (k : ℕ) (ps : Tree Name (items procedure)) → AreSo d new k (names_in_procedures ps) → procedure_list_has_consistent_names ps ≡ true → list_any (Clashes d new) (scopes_in_procedure_list k ps) ≡ false
    procedures_clear k end h once = refl
    procedures_clear k (more p rest) h once =
        let parts = so-append d new k (names_in_procedure p) (names_in_procedures rest) h in
        let onces = and_parts (procedure_has_consistent_names p) (procedure_list_has_consistent_names rest) once in
        list_any-append (Clashes d new) (scopes_in_procedure (suc k) p) (scopes_in_procedure_list (ordinal_after_procedure (suc k) p) rest)
        ∙ (λ i. procedure_clear k p parts.0 onces.0 i
        || procedures_clear (ordinal_after_procedure (suc k) p) rest (subst (λ n. AreSo d new n (names_in_procedures rest)) (sym (after_names_in_procedure k p)) parts.1) onces.1 i)

    procedure_clear : (k : ℕ) (p : Tree Name (item procedure)) → AreSo d new k (names_in_procedure p) → procedure_has_consistent_names p ≡ true → list_any (Clashes d new) (scopes_in_procedure (suc k) p) ≡ false
    procedure_clear k (declares_procedure x fs b closing) h once =
        let own = formal_parameter_names (formal_parameter_sections fs) in
        let parts = so-append d new (suc k) own (names_in b) h.1 in
        let onces = and_parts (same_name x closing) (formals_have_distinct_fields (formal_parameter_sections fs) && block_has_consistent_names own b) once in
        let onces₁ = and_parts (formals_have_distinct_fields (formal_parameter_sections fs)) (block_has_consistent_names own b) onces.1 in
        block_clear (suc k) own b (in_scope-names d new (suc k) own [] parts.0 tt) parts.1 onces₁.1

  pub own_name_free : (t : Tree Name module_text) → 7 ≤ d → AreSo d new 7 (names_in (module_block t)) → has_consistent_names t ≡ true → IsFreeName t d new
  own_name_free (forms_module x b closing) high h once =
      let onces = and_parts (same_name x closing) (block_has_consistent_names [] b) once in
      (block_clear 7 [] b tt h onces.1, ap labels_of_occurrences (same_module d new (forms_module x b closing) high h once))

-- ---- declarations in blocks have ordinals of the module

abbrev Within : ℕ → ℕ → Scope Name → Type 0
Within low high [] = Unit {0}
Within low high (b ∷ s) = (low ≤ b.1) × (b.1 < high) × Within low high s

abbrev AllWithin : ℕ → ℕ → List (Scope Name) → Type 0
AllWithin low high [] = Unit {0}
AllWithin low high (s ∷ ss) = Within low high s × AllWithin low high ss

abbrev pub OneWithin : ℕ → ℕ → Option ℕ → Type 0
OneWithin low high None = Unit {0}
OneWithin low high (Some k) = (low ≤ k) × (k < high)

within_more : (low high : ℕ) (ss ts : List (Scope Name)) → AllWithin low high ss → AllWithin low high ts → AllWithin low high (ss ++ ts)
within_more low high [] ts h g = g
within_more low high (s ∷ ss) ts h g = (h.0, within_more low high ss ts h.1 g)

within-names : (low high k : ℕ) (xs : List Name) (s : Scope Name) → low ≤ k → ordinal_after_names k xs ≤ high → Within low high s → Within low high (declare_names k xs s)
within-names low high k [] s l h w = w
within-names low high k (x ∷ xs) s l h w =
    within-names low high (suc k) xs ((x, k) ∷ s) (omega (arith, l)) h (l, omega (arith, h, le-ordinal_after_names (suc k) xs), w)

within-procedures : (low high k : ℕ) (ps : Tree Name (items procedure)) (s : Scope Name) → low ≤ k → ordinal_after_procedure_list k ps ≤ high → Within low high s → Within low high (declare_procedure_names k ps s)
within-procedures low high k end s l h w = w
within-procedures low high k (more p rest) s l h w =
    let n = le-ordinal_after_procedure (suc k) p in
    let m = le-ordinal_after_procedure_list (ordinal_after_procedure (suc k) p) rest in
    within-procedures low high (ordinal_after_procedure (suc k) p) rest ((procedure_name p, k) ∷ s) (omega (arith, l, n)) h (l, omega (arith, h, n, m), w)

mutual
  block_within : (low high k : ℕ) (own : Scope Name) (b : Tree Name block) → low ≤ k → ordinal_after_block k b ≤ high → Within low high own → AllWithin low high (scopes_in_block k own b)
  block_within low high k own (forms_block (declares cs ts vs ps) statements) l h w =
      let b : Tree Name block = forms_block (declares cs ts vs ps) statements in
      let xs = constant_names (section_constants cs) in
      let ys = declared_type_names (section_types ts) in
      let zs = variable_names (section_variables vs) in
      let a = le-ordinal_after_names k xs in
      let a₁ = le-ordinal_after_names (first_type_ordinal k b) ys in
      let a₂ = le-ordinal_after_names (first_variable_ordinal k b) zs in
      let a₃ = le-ordinal_after_procedure_list (first_procedure_ordinal k b) ps in
      let w₁ = within-names low high k xs own l (le_trans a₁ (le_trans a₂ (le_trans a₃ h))) w in
      let w₂ = within-names low high (first_type_ordinal k b) ys (scope_before_types k b own) (le_trans l a) (le_trans a₂ (le_trans a₃ h)) w₁ in
      let w₃ = within-names low high (first_variable_ordinal k b) zs (scope_before_variables k b own) (le_trans l (le_trans a a₁)) (le_trans a₃ h) w₂ in
      let l₃ = le_trans l (le_trans a (le_trans a₁ a₂)) in
      (within-procedures low high (first_procedure_ordinal k b) ps (scope_before_procedures k b own) l₃ h w₃, procedures_within low high (first_procedure_ordinal k b) ps l₃ h)

  procedures_within : (low high k : ℕ) (ps : Tree Name (items procedure)) → low ≤ k → ordinal_after_procedure_list k ps ≤ high → AllWithin low high (scopes_in_procedure_list k ps)
  procedures_within low high k end l h = tt
  procedures_within low high k (more p rest) l h =
      let n = le-ordinal_after_procedure (suc k) p in
      let m = le-ordinal_after_procedure_list (ordinal_after_procedure (suc k) p) rest in
      within_more low high (scopes_in_procedure (suc k) p) (scopes_in_procedure_list (ordinal_after_procedure (suc k) p) rest)
      (procedure_within low high (suc k) p (omega (arith, l)) (le_trans m h))
      (procedures_within low high (ordinal_after_procedure (suc k) p) rest (omega (arith, l, n)) h)

  procedure_within : (low high k : ℕ) (p : Tree Name (item procedure)) → low ≤ k → ordinal_after_procedure k p ≤ high → AllWithin low high (scopes_in_procedure k p)
  procedure_within low high k (declares_procedure x fs b closing) l h =
      let own = formal_parameter_names (formal_parameter_sections fs) in
      block_within low high (ordinal_after_names k own) (declare_names k own []) b (le_trans l (le-ordinal_after_names k own)) h
      (within-names low high k own [] l (le_trans (le-ordinal_after_block (ordinal_after_names k own) b) h) tt)

other_within : (low high d : ℕ) (new : Name) (s : Scope Name) → Within low high s → OneWithin low high (other_declaration_with_name s d new)
other_within low high d new [] w = tt
other_within low high d new (b ∷ s) w = one (same_name b.0 new && not (b.1 == d)) (other_within low high d new s w.2)
  where
    one : (c : Bool) → OneWithin low high (other_declaration_with_name s d new) → OneWithin low high (if c then Some b.1 else other_declaration_with_name s d new)
    one true later = (w.0, w.1)
    one false later = later

named_within : (low high d : ℕ) (new : Name) (ss : List (Scope Name)) → AllWithin low high ss → OneWithin low high (namesake_in_scopes ss d new)
named_within low high d new [] w = tt
named_within low high d new (s ∷ ss) w = one (declares_ordinal s d) (other_declaration_with_name s d new) (other_within low high d new s w.0) (named_within low high d new ss w.1)
  where
    one : (c : Bool) (found : Option ℕ) → OneWithin low high found → OneWithin low high (namesake_in_scopes ss d new) → OneWithin low high (option_or (if c then found else None) (namesake_in_scopes ss d new))
    one true (Some k) here later = here
    one true None here later = later
    one false found here later = later

pub namesake_within : (t : Tree Name module_text) (d : ℕ) (new : Name) → OneWithin 7 (ordinal_after_block 7 (module_block t)) (namesake_ordinal t d new)
namesake_within (forms_module x b closing) d new =
    named_within 7 (ordinal_after_block 7 b) d new (scopes_in_block 7 [] b) (block_within 7 (ordinal_after_block 7 b) 7 [] b (le_refl 7) (le_refl (ordinal_after_block 7 b)) tt)
