-- Proves that renaming a declaration to its own name leaves the module unchanged.
use Rattle.std.proofs.Common.{◌≡◌, ℕ, suc, ◌+◌, ◌≤◌, ◌<◌, ◌==◌, ◌&&◌, Bool, true, false, if◌then◌else◌, Some, List, [], ◌∷◌, ◌++◌, slice_get, refl, sym, ◌∙◌, subst, arith, eqb-true}
use Rattle.std.proofs.lemmas.Bool.{and_parts}
use Rattle.std.proofs.lemmas.Slice.Eq.{bytes_eq-Decides}
use Rattle.ob0_tree.specs.Tree.{Sort, Tree, block, constant, constants, declares, declares_constant, declares_const_section, declares_procedure, declares_type, declares_type_section, declares_variable, declares_var_section, end, formals, name_after_comma, section_after_semicolon, forms_block, forms_module, item, items, listed, maybe, module_text, more, names, none, one, procedure, section, some_formals, comma_then_name, semicolon_then_section, type_definition, type_definitions, value_section, variable, variable_section, variables}
use Rattle.ob0_language_names.specs.ConsistentNames.{are_distinct, names_declared_in_block, block_has_consistent_names, has_consistent_names, formals_have_distinct_fields, procedure_has_consistent_names, procedure_list_has_consistent_names, types_have_distinct_fields, variables_have_distinct_fields}
use Rattle.ob0_language_names.specs.MappedNames.{map_names}
use Rattle.ob0_language_names.specs.Names.{Name, naming_by_spelling, same_name}
use Rattle.ob0_language_names.specs.BlockParts.{constant_names, formal_parameter_names, formal_parameter_sections, names_after_first, module_block, declared_type_names, names_in_list, procedure_name, section_constants, parameter_section_names, section_types, section_variables, variable_names}
use Rattle.ob0_language_names.specs.Scopes.{Labelling, Scope, ordinal_after_names, ordinal_after_procedure, declare_names, declare_procedure_names, first_procedure_ordinal, first_type_ordinal, first_variable_ordinal, ordinal_in_scope, predeclared_scope, scope_before_procedures, relabel_block, relabel_constant_section, relabel_constants, relabel_formals, relabel_names_after_first, relabel_names, relabel_procedure, relabel_procedure_list, relabel_parameter_section, relabel_parameter_section_list, relabel_type_section, relabel_types, relabel_uses, relabel_variable_section, relabel_variables, renamed, scope_before_types, scope_before_variables, body_scope}
use Rattle.ob0_language_names.proofs.DistinctNames.{new_name}
use Rattle.ob0_language_names.proofs.SameNames.{map_names-id}
use Rattle.ob0_scope_table.proofs.Declared.{after_names_in_procedure, names_in, names_in_procedure, names_in_procedures}

module _ (d : ℕ) (new : Name) where
  -- holds if the name x has the ordinal d only if it is the new name
  abbrev pub IsSo : ℕ → Name → Type 0
  IsSo k x = (k == d) ≡ true → x ≡ new

  abbrev pub AreSo : ℕ → List Name → Type 0
  AreSo k [] = Unit {0}
  AreSo k (x ∷ xs) = IsSo k x × AreSo (suc k) xs

  abbrev pub InScope : Scope Name → Type 0
  InScope [] = Unit {0}
  InScope (b ∷ scope) = IsSo b.1 b.0 × InScope scope

  pub so-append : (k : ℕ) (xs ys : List Name) → AreSo k (xs ++ ys) → AreSo k xs × AreSo (ordinal_after_names k xs) ys
  so-append k [] ys h = (tt, h)
  so-append k (x ∷ xs) ys h = let later = so-append (suc k) xs ys h.1 in ((h.0, later.0), later.1)

  pub in_scope-names : (k : ℕ) (xs : List Name) (scope : Scope Name) → AreSo k xs → InScope scope → InScope (declare_names k xs scope)
  in_scope-names k [] scope h s = s
  in_scope-names k (x ∷ xs) scope h s = in_scope-names (suc k) xs ((x, k) ∷ scope) h.1 (h.0, s)

  abbrev ren : Labelling Name Name
  ren = new_name d new

  declared-kept : (k : ℕ) (x : Name) → IsSo k x → ren (Some k) x ≡ x
  declared-kept k x h = one (k == d) h
    where
      one : (b : Bool) → (b ≡ true → x ≡ new) → (if b then new else x) ≡ x
      one true h = sym (h refl)
      one false h = refl

  looked_up-kept : (scope : Scope Name) (x : Name) → InScope scope → ren (ordinal_in_scope naming_by_spelling scope x) x ≡ x
  looked_up-kept [] x s = refl
  looked_up-kept (b ∷ scope) x s = one (same_name x b.0) refl (looked_up-kept scope x s.1)
    where
      one : (same : Bool) → same_name x b.0 ≡ same → ren (ordinal_in_scope naming_by_spelling scope x) x ≡ x → ren (elim same [ true ↦ Some b.1 | false ↦ ordinal_in_scope naming_by_spelling scope x ]) x ≡ x
      one true e later = declared-kept b.1 x (λ h. (bytes_eq-Decides x b.0).0 e ∙ s.0 h)
      one false e later = later

  uses-kept : {s : Sort} (scope : Scope Name) (t : Tree Name s) → InScope scope → relabel_uses naming_by_spelling ren scope t ≡ t
  uses-kept scope t s = (λ i. map_names (λ x. looked_up-kept scope x s i) (λ x. x) t) ∙ map_names-id t

  further-kept : (k : ℕ) (xs : Tree Name (items name_after_comma)) → AreSo k (names_after_first xs) → relabel_names_after_first ren k xs ≡ xs
  further-kept k end h = refl
  further-kept k (more (comma_then_name x) rest) h = λ i. more (comma_then_name (declared-kept k x h.0 i)) (further-kept (suc k) rest h.1 i)

  listed-kept : (k : ℕ) (ns : Tree Name names) → AreSo k (names_in_list ns) → relabel_names ren k ns ≡ ns
  listed-kept k (listed x rest) h = λ i. listed (declared-kept k x h.0 i) (further-kept (suc k) rest h.1 i)

  constants-kept : (scope : Scope Name) (k : ℕ) (cs : Tree Name (items constant)) → InScope scope → AreSo k (constant_names cs) → relabel_constants naming_by_spelling ren scope k cs ≡ cs
  constants-kept scope k end s h = refl
  constants-kept scope k (more (declares_constant x e) cs) s h = λ i.
      more (declares_constant (declared-kept k x h.0 i) (uses-kept scope e s i)) (constants-kept ((x, k) ∷ scope) (suc k) cs (h.0, s) h.1 i)

  constant_section-kept : (scope : Scope Name) (k : ℕ) (cs : Tree Name (maybe constants)) → InScope scope → AreSo k (constant_names (section_constants cs)) → relabel_constant_section naming_by_spelling ren scope k cs ≡ cs
  constant_section-kept scope k none s h = refl
  constant_section-kept scope k (one (declares_const_section cs)) s h = λ i. one (declares_const_section (constants-kept scope k cs s h i))

  types-kept : (scope : Scope Name) (k : ℕ) (ts : Tree Name (items type_definition)) → InScope scope → AreSo k (declared_type_names ts) → relabel_types naming_by_spelling ren scope k ts ≡ ts
  types-kept scope k end s h = refl
  types-kept scope k (more (declares_type x t) ts) s h = λ i.
      more (declares_type (declared-kept k x h.0 i) (uses-kept scope t s i)) (types-kept ((x, k) ∷ scope) (suc k) ts (h.0, s) h.1 i)

  type_section-kept : (scope : Scope Name) (k : ℕ) (ts : Tree Name (maybe type_definitions)) → InScope scope → AreSo k (declared_type_names (section_types ts)) → relabel_type_section naming_by_spelling ren scope k ts ≡ ts
  type_section-kept scope k none s h = refl
  type_section-kept scope k (one (declares_type_section ts)) s h = λ i. one (declares_type_section (types-kept scope k ts s h i))

  variables-kept : (scope : Scope Name) (k : ℕ) (vs : Tree Name (items variable)) → InScope scope → AreSo k (variable_names vs) → relabel_variables naming_by_spelling ren scope k vs ≡ vs
  variables-kept scope k end s h = refl
  variables-kept scope k (more (declares_variable ns t) vs) s h =
      let parts = so-append k (names_in_list ns) (variable_names vs) h in
      λ i. more (declares_variable (listed-kept k ns parts.0 i) (uses-kept scope t s i))
      (variables-kept (declare_names k (names_in_list ns) scope) (ordinal_after_names k (names_in_list ns)) vs (in_scope-names k (names_in_list ns) scope parts.0 s) parts.1 i)

  variable_section-kept : (scope : Scope Name) (k : ℕ) (vs : Tree Name (maybe variables)) → InScope scope → AreSo k (variable_names (section_variables vs)) → relabel_variable_section naming_by_spelling ren scope k vs ≡ vs
  variable_section-kept scope k none s h = refl
  variable_section-kept scope k (one (declares_var_section vs)) s h = λ i. one (declares_var_section (variables-kept scope k vs s h i))

  section-kept : (scope : Scope Name) (k : ℕ) (f : Tree Name section) → InScope scope → AreSo k (parameter_section_names f) → relabel_parameter_section naming_by_spelling ren scope k f ≡ f
  section-kept scope k (value_section ns t) s h = λ i. value_section (listed-kept k ns h i) (uses-kept scope t s i)
  section-kept scope k (variable_section ns t) s h = λ i. variable_section (listed-kept k ns h i) (uses-kept scope t s i)

  sections-kept : (scope : Scope Name) (k : ℕ) (fs : Tree Name (items section_after_semicolon)) → InScope scope → AreSo k (formal_parameter_names fs) → relabel_parameter_section_list naming_by_spelling ren scope k fs ≡ fs
  sections-kept scope k end s h = refl
  sections-kept scope k (more (semicolon_then_section f) fs) s h =
      let parts = so-append k (parameter_section_names f) (formal_parameter_names fs) h in
      λ i. more (semicolon_then_section (section-kept scope k f s parts.0 i))
      (sections-kept (declare_names k (parameter_section_names f) scope) (ordinal_after_names k (parameter_section_names f)) fs (in_scope-names k (parameter_section_names f) scope parts.0 s) parts.1 i)

  formals-kept : (scope : Scope Name) (k : ℕ) (fs : Tree Name (maybe formals)) → InScope scope → AreSo k (formal_parameter_names (formal_parameter_sections fs)) → relabel_formals naming_by_spelling ren scope k fs ≡ fs
  formals-kept scope k (one (some_formals f fs)) s h =
      let parts = so-append k (parameter_section_names f) (formal_parameter_names fs) h in
      λ i. one (some_formals (section-kept scope k f s parts.0 i)
      (sections-kept (declare_names k (parameter_section_names f) scope) (ordinal_after_names k (parameter_section_names f)) fs (in_scope-names k (parameter_section_names f) scope parts.0 s) parts.1 i))
  formals-kept scope k _ s h = refl

  mutual
    block-kept : (scope : Scope Name) (k : ℕ) (own : List Name) (b : Tree Name block) → InScope scope → AreSo k (names_in b) → block_has_consistent_names own b ≡ true → relabel_block naming_by_spelling ren scope k b ≡ b
    block-kept scope k own (forms_block (declares cs ts vs ps) statements) s h once =
        let b : Tree Name block = forms_block (declares cs ts vs ps) statements in
        let xs = constant_names (section_constants cs) in
        let ys = declared_type_names (section_types ts) in
        let zs = variable_names (section_variables vs) in
        let parts = so-append k xs (ys ++ (zs ++ names_in_procedures ps)) h in
        let parts₁ = so-append (first_type_ordinal k b) ys (zs ++ names_in_procedures ps) parts.1 in
        let parts₂ = so-append (first_variable_ordinal k b) zs (names_in_procedures ps) parts₁.1 in
        let s₁ = in_scope-names k xs scope parts.0 s in
        let s₂ = in_scope-names (first_type_ordinal k b) ys (scope_before_types k b scope) parts₁.0 s₁ in
        let s₃ = in_scope-names (first_variable_ordinal k b) zs (scope_before_variables k b scope) parts₂.0 s₂ in
        let onces = and_parts (are_distinct (own ++ names_declared_in_block b)) (types_have_distinct_fields (section_types ts) && (variables_have_distinct_fields (section_variables vs) && procedure_list_has_consistent_names ps)) once in
        let onces₁ = and_parts (types_have_distinct_fields (section_types ts)) (variables_have_distinct_fields (section_variables vs) && procedure_list_has_consistent_names ps) onces.1 in
        let onces₂ = and_parts (variables_have_distinct_fields (section_variables vs)) (procedure_list_has_consistent_names ps) onces₁.1 in
        let later = procedures-kept (scope_before_procedures k b scope) (first_procedure_ordinal k b) ps s₃ parts₂.1 onces₂.1 in
        λ i. forms_block
        (declares (constant_section-kept scope k cs s parts.0 i) (type_section-kept (scope_before_types k b scope) (first_type_ordinal k b) ts s₁ parts₁.0 i)
        (variable_section-kept (scope_before_variables k b scope) (first_variable_ordinal k b) vs s₂ parts₂.0 i) (later.0 i))
        (uses-kept (body_scope k b scope) statements later.1 i)

    procedures-kept : (scope : Scope Name) (k : ℕ) (ps : Tree Name (items procedure)) → InScope scope → AreSo k (names_in_procedures ps) → procedure_list_has_consistent_names ps ≡ true
        → (relabel_procedure_list naming_by_spelling ren scope k ps ≡ ps) × InScope (declare_procedure_names k ps scope)
    procedures-kept scope k end s h once = (refl, s)
    procedures-kept scope k (more p rest) s h once =
        let parts = so-append k (names_in_procedure p) (names_in_procedures rest) h in
        let onces = and_parts (procedure_has_consistent_names p) (procedure_list_has_consistent_names rest) once in
        let here = procedure-kept scope k p s parts.0 onces.0 in
        let later = procedures-kept ((procedure_name p, k) ∷ scope) (ordinal_after_procedure (suc k) p) rest (here.1, s)
        (subst (λ n. AreSo n (names_in_procedures rest)) (sym (after_names_in_procedure k p)) parts.1) onces.1 in
        ((λ i. more (here.0 i) (later.0 i)), later.1)

    procedure-kept : (scope : Scope Name) (k : ℕ) (p : Tree Name (item procedure)) → InScope scope → AreSo k (names_in_procedure p) → procedure_has_consistent_names p ≡ true
        → (relabel_procedure naming_by_spelling ren scope k p ≡ p) × IsSo k (procedure_name p)
    procedure-kept scope k (declares_procedure x fs b closing) s h once =
        let own = formal_parameter_names (formal_parameter_sections fs) in
        let parts = so-append (suc k) own (names_in b) h.1 in
        let onces = and_parts (same_name x closing) (formals_have_distinct_fields (formal_parameter_sections fs) && block_has_consistent_names own b) once in
        let onces₁ = and_parts (formals_have_distinct_fields (formal_parameter_sections fs)) (block_has_consistent_names own b) onces.1 in
        let closed : x ≡ closing = (bytes_eq-Decides x closing).0 onces.0 in
        let s₁ = in_scope-names (suc k) own ((x, k) ∷ scope) parts.0 (h.0, s) in
        let inside = block-kept (declare_names (suc k) own ((x, k) ∷ scope)) (ordinal_after_names (suc k) own) own b s₁ parts.1 onces₁.1 in
        ((λ i. declares_procedure (declared-kept k x h.0 i) (formals-kept scope (suc k) fs s parts.0 i) (inside i) (declared-kept k closing (λ e. sym closed ∙ h.0 e) i)), h.0)

  predeclared-so : 7 ≤ d → InScope (predeclared_scope naming_by_spelling)
  predeclared-so high = (none 6 _ (omega (arith, high)), (none 5 _ (omega (arith, high)), (none 4 _ (omega (arith, high)), (none 3 _ (omega (arith, high)), (none 2 _ (omega (arith, high)), (none 1 _ (omega (arith, high)), (none 0 _ (omega (arith, high)), tt)))))))
    where
      none : (k : ℕ) (x : Name) → k < d → IsSo k x
      none k x low e = absurd (omega (arith, low, eqb-true k d e))

  pub same_module : (t : Tree Name module_text) → 7 ≤ d → AreSo 7 (names_in (module_block t)) → has_consistent_names t ≡ true → renamed t d new ≡ t
  same_module (forms_module x b closing) high h once =
      let onces = and_parts (same_name x closing) (block_has_consistent_names [] b) once in
      let inside = block-kept (predeclared_scope naming_by_spelling) 7 [] b (predeclared-so high) h onces.1 in
      λ i. forms_module x (inside i) closing

-- The property holds of all names if it holds of the name with the ordinal d.
pub so_where : (d : ℕ) (new : Name) (k : ℕ) (xs : List Name) → ((j : ℕ) (x : Name) → slice_get xs j ≡ Some x → k + j ≡ d → x ≡ new) → AreSo d new k xs
so_where d new k [] h = tt
so_where d new k (x ∷ xs) h = ((λ e. h 0 x refl (omega (arith, eqb-true k d e))), so_where d new (suc k) xs (λ j y e count. h (suc j) y e (omega (arith, count))))
