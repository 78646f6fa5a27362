-- Proves that names are bound to earlier declarations: each ordinal to which a name of a part is
-- bound is below the first ordinal after the part.
use Rattle.std.proofs.Common.{ℕ, suc, ◌<◌, ◌≤◌, true, false, Option, Some, None, List, [], ◌∷◌, ◌++◌, map, sym, subst, arith}
use Rattle.ob0_tree.specs.Tree.{Sort, Tree, block, constant, constants, declares, declares_constant, declares_const_section, declares_procedure, declares_type, declares_type_section, declares_variable, declares_var_section, end, formals, section_after_semicolon, forms_block, item, items, maybe, more, none, occurrences, one, procedure, section, some_formals, semicolon_then_section, type_definition, type_definitions, value_section, variable, variable_section, variables}
use Rattle.ob0_language_names.specs.Names.{Name, naming_by_spelling, same_name}
use Rattle.ob0_language_names.specs.BlockParts.{constant_names, formal_parameter_names, formal_parameter_sections, declared_type_names, names_in_list, procedure_name, section_constants, parameter_section_names, section_types, section_variables, variable_names}
use Rattle.ob0_language_names.specs.Scopes.{Labelling, Scope, ordinal_after_block, ordinal_after_names, ordinal_after_procedure, ordinal_after_procedure_list, body_scope, declare_names, declare_procedure_names, first_procedure_ordinal, first_type_ordinal, first_variable_ordinal, label_in_scope, ordinal_in_scope, scope_before_procedures, relabel_block, relabel_constant_section, relabel_constants, relabel_formals, relabel_procedure, relabel_procedure_list, relabel_parameter_section, relabel_parameter_section_list, relabel_type_section, relabel_types, relabel_uses, relabel_variable_section, relabel_variables, scope_before_types, scope_before_variables}
use Rattle.ob0_language_names.proofs.OccurrencesMapped.{occurrences-mapped}
use Rattle.ob0_language_names.proofs.Ordinals.{ordinal_after_names-append, le-ordinal_after_block, le-ordinal_after_names, le-ordinal_after_procedure, le-ordinal_after_procedure_list}

-- labels that have only ordinals, and no names
abbrev pub forget : {N : Type 0} → Labelling N (Option ℕ)
forget ordinal x = ordinal

abbrev pub IsLow : ℕ → Option ℕ → Type 0
IsLow n None = Unit {0}
IsLow n (Some j) = j < n

abbrev pub AllLow : ℕ → List (Option ℕ) → Type 0
AllLow n [] = Unit {0}
AllLow n (o ∷ ls) = IsLow n o × AllLow n ls

abbrev pub ScopeLow : ℕ → Scope Name → Type 0
ScopeLow n [] = Unit {0}
ScopeLow n (b ∷ scope) = (b.1 < n) × ScopeLow n scope

one_raised : (n m : ℕ) (o : Option ℕ) → n ≤ m → IsLow n o → IsLow m o
one_raised n m None le h = tt
one_raised n m (Some j) le h = omega (arith, le, h)

pub raised : (n m : ℕ) (ls : List (Option ℕ)) → n ≤ m → AllLow n ls → AllLow m ls
raised n m [] le h = tt
raised n m (o ∷ ls) le h = (one_raised n m o le h.0, raised n m ls le h.1)

pub scope_raised : (n m : ℕ) (scope : Scope Name) → n ≤ m → ScopeLow n scope → ScopeLow m scope
scope_raised n m [] le h = tt
scope_raised n m (b ∷ scope) le h = (omega (arith, le, h.0), scope_raised n m scope le h.1)

pub low_append : (n : ℕ) (xs ys : List (Option ℕ)) → AllLow n xs → AllLow n ys → AllLow n (xs ++ ys)
low_append n [] ys h g = g
low_append n (x ∷ xs) ys h g = (h.0, low_append n xs ys h.1 g)

ordinal_low : (n : ℕ) (scope : Scope Name) (x : Name) → ScopeLow n scope → IsLow n (ordinal_in_scope naming_by_spelling scope x)
ordinal_low n [] x h = tt
ordinal_low n (b ∷ scope) x h =
    elim (same_name x b.0) as (λ v. IsLow n (elim v [ true ↦ Some b.1 | false ↦ ordinal_in_scope naming_by_spelling scope x ])) [ true ↦ h.0 | false ↦ ordinal_low n scope x h.1 ]

names_low : (n : ℕ) (scope : Scope Name) (xs : List Name) → ScopeLow n scope → AllLow n (map (label_in_scope naming_by_spelling forget scope) xs)
names_low n scope [] h = tt
names_low n scope (x ∷ xs) h = (ordinal_low n scope x h, names_low n scope xs h)

pub uses_low : {s : Sort} (n : ℕ) (scope : Scope Name) (t : Tree Name s) → ScopeLow n scope → AllLow n (occurrences (relabel_uses naming_by_spelling forget scope t))
uses_low n scope t h = subst (AllLow n) (sym (occurrences-mapped (label_in_scope naming_by_spelling forget scope) (forget None) (λ n. n) t)) (names_low n scope (occurrences t) h)

pub declared_low : (k : ℕ) (xs : List Name) (scope : Scope Name) → ScopeLow k scope → ScopeLow (ordinal_after_names k xs) (declare_names k xs scope)
declared_low k [] scope h = h
declared_low k (x ∷ xs) scope h = declared_low (suc k) xs ((x, k) ∷ scope) (omega arith, scope_raised k (suc k) scope (omega arith) h)

pub constants_low : (scope : Scope Name) (k : ℕ) (cs : Tree Name (items constant)) → ScopeLow k scope → AllLow (ordinal_after_names k (constant_names cs)) (occurrences (relabel_constants naming_by_spelling forget scope k cs))
constants_low scope k end h = tt
constants_low scope k (more (declares_constant x e) cs) h =
    let up = le-ordinal_after_names (suc k) (constant_names cs) in
    low_append (ordinal_after_names (suc k) (constant_names cs)) (occurrences (relabel_uses naming_by_spelling forget scope e)) (occurrences (relabel_constants naming_by_spelling forget ((x, k) ∷ scope) (suc k) cs))
    (raised k (ordinal_after_names (suc k) (constant_names cs)) (occurrences (relabel_uses naming_by_spelling forget scope e)) (omega (arith, up)) (uses_low k scope e h))
    (constants_low ((x, k) ∷ scope) (suc k) cs (omega arith, scope_raised k (suc k) scope (omega arith) h))

pub types_low : (scope : Scope Name) (k : ℕ) (ts : Tree Name (items type_definition)) → ScopeLow k scope → AllLow (ordinal_after_names k (declared_type_names ts)) (occurrences (relabel_types naming_by_spelling forget scope k ts))
types_low scope k end h = tt
types_low scope k (more (declares_type x t) ts) h =
    let up = le-ordinal_after_names (suc k) (declared_type_names ts) in
    low_append (ordinal_after_names (suc k) (declared_type_names ts)) (occurrences (relabel_uses naming_by_spelling forget scope t)) (occurrences (relabel_types naming_by_spelling forget ((x, k) ∷ scope) (suc k) ts))
    (raised k (ordinal_after_names (suc k) (declared_type_names ts)) (occurrences (relabel_uses naming_by_spelling forget scope t)) (omega (arith, up)) (uses_low k scope t h))
    (types_low ((x, k) ∷ scope) (suc k) ts (omega arith, scope_raised k (suc k) scope (omega arith) h))

pub variables_low : (scope : Scope Name) (k : ℕ) (gs : Tree Name (items variable)) → ScopeLow k scope → AllLow (ordinal_after_names k (variable_names gs)) (occurrences (relabel_variables naming_by_spelling forget scope k gs))
variables_low scope k end h = tt
variables_low scope k (more (declares_variable ns t) gs) h =
    let xs = names_in_list ns in
    let n = ordinal_after_names k xs in
    let last = ordinal_after_names n (variable_names gs) in
    let up1 = le-ordinal_after_names k xs in
    let up2 = le-ordinal_after_names n (variable_names gs) in
    subst (λ m. AllLow m (occurrences (relabel_variables naming_by_spelling forget scope k (more (declares_variable ns t) gs)))) (sym (ordinal_after_names-append k xs (variable_names gs)))
    (low_append last (occurrences (relabel_uses naming_by_spelling forget scope t)) (occurrences (relabel_variables naming_by_spelling forget (declare_names k xs scope) n gs))
    (raised k last (occurrences (relabel_uses naming_by_spelling forget scope t)) (omega (arith, up1, up2)) (uses_low k scope t h))
    (variables_low (declare_names k xs scope) n gs (declared_low k xs scope h)))

section_low : (scope : Scope Name) (k j : ℕ) (s : Tree Name section) → ScopeLow k scope → AllLow k (occurrences (relabel_parameter_section naming_by_spelling forget scope j s))
section_low scope k j (value_section ns t) h = uses_low k scope t h
section_low scope k j (variable_section ns t) h = uses_low k scope t h

pub sections_low : (scope : Scope Name) (k : ℕ) (fs : Tree Name (items section_after_semicolon)) → ScopeLow k scope → AllLow (ordinal_after_names k (formal_parameter_names fs)) (occurrences (relabel_parameter_section_list naming_by_spelling forget scope k fs))
sections_low scope k end h = tt
sections_low scope k (more (semicolon_then_section s) fs) h =
    let xs = parameter_section_names s in
    let n = ordinal_after_names k xs in
    let last = ordinal_after_names n (formal_parameter_names fs) in
    let up1 = le-ordinal_after_names k xs in
    let up2 = le-ordinal_after_names n (formal_parameter_names fs) in
    subst (λ m. AllLow m (occurrences (relabel_parameter_section_list naming_by_spelling forget scope k (more (semicolon_then_section s) fs)))) (sym (ordinal_after_names-append k xs (formal_parameter_names fs)))
    (low_append last (occurrences (relabel_parameter_section naming_by_spelling forget scope k s)) (occurrences (relabel_parameter_section_list naming_by_spelling forget (declare_names k xs scope) n fs))
    (raised k last (occurrences (relabel_parameter_section naming_by_spelling forget scope k s)) (omega (arith, up1, up2)) (section_low scope k k s h))
    (sections_low (declare_names k xs scope) n fs (declared_low k xs scope h)))

pub formals_low : (scope : Scope Name) (k : ℕ) (fs : Tree Name (maybe formals)) → ScopeLow k scope → AllLow (ordinal_after_names k (formal_parameter_names (formal_parameter_sections fs))) (occurrences (relabel_formals naming_by_spelling forget scope k fs))
formals_low scope k (one (some_formals s fs)) h = sections_low scope k (more (semicolon_then_section s) fs) h
formals_low scope k _ h = tt

pub constant_section_low : (scope : Scope Name) (k : ℕ) (cs : Tree Name (maybe constants)) → ScopeLow k scope → AllLow (ordinal_after_names k (constant_names (section_constants cs))) (occurrences (relabel_constant_section naming_by_spelling forget scope k cs))
constant_section_low scope k none h = tt
constant_section_low scope k (one (declares_const_section cs)) h = constants_low scope k cs h

pub type_section_low : (scope : Scope Name) (k : ℕ) (ts : Tree Name (maybe type_definitions)) → ScopeLow k scope → AllLow (ordinal_after_names k (declared_type_names (section_types ts))) (occurrences (relabel_type_section naming_by_spelling forget scope k ts))
type_section_low scope k none h = tt
type_section_low scope k (one (declares_type_section ts)) h = types_low scope k ts h

pub variable_section_low : (scope : Scope Name) (k : ℕ) (vs : Tree Name (maybe variables)) → ScopeLow k scope → AllLow (ordinal_after_names k (variable_names (section_variables vs))) (occurrences (relabel_variable_section naming_by_spelling forget scope k vs))
variable_section_low scope k none h = tt
variable_section_low scope k (one (declares_var_section vs)) h = variables_low scope k vs h

pub procedures_below : (k : ℕ) (ps : Tree Name (items procedure)) (scope : Scope Name) → ScopeLow k scope → ScopeLow (ordinal_after_procedure_list k ps) (declare_procedure_names k ps scope)
procedures_below k end scope h = h
procedures_below k (more p rest) scope h =
    let up = le-ordinal_after_procedure (suc k) p in
    procedures_below (ordinal_after_procedure (suc k) p) rest ((procedure_name p, k) ∷ scope) (omega (arith, up), scope_raised k (ordinal_after_procedure (suc k) p) scope (omega (arith, up)) h)

mutual
  pub block_low : (scope : Scope Name) (k : ℕ) (b : Tree Name block) → ScopeLow k scope → AllLow (ordinal_after_block k b) (occurrences (relabel_block naming_by_spelling forget scope k b))
  block_low scope k (forms_block (declares cs ts vs ps) statements) h =
      let b : Tree Name block = forms_block (declares cs ts vs ps) statements in
      let xs = constant_names (section_constants cs) in
      let ys = declared_type_names (section_types ts) in
      let zs = variable_names (section_variables vs) in
      let n = ordinal_after_block k b in
      let h1 = declared_low k xs scope h in
      let h2 = declared_low (ordinal_after_names k xs) ys (scope_before_types k b scope) h1 in
      let h3 = declared_low (ordinal_after_names (ordinal_after_names k xs) ys) zs (scope_before_variables k b scope) h2 in
      let h4 = procedures_below (first_procedure_ordinal k b) ps (scope_before_procedures k b scope) h3 in
      let up2 = le-ordinal_after_names (ordinal_after_names k xs) ys in
      let up3 = le-ordinal_after_names (ordinal_after_names (ordinal_after_names k xs) ys) zs in
      let up4 = le-ordinal_after_procedure_list (first_procedure_ordinal k b) ps in
      let lc = occurrences (relabel_constant_section naming_by_spelling forget scope k cs) in
      let lt = occurrences (relabel_type_section naming_by_spelling forget (scope_before_types k b scope) (first_type_ordinal k b) ts) in
      let lv = occurrences (relabel_variable_section naming_by_spelling forget (scope_before_variables k b scope) (first_variable_ordinal k b) vs) in
      let lp = occurrences (relabel_procedure_list naming_by_spelling forget (scope_before_procedures k b scope) (first_procedure_ordinal k b) ps) in
      low_append n (lc ++ (lt ++ (lv ++ lp))) (occurrences (relabel_uses naming_by_spelling forget (body_scope k b scope) statements))
      (low_append n lc (lt ++ (lv ++ lp)) (raised (ordinal_after_names k xs) n lc (omega (arith, up2, up3, up4)) (constant_section_low scope k cs h))
      (low_append n lt (lv ++ lp) (raised (ordinal_after_names (ordinal_after_names k xs) ys) n lt (omega (arith, up3, up4)) (type_section_low (scope_before_types k b scope) (first_type_ordinal k b) ts h1))
      (low_append n lv lp (raised (first_procedure_ordinal k b) n lv (omega (arith, up4)) (variable_section_low (scope_before_variables k b scope) (first_variable_ordinal k b) vs h2))
      (procedures_low (scope_before_procedures k b scope) (first_procedure_ordinal k b) ps h3))))
      (uses_low n (body_scope k b scope) statements h4)

  pub procedures_low : (scope : Scope Name) (k : ℕ) (ps : Tree Name (items procedure)) → ScopeLow k scope → AllLow (ordinal_after_procedure_list k ps) (occurrences (relabel_procedure_list naming_by_spelling forget scope k ps))
  procedures_low scope k end h = tt
  procedures_low scope k (more p rest) h =
      let n = ordinal_after_procedure (suc k) p in
      let last = ordinal_after_procedure_list n rest in
      let up = le-ordinal_after_procedure (suc k) p in
      let up2 = le-ordinal_after_procedure_list n rest in
      let lp = occurrences (relabel_procedure naming_by_spelling forget scope k p) in
      low_append last lp (occurrences (relabel_procedure_list naming_by_spelling forget ((procedure_name p, k) ∷ scope) n rest))
      (raised n last lp up2 (procedure_low scope k p h))
      (procedures_low ((procedure_name p, k) ∷ scope) n rest (omega (arith, up), scope_raised k n scope (omega (arith, up)) h))

  pub procedure_low : (scope : Scope Name) (k : ℕ) (p : Tree Name (item procedure)) → ScopeLow k scope → AllLow (ordinal_after_procedure (suc k) p) (occurrences (relabel_procedure naming_by_spelling forget scope k p))
  procedure_low scope k (declares_procedure x fs b closing) h =
      let xs = formal_parameter_names (formal_parameter_sections fs) in
      let n = ordinal_after_names (suc k) xs in
      let last = ordinal_after_block n b in
      let h1 = scope_raised k (suc k) scope (omega arith) h in
      let h2 = declared_low (suc k) xs ((x, k) ∷ scope) (omega arith, h1) in
      let lf = occurrences (relabel_formals naming_by_spelling forget scope (suc k) fs) in
      low_append last lf (occurrences (relabel_block naming_by_spelling forget (declare_names (suc k) xs ((x, k) ∷ scope)) n b))
      (raised n last lf (le-ordinal_after_block n b) (formals_low scope (suc k) fs h1))
      (block_low (declare_names (suc k) xs ((x, k) ∷ scope)) n b h2)
