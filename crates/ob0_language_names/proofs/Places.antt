-- States properties of each occurrence of a tree, given the occurrence's number, its scope and its
-- name. `each-block` derives such a property from two lists of labels.
use Rattle.std.proofs.Common.{List, None, [], arith, length, map, refl, subst, suc, ℕ, ◌++◌, ◌+◌, ◌∷◌, ◌≡◌}
use Rattle.ob0_tree.specs.Tree.{Sort, Tree, block, body, constant, constants, declares, declares_constant, declares_const_section, declares_procedure, declares_type, declares_type_section, declares_variable, declares_var_section, end, expression, formals, section_after_semicolon, forms_block, item, items, maybe, more, no_formals, none, occurrences, one, procedure, section, some_formals, semicolon_then_section, type_definition, type_definitions, value_section, variable, variable_section, variables, written_type}
use Rattle.ob0_language_names.specs.Names.{Label, Name, Naming}
use Rattle.ob0_language_names.specs.BlockParts.{formal_parameter_names, formal_parameter_sections, names_in_list, procedure_name, section_constants, parameter_section_names, parameter_section_type, section_types, section_variables}
use Rattle.ob0_language_names.specs.Scopes.{Scope, ordinal_after_names, ordinal_after_procedure, label_from_ordinal, body_scope, declare_names, first_procedure_ordinal, first_type_ordinal, first_variable_ordinal, label_in_scope, scope_before_procedures, relabel_block, relabel_constant_section, relabel_constants, relabel_formals, relabel_procedure, relabel_procedure_list, relabel_parameter_section, relabel_parameter_section_list, relabel_type_section, relabel_types, relabel_uses, relabel_variable_section, relabel_variables, scope_before_types, scope_before_variables}
use Rattle.ob0_language_names.proofs.OccurrenceNames.{as_many-constant_section, as_many-formals, as_many-procedure, as_many-procedures, as_many-section, as_many-type_section, as_many-uses, as_many-variable_section, longer}
use Rattle.ob0_language_names.proofs.OccurrencesMapped.{occurrences-mapped}

-- holds if `Q` holds for each occurrence in a list, whose numbers count up from `j`
abbrev pub Each : (ℕ → Scope Name → Name → Type 0) → ℕ → Scope Name → List Name → Type 0
Each Q j scope [] = Unit {0}
Each Q j scope (x ∷ xs) = Q j scope x × Each Q (suc j) scope xs

-- a property of a tree that declares nothing, according to the number of its first occurrence and its scope
abbrev pub Placed : Type 1
Placed = (s : Sort) → ℕ → Scope Name → Tree Name s → Type 0

abbrev pub EachConstant : Placed → ℕ → Scope Name → ℕ → Tree Name (items constant) → Type 0
EachConstant L j scope k end = Unit {0}
EachConstant L j scope k (more (declares_constant x e) cs) = L expression j scope e × EachConstant L (j + length (occurrences e)) ((x, k) ∷ scope) (suc k) cs

abbrev pub EachType : Placed → ℕ → Scope Name → ℕ → Tree Name (items type_definition) → Type 0
EachType L j scope k end = Unit {0}
EachType L j scope k (more (declares_type x t) ds) = L written_type j scope t × EachType L (j + length (occurrences t)) ((x, k) ∷ scope) (suc k) ds

abbrev pub EachVariable : Placed → ℕ → Scope Name → ℕ → Tree Name (items variable) → Type 0
EachVariable L j scope k end = Unit {0}
EachVariable L j scope k (more (declares_variable ns t) gs) =
    L written_type j scope t × EachVariable L (j + length (occurrences t)) (declare_names k (names_in_list ns) scope) (ordinal_after_names k (names_in_list ns)) gs

abbrev pub EachSection : Placed → ℕ → Scope Name → ℕ → Tree Name (items section_after_semicolon) → Type 0
EachSection L j scope k end = Unit {0}
EachSection L j scope k (more (semicolon_then_section s) fs) =
    L written_type j scope (parameter_section_type s) × EachSection L (j + length (occurrences s)) (declare_names k (parameter_section_names s) scope) (ordinal_after_names k (parameter_section_names s)) fs

abbrev mutual
  pub EachBlock : Placed → ℕ → Scope Name → ℕ → Tree Name block → Type 0
  EachBlock L j scope k (forms_block (declares cs ts vs ps) statements) =
      EachConstant L j scope k (section_constants cs)
      × EachType L (j + length (occurrences cs)) (scope_before_types k (forms_block (declares cs ts vs ps) statements) scope) (first_type_ordinal k (forms_block (declares cs ts vs ps) statements)) (section_types ts)
      × EachVariable L (j + length (occurrences cs) + length (occurrences ts)) (scope_before_variables k (forms_block (declares cs ts vs ps) statements) scope) (first_variable_ordinal k (forms_block (declares cs ts vs ps) statements)) (section_variables vs)
      × EachProcedure L (j + length (occurrences cs) + length (occurrences ts) + length (occurrences vs)) (scope_before_procedures k (forms_block (declares cs ts vs ps) statements) scope) (first_procedure_ordinal k (forms_block (declares cs ts vs ps) statements)) ps
      × L (maybe body) (j + length (occurrences (declares cs ts vs ps))) (body_scope k (forms_block (declares cs ts vs ps) statements) scope) statements

  pub EachProcedure : Placed → ℕ → Scope Name → ℕ → Tree Name (items procedure) → Type 0
  EachProcedure L j scope k end = Unit {0}
  EachProcedure L j scope k (more p rest) =
      OneProcedure L j scope k p × EachProcedure L (j + length (occurrences p)) ((procedure_name p, k) ∷ scope) (ordinal_after_procedure (suc k) p) rest

  pub OneProcedure : Placed → ℕ → Scope Name → ℕ → Tree Name (item procedure) → Type 0
  OneProcedure L j scope k (declares_procedure x fs b closing) =
      EachSection L j scope (suc k) (formal_parameter_sections fs)
      × EachBlock L (j + length (occurrences fs)) (declare_names (suc k) (formal_parameter_names (formal_parameter_sections fs)) ((x, k) ∷ scope)) (ordinal_after_names (suc k) (formal_parameter_names (formal_parameter_sections fs))) b

-- holds if `R` holds for each label of a list, whose numbers count up from `j`
abbrev pub AllAt : (ℕ → Label → Type 0) → ℕ → List Label → Type 0
AllAt R j [] = Unit {0}
AllAt R j (l ∷ ls) = R j l × AllAt R (suc j) ls

pub cut : (R : ℕ → Label → Type 0) (j n : ℕ) (xs ys : List Label) → length xs ≡ n → AllAt R j (xs ++ ys) → AllAt R j xs × AllAt R (j + n) ys
cut R j n [] ys e h = (tt, subst (λ m. AllAt R m ys) (omega (arith, e)) h)
cut R j n (x ∷ xs) ys e h =
    let g = cut R (suc j) (length xs) xs ys refl h.1 in
    ((h.0, g.0), subst (λ m. AllAt R m ys) (omega (arith, e)) g.1)

-- holds if `R` holds for the label under one naming, and `S` for the label under another
abbrev pub Both : Naming Name → Naming Name → (ℕ → Label → Type 0) → (ℕ → Label → Type 0) → ℕ → Scope Name → Name → Type 0
Both u v R S j scope x = R j (label_in_scope u (label_from_ordinal u) scope x) × S j (label_in_scope v (label_from_ordinal v) scope x)

-- If these properties imply `L` for each tree that declares nothing, `L` holds throughout a block.
module _ (u v : Naming Name) (R S : ℕ → Label → Type 0) (L : Placed) (make : (s : Sort) (j : ℕ) (scope : Scope Name) (t : Tree Name s) → Each (Both u v R S) j scope (occurrences t) → L s j scope t) where
  each-names : (j : ℕ) (scope : Scope Name) (xs : List Name) → AllAt R j (map (label_in_scope u (label_from_ordinal u) scope) xs) → AllAt S j (map (label_in_scope v (label_from_ordinal v) scope) xs) → Each (Both u v R S) j scope xs
  each-names j scope [] f g = tt
  each-names j scope (x ∷ xs) f g = ((f.0, g.0), each-names (suc j) scope xs f.1 g.1)

  pub each-uses : {s : Sort} (j : ℕ) (scope : Scope Name) (t : Tree Name s) → AllAt R j (occurrences (relabel_uses u (label_from_ordinal u) scope t)) → AllAt S j (occurrences (relabel_uses v (label_from_ordinal v) scope t)) → L s j scope t
  each-uses {s} j scope t f g =
      make s j scope t (each-names j scope (occurrences t) (subst (AllAt R j) (occurrences-mapped (label_in_scope u (label_from_ordinal u) scope) (label_from_ordinal u None) (λ n. n) t) f)
      (subst (AllAt S j) (occurrences-mapped (label_in_scope v (label_from_ordinal v) scope) (label_from_ordinal v None) (λ n. n) t) g))

  pub each-constants : (j : ℕ) (scope : Scope Name) (k : ℕ) (cs : Tree Name (items constant)) → AllAt R j (occurrences (relabel_constants u (label_from_ordinal u) scope k cs)) → AllAt S j (occurrences (relabel_constants v (label_from_ordinal v) scope k cs)) → EachConstant L j scope k cs
  each-constants j scope k end f g = tt
  each-constants j scope k (more (declares_constant x e) cs) f g =
      let f' = cut R j (length (occurrences e)) (occurrences (relabel_uses u (label_from_ordinal u) scope e)) (occurrences (relabel_constants u (label_from_ordinal u) ((x, k) ∷ scope) (suc k) cs)) (as_many-uses u (label_from_ordinal u) scope e) f in
      let g' = cut S j (length (occurrences e)) (occurrences (relabel_uses v (label_from_ordinal v) scope e)) (occurrences (relabel_constants v (label_from_ordinal v) ((x, k) ∷ scope) (suc k) cs)) (as_many-uses v (label_from_ordinal v) scope e) g in
      (each-uses j scope e f'.0 g'.0, each-constants (j + length (occurrences e)) ((x, k) ∷ scope) (suc k) cs f'.1 g'.1)

  pub each-types : (j : ℕ) (scope : Scope Name) (k : ℕ) (ds : Tree Name (items type_definition)) → AllAt R j (occurrences (relabel_types u (label_from_ordinal u) scope k ds)) → AllAt S j (occurrences (relabel_types v (label_from_ordinal v) scope k ds)) → EachType L j scope k ds
  each-types j scope k end f g = tt
  each-types j scope k (more (declares_type x t) ds) f g =
      let f' = cut R j (length (occurrences t)) (occurrences (relabel_uses u (label_from_ordinal u) scope t)) (occurrences (relabel_types u (label_from_ordinal u) ((x, k) ∷ scope) (suc k) ds)) (as_many-uses u (label_from_ordinal u) scope t) f in
      let g' = cut S j (length (occurrences t)) (occurrences (relabel_uses v (label_from_ordinal v) scope t)) (occurrences (relabel_types v (label_from_ordinal v) ((x, k) ∷ scope) (suc k) ds)) (as_many-uses v (label_from_ordinal v) scope t) g in
      (each-uses j scope t f'.0 g'.0, each-types (j + length (occurrences t)) ((x, k) ∷ scope) (suc k) ds f'.1 g'.1)

  pub each-variables : (j : ℕ) (scope : Scope Name) (k : ℕ) (gs : Tree Name (items variable)) → AllAt R j (occurrences (relabel_variables u (label_from_ordinal u) scope k gs)) → AllAt S j (occurrences (relabel_variables v (label_from_ordinal v) scope k gs)) → EachVariable L j scope k gs
  each-variables j scope k end f g = tt
  each-variables j scope k (more (declares_variable ns t) gs) f g =
      let f' = cut R j (length (occurrences t)) (occurrences (relabel_uses u (label_from_ordinal u) scope t)) (occurrences (relabel_variables u (label_from_ordinal u) (declare_names k (names_in_list ns) scope) (ordinal_after_names k (names_in_list ns)) gs)) (as_many-uses u (label_from_ordinal u) scope t) f in
      let g' = cut S j (length (occurrences t)) (occurrences (relabel_uses v (label_from_ordinal v) scope t)) (occurrences (relabel_variables v (label_from_ordinal v) (declare_names k (names_in_list ns) scope) (ordinal_after_names k (names_in_list ns)) gs)) (as_many-uses v (label_from_ordinal v) scope t) g in
      (each-uses j scope t f'.0 g'.0, each-variables (j + length (occurrences t)) (declare_names k (names_in_list ns) scope) (ordinal_after_names k (names_in_list ns)) gs f'.1 g'.1)

  each-section : (j : ℕ) (scope : Scope Name) (k : ℕ) (s : Tree Name section) → AllAt R j (occurrences (relabel_parameter_section u (label_from_ordinal u) scope k s)) → AllAt S j (occurrences (relabel_parameter_section v (label_from_ordinal v) scope k s)) → L written_type j scope (parameter_section_type s)
  each-section j scope k (value_section ns t) f g = each-uses j scope t f g
  each-section j scope k (variable_section ns t) f g = each-uses j scope t f g

  pub each-sections : (j : ℕ) (scope : Scope Name) (k : ℕ) (fs : Tree Name (items section_after_semicolon)) → AllAt R j (occurrences (relabel_parameter_section_list u (label_from_ordinal u) scope k fs)) → AllAt S j (occurrences (relabel_parameter_section_list v (label_from_ordinal v) scope k fs)) → EachSection L j scope k fs
  each-sections j scope k end f g = tt
  each-sections j scope k (more (semicolon_then_section s) fs) f g =
      let f' = cut R j (length (occurrences s)) (occurrences (relabel_parameter_section u (label_from_ordinal u) scope k s)) (occurrences (relabel_parameter_section_list u (label_from_ordinal u) (declare_names k (parameter_section_names s) scope) (ordinal_after_names k (parameter_section_names s)) fs)) (as_many-section u (label_from_ordinal u) scope k s) f in
      let g' = cut S j (length (occurrences s)) (occurrences (relabel_parameter_section v (label_from_ordinal v) scope k s)) (occurrences (relabel_parameter_section_list v (label_from_ordinal v) (declare_names k (parameter_section_names s) scope) (ordinal_after_names k (parameter_section_names s)) fs)) (as_many-section v (label_from_ordinal v) scope k s) g in
      (each-section j scope k s f'.0 g'.0, each-sections (j + length (occurrences s)) (declare_names k (parameter_section_names s) scope) (ordinal_after_names k (parameter_section_names s)) fs f'.1 g'.1)

  each-formals : (j : ℕ) (scope : Scope Name) (k : ℕ) (fs : Tree Name (maybe formals)) → AllAt R j (occurrences (relabel_formals u (label_from_ordinal u) scope k fs)) → AllAt S j (occurrences (relabel_formals v (label_from_ordinal v) scope k fs)) → EachSection L j scope k (formal_parameter_sections fs)
  each-formals j scope k none f g = tt
  each-formals j scope k (one no_formals) f g = tt
  each-formals j scope k (one (some_formals s fs)) f g = each-sections j scope k (more (semicolon_then_section s) fs) f g

  each-constant_section : (j : ℕ) (scope : Scope Name) (k : ℕ) (cs : Tree Name (maybe constants)) → AllAt R j (occurrences (relabel_constant_section u (label_from_ordinal u) scope k cs)) → AllAt S j (occurrences (relabel_constant_section v (label_from_ordinal v) scope k cs)) → EachConstant L j scope k (section_constants cs)
  each-constant_section j scope k none f g = tt
  each-constant_section j scope k (one (declares_const_section cs)) f g = each-constants j scope k cs f g

  each-type_section : (j : ℕ) (scope : Scope Name) (k : ℕ) (ts : Tree Name (maybe type_definitions)) → AllAt R j (occurrences (relabel_type_section u (label_from_ordinal u) scope k ts)) → AllAt S j (occurrences (relabel_type_section v (label_from_ordinal v) scope k ts)) → EachType L j scope k (section_types ts)
  each-type_section j scope k none f g = tt
  each-type_section j scope k (one (declares_type_section ts)) f g = each-types j scope k ts f g

  each-variable_section : (j : ℕ) (scope : Scope Name) (k : ℕ) (vs : Tree Name (maybe variables)) → AllAt R j (occurrences (relabel_variable_section u (label_from_ordinal u) scope k vs)) → AllAt S j (occurrences (relabel_variable_section v (label_from_ordinal v) scope k vs)) → EachVariable L j scope k (section_variables vs)
  each-variable_section j scope k none f g = tt
  each-variable_section j scope k (one (declares_var_section vs)) f g = each-variables j scope k vs f g

  mutual
    pub each-block : (j : ℕ) (scope : Scope Name) (k : ℕ) (b : Tree Name block) → AllAt R j (occurrences (relabel_block u (label_from_ordinal u) scope k b)) → AllAt S j (occurrences (relabel_block v (label_from_ordinal v) scope k b)) → EachBlock L j scope k b
    each-block j scope k (forms_block (declares cs ts vs ps) statements) f g =
        let b : Tree Name block = forms_block (declares cs ts vs ps) statements in
        let part : (w : Naming Name) (T : ℕ → Label → Type 0) → AllAt T j (occurrences (relabel_block w (label_from_ordinal w) scope k b))
        → AllAt T j (occurrences (relabel_constant_section w (label_from_ordinal w) scope k cs))
        × AllAt T (j + length (occurrences cs)) (occurrences (relabel_type_section w (label_from_ordinal w) (scope_before_types k b scope) (first_type_ordinal k b) ts))
        × AllAt T (j + length (occurrences cs) + length (occurrences ts)) (occurrences (relabel_variable_section w (label_from_ordinal w) (scope_before_variables k b scope) (first_variable_ordinal k b) vs))
        × AllAt T (j + length (occurrences cs) + length (occurrences ts) + length (occurrences vs)) (occurrences (relabel_procedure_list w (label_from_ordinal w) (scope_before_procedures k b scope) (first_procedure_ordinal k b) ps))
        × AllAt T (j + length (occurrences (declares cs ts vs ps))) (occurrences (relabel_uses w (label_from_ordinal w) (body_scope k b scope) statements)) = λ w T h.
        let cs' = relabel_constant_section w (label_from_ordinal w) scope k cs in
        let ts' = relabel_type_section w (label_from_ordinal w) (scope_before_types k b scope) (first_type_ordinal k b) ts in
        let vs' = relabel_variable_section w (label_from_ordinal w) (scope_before_variables k b scope) (first_variable_ordinal k b) vs in
        let ps' = relabel_procedure_list w (label_from_ordinal w) (scope_before_procedures k b scope) (first_procedure_ordinal k b) ps in
        let st' = relabel_uses w (label_from_ordinal w) (body_scope k b scope) statements in
        let h₀ = cut T j (length (occurrences (declares cs ts vs ps))) (occurrences (declares cs' ts' vs' ps')) (occurrences st')
        (longer _ _ (occurrences cs) (occurrences ts ++ (occurrences vs ++ occurrences ps)) (as_many-constant_section w (label_from_ordinal w) scope k cs)
        (longer _ _ (occurrences ts) (occurrences vs ++ occurrences ps) (as_many-type_section w (label_from_ordinal w) (scope_before_types k b scope) (first_type_ordinal k b) ts)
        (longer _ _ (occurrences vs) (occurrences ps) (as_many-variable_section w (label_from_ordinal w) (scope_before_variables k b scope) (first_variable_ordinal k b) vs)
        (as_many-procedures w (label_from_ordinal w) (scope_before_procedures k b scope) (first_procedure_ordinal k b) ps)))) h in
        let h₁ = cut T j (length (occurrences cs)) (occurrences cs') (occurrences ts' ++ (occurrences vs' ++ occurrences ps')) (as_many-constant_section w (label_from_ordinal w) scope k cs) h₀.0 in
        let h₂ = cut T (j + length (occurrences cs)) (length (occurrences ts)) (occurrences ts') (occurrences vs' ++ occurrences ps') (as_many-type_section w (label_from_ordinal w) (scope_before_types k b scope) (first_type_ordinal k b) ts) h₁.1 in
        let h₃ = cut T (j + length (occurrences cs) + length (occurrences ts)) (length (occurrences vs)) (occurrences vs') (occurrences ps') (as_many-variable_section w (label_from_ordinal w) (scope_before_variables k b scope) (first_variable_ordinal k b) vs) h₂.1 in
        (h₁.0, h₂.0, h₃.0, h₃.1, h₀.1) in
        let f' = part u R f in
        let g' = part v S g in (
          each-constant_section j scope k cs f'.0 g'.0,
          each-type_section (j + length (occurrences cs)) (scope_before_types k b scope) (first_type_ordinal k b) ts f'.1 g'.1,
          each-variable_section (j + length (occurrences cs) + length (occurrences ts)) (scope_before_variables k b scope) (first_variable_ordinal k b) vs f'.2 g'.2,
          each-procedures (j + length (occurrences cs) + length (occurrences ts) + length (occurrences vs)) (scope_before_procedures k b scope) (first_procedure_ordinal k b) ps f'.3 g'.3,
          each-uses (j + length (occurrences (declares cs ts vs ps))) (body_scope k b scope) statements f'.4 g'.4,
        )

    pub each-procedures : (j : ℕ) (scope : Scope Name) (k : ℕ) (ps : Tree Name (items procedure)) → AllAt R j (occurrences (relabel_procedure_list u (label_from_ordinal u) scope k ps)) → AllAt S j (occurrences (relabel_procedure_list v (label_from_ordinal v) scope k ps)) → EachProcedure L j scope k ps
    each-procedures j scope k end f g = tt
    each-procedures j scope k (more p rest) f g =
        let f' = cut R j (length (occurrences p)) (occurrences (relabel_procedure u (label_from_ordinal u) scope k p)) (occurrences (relabel_procedure_list u (label_from_ordinal u) ((procedure_name p, k) ∷ scope) (ordinal_after_procedure (suc k) p) rest)) (as_many-procedure u (label_from_ordinal u) scope k p) f in
        let g' = cut S j (length (occurrences p)) (occurrences (relabel_procedure v (label_from_ordinal v) scope k p)) (occurrences (relabel_procedure_list v (label_from_ordinal v) ((procedure_name p, k) ∷ scope) (ordinal_after_procedure (suc k) p) rest)) (as_many-procedure v (label_from_ordinal v) scope k p) g in
        (one-procedure j scope k p f'.0 g'.0, each-procedures (j + length (occurrences p)) ((procedure_name p, k) ∷ scope) (ordinal_after_procedure (suc k) p) rest f'.1 g'.1)

    pub one-procedure : (j : ℕ) (scope : Scope Name) (k : ℕ) (p : Tree Name (item procedure)) → AllAt R j (occurrences (relabel_procedure u (label_from_ordinal u) scope k p)) → AllAt S j (occurrences (relabel_procedure v (label_from_ordinal v) scope k p)) → OneProcedure L j scope k p
    one-procedure j scope k (declares_procedure x fs b closing) f g =
        let inner : Scope Name = declare_names (suc k) (formal_parameter_names (formal_parameter_sections fs)) ((x, k) ∷ scope) in
        let n : ℕ = ordinal_after_names (suc k) (formal_parameter_names (formal_parameter_sections fs)) in
        let f' = cut R j (length (occurrences fs)) (occurrences (relabel_formals u (label_from_ordinal u) scope (suc k) fs)) (occurrences (relabel_block u (label_from_ordinal u) inner n b)) (as_many-formals u (label_from_ordinal u) scope (suc k) fs) f in
        let g' = cut S j (length (occurrences fs)) (occurrences (relabel_formals v (label_from_ordinal v) scope (suc k) fs)) (occurrences (relabel_block v (label_from_ordinal v) inner n b)) (as_many-formals v (label_from_ordinal v) scope (suc k) fs) g in
        (each-formals j scope (suc k) fs f'.0 g'.0, each-block (j + length (occurrences fs)) inner n b f'.1 g'.1)

-- If two properties of a place imply a third one, they also imply it throughout a block.
module _ (K L M : Placed) (make : (s : Sort) (j : ℕ) (scope : Scope Name) (t : Tree Name s) → K s j scope t → L s j scope t → M s j scope t) where
  both-constants : (j : ℕ) (scope : Scope Name) (k : ℕ) (cs : Tree Name (items constant)) → EachConstant K j scope k cs → EachConstant L j scope k cs → EachConstant M j scope k cs
  both-constants j scope k end f g = tt
  both-constants j scope k (more (declares_constant x e) cs) f g = (make expression j scope e f.0 g.0, both-constants (j + length (occurrences e)) ((x, k) ∷ scope) (suc k) cs f.1 g.1)

  both-types : (j : ℕ) (scope : Scope Name) (k : ℕ) (ds : Tree Name (items type_definition)) → EachType K j scope k ds → EachType L j scope k ds → EachType M j scope k ds
  both-types j scope k end f g = tt
  both-types j scope k (more (declares_type x t) ds) f g = (make written_type j scope t f.0 g.0, both-types (j + length (occurrences t)) ((x, k) ∷ scope) (suc k) ds f.1 g.1)

  both-variables : (j : ℕ) (scope : Scope Name) (k : ℕ) (gs : Tree Name (items variable)) → EachVariable K j scope k gs → EachVariable L j scope k gs → EachVariable M j scope k gs
  both-variables j scope k end f g = tt
  both-variables j scope k (more (declares_variable ns t) gs) f g = (make written_type j scope t f.0 g.0, both-variables (j + length (occurrences t)) (declare_names k (names_in_list ns) scope) (ordinal_after_names k (names_in_list ns)) gs f.1 g.1)

  both-sections : (j : ℕ) (scope : Scope Name) (k : ℕ) (fs : Tree Name (items section_after_semicolon)) → EachSection K j scope k fs → EachSection L j scope k fs → EachSection M j scope k fs
  both-sections j scope k end f g = tt
  both-sections j scope k (more (semicolon_then_section s) fs) f g = (make written_type j scope (parameter_section_type s) f.0 g.0, both-sections (j + length (occurrences s)) (declare_names k (parameter_section_names s) scope) (ordinal_after_names k (parameter_section_names s)) fs f.1 g.1)

  mutual
    pub both-block : (j : ℕ) (scope : Scope Name) (k : ℕ) (b : Tree Name block) → EachBlock K j scope k b → EachBlock L j scope k b → EachBlock M j scope k b
    both-block j scope k (forms_block (declares cs ts vs ps) statements) f g =
        let b : Tree Name block = forms_block (declares cs ts vs ps) statements in (
          both-constants j scope k (section_constants cs) f.0 g.0,
          both-types (j + length (occurrences cs)) (scope_before_types k b scope) (first_type_ordinal k b) (section_types ts) f.1 g.1,
          both-variables (j + length (occurrences cs) + length (occurrences ts)) (scope_before_variables k b scope) (first_variable_ordinal k b) (section_variables vs) f.2 g.2,
          both-procedures (j + length (occurrences cs) + length (occurrences ts) + length (occurrences vs)) (scope_before_procedures k b scope) (first_procedure_ordinal k b) ps f.3 g.3,
          make (maybe body) (j + length (occurrences (declares cs ts vs ps))) (body_scope k b scope) statements f.4 g.4,
        )

    both-procedures : (j : ℕ) (scope : Scope Name) (k : ℕ) (ps : Tree Name (items procedure)) → EachProcedure K j scope k ps → EachProcedure L j scope k ps → EachProcedure M j scope k ps
    both-procedures j scope k end f g = tt
    both-procedures j scope k (more p rest) f g = (both-one j scope k p f.0 g.0, both-procedures (j + length (occurrences p)) ((procedure_name p, k) ∷ scope) (ordinal_after_procedure (suc k) p) rest f.1 g.1)

    both-one : (j : ℕ) (scope : Scope Name) (k : ℕ) (p : Tree Name (item procedure)) → OneProcedure K j scope k p → OneProcedure L j scope k p → OneProcedure M j scope k p
    both-one j scope k (declares_procedure x fs b closing) f g = (
      both-sections j scope (suc k) (formal_parameter_sections fs) f.0 g.0,
      both-block (j + length (occurrences fs)) (declare_names (suc k) (formal_parameter_names (formal_parameter_sections fs)) ((x, k) ∷ scope)) (ordinal_after_names (suc k) (formal_parameter_names (formal_parameter_sections fs))) b f.1 g.1,
    )
