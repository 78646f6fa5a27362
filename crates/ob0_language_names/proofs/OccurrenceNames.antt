-- A relabelled tree has as many occurrences of names as the original tree.
use Rattle.std.proofs.Common.{List, None, [], ap, length, length-append, map, refl, suc, sym, ℕ, ◌++◌, ◌+◌, ◌∙◌, ◌∷◌, ◌≡◌}
use Rattle.ob0_tree.specs.Tree.{Sort, Tree, block, constant, constants, declares, declares_constant, declares_const_section, declares_procedure, declares_type, declares_type_section, declares_variable, declares_var_section, end, formals, section_after_semicolon, forms_block, forms_module, item, items, maybe, module_text, more, no_formals, none, occurrences, one, procedure, section, some_formals, semicolon_then_section, type_definition, type_definitions, value_section, variable, variable_section, variables}
use Rattle.ob0_language_names.specs.Names.{Naming}
use Rattle.ob0_language_names.specs.BlockParts.{formal_parameter_names, formal_parameter_sections, names_in_list, procedure_name, parameter_section_names}
use Rattle.ob0_language_names.specs.Scopes.{relabel_module, Labelling, Scope, ordinal_after_names, ordinal_after_procedure, body_scope, declare_names, first_procedure_ordinal, first_type_ordinal, first_variable_ordinal, label_in_scope, predeclared_scope, scope_before_procedures, relabel_block, relabel_constant_section, relabel_constants, relabel_formals, relabel_procedure, relabel_procedure_list, relabel_parameter_section, relabel_parameter_section_list, relabel_type_section, relabel_types, relabel_uses, relabel_variable_section, relabel_variables, scope_before_types, scope_before_variables}
use Rattle.ob0_language_names.proofs.OccurrencesMapped.{occurrences-mapped}
use Rattle.std.proofs.lemmas.List.{map-append}

pub joined : {N M : Type 0} {xs' ys' : List M} (look : N → M) (xs ys : List N) → xs' ≡ map look xs → ys' ≡ map look ys → xs' ++ ys' ≡ map look (xs ++ ys)
joined look xs ys p q = (λ i. p i ++ q i) ∙ sym (map-append look xs ys)

pub length-map : {N M : Type 0} (f : N → M) (xs : List N) → length (map f xs) ≡ length xs
length-map f [] = refl
length-map f (x ∷ xs) = ap suc (length-map f xs)

-- holds if two trees have the same number of occurrences
abbrev pub AsMany : {N M : Type 0} {s : Sort} → Tree M s → Tree N s → Type 0
AsMany there here = length (occurrences there) ≡ length (occurrences here)

pub longer : {N M : Type 0} (xs' ys' : List M) (xs ys : List N) → length xs' ≡ length xs → length ys' ≡ length ys → length (xs' ++ ys') ≡ length (xs ++ ys)
longer xs' ys' xs ys p q = length-append xs' ys' ∙ ((λ i. p i + q i) ∙ sym (length-append xs ys))

pub as_many-uses : {N M : Type 0} {s : Sort} (naming : Naming N) (label : Labelling N M) (scope : Scope N) (t : Tree N s) → AsMany (relabel_uses naming label scope t) t
as_many-uses naming label scope t =
    ap length (occurrences-mapped (label_in_scope naming label scope) (label None) (λ n. n) t) ∙ length-map (label_in_scope naming label scope) (occurrences t)

pub as_many-constants : {N M : Type 0} (naming : Naming N) (label : Labelling N M) (scope : Scope N) (k : ℕ) (cs : Tree N (items constant)) → AsMany (relabel_constants naming label scope k cs) cs
as_many-constants naming label scope k end = refl
as_many-constants naming label scope k (more (declares_constant x e) cs) =
    longer _ _ (occurrences e) (occurrences cs) (as_many-uses naming label scope e) (as_many-constants naming label ((x, k) ∷ scope) (suc k) cs)

pub as_many-types : {N M : Type 0} (naming : Naming N) (label : Labelling N M) (scope : Scope N) (k : ℕ) (ds : Tree N (items type_definition)) → AsMany (relabel_types naming label scope k ds) ds
as_many-types naming label scope k end = refl
as_many-types naming label scope k (more (declares_type x t) ds) =
    longer _ _ (occurrences t) (occurrences ds) (as_many-uses naming label scope t) (as_many-types naming label ((x, k) ∷ scope) (suc k) ds)

pub as_many-variables : {N M : Type 0} (naming : Naming N) (label : Labelling N M) (scope : Scope N) (k : ℕ) (gs : Tree N (items variable)) → AsMany (relabel_variables naming label scope k gs) gs
as_many-variables naming label scope k end = refl
as_many-variables naming label scope k (more (declares_variable ns t) gs) =
    longer _ _ (occurrences t) (occurrences gs) (as_many-uses naming label scope t) (as_many-variables naming label (declare_names k (names_in_list ns) scope) (ordinal_after_names k (names_in_list ns)) gs)

pub as_many-section : {N M : Type 0} (naming : Naming N) (label : Labelling N M) (scope : Scope N) (k : ℕ) (s : Tree N section) → AsMany (relabel_parameter_section naming label scope k s) s
as_many-section naming label scope k (value_section ns t) = as_many-uses naming label scope t
as_many-section naming label scope k (variable_section ns t) = as_many-uses naming label scope t

pub as_many-sections : {N M : Type 0} (naming : Naming N) (label : Labelling N M) (scope : Scope N) (k : ℕ) (fs : Tree N (items section_after_semicolon)) → AsMany (relabel_parameter_section_list naming label scope k fs) fs
as_many-sections naming label scope k end = refl
as_many-sections naming label scope k (more (semicolon_then_section s) fs) =
    longer _ _ (occurrences s) (occurrences fs) (as_many-section naming label scope k s) (as_many-sections naming label (declare_names k (parameter_section_names s) scope) (ordinal_after_names k (parameter_section_names s)) fs)

pub as_many-formals : {N M : Type 0} (naming : Naming N) (label : Labelling N M) (scope : Scope N) (k : ℕ) (fs : Tree N (maybe formals)) → AsMany (relabel_formals naming label scope k fs) fs
as_many-formals naming label scope k none = refl
as_many-formals naming label scope k (one no_formals) = refl
as_many-formals naming label scope k (one (some_formals s fs)) =
    longer _ _ (occurrences s) (occurrences fs) (as_many-section naming label scope k s) (as_many-sections naming label (declare_names k (parameter_section_names s) scope) (ordinal_after_names k (parameter_section_names s)) fs)

pub as_many-constant_section : {N M : Type 0} (naming : Naming N) (label : Labelling N M) (scope : Scope N) (k : ℕ) (cs : Tree N (maybe constants)) → AsMany (relabel_constant_section naming label scope k cs) cs
as_many-constant_section naming label scope k none = refl
as_many-constant_section naming label scope k (one (declares_const_section cs)) = as_many-constants naming label scope k cs

pub as_many-type_section : {N M : Type 0} (naming : Naming N) (label : Labelling N M) (scope : Scope N) (k : ℕ) (ts : Tree N (maybe type_definitions)) → AsMany (relabel_type_section naming label scope k ts) ts
as_many-type_section naming label scope k none = refl
as_many-type_section naming label scope k (one (declares_type_section ts)) = as_many-types naming label scope k ts

pub as_many-variable_section : {N M : Type 0} (naming : Naming N) (label : Labelling N M) (scope : Scope N) (k : ℕ) (vs : Tree N (maybe variables)) → AsMany (relabel_variable_section naming label scope k vs) vs
as_many-variable_section naming label scope k none = refl
as_many-variable_section naming label scope k (one (declares_var_section vs)) = as_many-variables naming label scope k vs

mutual
  pub as_many-block : {N M : Type 0} (naming : Naming N) (label : Labelling N M) (scope : Scope N) (k : ℕ) (b : Tree N block) → AsMany (relabel_block naming label scope k b) b
  as_many-block {N} naming label scope k (forms_block (declares cs ts vs ps) statements) =
      let b : Tree N block = forms_block (declares cs ts vs ps) statements in
      longer _ _ (occurrences cs ++ (occurrences ts ++ (occurrences vs ++ occurrences ps))) (occurrences statements)
      (longer _ _ (occurrences cs) (occurrences ts ++ (occurrences vs ++ occurrences ps)) (as_many-constant_section naming label scope k cs)
      (longer _ _ (occurrences ts) (occurrences vs ++ occurrences ps) (as_many-type_section naming label (scope_before_types k b scope) (first_type_ordinal k b) ts)
      (longer _ _ (occurrences vs) (occurrences ps) (as_many-variable_section naming label (scope_before_variables k b scope) (first_variable_ordinal k b) vs)
      (as_many-procedures naming label (scope_before_procedures k b scope) (first_procedure_ordinal k b) ps))))
      (as_many-uses naming label (body_scope k b scope) statements)

  pub as_many-procedures : {N M : Type 0} (naming : Naming N) (label : Labelling N M) (scope : Scope N) (k : ℕ) (ps : Tree N (items procedure)) → AsMany (relabel_procedure_list naming label scope k ps) ps
  as_many-procedures naming label scope k end = refl
  as_many-procedures naming label scope k (more p rest) =
      longer _ _ (occurrences p) (occurrences rest) (as_many-procedure naming label scope k p) (as_many-procedures naming label ((procedure_name p, k) ∷ scope) (ordinal_after_procedure (suc k) p) rest)

  pub as_many-procedure : {N M : Type 0} (naming : Naming N) (label : Labelling N M) (scope : Scope N) (k : ℕ) (p : Tree N (item procedure)) → AsMany (relabel_procedure naming label scope k p) p
  as_many-procedure naming label scope k (declares_procedure x fs b closing) =
      longer _ _ (occurrences fs) (occurrences b) (as_many-formals naming label scope (suc k) fs)
      (as_many-block naming label (declare_names (suc k) (formal_parameter_names (formal_parameter_sections fs)) ((x, k) ∷ scope)) (ordinal_after_names (suc k) (formal_parameter_names (formal_parameter_sections fs))) b)

pub as_many-module : {N M : Type 0} (naming : Naming N) (label : Labelling N M) (m : Tree N module_text) → AsMany (relabel_module naming label m) m
as_many-module naming label (forms_module x b closing) = as_many-block naming label (predeclared_scope naming) 7 b
