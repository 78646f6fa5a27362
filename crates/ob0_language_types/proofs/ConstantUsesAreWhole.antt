-- In a well-typed module each use of a constant is a whole factor. The proof is about the numbered tree.
use Rattle.std.proofs.Common.{All, List, None, [], ap, length, map, subst, suc, sym, ℕ, ◌+◌, ◌∙◌, ◌∷◌, ◌≡◌, ◌≢◌}
use Rattle.ob0_tree.specs.Tree.{Sort, Tree, block, constant, constants, declares, declares_constant, declares_const_section, declares_procedure, declares_type, declares_type_section, declares_variable, declares_var_section, end, formals, section_after_semicolon, forms_block, forms_module, item, items, maybe, module_text, more, no_formals, none, occurrences, one, procedure, section, some_formals, semicolon_then_section, type_definition, type_definitions, value_section, variable, variable_section, variables, written_type}
use Rattle.ob0_language_names.specs.NonFactorNames.{non_factor_occurrences}
use Rattle.ob0_language_names.specs.Occurrences.{label_ordinal}
use Rattle.ob0_language_names.specs.BlockParts.{formal_parameter_names, formal_parameter_sections, names_in_list, procedure_name, section_constants, parameter_section_names, parameter_section_type, section_types, section_variables}
use Rattle.ob0_language_names.proofs.ElsewhereNames.{elsewhere-map_names}
use Rattle.ob0_language_names.proofs.InliningLeavesNoUse.{NoneOf, none-of-join}
use Rattle.ob0_language_names.proofs.Places.{EachBlock, EachConstant, EachProcedure, EachSection, EachType, EachVariable, OneProcedure}
use Rattle.ob0_language_types.specs.EditLaws.{ConstantUsesAreFactors}
use Rattle.ob0_language_types.specs.WellTyped.{WellTyped, passes_type_check}
use Rattle.ob0_language_types.proofs.ConstantUsesInBlocks.{IsOf, UsesAreFactors}
use Rattle.ob0_language_types.proofs.EditedModules.{label_ordinal-of, seven-or-less}
use Rattle.ob0_language_types.proofs.InlinedEverywhere.{alone-module}
use Rattle.std.proofs.lemmas.List.Elements.{All-cons, All-nil}
use Rattle.ob0_language_names.specs.Names.{Label, Name, naming_by_spelling, declared}
use Rattle.ob0_language_names.specs.Scopes.{Scope, ordinal_after_names, ordinal_after_procedure, label_from_ordinal, body_scope, declare_names, first_procedure_ordinal, first_type_ordinal, first_variable_ordinal, label_in_scope, numbered, predeclared_scope, scope_before_procedures, relabel_block, relabel_constant_section, relabel_constants, relabel_formals, relabel_procedure, relabel_procedure_list, relabel_parameter_section, relabel_parameter_section_list, relabel_type_section, relabel_types, relabel_uses, relabel_variable_section, relabel_variables, scope_before_types, scope_before_variables}

abbrev pub IsLabelOf : ℕ → Label → Type 0
IsLabelOf d l = l ≡ declared d

alone-leaf : {s : Sort} (d j : ℕ) (scope : Scope Name) (t : Tree Name s) → UsesAreFactors d s j scope t → NoneOf (IsLabelOf d) (non_factor_occurrences (relabel_uses naming_by_spelling (label_from_ordinal naming_by_spelling) scope t))
alone-leaf d j scope t h =
    subst (NoneOf (IsLabelOf d)) (sym (elsewhere-map_names (label_in_scope naming_by_spelling (label_from_ordinal naming_by_spelling) scope) (label_from_ordinal naming_by_spelling None) t)) (of_names (non_factor_occurrences t) h)
  where
    of_names : (xs : List Name) → NoneOf (IsOf d scope) xs → NoneOf (IsLabelOf d) (map (label_in_scope naming_by_spelling (label_from_ordinal naming_by_spelling) scope) xs)
    of_names [] h = tt
    of_names (x ∷ xs) h = (λ e. h.0 (sym (label_ordinal-of naming_by_spelling scope x) ∙ ap label_ordinal e), of_names xs h.1)

label-constants : (d j : ℕ) (scope : Scope Name) (k : ℕ) (cs : Tree Name (items constant)) → EachConstant (UsesAreFactors d) j scope k cs → NoneOf (IsLabelOf d) (non_factor_occurrences (relabel_constants naming_by_spelling (label_from_ordinal naming_by_spelling) scope k cs))
label-constants d j scope k end h = tt
label-constants d j scope k (more (declares_constant x e) cs) h =
    none-of-join (IsLabelOf d) _ _ (alone-leaf d j scope e h.0) (label-constants d (j + length (occurrences e)) ((x, k) ∷ scope) (suc k) cs h.1)

label-types : (d j : ℕ) (scope : Scope Name) (k : ℕ) (ds : Tree Name (items type_definition)) → EachType (UsesAreFactors d) j scope k ds → NoneOf (IsLabelOf d) (non_factor_occurrences (relabel_types naming_by_spelling (label_from_ordinal naming_by_spelling) scope k ds))
label-types d j scope k end h = tt
label-types d j scope k (more (declares_type x t) ds) h =
    none-of-join (IsLabelOf d) _ _ (alone-leaf d j scope t h.0) (label-types d (j + length (occurrences t)) ((x, k) ∷ scope) (suc k) ds h.1)

label-variables : (d j : ℕ) (scope : Scope Name) (k : ℕ) (gs : Tree Name (items variable)) → EachVariable (UsesAreFactors d) j scope k gs → NoneOf (IsLabelOf d) (non_factor_occurrences (relabel_variables naming_by_spelling (label_from_ordinal naming_by_spelling) scope k gs))
label-variables d j scope k end h = tt
label-variables d j scope k (more (declares_variable ns t) gs) h =
    none-of-join (IsLabelOf d) _ _ (alone-leaf d j scope t h.0) (label-variables d (j + length (occurrences t)) (declare_names k (names_in_list ns) scope) (ordinal_after_names k (names_in_list ns)) gs h.1)

label-section : (d j : ℕ) (scope : Scope Name) (k : ℕ) (s : Tree Name section) → UsesAreFactors d written_type j scope (parameter_section_type s) → NoneOf (IsLabelOf d) (non_factor_occurrences (relabel_parameter_section naming_by_spelling (label_from_ordinal naming_by_spelling) scope k s))
label-section d j scope k (value_section ns t) h = alone-leaf d j scope t h
label-section d j scope k (variable_section ns t) h = alone-leaf d j scope t h

label-sections : (d j : ℕ) (scope : Scope Name) (k : ℕ) (fs : Tree Name (items section_after_semicolon)) → EachSection (UsesAreFactors d) j scope k fs → NoneOf (IsLabelOf d) (non_factor_occurrences (relabel_parameter_section_list naming_by_spelling (label_from_ordinal naming_by_spelling) scope k fs))
label-sections d j scope k end h = tt
label-sections d j scope k (more (semicolon_then_section s) fs) h =
    none-of-join (IsLabelOf d) _ _ (label-section d j scope k s h.0) (label-sections d (j + length (occurrences s)) (declare_names k (parameter_section_names s) scope) (ordinal_after_names k (parameter_section_names s)) fs h.1)

label-formals : (d j : ℕ) (scope : Scope Name) (k : ℕ) (fs : Tree Name (maybe formals)) → EachSection (UsesAreFactors d) j scope k (formal_parameter_sections fs) → NoneOf (IsLabelOf d) (non_factor_occurrences (relabel_formals naming_by_spelling (label_from_ordinal naming_by_spelling) scope k fs))
label-formals d j scope k none h = tt
label-formals d j scope k (one no_formals) h = tt
label-formals d j scope k (one (some_formals s fs)) h = label-sections d j scope k (more (semicolon_then_section s) fs) h

label-constant_section : (d j : ℕ) (scope : Scope Name) (k : ℕ) (cs : Tree Name (maybe constants)) → EachConstant (UsesAreFactors d) j scope k (section_constants cs) → NoneOf (IsLabelOf d) (non_factor_occurrences (relabel_constant_section naming_by_spelling (label_from_ordinal naming_by_spelling) scope k cs))
label-constant_section d j scope k none h = tt
label-constant_section d j scope k (one (declares_const_section cs)) h = label-constants d j scope k cs h

label-type_section : (d j : ℕ) (scope : Scope Name) (k : ℕ) (ts : Tree Name (maybe type_definitions)) → EachType (UsesAreFactors d) j scope k (section_types ts) → NoneOf (IsLabelOf d) (non_factor_occurrences (relabel_type_section naming_by_spelling (label_from_ordinal naming_by_spelling) scope k ts))
label-type_section d j scope k none h = tt
label-type_section d j scope k (one (declares_type_section ts)) h = label-types d j scope k ts h

label-variable_section : (d j : ℕ) (scope : Scope Name) (k : ℕ) (vs : Tree Name (maybe variables)) → EachVariable (UsesAreFactors d) j scope k (section_variables vs) → NoneOf (IsLabelOf d) (non_factor_occurrences (relabel_variable_section naming_by_spelling (label_from_ordinal naming_by_spelling) scope k vs))
label-variable_section d j scope k none h = tt
label-variable_section d j scope k (one (declares_var_section vs)) h = label-variables d j scope k vs h

mutual
  label-block : (d j : ℕ) (scope : Scope Name) (k : ℕ) (b : Tree Name block) → EachBlock (UsesAreFactors d) j scope k b → NoneOf (IsLabelOf d) (non_factor_occurrences (relabel_block naming_by_spelling (label_from_ordinal naming_by_spelling) scope k b))
  label-block d j scope k (forms_block (declares cs ts vs ps) statements) h =
      let b : Tree Name block = forms_block (declares cs ts vs ps) statements in
      none-of-join (IsLabelOf d) _ _
      (none-of-join (IsLabelOf d) _ _ (label-constant_section d j scope k cs h.0)
      (none-of-join (IsLabelOf d) _ _ (label-type_section d (j + length (occurrences cs)) (scope_before_types k b scope) (first_type_ordinal k b) ts h.1)
      (none-of-join (IsLabelOf d) _ _ (label-variable_section d (j + length (occurrences cs) + length (occurrences ts)) (scope_before_variables k b scope) (first_variable_ordinal k b) vs h.2)
      (label-procedures d (j + length (occurrences cs) + length (occurrences ts) + length (occurrences vs)) (scope_before_procedures k b scope) (first_procedure_ordinal k b) ps h.3))))
      (alone-leaf d (j + length (occurrences (declares cs ts vs ps))) (body_scope k b scope) statements h.4)

  label-procedures : (d j : ℕ) (scope : Scope Name) (k : ℕ) (ps : Tree Name (items procedure)) → EachProcedure (UsesAreFactors d) j scope k ps → NoneOf (IsLabelOf d) (non_factor_occurrences (relabel_procedure_list naming_by_spelling (label_from_ordinal naming_by_spelling) scope k ps))
  label-procedures d j scope k end h = tt
  label-procedures d j scope k (more p rest) h =
      none-of-join (IsLabelOf d) _ _ (label-procedure d j scope k p h.0) (label-procedures d (j + length (occurrences p)) ((procedure_name p, k) ∷ scope) (ordinal_after_procedure (suc k) p) rest h.1)

  label-procedure : (d j : ℕ) (scope : Scope Name) (k : ℕ) (p : Tree Name (item procedure)) → OneProcedure (UsesAreFactors d) j scope k p → NoneOf (IsLabelOf d) (non_factor_occurrences (relabel_procedure naming_by_spelling (label_from_ordinal naming_by_spelling) scope k p))
  label-procedure d j scope k (declares_procedure x fs b closing) h =
      none-of-join (IsLabelOf d) _ _ (label-formals d j scope (suc k) fs h.0)
      (label-block d (j + length (occurrences fs)) (declare_names (suc k) (formal_parameter_names (formal_parameter_sections fs)) ((x, k) ∷ scope)) (ordinal_after_names (suc k) (formal_parameter_names (formal_parameter_sections fs))) b h.1)

all-others : (d : ℕ) (ls : List Label) → NoneOf (IsLabelOf d) ls → All (λ l. l ≢ declared d) ls
all-others d [] h = All-nil (λ l. l ≢ declared d)
all-others d (l ∷ ls) h = All-cons (λ l. l ≢ declared d) l ls h.0 (all-others d ls h.1)

pub constant_uses_are_factors-holds : ConstantUsesAreFactors
unfolding WellTyped passes_type_check
constant_uses_are_factors-holds (forms_module x b closing) d w v c well =
    let m : Tree Name module_text = forms_module x b closing in
    let low = seven-or-less m d w c.value in
    all-others d (non_factor_occurrences (numbered m)) (label-block d 0 (predeclared_scope naming_by_spelling) 7 b (alone-module m d w v c well))
