-- Proves that a name that no token of a text has is free: no other declaration has it, and each
-- occurrence remains bound to its declaration. Relabelling each part with such a name keeps the
-- numbers. The new name replaces only the names of that declaration, and no other name is equal to
-- it.
use Rattle.std.proofs.Common.{◌≡◌, ◌≤◌, ◌==◌, ◌∙◌, ◌++◌, ◌∷◌, ◌&&◌, ◌||◌, not, [], List, Option, Some, None, Bool, true, false, ℕ, suc, refl, sym, ap, subst, eqb-true, ne_eqb, arith, if◌then◌else◌}
use Rattle.std.specs.List.{list_any}
use Rattle.std.proofs.lemmas.Cmp.{nat_list_eq_equiv}
use Rattle.std.proofs.lemmas.List.Folds.{list_any-append}
use Rattle.std.proofs.lemmas.Slice.Eq.{bytes_eq-Decides}
use Rattle.ob0_tree.specs.Tree.{Sort, Tree, mapped_leaves, mapped_tree, occurrences, block, constant, constants, formals, name_after_comma, section_after_semicolon, item, items, maybe, module_text, names, procedure, section, type_definition, type_definitions, variable, variables, declares, declares_constant, declares_const_section, declares_procedure, declares_type, declares_type_section, declares_variable, declares_var_section, end, forms_block, forms_module, listed, more, no_formals, none, one, some_formals, comma_then_name, semicolon_then_section, value_section, variable_section}
use Rattle.ob0_tree.proofs.Mapped.{mapped_twice}
use Rattle.ob0_language_names.specs.MappedNames.{map_names}
use Rattle.ob0_language_names.specs.Names.{Label, Name, naming_by_spelling, as_written, declared, same_name}
use Rattle.ob0_language_names.specs.Occurrences.{IsFreeName, labels_of_occurrences, scopes_in_block, scopes_in_procedure, scopes_in_procedure_list, declares_ordinal, another_declaration_has_name}
use Rattle.ob0_language_names.specs.BlockParts.{constant_names, formal_parameter_names, formal_parameter_sections, names_after_first, declared_type_names, names_in_list, procedure_name, section_constants, parameter_section_names, section_types, section_variables, variable_names}
use Rattle.ob0_language_names.specs.Scopes.{Labelling, Scope, ordinal_after_names, ordinal_after_procedure, label_from_ordinal, body_scope, declare_names, declare_procedure_names, first_procedure_ordinal, first_type_ordinal, first_variable_ordinal, labels_of_declared_names, label_in_scope, ordinal_in_scope, predeclared_scope, scope_before_procedures, relabel_block, relabel_constant_section, relabel_constants, relabel_formals, relabel_names, relabel_procedure, relabel_procedure_list, relabel_parameter_section, relabel_parameter_section_list, relabel_type_section, relabel_types, relabel_uses, relabel_variable_section, relabel_variables, renamed, same_ordinal, scope_before_types, scope_before_variables}
use Rattle.ob0_language_names.proofs.DistinctNames.{new_name}
use Rattle.ob0_language_names.proofs.Relabelled.{constants-section, formals-section, names-relabel, parameter_section_names-relabel, types-section, variables-section}
use Rattle.ob0_language_names.proofs.RenamedDeclarations.{constants-labels, sections-labels, types-labels, variables-labels}
use Rattle.ob0_language_names.proofs.Renaming.{after_listed, ordinal_after_procedure-relabel, after_section, after_sections, first_procedure_ordinal-relabel, first_type_ordinal-relabel, first_variable_ordinal-relabel, names-twice}

same-turned : (x y : Name) → same_name x y ≡ same_name y x
same-turned x y = nat_list_eq_equiv.symm x y

bound_here : (same : Bool) (k : ℕ) (rest : Option ℕ) → same ≡ true → (elim same [ true ↦ Some k | false ↦ rest ]) ≡ Some k
bound_here true k rest e = refl
bound_here false k rest e = absurd (cc)

bound_there : (same : Bool) (k : ℕ) (rest : Option ℕ) → same ≡ false → (elim same [ true ↦ Some k | false ↦ rest ]) ≡ rest
bound_there true k rest e = absurd (cc)
bound_there false k rest e = refl

this_ordinal : (o : Option ℕ) (d : ℕ) → same_ordinal o d ≡ true → o ≡ Some d
this_ordinal None d e = absurd (cc)
this_ordinal (Some j) d e = ap Some (eqb-true j d e)

and-false : (b c : Bool) → c ≡ false → (b && c) ≡ false
and-false true c e = e
and-false false c e = refl

-- Replacing the names of a tree over tokens twice equals a third replacement, if it does so at each
-- token.
module _ (f : ℕ → Name) (g : ℕ → ℕ) (look' keep' : Name → Name) (look keep look₂ keep₂ : Name → Label)
    (looks : (i : ℕ) → look (look' (f i)) ≡ look₂ (f i)) (keeps : (i : ℕ) → keep (keep' (f i)) ≡ keep₂ (f i)) where
  twice : {s : Sort} (t : Tree ℕ s) → map_names look keep (map_names look' keep' (mapped_tree f g t)) ≡ map_names look₂ keep₂ (mapped_tree f g t)
  twice t =
      ap (mapped_leaves look keep (λ n. n)) (mapped_twice look' keep' (λ n. n) f f g t)
      ∙ (mapped_twice look keep (λ n. n) (λ i. look' (f i)) (λ i. keep' (f i)) g t
      ∙ ((λ j. mapped_leaves (λ i. looks i j) (λ i. keeps i j) g t)
      ∙ sym (mapped_twice look₂ keep₂ (λ n. n) f f g t)))

-- f gives the name of each token, which is never the new name of the declaration d. `here` is a
-- scope of the text, and `there` a scope of the text in which d has the new name.
module _ (d : ℕ) (new : Name) (f : ℕ → Name) (g : ℕ → ℕ) (fresh : (i : ℕ) → same_name (f i) new ≡ false) where
  abbrev ren : Labelling Name Name
  ren = new_name d new

  abbrev label : Labelling Name Label
  label = label_from_ordinal naming_by_spelling

  -- holds if the replacement of each name has the same binding as the name
  abbrev Agrees : Scope Name → Scope Name → Type 0
  Agrees there here = (y : Name) → same_name y new ≡ false → ordinal_in_scope naming_by_spelling there (ren (ordinal_in_scope naming_by_spelling here y) y) ≡ ordinal_in_scope naming_by_spelling here y

  abbrev AllNew : List Name → Type 0
  AllNew [] = Unit {0}
  AllNew (x ∷ xs) = (same_name x new ≡ false) × AllNew xs

  all_new-append : (xs ys : List Name) → AllNew xs → AllNew ys → AllNew (xs ++ ys)
  all_new-append [] ys a b = b
  all_new-append (x ∷ xs) ys a b = (a.0, all_new-append xs ys a.1 b)

  -- Declaring one more name in each scope keeps them in agreement.

  step : (there : Scope Name) (x y : Name) (o : Option ℕ) (j k : ℕ) (s e c : Bool) → same_name y x ≡ s → (k == d) ≡ e → same_ordinal o d ≡ c
      → same_name x new ≡ false → same_name y new ≡ false → j ≡ k → ordinal_in_scope naming_by_spelling there (if c then new else y) ≡ o
      → ordinal_in_scope naming_by_spelling ((if e then new else x, j) ∷ there) (if elim s [ true ↦ e | false ↦ c ] then new else y) ≡ elim s [ true ↦ Some k | false ↦ o ]
  step there x y o j k true true c sy ke ce fx fy jk is = bound_here (same_name new new) j _ ((bytes_eq-Decides new new).1 refl) ∙ ap Some jk
  step there x y o j k true false c sy ke ce fx fy jk is = bound_here (same_name y x) j _ sy ∙ ap Some jk
  step there x y o j k false true true sy ke ce fx fy jk is =
      bound_here (same_name new new) j _ ((bytes_eq-Decides new new).1 refl) ∙ (ap Some (jk ∙ eqb-true k d ke) ∙ sym (this_ordinal o d ce))
  step there x y o j k false true false sy ke ce fx fy jk is = bound_there (same_name y new) j _ fy ∙ is
  step there x y o j k false false true sy ke ce fx fy jk is = bound_there (same_name new x) j _ (same-turned new x ∙ fx) ∙ is
  step there x y o j k false false false sy ke ce fx fy jk is = bound_there (same_name y x) j _ sy ∙ is

  ordinal-step : (s : Bool) (k : ℕ) (o : Option ℕ) → same_ordinal (elim s [ true ↦ Some k | false ↦ o ]) d ≡ elim s [ true ↦ k == d | false ↦ same_ordinal o d ]
  ordinal-step true k o = refl
  ordinal-step false k o = refl

  agrees_one : (there here : Scope Name) (x : Name) (j k : ℕ) → same_name x new ≡ false → j ≡ k → Agrees there here → Agrees ((ren (Some k) x, j) ∷ there) ((x, k) ∷ here)
  agrees_one there here x j k fx jk agrees y fy =
      let o = ordinal_in_scope naming_by_spelling here y in
      ap (λ b. ordinal_in_scope naming_by_spelling ((ren (Some k) x, j) ∷ there) (if b then new else y)) (ordinal-step (same_name y x) k o)
      ∙ step there x y o j k (same_name y x) (k == d) (same_ordinal o d) refl refl refl fx fy jk (agrees y fy)

  agrees_names : (xs : List Name) → AllNew xs → (there here : Scope Name) (j k : ℕ) → j ≡ k → Agrees there here → Agrees (declare_names j (labels_of_declared_names ren k xs) there) (declare_names k xs here)
  agrees_names [] all there here j k jk agrees = agrees
  agrees_names (x ∷ xs) all there here j k jk agrees =
      agrees_names xs all.1 ((ren (Some k) x, j) ∷ there) ((x, k) ∷ here) (suc j) (suc k) (ap suc jk) (agrees_one there here x j k all.0 jk agrees)

  -- Declaring the relabelled names of a list keeps the scopes in agreement.
  agrees_listed : (j k : ℕ) → j ≡ k → (xs ys : List Name) → ys ≡ labels_of_declared_names ren k xs → AllNew xs → (there here : Scope Name) → Agrees there here → Agrees (declare_names j ys there) (declare_names k xs here)
  agrees_listed j k jk xs ys e all there here agrees =
      subst (λ zs. Agrees (declare_names j zs there) (declare_names k xs here)) (sym e) (agrees_names xs all there here j k jk agrees)

  -- No name of the text is the new name.

  new_further : (ns : Tree ℕ (items name_after_comma)) → AllNew (names_after_first (mapped_tree f g ns))
  new_further end = tt
  new_further (more (comma_then_name x) ns) = (fresh x, new_further ns)

  new_listed : (ns : Tree ℕ names) → AllNew (names_in_list (mapped_tree f g ns))
  new_listed (listed x ns) = (fresh x, new_further ns)

  new_constants : (cs : Tree ℕ (items constant)) → AllNew (constant_names (mapped_tree f g cs))
  new_constants end = tt
  new_constants (more (declares_constant x e) cs) = (fresh x, new_constants cs)

  new_types : (ts : Tree ℕ (items type_definition)) → AllNew (declared_type_names (mapped_tree f g ts))
  new_types end = tt
  new_types (more (declares_type x t) ts) = (fresh x, new_types ts)

  new_variables : (vs : Tree ℕ (items variable)) → AllNew (variable_names (mapped_tree f g vs))
  new_variables end = tt
  new_variables (more (declares_variable ns t) vs) =
      all_new-append (names_in_list (mapped_tree f g ns)) (variable_names (mapped_tree f g vs)) (new_listed ns) (new_variables vs)

  new_section : (s : Tree ℕ section) → AllNew (parameter_section_names (mapped_tree f g s))
  new_section (value_section ns t) = new_listed ns
  new_section (variable_section ns t) = new_listed ns

  new_sections : (fs : Tree ℕ (items section_after_semicolon)) → AllNew (formal_parameter_names (mapped_tree f g fs))
  new_sections end = tt
  new_sections (more (semicolon_then_section s) fs) =
      all_new-append (parameter_section_names (mapped_tree f g s)) (formal_parameter_names (mapped_tree f g fs)) (new_section s) (new_sections fs)

  new_constant_section : (cs : Tree ℕ (maybe constants)) → AllNew (constant_names (section_constants (mapped_tree f g cs)))
  new_constant_section none = tt
  new_constant_section (one (declares_const_section cs)) = new_constants cs

  new_type_section : (ts : Tree ℕ (maybe type_definitions)) → AllNew (declared_type_names (section_types (mapped_tree f g ts)))
  new_type_section none = tt
  new_type_section (one (declares_type_section ts)) = new_types ts

  new_variable_section : (vs : Tree ℕ (maybe variables)) → AllNew (variable_names (section_variables (mapped_tree f g vs)))
  new_variable_section none = tt
  new_variable_section (one (declares_var_section vs)) = new_variables vs

  new_formals : (fs : Tree ℕ (maybe formals)) → AllNew (formal_parameter_names (formal_parameter_sections (mapped_tree f g fs)))
  new_formals none = tt
  new_formals (one no_formals) = tt
  new_formals (one (some_formals s fs)) = new_sections (more (semicolon_then_section s) fs)

  -- The scopes of a block agree if the scopes before it do.

  agrees_types : (there here : Scope Name) (j k : ℕ) → j ≡ k → Agrees there here → (b : Tree ℕ block)
      → Agrees (scope_before_types j (relabel_block naming_by_spelling ren here k (mapped_tree f g b)) there) (scope_before_types k (mapped_tree f g b) here)
  agrees_types there here j k jk agrees (forms_block (declares cs ts vs ps) statements) =
      agrees_listed j k jk _ _ (ap constant_names (constants-section naming_by_spelling ren here k (mapped_tree f g cs)) ∙ constants-labels naming_by_spelling ren here k (section_constants (mapped_tree f g cs)))
      (new_constant_section cs) there here agrees

  agrees_variables : (there here : Scope Name) (j k : ℕ) → j ≡ k → Agrees there here → (b : Tree ℕ block)
      → Agrees (scope_before_variables j (relabel_block naming_by_spelling ren here k (mapped_tree f g b)) there) (scope_before_variables k (mapped_tree f g b) here)
  agrees_variables there here j k jk agrees (forms_block (declares cs ts vs ps) statements) =
      let b : Tree Name block = mapped_tree f g (forms_block (declares cs ts vs ps) statements) in
      let b' : Tree Name block = relabel_block naming_by_spelling ren here k b in
      agrees_listed (first_type_ordinal j b') (first_type_ordinal k b) (first_type_ordinal-relabel naming_by_spelling ren here j k b jk) _ _
      (ap declared_type_names (types-section naming_by_spelling ren (scope_before_types k b here) (first_type_ordinal k b) (mapped_tree f g ts)) ∙ types-labels naming_by_spelling ren (scope_before_types k b here) (first_type_ordinal k b) (section_types (mapped_tree f g ts)))
      (new_type_section ts) (scope_before_types j b' there) (scope_before_types k b here)
      (agrees_types there here j k jk agrees (forms_block (declares cs ts vs ps) statements))

  agrees_procedures : (there here : Scope Name) (j k : ℕ) → j ≡ k → Agrees there here → (b : Tree ℕ block)
      → Agrees (scope_before_procedures j (relabel_block naming_by_spelling ren here k (mapped_tree f g b)) there) (scope_before_procedures k (mapped_tree f g b) here)
  agrees_procedures there here j k jk agrees (forms_block (declares cs ts vs ps) statements) =
      let b : Tree Name block = mapped_tree f g (forms_block (declares cs ts vs ps) statements) in
      let b' : Tree Name block = relabel_block naming_by_spelling ren here k b in
      agrees_listed (first_variable_ordinal j b') (first_variable_ordinal k b) (first_variable_ordinal-relabel naming_by_spelling ren here j k b jk) _ _
      (ap variable_names (variables-section naming_by_spelling ren (scope_before_variables k b here) (first_variable_ordinal k b) (mapped_tree f g vs))
      ∙ variables-labels naming_by_spelling ren (scope_before_variables k b here) (first_variable_ordinal k b) (section_variables (mapped_tree f g vs)))
      (new_variable_section vs) (scope_before_variables j b' there) (scope_before_variables k b here)
      (agrees_variables there here j k jk agrees (forms_block (declares cs ts vs ps) statements))

  agrees_procedure_names : (visible there here : Scope Name) (j k : ℕ) → j ≡ k → Agrees there here → (ps : Tree ℕ (items procedure))
      → Agrees (declare_procedure_names j (relabel_procedure_list naming_by_spelling ren visible k (mapped_tree f g ps)) there) (declare_procedure_names k (mapped_tree f g ps) here)
  agrees_procedure_names visible there here j k jk agrees end = agrees
  agrees_procedure_names visible there here j k jk agrees (more (declares_procedure x fs b closing) ps) =
      let p : Tree Name (item procedure) = mapped_tree f g (declares_procedure x fs b closing) in
      agrees_procedure_names ((f x, k) ∷ visible) ((ren (Some k) (f x), j) ∷ there) ((f x, k) ∷ here) (ordinal_after_procedure (suc j) (relabel_procedure naming_by_spelling ren visible k p)) (ordinal_after_procedure (suc k) p)
      (ordinal_after_procedure-relabel naming_by_spelling ren visible j k p jk) (agrees_one there here (f x) j k (fresh x) jk agrees) ps

  agrees_body : (there here : Scope Name) (j k : ℕ) → j ≡ k → Agrees there here → (b : Tree ℕ block)
      → Agrees (body_scope j (relabel_block naming_by_spelling ren here k (mapped_tree f g b)) there) (body_scope k (mapped_tree f g b) here)
  agrees_body there here j k jk agrees (forms_block (declares cs ts vs ps) statements) =
      let b : Tree Name block = mapped_tree f g (forms_block (declares cs ts vs ps) statements) in
      let b' : Tree Name block = relabel_block naming_by_spelling ren here k b in
      agrees_procedure_names (scope_before_procedures k b here) (scope_before_procedures j b' there) (scope_before_procedures k b here) (first_procedure_ordinal j b') (first_procedure_ordinal k b) (first_procedure_ordinal-relabel naming_by_spelling ren here j k b jk)
      (agrees_procedures there here j k jk agrees (forms_block (declares cs ts vs ps) statements)) ps

  -- Each relabelled part has the same numbers.

  label-kept : (o : Option ℕ) (x : Name) → label o (ren o x) ≡ label o x
  label-kept None x = refl
  label-kept (Some k) x = refl

  uses_same : (there here : Scope Name) → Agrees there here → {s : Sort} (t : Tree ℕ s)
      → relabel_uses naming_by_spelling label there (relabel_uses naming_by_spelling ren here (mapped_tree f g t)) ≡ relabel_uses naming_by_spelling label here (mapped_tree f g t)
  uses_same there here agrees t =
      twice f g (label_in_scope naming_by_spelling ren here) (ren None) (label_in_scope naming_by_spelling label there) (label None) (label_in_scope naming_by_spelling label here) (label None)
      (λ i. ap (λ o. label o (ren (ordinal_in_scope naming_by_spelling here (f i)) (f i))) (agrees (f i) (fresh i)) ∙ label-kept (ordinal_in_scope naming_by_spelling here (f i)) (f i)) (λ i. refl) t

  constants_same : (there here : Scope Name) (j k : ℕ) → j ≡ k → Agrees there here → (cs : Tree ℕ (items constant))
      → relabel_constants naming_by_spelling label there j (relabel_constants naming_by_spelling ren here k (mapped_tree f g cs)) ≡ relabel_constants naming_by_spelling label here k (mapped_tree f g cs)
  constants_same there here j k jk agrees end = refl
  constants_same there here j k jk agrees (more (declares_constant x e) cs) = λ i.
      more (declares_constant (declared (jk i)) (uses_same there here agrees e i))
      (constants_same ((ren (Some k) (f x), j) ∷ there) ((f x, k) ∷ here) (suc j) (suc k) (ap suc jk) (agrees_one there here (f x) j k (fresh x) jk agrees) cs i)

  types_same : (there here : Scope Name) (j k : ℕ) → j ≡ k → Agrees there here → (ts : Tree ℕ (items type_definition))
      → relabel_types naming_by_spelling label there j (relabel_types naming_by_spelling ren here k (mapped_tree f g ts)) ≡ relabel_types naming_by_spelling label here k (mapped_tree f g ts)
  types_same there here j k jk agrees end = refl
  types_same there here j k jk agrees (more (declares_type x t) ts) = λ i.
      more (declares_type (declared (jk i)) (uses_same there here agrees t i))
      (types_same ((ren (Some k) (f x), j) ∷ there) ((f x, k) ∷ here) (suc j) (suc k) (ap suc jk) (agrees_one there here (f x) j k (fresh x) jk agrees) ts i)

  variables_same : (there here : Scope Name) (j k : ℕ) → j ≡ k → Agrees there here → (vs : Tree ℕ (items variable))
      → relabel_variables naming_by_spelling label there j (relabel_variables naming_by_spelling ren here k (mapped_tree f g vs)) ≡ relabel_variables naming_by_spelling label here k (mapped_tree f g vs)
  variables_same there here j k jk agrees end = refl
  variables_same there here j k jk agrees (more (declares_variable ns t) vs) =
      let ns' : Tree Name names = mapped_tree f g ns in λ i.
      more (declares_variable (names-twice naming_by_spelling ren j k jk ns' i) (uses_same there here agrees t i))
      (variables_same (declare_names j (names_in_list (relabel_names ren k ns')) there) (declare_names k (names_in_list ns') here) (ordinal_after_names j (names_in_list (relabel_names ren k ns'))) (ordinal_after_names k (names_in_list ns'))
      (after_listed ren j k jk ns') (agrees_listed j k jk _ _ (names-relabel ren k ns') (new_listed ns) there here agrees) vs i)

  section_same : (there here : Scope Name) (j k : ℕ) → j ≡ k → Agrees there here → (s : Tree ℕ section)
      → relabel_parameter_section naming_by_spelling label there j (relabel_parameter_section naming_by_spelling ren here k (mapped_tree f g s)) ≡ relabel_parameter_section naming_by_spelling label here k (mapped_tree f g s)
  section_same there here j k jk agrees (value_section ns t) = λ i. value_section (names-twice naming_by_spelling ren j k jk (mapped_tree f g ns) i) (uses_same there here agrees t i)
  section_same there here j k jk agrees (variable_section ns t) = λ i. variable_section (names-twice naming_by_spelling ren j k jk (mapped_tree f g ns) i) (uses_same there here agrees t i)

  sections_same : (there here : Scope Name) (j k : ℕ) → j ≡ k → Agrees there here → (fs : Tree ℕ (items section_after_semicolon))
      → relabel_parameter_section_list naming_by_spelling label there j (relabel_parameter_section_list naming_by_spelling ren here k (mapped_tree f g fs)) ≡ relabel_parameter_section_list naming_by_spelling label here k (mapped_tree f g fs)
  sections_same there here j k jk agrees end = refl
  sections_same there here j k jk agrees (more (semicolon_then_section s) fs) =
      let s' : Tree Name section = mapped_tree f g s in λ i.
      more (semicolon_then_section (section_same there here j k jk agrees s i))
      (sections_same (declare_names j (parameter_section_names (relabel_parameter_section naming_by_spelling ren here k s')) there) (declare_names k (parameter_section_names s') here)
      (ordinal_after_names j (parameter_section_names (relabel_parameter_section naming_by_spelling ren here k s'))) (ordinal_after_names k (parameter_section_names s')) (after_section naming_by_spelling ren here j k jk s')
      (agrees_listed j k jk _ _ (parameter_section_names-relabel naming_by_spelling ren here k s') (new_section s) there here agrees) fs i)

  formals_same : (there here : Scope Name) (j k : ℕ) → j ≡ k → Agrees there here → (fs : Tree ℕ (maybe formals))
      → relabel_formals naming_by_spelling label there j (relabel_formals naming_by_spelling ren here k (mapped_tree f g fs)) ≡ relabel_formals naming_by_spelling label here k (mapped_tree f g fs)
  formals_same there here j k jk agrees none = refl
  formals_same there here j k jk agrees (one no_formals) = refl
  formals_same there here j k jk agrees (one (some_formals s fs)) =
      let s' : Tree Name section = mapped_tree f g s in λ i.
      one (some_formals (section_same there here j k jk agrees s i)
      (sections_same (declare_names j (parameter_section_names (relabel_parameter_section naming_by_spelling ren here k s')) there) (declare_names k (parameter_section_names s') here)
      (ordinal_after_names j (parameter_section_names (relabel_parameter_section naming_by_spelling ren here k s'))) (ordinal_after_names k (parameter_section_names s')) (after_section naming_by_spelling ren here j k jk s')
      (agrees_listed j k jk _ _ (parameter_section_names-relabel naming_by_spelling ren here k s') (new_section s) there here agrees) fs i))

  constant_section_same : (there here : Scope Name) (j k : ℕ) → j ≡ k → Agrees there here → (cs : Tree ℕ (maybe constants))
      → relabel_constant_section naming_by_spelling label there j (relabel_constant_section naming_by_spelling ren here k (mapped_tree f g cs)) ≡ relabel_constant_section naming_by_spelling label here k (mapped_tree f g cs)
  constant_section_same there here j k jk agrees none = refl
  constant_section_same there here j k jk agrees (one (declares_const_section cs)) = λ i. one (declares_const_section (constants_same there here j k jk agrees cs i))

  type_section_same : (there here : Scope Name) (j k : ℕ) → j ≡ k → Agrees there here → (ts : Tree ℕ (maybe type_definitions))
      → relabel_type_section naming_by_spelling label there j (relabel_type_section naming_by_spelling ren here k (mapped_tree f g ts)) ≡ relabel_type_section naming_by_spelling label here k (mapped_tree f g ts)
  type_section_same there here j k jk agrees none = refl
  type_section_same there here j k jk agrees (one (declares_type_section ts)) = λ i. one (declares_type_section (types_same there here j k jk agrees ts i))

  variable_section_same : (there here : Scope Name) (j k : ℕ) → j ≡ k → Agrees there here → (vs : Tree ℕ (maybe variables))
      → relabel_variable_section naming_by_spelling label there j (relabel_variable_section naming_by_spelling ren here k (mapped_tree f g vs)) ≡ relabel_variable_section naming_by_spelling label here k (mapped_tree f g vs)
  variable_section_same there here j k jk agrees none = refl
  variable_section_same there here j k jk agrees (one (declares_var_section vs)) = λ i. one (declares_var_section (variables_same there here j k jk agrees vs i))

  agrees_procedure : (there here : Scope Name) (j k : ℕ) → j ≡ k → Agrees there here → (p : Tree ℕ (item procedure))
      → Agrees ((procedure_name (relabel_procedure naming_by_spelling ren here k (mapped_tree f g p)), j) ∷ there) ((procedure_name (mapped_tree f g p), k) ∷ here)
  agrees_procedure there here j k jk agrees (declares_procedure x fs b closing) = agrees_one there here (f x) j k (fresh x) jk agrees

  mutual
    block_same : (there here : Scope Name) (j k : ℕ) → j ≡ k → Agrees there here → (b : Tree ℕ block)
        → relabel_block naming_by_spelling label there j (relabel_block naming_by_spelling ren here k (mapped_tree f g b)) ≡ relabel_block naming_by_spelling label here k (mapped_tree f g b)
    block_same there here j k jk agrees (forms_block (declares cs ts vs ps) statements) =
        let b₀ : Tree ℕ block = forms_block (declares cs ts vs ps) statements in
        let b : Tree Name block = mapped_tree f g b₀ in
        let b' : Tree Name block = relabel_block naming_by_spelling ren here k b in λ i.
        forms_block
        (declares (constant_section_same there here j k jk agrees cs i)
        (type_section_same (scope_before_types j b' there) (scope_before_types k b here) (first_type_ordinal j b') (first_type_ordinal k b) (first_type_ordinal-relabel naming_by_spelling ren here j k b jk) (agrees_types there here j k jk agrees b₀) ts i)
        (variable_section_same (scope_before_variables j b' there) (scope_before_variables k b here) (first_variable_ordinal j b') (first_variable_ordinal k b) (first_variable_ordinal-relabel naming_by_spelling ren here j k b jk) (agrees_variables there here j k jk agrees b₀) vs i)
        (procedures_same (scope_before_procedures j b' there) (scope_before_procedures k b here) (first_procedure_ordinal j b') (first_procedure_ordinal k b) (first_procedure_ordinal-relabel naming_by_spelling ren here j k b jk) (agrees_procedures there here j k jk agrees b₀) ps i))
        (uses_same (body_scope j b' there) (body_scope k b here) (agrees_body there here j k jk agrees b₀) statements i)

    procedures_same : (there here : Scope Name) (j k : ℕ) → j ≡ k → Agrees there here → (ps : Tree ℕ (items procedure))
        → relabel_procedure_list naming_by_spelling label there j (relabel_procedure_list naming_by_spelling ren here k (mapped_tree f g ps)) ≡ relabel_procedure_list naming_by_spelling label here k (mapped_tree f g ps)
    procedures_same there here j k jk agrees end = refl
    procedures_same there here j k jk agrees (more p₀ ps) =
        let p : Tree Name (item procedure) = mapped_tree f g p₀ in
        let p' : Tree Name (item procedure) = relabel_procedure naming_by_spelling ren here k p in λ i.
        more (procedure_same there here j k jk agrees p₀ i)
        (procedures_same ((procedure_name p', j) ∷ there) ((procedure_name p, k) ∷ here) (ordinal_after_procedure (suc j) p') (ordinal_after_procedure (suc k) p)
        (ordinal_after_procedure-relabel naming_by_spelling ren here j k p jk) (agrees_procedure there here j k jk agrees p₀) ps i)

    procedure_same : (there here : Scope Name) (j k : ℕ) → j ≡ k → Agrees there here → (p : Tree ℕ (item procedure))
        → relabel_procedure naming_by_spelling label there j (relabel_procedure naming_by_spelling ren here k (mapped_tree f g p)) ≡ relabel_procedure naming_by_spelling label here k (mapped_tree f g p)
    procedure_same there here j k jk agrees (declares_procedure x fs b closing) =
        let fs₁ : Tree Name (maybe formals) = mapped_tree f g fs in
        let own : List Name = formal_parameter_names (formal_parameter_sections fs₁) in
        let fs' : Tree Name (maybe formals) = relabel_formals naming_by_spelling ren here (suc k) fs₁ in
        let own' : List Name = formal_parameter_names (formal_parameter_sections fs') in
        let labelled : own' ≡ labels_of_declared_names ren (suc k) own = ap formal_parameter_names (formals-section naming_by_spelling ren here (suc k) fs₁) ∙ sections-labels naming_by_spelling ren here (suc k) (formal_parameter_sections fs₁) in
        let after : ordinal_after_names (suc j) own' ≡ ordinal_after_names (suc k) own =
        ap (λ l. ordinal_after_names (suc j) (formal_parameter_names l)) (formals-section naming_by_spelling ren here (suc k) fs₁) ∙ after_sections naming_by_spelling ren here (suc j) (suc k) (formal_parameter_sections fs₁) (ap suc jk) in λ i.
        declares_procedure (declared (jk i)) (formals_same there here (suc j) (suc k) (ap suc jk) agrees fs i)
        (block_same (declare_names (suc j) own' ((ren (Some k) (f x), j) ∷ there)) (declare_names (suc k) own ((f x, k) ∷ here)) (ordinal_after_names (suc j) own') (ordinal_after_names (suc k) own) after
        (agrees_listed (suc j) (suc k) (ap suc jk) _ _ labelled (new_formals fs) ((ren (Some k) (f x), j) ∷ there) ((f x, k) ∷ here) (agrees_one there here (f x) j k (fresh x) jk agrees)) b i)
        (declared (jk i))

  -- The predeclared names keep their bindings if the declaration isn't one of them.

  abbrev Others : Scope Name → Type 0
  Others [] = Unit {0}
  Others (b ∷ scope) = ((b.1 == d) ≡ false) × Others scope

  bound_to_others : (scope : Scope Name) → Others scope → (y : Name) → same_ordinal (ordinal_in_scope naming_by_spelling scope y) d ≡ false
  bound_to_others [] others y = refl
  bound_to_others (b ∷ scope) others y = first (same_name y b.0) (bound_to_others scope others.1 y)
    where
      first : (s : Bool) → same_ordinal (ordinal_in_scope naming_by_spelling scope y) d ≡ false → same_ordinal (elim s [ true ↦ Some b.1 | false ↦ ordinal_in_scope naming_by_spelling scope y ]) d ≡ false
      first true rest = others.0
      first false rest = rest

  other_scope : 7 ≤ d → Others (predeclared_scope naming_by_spelling)
  other_scope h =
      let other : (n : ℕ) → n ≤ 6 → (n == d) ≡ false = λ n m. ne_eqb n d (λ e. omega (arith, e, h, m)) in
      (other 6 (omega arith), (other 5 (omega arith), (other 4 (omega arith), (other 3 (omega arith), (other 2 (omega arith), (other 1 (omega arith), (other 0 (omega arith), tt)))))))

  agrees_predeclared : 7 ≤ d → Agrees (predeclared_scope naming_by_spelling) (predeclared_scope naming_by_spelling)
  agrees_predeclared h y fy =
      ap (λ b. ordinal_in_scope naming_by_spelling (predeclared_scope naming_by_spelling) (if b then new else y)) (bound_to_others (predeclared_scope naming_by_spelling) (other_scope h) y)

  bindings_same : 7 ≤ d → (m : Tree ℕ module_text) → labels_of_occurrences (renamed (mapped_tree f g m) d new) ≡ labels_of_occurrences (mapped_tree f g m)
  bindings_same h (forms_module x b closing) =
      let scope : Scope Name = predeclared_scope naming_by_spelling in
      ap occurrences (λ i. forms_module (as_written (f x)) (block_same scope scope 7 7 refl (agrees_predeclared h) b i) (as_written (f closing)))

  -- holds if no other declaration has the name

  abbrev NewScope : Scope Name → Type 0
  NewScope [] = Unit {0}
  NewScope (b ∷ scope) = (same_name b.0 new ≡ false) × NewScope scope

  none_named : (own : Scope Name) → NewScope own → another_declaration_has_name own d new ≡ false
  none_named [] all = refl
  none_named (b ∷ own) all = λ i. (all.0 i && not (b.1 == d)) || none_named own all.1 i

  new_names : (k : ℕ) (xs : List Name) (scope : Scope Name) → AllNew xs → NewScope scope → NewScope (declare_names k xs scope)
  new_names k [] scope all others = others
  new_names k (x ∷ xs) scope all others = new_names (suc k) xs ((x, k) ∷ scope) all.1 (all.0, others)

  new_procedures : (k : ℕ) (ps : Tree ℕ (items procedure)) (scope : Scope Name) → NewScope scope → NewScope (declare_procedure_names k (mapped_tree f g ps) scope)
  new_procedures k end scope others = others
  new_procedures k (more (declares_procedure x fs b closing) ps) scope others =
      new_procedures (ordinal_after_procedure (suc k) (mapped_tree f g (declares_procedure x fs b closing))) ps ((f x, k) ∷ scope) (fresh x, others)

  abbrev clashes : Scope Name → Bool
  clashes own = declares_ordinal own d && another_declaration_has_name own d new

  mutual
    no_clash-block : (k : ℕ) (own : Scope Name) → NewScope own → (b : Tree ℕ block) → list_any clashes (scopes_in_block k own (mapped_tree f g b)) ≡ false
    no_clash-block k own others (forms_block (declares cs ts vs ps) statements) =
        let b : Tree Name block = mapped_tree f g (forms_block (declares cs ts vs ps) statements) in
        let mine : NewScope (body_scope k b own) =
        new_procedures (first_procedure_ordinal k b) ps (scope_before_procedures k b own)
        (new_names (first_variable_ordinal k b) (variable_names (section_variables (mapped_tree f g vs))) (scope_before_variables k b own) (new_variable_section vs)
        (new_names (first_type_ordinal k b) (declared_type_names (section_types (mapped_tree f g ts))) (scope_before_types k b own) (new_type_section ts)
        (new_names k (constant_names (section_constants (mapped_tree f g cs))) own (new_constant_section cs) others))) in λ i.
        and-false (declares_ordinal (body_scope k b own) d) _ (none_named (body_scope k b own) mine) i || no_clash-procedures (first_procedure_ordinal k b) ps i

    no_clash-procedures : (k : ℕ) (ps : Tree ℕ (items procedure)) → list_any clashes (scopes_in_procedure_list k (mapped_tree f g ps)) ≡ false
    no_clash-procedures k end = refl
    no_clash-procedures k (more (declares_procedure x fs b closing) ps) =
        let p : Tree Name (item procedure) = mapped_tree f g (declares_procedure x fs b closing) in
        list_any-append clashes (scopes_in_procedure (suc k) p) (scopes_in_procedure_list (ordinal_after_procedure (suc k) p) (mapped_tree f g ps))
        ∙ (λ i. no_clash-block (ordinal_after_names (suc k) (formal_parameter_names (formal_parameter_sections (mapped_tree f g fs)))) (declare_names (suc k) (formal_parameter_names (formal_parameter_sections (mapped_tree f g fs))) []) (new_names (suc k) (formal_parameter_names (formal_parameter_sections (mapped_tree f g fs))) [] (new_formals fs) tt) b i
        || no_clash-procedures (ordinal_after_procedure (suc k) p) ps i)

  -- A name that no token has is free.
  pub new_is_free : 7 ≤ d → (m : Tree ℕ module_text) → IsFreeName (mapped_tree f g m) d new
  new_is_free h (forms_module x b closing) = (no_clash-block 7 [] tt b, bindings_same h (forms_module x b closing))
