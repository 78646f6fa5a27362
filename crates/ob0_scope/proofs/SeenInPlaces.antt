-- Proves that the bindings that one name would have in place of each occurrence are its bindings if
-- it replaces all occurrences. `number` visits the text with the name at each occurrence. Labels
-- without names (`forget`) make the trees comparable by their occurrences only, so no walk over
-- expressions and statements is needed.
use Rattle.std.proofs.Common.{◌≡◌, ◌≢◌, ℕ, suc, ◌+◌, ◌<◌, ◌≤◌, Option, Some, None, List, [], ◌∷◌, ◌++◌, map, length, replicate, set, refl, sym, ap, ◌∙◌, subst, arith, le_refl, get_or-set_other, get_or-set_same, true, false, if◌then◌else◌, nat_lt, option_and_then, option_map, slice_get}
use Rattle.std.proofs.Math.ListN.{length-set}
use Rattle.std.proofs.lemmas.Bool.{ltb-true, ltb-false}
use Rattle.std.proofs.lemmas.Option.{slice_get-map}
use Rattle.std.proofs.lemmas.List.{get_or_past, get_or-replicate, length-replicate}
use Rattle.ob0_scan.specs.TextWithTokens.{TextWithTokens}
use Rattle.ob0_tree.proofs.Leaves.{leaves_ascend, ascending_lower}
use Rattle.ob0_tree.proofs.Occurring.{looked_up_only, looked_up-occurrences}
use Rattle.ob0_tree.specs.declared.tree.Role.{Role}
use Rattle.ob0_tree.specs.declared.tree.Role.TheVariants as role
use Rattle.ob0_tree.specs.IdentifierIndexes.{AreAscendingWithin, names_without_roles}
use Rattle.ob0_tree.specs.ParsedModule.{named_tree_of, tree_of}
use Rattle.ob0_tree.specs.TokenIndexLeaves.{token_text_at, token_value_at}
use Rattle.ob0_tree.specs.Tree.{Sort, Tree, mapped_tree, occurrences, identifiers, block, constant, constants, declares, declares_constant, declares_const_section, declares_procedure, declares_type, declares_type_section, declares_variable, declares_var_section, end, formals, name_after_comma, section_after_semicolon, forms_block, forms_module, item, items, listed, maybe, module_text, more, names, no_formals, none, one, procedure, section, some_formals, comma_then_name, semicolon_then_section, type_definition, type_definitions, value_section, variable, variable_section, variables}
use Rattle.ob0_language_names.specs.Names.{Label, Name, Naming, naming_by_spelling, same_name}
use Rattle.ob0_language_names.specs.Occurrences.{label_ordinal}
use Rattle.ob0_language_names.specs.BlockParts.{constant_names, formal_parameter_names, formal_parameter_sections, names_after_first, declared_type_names, names_in_list, procedure_name, section_constants, parameter_section_names, section_types, section_variables, variable_names}
use Rattle.ob0_scope_table.specs.Resolution.{IsResolution, Resolution, ordinal_in}
use Rattle.ob0_language_names.specs.Scopes.{Labelling, Scope, ordinal_after_block, ordinal_after_names, ordinal_after_procedure, ordinal_after_procedure_list, label_from_ordinal, declare_names, declare_procedure_names, label_in_scope, ordinal_in_scope, predeclared_scope, relabel_block, relabel_constant_section, relabel_constants, relabel_formals, relabel_procedure, relabel_procedure_list, relabel_parameter_section, relabel_parameter_section_list, relabel_type_section, relabel_types, relabel_uses, relabel_variable_section, relabel_variables, relabel_module, same_ordinal}
use Rattle.ob0_language_names.specs.OccurrenceLookup.{naming_that_looks_up_one_name, resolve_name_at_each_occurrence, resolve_name_at_occurrence}
use Rattle.ob0_scope_numbering.specs.OrdinalMarks.{zero_mark_at_token}
use Rattle.ob0_scope_numbering.specs.OrdinalMarks.{table_with_marks}
use Rattle.ob0_scope_numbering.specs.MarkWalk.{WalkState, initial_walk_state}
use Rattle.ob0_scope_numbering.specs.IdentifierWalk.{visit_module}
use Rattle.ob0_scope_numbering.specs.IdentifierSpellings.{Spellings, spelling_at_token}
use Rattle.ob0_scope.proofs.Fused.{relabel_module-mapped_tree}
use Rattle.ob0_language_names.proofs.OccurrencesMapped.{occurrences-mapped}
use Rattle.ob0_scope_numbering.proofs.Passing.{at_start, module_passed, tokens_of}
use Rattle.ob0_scope_numbering.proofs.Tables.{kept_below, marks_in_table}

-- holds if f gives the spelling y to a looked-up identifier, and the text's spelling h to any other
abbrev NamesakeSearch : Name → (ℕ → Name) → (ℕ → Name) → Role → ℕ → Type 0
NamesakeSearch y f h role.LookedUpName i = f i ≡ y
NamesakeSearch y f h role.DeclaringName i = f i ≡ h i
NamesakeSearch y f h role.ClosingName i = f i ≡ h i
NamesakeSearch y f h role.FieldName i = f i ≡ h i
NamesakeSearch y f h role.ModuleName i = f i ≡ h i

abbrev AllSought : Name → (ℕ → Name) → (ℕ → Name) → List (Role × ℕ) → Type 0
AllSought y f h [] = Unit {0}
AllSought y f h (x ∷ xs) = NamesakeSearch y f h x.0 x.1 × AllSought y f h xs

split : (y : Name) (f h : ℕ → Name) (xs ys : List (Role × ℕ)) → AllSought y f h (xs ++ ys) → AllSought y f h xs × AllSought y f h ys
split y f h [] ys a = (tt, a)
split y f h (x ∷ xs) ys a = let rest = split y f h xs ys a.1 in ((a.0, rest.0), rest.1)

abbrev AllWritten : Name → (ℕ → Name) → List ℕ → Type 0
AllWritten y f [] = Unit {0}
AllWritten y f (i ∷ is) = (f i ≡ y) × AllWritten y f is

looked_up-written : (y : Name) (f h : ℕ → Name) (xs : List (Role × ℕ)) → AllSought y f h xs → AllWritten y f (looked_up_only xs)
looked_up-written y f h [] a = tt
looked_up-written y f h ((role.LookedUpName, i) ∷ xs) a = (a.0, looked_up-written y f h xs a.1)
looked_up-written y f h ((role.DeclaringName, i) ∷ xs) a = looked_up-written y f h xs a.1
looked_up-written y f h ((role.ClosingName, i) ∷ xs) a = looked_up-written y f h xs a.1
looked_up-written y f h ((role.FieldName, i) ∷ xs) a = looked_up-written y f h xs a.1
looked_up-written y f h ((role.ModuleName, i) ∷ xs) a = looked_up-written y f h xs a.1

-- labels that have only ordinals, and no names
abbrev forget : {N : Type 0} → Labelling N (Option ℕ)
forget ordinal x = ordinal

looked : (y : Name) (scope : Scope Name) (x : Name) → ordinal_in_scope naming_by_spelling scope y ≡ ordinal_in_scope (naming_that_looks_up_one_name y) scope x
looked y [] x = refl
looked y (b ∷ scope) x =
    elim (same_name y b.0) as (λ v. (elim v [ true ↦ Some b.1 | false ↦ ordinal_in_scope naming_by_spelling scope y ]) ≡ (elim v [ true ↦ Some b.1 | false ↦ ordinal_in_scope (naming_that_looks_up_one_name y) scope x ]))
    [ true ↦ refl | false ↦ looked y scope x ]

module _ (y : Name) (f h : ℕ → Name) (g : ℕ → ℕ) where
  names_alike : (scope : Scope Name) (is : List ℕ) → AllWritten y f is → map (label_in_scope naming_by_spelling forget scope) (map f is) ≡ map (label_in_scope (naming_that_looks_up_one_name y) forget scope) (map h is)
  names_alike scope [] a = refl
  names_alike scope (i ∷ is) a = λ j. (ap (ordinal_in_scope naming_by_spelling scope) a.0 ∙ looked y scope (h i)) j ∷ names_alike scope is a.1 j

  uses_alike : {s : Sort} (r : Role) → ((n : ℕ) (xs : List (Role × ℕ)) → looked_up_only ((r, n) ∷ xs) ≡ looked_up_only xs) → (scope : Scope Name) (t : Tree ℕ s) → AllSought y f h (identifiers r t)
      → occurrences (relabel_uses naming_by_spelling forget scope (mapped_tree f g t)) ≡ occurrences (relabel_uses (naming_that_looks_up_one_name y) forget scope (mapped_tree h g t))
  uses_alike r other scope t a =
      let written = subst (AllWritten y f) (looked_up-occurrences r other t) (looked_up-written y f h (identifiers r t) a) in
      occurrences-mapped (label_in_scope naming_by_spelling forget scope) (forget None) (λ n. n) (mapped_tree f g t)
      ∙ (ap (map (label_in_scope naming_by_spelling forget scope)) (occurrences-mapped f f g t)
      ∙ (names_alike scope (occurrences t) written
      ∙ (sym (ap (map (label_in_scope (naming_that_looks_up_one_name y) forget scope)) (occurrences-mapped h h g t))
      ∙ sym (occurrences-mapped (label_in_scope (naming_that_looks_up_one_name y) forget scope) (forget None) (λ n. n) (mapped_tree h g t)))))

  part_alike : {s : Sort} (scope : Scope Name) (t : Tree ℕ s) → AllSought y f h (identifiers role.DeclaringName t)
      → occurrences (relabel_uses naming_by_spelling forget scope (mapped_tree f g t)) ≡ occurrences (relabel_uses (naming_that_looks_up_one_name y) forget scope (mapped_tree h g t))
  part_alike scope t a = uses_alike role.DeclaringName (λ n xs. refl) scope t a

  -- The declared names are the names of the text.
  further_same : (ns : Tree ℕ (items name_after_comma)) → AllSought y f h (identifiers role.DeclaringName ns) → names_after_first (mapped_tree f g ns) ≡ names_after_first (mapped_tree h g ns)
  further_same end a = refl
  further_same (more (comma_then_name x) rest) a = λ i. a.0 i ∷ further_same rest a.1 i

  names_same : (ns : Tree ℕ names) → AllSought y f h (identifiers role.DeclaringName ns) → names_in_list (mapped_tree f g ns) ≡ names_in_list (mapped_tree h g ns)
  names_same (listed x rest) a = λ i. a.0 i ∷ further_same rest a.1 i

  constants_same : (cs : Tree ℕ (items constant)) → AllSought y f h (identifiers role.DeclaringName cs) → constant_names (mapped_tree f g cs) ≡ constant_names (mapped_tree h g cs)
  constants_same end a = refl
  constants_same (more (declares_constant x e) cs) a =
      let b = split y f h ((role.DeclaringName, x) ∷ identifiers role.DeclaringName e) (identifiers role.DeclaringName cs) a in
      λ i. b.0.0 i ∷ constants_same cs b.1 i

  types_same : (ts : Tree ℕ (items type_definition)) → AllSought y f h (identifiers role.DeclaringName ts) → declared_type_names (mapped_tree f g ts) ≡ declared_type_names (mapped_tree h g ts)
  types_same end a = refl
  types_same (more (declares_type x t) ts) a =
      let b = split y f h ((role.DeclaringName, x) ∷ identifiers role.DeclaringName t) (identifiers role.DeclaringName ts) a in
      λ i. b.0.0 i ∷ types_same ts b.1 i

  variables_same : (gs : Tree ℕ (items variable)) → AllSought y f h (identifiers role.DeclaringName gs) → variable_names (mapped_tree f g gs) ≡ variable_names (mapped_tree h g gs)
  variables_same end a = refl
  variables_same (more (declares_variable ns t) gs) a =
      let b = split y f h (identifiers role.DeclaringName ns ++ identifiers role.DeclaringName t) (identifiers role.DeclaringName gs) a in
      let c = split y f h (identifiers role.DeclaringName ns) (identifiers role.DeclaringName t) b.0 in
      λ i. names_same ns c.0 i ++ variables_same gs b.1 i

  section_same : (s : Tree ℕ section) → AllSought y f h (identifiers role.DeclaringName s) → parameter_section_names (mapped_tree f g s) ≡ parameter_section_names (mapped_tree h g s)
  section_same (value_section ns t) a = names_same ns (split y f h (identifiers role.DeclaringName ns) (identifiers role.DeclaringName t) a).0
  section_same (variable_section ns t) a = names_same ns (split y f h (identifiers role.DeclaringName ns) (identifiers role.DeclaringName t) a).0

  sections_same : (fs : Tree ℕ (items section_after_semicolon)) → AllSought y f h (identifiers role.DeclaringName fs) → formal_parameter_names (mapped_tree f g fs) ≡ formal_parameter_names (mapped_tree h g fs)
  sections_same end a = refl
  sections_same (more (semicolon_then_section s) fs) a =
      let b = split y f h (identifiers role.DeclaringName s) (identifiers role.DeclaringName fs) a in
      λ i. section_same s b.0 i ++ sections_same fs b.1 i

  formals_same : (fs : Tree ℕ (maybe formals)) → AllSought y f h (identifiers role.DeclaringName fs) → formal_parameter_names (formal_parameter_sections (mapped_tree f g fs)) ≡ formal_parameter_names (formal_parameter_sections (mapped_tree h g fs))
  formals_same none a = refl
  formals_same (one no_formals) a = refl
  formals_same (one (some_formals s fs)) a = sections_same (more (semicolon_then_section s) fs) a

  constant_section_same : (cs : Tree ℕ (maybe constants)) → AllSought y f h (identifiers role.DeclaringName cs) → constant_names (section_constants (mapped_tree f g cs)) ≡ constant_names (section_constants (mapped_tree h g cs))
  constant_section_same none a = refl
  constant_section_same (one (declares_const_section cs)) a = constants_same cs a

  type_section_same : (ts : Tree ℕ (maybe type_definitions)) → AllSought y f h (identifiers role.DeclaringName ts) → declared_type_names (section_types (mapped_tree f g ts)) ≡ declared_type_names (section_types (mapped_tree h g ts))
  type_section_same none a = refl
  type_section_same (one (declares_type_section ts)) a = types_same ts a

  variable_section_same : (vs : Tree ℕ (maybe variables)) → AllSought y f h (identifiers role.DeclaringName vs) → variable_names (section_variables (mapped_tree f g vs)) ≡ variable_names (section_variables (mapped_tree h g vs))
  variable_section_same none a = refl
  variable_section_same (one (declares_var_section vs)) a = variables_same vs a

  -- states a property of all parts of a block's or a procedure's identifiers
  record OfBlock (cs ts vs ps statements : List (Role × ℕ)) : Type 0 where
    constants_are : AllSought y f h cs
    types_are : AllSought y f h ts
    variables_are : AllSought y f h vs
    procedures_are : AllSought y f h ps
    statements_are : AllSought y f h statements

  of_block : (cs ts vs ps statements : List (Role × ℕ)) → AllSought y f h ((cs ++ (ts ++ (vs ++ ps))) ++ statements) → OfBlock cs ts vs ps statements
  of_block cs ts vs ps statements a =
      let b = split y f h (cs ++ (ts ++ (vs ++ ps))) statements a in
      let c = split y f h cs (ts ++ (vs ++ ps)) b.0 in
      let d = split y f h ts (vs ++ ps) c.1 in
      let e = split y f h vs ps d.1 in
      record { constants_are = c.0; types_are = d.0; variables_are = e.0; procedures_are = e.1; statements_are = b.1 }

  record OfProcedure (x : ℕ) (fs b : List (Role × ℕ)) : Type 0 where
    name_is : f x ≡ h x
    formals_are : AllSought y f h fs
    block_is : AllSought y f h b

  of_procedure : (x closing : ℕ) (fs b : List (Role × ℕ)) → AllSought y f h ((role.DeclaringName, x) ∷ (fs ++ (b ++ ((role.ClosingName, closing) ∷ [])))) → OfProcedure x fs b
  of_procedure x closing fs b a =
      let c = split y f h fs (b ++ ((role.ClosingName, closing) ∷ [])) a.1 in
      let d = split y f h b ((role.ClosingName, closing) ∷ []) c.1 in
      record { name_is = a.0; formals_are = c.0; block_is = d.0 }

  mutual
    after_block_same : (k : ℕ) (b : Tree ℕ block) → AllSought y f h (identifiers role.DeclaringName b) → ordinal_after_block k (mapped_tree f g b) ≡ ordinal_after_block k (mapped_tree h g b)
    after_block_same k (forms_block (declares cs ts vs ps) statements) a =
        let o = of_block (identifiers role.DeclaringName cs) (identifiers role.DeclaringName ts) (identifiers role.DeclaringName vs) (identifiers role.DeclaringName ps) (identifiers role.DeclaringName statements) a in
        ap (λ n. ordinal_after_procedure_list n (mapped_tree f g ps))
        (λ i. ordinal_after_names (ordinal_after_names (ordinal_after_names k (constant_section_same cs o.constants_are i)) (type_section_same ts o.types_are i)) (variable_section_same vs o.variables_are i))
        ∙ after_procedures_same _ ps o.procedures_are

    after_procedures_same : (k : ℕ) (ps : Tree ℕ (items procedure)) → AllSought y f h (identifiers role.DeclaringName ps) → ordinal_after_procedure_list k (mapped_tree f g ps) ≡ ordinal_after_procedure_list k (mapped_tree h g ps)
    after_procedures_same k end a = refl
    after_procedures_same k (more p rest) a =
        let b = split y f h (identifiers role.DeclaringName p) (identifiers role.DeclaringName rest) a in
        ap (λ n. ordinal_after_procedure_list n (mapped_tree f g rest)) (after_procedure_same (suc k) p b.0) ∙ after_procedures_same _ rest b.1

    after_procedure_same : (k : ℕ) (p : Tree ℕ (item procedure)) → AllSought y f h (identifiers role.DeclaringName p) → ordinal_after_procedure k (mapped_tree f g p) ≡ ordinal_after_procedure k (mapped_tree h g p)
    after_procedure_same k (declares_procedure x fs b closing) a =
        let o = of_procedure x closing (identifiers role.DeclaringName fs) (identifiers role.DeclaringName b) a in
        ap (λ xs. ordinal_after_block (ordinal_after_names k xs) (mapped_tree f g b)) (formals_same fs o.formals_are) ∙ after_block_same _ b o.block_is

  procedure_same : (p : Tree ℕ (item procedure)) → AllSought y f h (identifiers role.DeclaringName p) → procedure_name (mapped_tree f g p) ≡ procedure_name (mapped_tree h g p)
  procedure_same (declares_procedure x fs b closing) a = a.0

  procedures_declared : (k : ℕ) (ps : Tree ℕ (items procedure)) (scope : Scope Name) → AllSought y f h (identifiers role.DeclaringName ps) → declare_procedure_names k (mapped_tree f g ps) scope ≡ declare_procedure_names k (mapped_tree h g ps) scope
  procedures_declared k end scope a = refl
  procedures_declared k (more p rest) scope a =
      let b = split y f h (identifiers role.DeclaringName p) (identifiers role.DeclaringName rest) a in
      (λ i. declare_procedure_names (after_procedure_same (suc k) p b.0 i) (mapped_tree f g rest) ((procedure_same p b.0 i, k) ∷ scope))
      ∙ procedures_declared (ordinal_after_procedure (suc k) (mapped_tree h g p)) rest ((procedure_name (mapped_tree h g p), k) ∷ scope) b.1

  -- Each occurrence of a part has the same ordinal in both.
  constants_alike : (scope : Scope Name) (k : ℕ) (cs : Tree ℕ (items constant)) → AllSought y f h (identifiers role.DeclaringName cs)
      → occurrences (relabel_constants naming_by_spelling forget scope k (mapped_tree f g cs)) ≡ occurrences (relabel_constants (naming_that_looks_up_one_name y) forget scope k (mapped_tree h g cs))
  constants_alike scope k end a = refl
  constants_alike scope k (more (declares_constant x e) cs) a =
      let b = split y f h ((role.DeclaringName, x) ∷ identifiers role.DeclaringName e) (identifiers role.DeclaringName cs) a in
      λ i. part_alike scope e b.0.1 i ++ (ap (λ z. occurrences (relabel_constants naming_by_spelling forget ((z, k) ∷ scope) (suc k) (mapped_tree f g cs))) b.0.0 ∙ constants_alike ((h x, k) ∷ scope) (suc k) cs b.1) i

  types_alike : (scope : Scope Name) (k : ℕ) (ts : Tree ℕ (items type_definition)) → AllSought y f h (identifiers role.DeclaringName ts)
      → occurrences (relabel_types naming_by_spelling forget scope k (mapped_tree f g ts)) ≡ occurrences (relabel_types (naming_that_looks_up_one_name y) forget scope k (mapped_tree h g ts))
  types_alike scope k end a = refl
  types_alike scope k (more (declares_type x t) ts) a =
      let b = split y f h ((role.DeclaringName, x) ∷ identifiers role.DeclaringName t) (identifiers role.DeclaringName ts) a in
      λ i. part_alike scope t b.0.1 i ++ (ap (λ z. occurrences (relabel_types naming_by_spelling forget ((z, k) ∷ scope) (suc k) (mapped_tree f g ts))) b.0.0 ∙ types_alike ((h x, k) ∷ scope) (suc k) ts b.1) i

  variables_alike : (scope : Scope Name) (k : ℕ) (gs : Tree ℕ (items variable)) → AllSought y f h (identifiers role.DeclaringName gs)
      → occurrences (relabel_variables naming_by_spelling forget scope k (mapped_tree f g gs)) ≡ occurrences (relabel_variables (naming_that_looks_up_one_name y) forget scope k (mapped_tree h g gs))
  variables_alike scope k end a = refl
  variables_alike scope k (more (declares_variable ns t) gs) a =
      let b = split y f h (identifiers role.DeclaringName ns ++ identifiers role.DeclaringName t) (identifiers role.DeclaringName gs) a in
      let c = split y f h (identifiers role.DeclaringName ns) (identifiers role.DeclaringName t) b.0 in
      λ i. part_alike scope t c.1 i
      ++ (ap (λ xs. occurrences (relabel_variables naming_by_spelling forget (declare_names k xs scope) (ordinal_after_names k xs) (mapped_tree f g gs))) (names_same ns c.0) ∙ variables_alike (declare_names k (names_in_list (mapped_tree h g ns)) scope) (ordinal_after_names k (names_in_list (mapped_tree h g ns))) gs b.1) i

  section_alike : (scope : Scope Name) (k : ℕ) (s : Tree ℕ section) → AllSought y f h (identifiers role.DeclaringName s)
      → occurrences (relabel_parameter_section naming_by_spelling forget scope k (mapped_tree f g s)) ≡ occurrences (relabel_parameter_section (naming_that_looks_up_one_name y) forget scope k (mapped_tree h g s))
  section_alike scope k (value_section ns t) a = part_alike scope t (split y f h (identifiers role.DeclaringName ns) (identifiers role.DeclaringName t) a).1
  section_alike scope k (variable_section ns t) a = part_alike scope t (split y f h (identifiers role.DeclaringName ns) (identifiers role.DeclaringName t) a).1

  sections_alike : (scope : Scope Name) (k : ℕ) (fs : Tree ℕ (items section_after_semicolon)) → AllSought y f h (identifiers role.DeclaringName fs)
      → occurrences (relabel_parameter_section_list naming_by_spelling forget scope k (mapped_tree f g fs)) ≡ occurrences (relabel_parameter_section_list (naming_that_looks_up_one_name y) forget scope k (mapped_tree h g fs))
  sections_alike scope k end a = refl
  sections_alike scope k (more (semicolon_then_section s) fs) a =
      let b = split y f h (identifiers role.DeclaringName s) (identifiers role.DeclaringName fs) a in
      λ i. section_alike scope k s b.0 i
      ++ (ap (λ xs. occurrences (relabel_parameter_section_list naming_by_spelling forget (declare_names k xs scope) (ordinal_after_names k xs) (mapped_tree f g fs))) (section_same s b.0) ∙ sections_alike (declare_names k (parameter_section_names (mapped_tree h g s)) scope) (ordinal_after_names k (parameter_section_names (mapped_tree h g s))) fs b.1) i

  formals_alike : (scope : Scope Name) (k : ℕ) (fs : Tree ℕ (maybe formals)) → AllSought y f h (identifiers role.DeclaringName fs)
      → occurrences (relabel_formals naming_by_spelling forget scope k (mapped_tree f g fs)) ≡ occurrences (relabel_formals (naming_that_looks_up_one_name y) forget scope k (mapped_tree h g fs))
  formals_alike scope k none a = refl
  formals_alike scope k (one no_formals) a = refl
  formals_alike scope k (one (some_formals s fs)) a = sections_alike scope k (more (semicolon_then_section s) fs) a

  constant_section_alike : (scope : Scope Name) (k : ℕ) (cs : Tree ℕ (maybe constants)) → AllSought y f h (identifiers role.DeclaringName cs)
      → occurrences (relabel_constant_section naming_by_spelling forget scope k (mapped_tree f g cs)) ≡ occurrences (relabel_constant_section (naming_that_looks_up_one_name y) forget scope k (mapped_tree h g cs))
  constant_section_alike scope k none a = refl
  constant_section_alike scope k (one (declares_const_section cs)) a = constants_alike scope k cs a

  type_section_alike : (scope : Scope Name) (k : ℕ) (ts : Tree ℕ (maybe type_definitions)) → AllSought y f h (identifiers role.DeclaringName ts)
      → occurrences (relabel_type_section naming_by_spelling forget scope k (mapped_tree f g ts)) ≡ occurrences (relabel_type_section (naming_that_looks_up_one_name y) forget scope k (mapped_tree h g ts))
  type_section_alike scope k none a = refl
  type_section_alike scope k (one (declares_type_section ts)) a = types_alike scope k ts a

  variable_section_alike : (scope : Scope Name) (k : ℕ) (vs : Tree ℕ (maybe variables)) → AllSought y f h (identifiers role.DeclaringName vs)
      → occurrences (relabel_variable_section naming_by_spelling forget scope k (mapped_tree f g vs)) ≡ occurrences (relabel_variable_section (naming_that_looks_up_one_name y) forget scope k (mapped_tree h g vs))
  variable_section_alike scope k none a = refl
  variable_section_alike scope k (one (declares_var_section vs)) a = variables_alike scope k vs a

  mutual
    block_alike : (scope : Scope Name) (k : ℕ) (b : Tree ℕ block) → AllSought y f h (identifiers role.DeclaringName b)
        → occurrences (relabel_block naming_by_spelling forget scope k (mapped_tree f g b)) ≡ occurrences (relabel_block (naming_that_looks_up_one_name y) forget scope k (mapped_tree h g b))
    block_alike scope k (forms_block (declares cs ts vs ps) statements) a =
        let o = of_block (identifiers role.DeclaringName cs) (identifiers role.DeclaringName ts) (identifiers role.DeclaringName vs) (identifiers role.DeclaringName ps) (identifiers role.DeclaringName statements) a in
        let xs = constant_section_same cs o.constants_are in
        let ys = type_section_same ts o.types_are in
        let zs = variable_section_same vs o.variables_are in
        λ i.
        (constant_section_alike scope k cs o.constants_are i
        ++ ((ap (λ l. occurrences (relabel_type_section naming_by_spelling forget (declare_names k l scope) (ordinal_after_names k l) (mapped_tree f g ts))) xs ∙ type_section_alike _ _ ts o.types_are) i
        ++ (((λ j. occurrences (relabel_variable_section naming_by_spelling forget (declare_names (ordinal_after_names k (xs j)) (ys j) (declare_names k (xs j) scope)) (ordinal_after_names (ordinal_after_names k (xs j)) (ys j)) (mapped_tree f g vs))) ∙ variable_section_alike _ _ vs o.variables_are) i
        ++ ((λ j. occurrences (relabel_procedure_list naming_by_spelling forget (declare_names (ordinal_after_names (ordinal_after_names k (xs j)) (ys j)) (zs j) (declare_names (ordinal_after_names k (xs j)) (ys j) (declare_names k (xs j) scope))) (ordinal_after_names (ordinal_after_names (ordinal_after_names k (xs j)) (ys j)) (zs j)) (mapped_tree f g ps)))
        ∙ procedures_alike _ _ ps o.procedures_are) i)))
        ++ ((λ j. occurrences (relabel_uses naming_by_spelling forget (declare_procedure_names (ordinal_after_names (ordinal_after_names (ordinal_after_names k (xs j)) (ys j)) (zs j)) (mapped_tree f g ps) (declare_names (ordinal_after_names (ordinal_after_names k (xs j)) (ys j)) (zs j) (declare_names (ordinal_after_names k (xs j)) (ys j) (declare_names k (xs j) scope)))) (mapped_tree f g statements)))
        ∙ (ap (λ sc. occurrences (relabel_uses naming_by_spelling forget sc (mapped_tree f g statements))) (procedures_declared _ ps _ o.procedures_are) ∙ part_alike _ statements o.statements_are)) i

    procedures_alike : (scope : Scope Name) (k : ℕ) (ps : Tree ℕ (items procedure)) → AllSought y f h (identifiers role.DeclaringName ps)
        → occurrences (relabel_procedure_list naming_by_spelling forget scope k (mapped_tree f g ps)) ≡ occurrences (relabel_procedure_list (naming_that_looks_up_one_name y) forget scope k (mapped_tree h g ps))
    procedures_alike scope k end a = refl
    procedures_alike scope k (more p rest) a =
        let b = split y f h (identifiers role.DeclaringName p) (identifiers role.DeclaringName rest) a in
        λ i. procedure_alike scope k p b.0 i
        ++ ((λ j. occurrences (relabel_procedure_list naming_by_spelling forget ((procedure_same p b.0 j, k) ∷ scope) (after_procedure_same (suc k) p b.0 j) (mapped_tree f g rest))) ∙ procedures_alike ((procedure_name (mapped_tree h g p), k) ∷ scope) (ordinal_after_procedure (suc k) (mapped_tree h g p)) rest b.1) i

    procedure_alike : (scope : Scope Name) (k : ℕ) (p : Tree ℕ (item procedure)) → AllSought y f h (identifiers role.DeclaringName p)
        → occurrences (relabel_procedure naming_by_spelling forget scope k (mapped_tree f g p)) ≡ occurrences (relabel_procedure (naming_that_looks_up_one_name y) forget scope k (mapped_tree h g p))
    procedure_alike scope k (declares_procedure x fs b closing) a =
        let o = of_procedure x closing (identifiers role.DeclaringName fs) (identifiers role.DeclaringName b) a in
        let xs = formals_same fs o.formals_are in
        λ i. formals_alike scope (suc k) fs o.formals_are i
        ++ ((λ j. occurrences (relabel_block naming_by_spelling forget (declare_names (suc k) (xs j) ((o.name_is j, k) ∷ scope)) (ordinal_after_names (suc k) (xs j)) (mapped_tree f g b))) ∙ block_alike _ _ b o.block_is) i

  module_alike : (m : Tree ℕ module_text) → AllSought y f h (identifiers role.DeclaringName m) → occurrences (relabel_module naming_by_spelling forget (mapped_tree f g m)) ≡ occurrences (relabel_module (naming_that_looks_up_one_name y) forget (mapped_tree h g m))
  module_alike (forms_module x b closing) a =
      block_alike (predeclared_scope naming_by_spelling) 7 b (split y f h (identifiers role.DeclaringName b) ((role.ModuleName, closing) ∷ []) a.1).0

-- Labels without names are the ordinals of labels with names.
forgotten : (naming : Naming Name) (m : Tree Name module_text) → occurrences (relabel_module naming forget m) ≡ map label_ordinal (occurrences (relabel_module naming (label_from_ordinal naming) m))
forgotten naming m =
    ap (λ (l : Labelling Name (Option ℕ)). occurrences (relabel_module naming l m)) (λ i o x. sym (back o x) i)
    ∙ (ap occurrences (relabel_module-mapped_tree naming label_ordinal (label_from_ordinal naming) m) ∙ occurrences-mapped label_ordinal label_ordinal (λ n. n) (relabel_module naming (label_from_ordinal naming) m))
  where
    back : (o : Option ℕ) (x : Name) → label_ordinal (label_from_ordinal naming o x) ≡ o
    back None x = refl
    back (Some k) x = refl

-- holds if the table of the occurrences has ordinal 0 at an occurrence, and None at any other
-- identifier
abbrev pub IsMarked : List (Option ℕ) → Role → ℕ → Type 0
IsMarked table role.LookedUpName i = ordinal_in table i ≡ Some 0
IsMarked table role.DeclaringName i = ordinal_in table i ≡ None
IsMarked table role.ClosingName i = ordinal_in table i ≡ None
IsMarked table role.FieldName i = ordinal_in table i ≡ None
IsMarked table role.ModuleName i = ordinal_in table i ≡ None

abbrev pub AllMarked : List (Option ℕ) → List (Role × ℕ) → Type 0
AllMarked table [] = Unit {0}
AllMarked table (x ∷ xs) = IsMarked table x.0 x.1 × AllMarked table xs

skipped : (low i high : ℕ) (xs : List ℕ) → low ≤ i → AreAscendingWithin (i + 1) xs high → AreAscendingWithin low xs high
skipped low i high xs le a = ascending_lower low (i + 1) xs high (omega (arith, le)) a

fewer : (low high : ℕ) (xs : List (Role × ℕ)) → AreAscendingWithin low (names_without_roles xs) high → AreAscendingWithin low (tokens_of (map zero_mark_at_token (looked_up_only xs))) high
fewer low high [] a = a
fewer low high ((role.LookedUpName, i) ∷ xs) a = (a.0, fewer (i + 1) high xs a.1)
fewer low high ((role.DeclaringName, i) ∷ xs) a = skipped low i high _ a.0 (fewer (i + 1) high xs a.1)
fewer low high ((role.ClosingName, i) ∷ xs) a = skipped low i high _ a.0 (fewer (i + 1) high xs a.1)
fewer low high ((role.FieldName, i) ∷ xs) a = skipped low i high _ a.0 (fewer (i + 1) high xs a.1)
fewer low high ((role.ModuleName, i) ∷ xs) a = skipped low i high _ a.0 (fewer (i + 1) high xs a.1)

ends_above : (low : ℕ) (xs : List ℕ) (high : ℕ) → AreAscendingWithin low xs high → low ≤ high
ends_above low [] high a = a
ends_above low (x ∷ xs) high a = let later = ends_above (x + 1) xs high a.1 in omega (arith, a.0, later)

emptier : (low i : ℕ) (table : List (Option ℕ)) → low ≤ i → ((j : ℕ) → low ≤ j → ordinal_in table j ≡ None) → (j : ℕ) → i + 1 ≤ j → ordinal_in table j ≡ None
emptier low i table le empty j above = empty j (omega (arith, le, above))

other_is_at : (low high i : ℕ) (xs : List (Role × ℕ)) (table : List (Option ℕ)) → low ≤ i → AreAscendingWithin (i + 1) (names_without_roles xs) high → ((j : ℕ) → low ≤ j → ordinal_in table j ≡ None)
    → ordinal_in (table_with_marks table (map zero_mark_at_token (looked_up_only xs))) i ≡ None
other_is_at low high i xs table le a empty =
    let here : i < i + 1 = omega arith in
    kept_below (map zero_mark_at_token (looked_up_only xs)) table (i + 1) high i (fewer (i + 1) high xs a) here ∙ empty i le

all_reported : (low high : ℕ) (xs : List (Role × ℕ)) (table : List (Option ℕ)) → AreAscendingWithin low (names_without_roles xs) high → high ≤ length table → ((i : ℕ) → low ≤ i → ordinal_in table i ≡ None)
    → AllMarked (table_with_marks table (map zero_mark_at_token (looked_up_only xs))) xs
all_reported low high [] table a within empty = tt
all_reported low high ((role.LookedUpName, i) ∷ xs) table a within empty =
    let next : List (Option ℕ) = set table i (Some 0) in
    let here : i < i + 1 = omega arith in
    let last = ends_above (i + 1) (names_without_roles xs) high a.1 in
    let inside : i < length table = omega (arith, last, within) in
    let still : high ≤ length next = subst (λ n. high ≤ n) (sym (length-set table i (Some 0))) within in (
      kept_below (map zero_mark_at_token (looked_up_only xs)) next (i + 1) high i (fewer (i + 1) high xs a.1) here ∙ get_or-set_same table i (Some 0) None inside,
      all_reported (i + 1) high xs next a.1 still (λ j above. let other : j ≢ i = omega (arith, above) in get_or-set_other table i j (Some 0) None other ∙ empty j (omega (arith, a.0, above))),
    )
all_reported low high ((role.DeclaringName, i) ∷ xs) table a within empty = (other_is_at low high i xs table a.0 a.1 empty, all_reported (i + 1) high xs table a.1 within (emptier low i table a.0 empty))
all_reported low high ((role.ClosingName, i) ∷ xs) table a within empty = (other_is_at low high i xs table a.0 a.1 empty, all_reported (i + 1) high xs table a.1 within (emptier low i table a.0 empty))
all_reported low high ((role.FieldName, i) ∷ xs) table a within empty = (other_is_at low high i xs table a.0 a.1 empty, all_reported (i + 1) high xs table a.1 within (emptier low i table a.0 empty))
all_reported low high ((role.ModuleName, i) ∷ xs) table a within empty = (other_is_at low high i xs table a.0 a.1 empty, all_reported (i + 1) high xs table a.1 within (emptier low i table a.0 empty))

nothing_there : (n i : ℕ) → ordinal_in (replicate n None) i ≡ None
nothing_there n i =
    let none : Option ℕ = None in
    (elim (nat_lt i n) as (λ b. nat_lt i n ≡ b → ordinal_in (replicate n None) i ≡ None) [
      | true ↦ (λ e. get_or-replicate n i none none (ltb-true i n e))
      | false ↦ (λ e. let past : n ≤ i = ltb-false i n e in get_or_past (replicate n none) i none (subst (λ l. l ≤ i) (sym (length-replicate n none)) past))
    ]) refl

-- returns the table that has ordinal 0 at each occurrence of a module
abbrev pub occurrence_table : Resolution → List (Option ℕ)
occurrence_table r = table_with_marks (replicate (length r.module_read.source.tokens) None) (map zero_mark_at_token r.uses)

pub uses_reported : (r : Resolution) → IsResolution r → AllMarked (occurrence_table r) (identifiers role.DeclaringName (tree_of r.module_read))
uses_reported r is =
    let m = r.module_read in
    let ids = identifiers role.DeclaringName (tree_of m) in
    let count = length m.source.tokens in
    let none : Option ℕ = None in
    let long : count ≤ length (replicate count none) = subst (λ n. count ≤ n) (sym (length-replicate count none)) (le_refl count) in
    let found : looked_up_only ids ≡ r.uses = looked_up-occurrences role.DeclaringName (λ n xs. refl) (tree_of m) ∙ sym is.occurring in
    let reported = all_reported 0 count ids (replicate count none) (leaves_ascend m is.parsed) long (λ i le. nothing_there count i) in
    subst (λ (t : List (Option ℕ)). AllMarked t ids) (ap (λ us. table_with_marks (replicate count none) (map zero_mark_at_token us)) found) reported

-- The identifiers have the sought spellings.
all_sought : (source : TextWithTokens) (table : List (Option ℕ)) (y : Name) (xs : List (Role × ℕ)) → AllMarked table xs
    → AllSought y (spelling_at_token (record { source = source; ordinals = table; declaration = Some 0; new = y })) (token_text_at source) xs
all_sought source table y [] a = tt
all_sought source table y ((role.LookedUpName, i) ∷ xs) a = (ap (λ o. if same_ordinal o 0 then y else token_text_at source i) a.0, all_sought source table y xs a.1)
all_sought source table y ((role.DeclaringName, i) ∷ xs) a = (ap (λ o. if same_ordinal o 0 then y else token_text_at source i) a.0, all_sought source table y xs a.1)
all_sought source table y ((role.ClosingName, i) ∷ xs) a = (ap (λ o. if same_ordinal o 0 then y else token_text_at source i) a.0, all_sought source table y xs a.1)
all_sought source table y ((role.FieldName, i) ∷ xs) a = (ap (λ o. if same_ordinal o 0 then y else token_text_at source i) a.0, all_sought source table y xs a.1)
all_sought source table y ((role.ModuleName, i) ∷ xs) a = (ap (λ o. if same_ordinal o 0 then y else token_text_at source i) a.0, all_sought source table y xs a.1)

-- Visiting a module with one name at all occurrences gives the bindings of that name in place of
-- each.
pub seen_in_places : (r : Resolution) (y : Name) (v : WalkState) (sought ordinals : List (Option ℕ)) → IsResolution r → sought ≡ table_with_marks (replicate (length r.module_read.source.tokens) None) (map zero_mark_at_token r.uses)
    → v ≡ visit_module (tree_of r.module_read) (initial_walk_state (record { source = r.module_read.source; ordinals = sought; declaration = Some 0; new = y }))
    → ordinals ≡ table_with_marks (replicate (length r.module_read.source.tokens) None) v.marks → map (ordinal_in ordinals) r.uses ≡ resolve_name_at_each_occurrence (named_tree_of r.module_read) y
seen_in_places r y v sought ordinals is table gone tabled =
    let m = r.module_read in
    let w : Spellings = record { source = m.source; ordinals = sought; declaration = Some 0; new = y } in
    let ids = identifiers role.DeclaringName (tree_of m) in
    let passed = module_passed (ordinal_in ordinals) forget w (tree_of m) (initial_walk_state w) (at_start w) in
    let agree = (passed.agree (marks_in_table m w v ordinals is.parsed gone tabled)).1 in
    let reported_so : AllMarked sought ids = subst (λ (t : List (Option ℕ)). AllMarked t ids) (sym table) (uses_reported r is) in
    ap (map (ordinal_in ordinals)) is.occurring
    ∙ (sym (occurrences-mapped (ordinal_in ordinals) (ordinal_in ordinals) (token_value_at m.source) (tree_of m))
    ∙ (sym (ap occurrences agree)
    ∙ (module_alike y (spelling_at_token w) (token_text_at m.source) (token_value_at m.source) (tree_of m) (all_sought m.source sought y ids reported_so)
    ∙ forgotten (naming_that_looks_up_one_name y) (named_tree_of m))))

-- Each entry of the list is the binding of the name in that place.
pub sees_entry : (m : Tree Name module_text) (y : Name) (k : ℕ) → option_and_then (λ o. o) (slice_get (resolve_name_at_each_occurrence m y) k) ≡ resolve_name_at_occurrence m k y
sees_entry m y k =
    let ls = occurrences (relabel_module (naming_that_looks_up_one_name y) (label_from_ordinal (naming_that_looks_up_one_name y)) m) in
    ap (option_and_then (λ o. o)) (slice_get-map label_ordinal ls k) ∙ back (slice_get ls k)
  where
    back : (found : Option Label) → option_and_then (λ o. o) (option_map label_ordinal found) ≡ option_and_then label_ordinal found
    back None = refl
    back (Some l) = refl
