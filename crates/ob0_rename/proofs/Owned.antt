-- Proves which tokens of a module's text declare names, and which names they declare.
use Rattle.std.proofs.Common.{◌≡◌, ℕ, zero, suc, ◌+◌, ◌-◌, ◌≤◌, ◌<◌, Bool, true, false, if◌then◌else◌, Option, Some, None, List, [], ◌∷◌, ◌++◌, length, map, slice_get, get_or, nat_lt, option_map, refl, sym, ap, ◌∙◌, subst, arith}
use Rattle.std.proofs.lemmas.Bool.{ltb-false, ltb-true}
use Rattle.std.proofs.lemmas.List.{length-map, map-append}
use Rattle.std.proofs.lemmas.Option.{slice_get-get_or}
use Rattle.std.proofs.lemmas.Slice.Eq.{bytes_eq-Decides}
use Rattle.ob0_tree.specs.ParsedModule.{ParsedModule, named_tree_of, tree_of}
use Rattle.ob0_tree.specs.TokenIndexLeaves.{token_text_at, token_value_at}
use Rattle.ob0_tree.specs.Tree.{Tree, identifiers, mapped_tree, block, declares, declares_procedure, end, forms_block, item, items, more, one, procedure}
use Rattle.ob0_tree.specs.declared.tree.Role.TheVariants as role
use Rattle.ob0_language_names.specs.ConsistentNames.{has_consistent_names}
use Rattle.ob0_language_names.specs.Names.{Name, same_name}
use Rattle.ob0_language_names.specs.Occurrences.{IsFreeName}
use Rattle.ob0_language_names.specs.BlockParts.{constant_names, formal_parameter_names, formal_parameter_sections, module_block, declared_type_names, section_constants, section_types, section_variables, variable_names}
use Rattle.ob0_language_types.proofs.Literals.{some_inverse}
use Rattle.ob0_scope.specs.Renames.{namesake_ordinal}
use Rattle.ob0_scope_table.specs.Resolution.{declaring_names}
use Rattle.ob0_language_names.specs.Scopes.{ordinal_after_block, renamed}
use Rattle.ob0_rename.specs.Renaming.{declaring_token, declaration_has_name}
use Rattle.ob0_scope_table.proofs.Declared.{after_count, after_names_in, module_declared, names_in, names_in_procedure, names_in_procedures}
use Rattle.ob0_scope.proofs.Searched.{constant_section-with, formals-with, map-append₄, type_section-with, variable_section-with}
use Rattle.ob0_rename.proofs.Kept.{AreSo, same_module, so_where}
use Rattle.ob0_rename.proofs.Unrefused.{OneWithin, namesake_within, own_name_free}

-- Mapping the leaves of a tree maps the names that it declares.

module _ {N M : Type 0} (f : N → M) (g : ℕ → ℕ) where
  mutual
    block_with : (b : Tree N block) → names_in (mapped_tree f g b) ≡ map f (names_in b)
    block_with (forms_block (declares cs ts vs ps) statements) =
        (λ i. constant_section-with f g cs i ++ (type_section-with f g ts i ++ (variable_section-with f g vs i ++ procedures_with ps i)))
        ∙ map-append₄ f (constant_names (section_constants cs)) (declared_type_names (section_types ts)) (variable_names (section_variables vs)) (names_in_procedures ps)

    procedures_with : (ps : Tree N (items procedure)) → names_in_procedures (mapped_tree f g ps) ≡ map f (names_in_procedures ps)
    procedures_with end = refl
    procedures_with (more p rest) = (λ i. procedure_with p i ++ procedures_with rest i) ∙ sym (map-append f (names_in_procedure p) (names_in_procedures rest))

    procedure_with : (p : Tree N (item procedure)) → names_in_procedure (mapped_tree f g p) ≡ map f (names_in_procedure p)
    procedure_with (declares_procedure x fs b closing) =
        ap (λ xs. f x ∷ xs) ((λ i. formals-with f g fs i ++ block_with b i) ∙ sym (map-append f (formal_parameter_names (formal_parameter_sections fs)) (names_in b)))

-- the tokens of the declared names, and these names

abbrev pub declaring_tokens : ParsedModule → List ℕ
declaring_tokens m = declaring_names (identifiers role.DeclaringName (tree_of m))

module _ (m : ParsedModule) where
  names_there : names_in (module_block (named_tree_of m)) ≡ map (token_text_at m.source) (declaring_tokens m)
  names_there = block_with (token_text_at m.source) (token_value_at m.source) (module_block (tree_of m)) ∙ ap (map (token_text_at m.source)) (sym (module_declared (tree_of m)))

  token_of : (ordinal token : ℕ) → declaring_token m ordinal ≡ Some token → (7 ≤ ordinal) × (slice_get (declaring_tokens m) (ordinal - 7) ≡ Some token)
  token_of ordinal token e = one (nat_lt ordinal 7) refl e
    where
      one : (b : Bool) → nat_lt ordinal 7 ≡ b → (if b then None else slice_get (declaring_tokens m) (ordinal - 7)) ≡ Some token → (7 ≤ ordinal) × (slice_get (declaring_tokens m) (ordinal - 7) ≡ Some token)
      one true low e = absurd (cc)
      one false low e = (ltb-false ordinal 7 low, e)

  module _ (d : ℕ) (new : Name) where
    pub record IsDeclaredBy (token : ℕ) : Type 0 where
      pub ordinal : 7 ≤ d
      pub there : slice_get (declaring_tokens m) (d - 7) ≡ Some token
      pub written : token_text_at m.source token ≡ new

    pub declared_by : declaration_has_name m d new ≡ true → (token : ℕ) × IsDeclaredBy token
    declared_by e = one (declaring_token m d) refl e
      where
        one : (o : Option ℕ) → declaring_token m d ≡ o → (elim o [ Some token ↦ same_name (token_text_at m.source token) new | None ↦ false ]) ≡ true → (token : ℕ) × IsDeclaredBy token
        one (Some token) is e = let at = token_of d token is in (token, record { ordinal = at.0; there = at.1; written = (bytes_eq-Decides (token_text_at m.source token) new).0 e })
        one None is e = absurd (cc)

    slice_get_map : (xs : List ℕ) (j : ℕ) → slice_get (map (token_text_at m.source) xs) j ≡ option_map (token_text_at m.source) (slice_get xs j)
    slice_get_map [] j = refl
    slice_get_map (x ∷ xs) zero = refl
    slice_get_map (x ∷ xs) (suc j) = slice_get_map xs j

    all_so : declaration_has_name m d new ≡ true → AreSo d new 7 (names_in (module_block (named_tree_of m)))
    all_so e =
        let found = declared_by e in
        let by : IsDeclaredBy found.0 = found.1 in
        so_where d new 7 (names_in (module_block (named_tree_of m))) (λ j x here count.
        let index : d - 7 ≡ j = omega (arith, count) in
        let got : slice_get (map (token_text_at m.source) (declaring_tokens m)) j ≡ Some new =
        slice_get_map (declaring_tokens m) j ∙ (ap (λ n. option_map (token_text_at m.source) (slice_get (declaring_tokens m) n)) (sym index) ∙ (ap (option_map (token_text_at m.source)) by.there ∙ ap Some by.written)) in
        some_inverse (sym here ∙ (ap (λ xs. slice_get xs j) names_there ∙ got)))

    -- Renaming a declaration to its own name leaves the module unchanged.
    pub own_module : declaration_has_name m d new ≡ true → has_consistent_names (named_tree_of m) ≡ true → renamed (named_tree_of m) d new ≡ named_tree_of m
    own_module e once = let found = declared_by e in same_module d new (named_tree_of m) found.1.ordinal (all_so e) once

    pub own_free : declaration_has_name m d new ≡ true → has_consistent_names (named_tree_of m) ≡ true → IsFreeName (named_tree_of m) d new
    own_free e once = let found = declared_by e in own_name_free d new (named_tree_of m) found.1.ordinal (all_so e) once

    -- Another declaration of a block has a declaring token.
    pub other_is_declared : (other : ℕ) → namesake_ordinal (named_tree_of m) d new ≡ Some other → (token : ℕ) × (declaring_token m other ≡ Some token)
    other_is_declared other e =
        let ds = declaring_tokens m in
        let within = subst (OneWithin 7 (ordinal_after_block 7 (module_block (named_tree_of m)))) e (namesake_within (named_tree_of m) d new) in
        let count : ordinal_after_block 7 (module_block (named_tree_of m)) ≡ 7 + length ds =
        after_names_in 7 (module_block (named_tree_of m)) ∙ (after_count 7 (names_in (module_block (named_tree_of m))) ∙ (ap (λ xs. 7 + length xs) names_there ∙ ap (λ n. 7 + n) (length-map ds (token_text_at m.source)))) in
        let high : other - 7 < length ds = omega (arith, within.0, within.1, count) in
        (get_or ds (other - 7) 0, (ap (λ (b : Bool). if b then None else slice_get ds (other - 7)) (at_least other within.0) ∙ slice_get-get_or ds (other - 7) 0 high))
      where
        at_least : (k : ℕ) → 7 ≤ k → nat_lt k 7 ≡ false
        at_least k h = false_below (nat_lt k 7) refl
          where
            false_below : (b : Bool) → nat_lt k 7 ≡ b → nat_lt k 7 ≡ false
            false_below true e = absurd (omega (arith, h, ltb-true k 7 e))
            false_below false e = e
