-- Proves that if the statements of one body were replaced or changed, names are declared once
-- exactly if they were before. A body declares nothing.
use Rattle.std.proofs.Common.{◌≡◌, ℕ, zero, suc, Bool, true, false, not, ◌&&◌, ◌||◌, List, [], ◌∷◌, ◌++◌, refl, sym, ap, ◌∙◌}
use Rattle.std.specs.List.{list_any}
use Rattle.ob0_scan.specs.declared.tokens.CommonPrefixAndSuffix.{CommonPrefixAndSuffix}
use Rattle.ob0_scan.specs.TextWithTokens.{TextWithTokens}
use Rattle.ob0_tree.specs.ParsedModule.{TreeMatchesText, ParsedModule, named_tree_of, tree_of}
use Rattle.ob0_tree.specs.TokenIndexLeaves.{tree_with_names, token_text_at, token_value_at}
use Rattle.ob0_tree.specs.Tree.{Tree, block, declares, declares_procedure, end, forms_block, forms_module, item, items, module_text, more, procedure}
use Rattle.ob0_language_names.specs.ConsistentNames.{are_distinct, block_has_consistent_names, has_consistent_names, formals_have_distinct_fields, procedure_names, procedure_has_consistent_names, procedure_list_has_consistent_names, types_have_distinct_fields, variables_have_distinct_fields}
use Rattle.ob0_language_names.specs.Names.{Name, same_name}
use Rattle.ob0_language_names.specs.BlockParts.{constant_names, formal_parameter_names, formal_parameter_sections, declared_type_names, procedure_name, section_constants, section_types, section_variables, variable_names}
use Rattle.ob0_scope_table.specs.BodyReplacement.{ReplacesStatementsOfOneBody, PathToBody, block_without_body, procedure_without_body, procedure_list_without_body, path_to_body_in_module, module_without_body}
use Rattle.ob0_scope_table.specs.DuplicatesAndEndNames.{declaration_faults}
use Rattle.ob0_scope_table.specs.SpellingChangesInOneBody.{ChangesSpellingsInOneBody}
use Rattle.ob0_scope_table.specs.Resolution.{is_duplicate_or_end_name_fault}
use Rattle.ob0_scope_table.specs.declared.faults.FaultAtTokens.{FaultAtTokens}
use Rattle.ob0_scope_table.proofs.BodyReplacement.{names_outside, without_mapped}
use Rattle.ob0_scope.proofs.BodyChanges.{names_kept}
use Rattle.ob0_scope.proofs.TwiceOnce.{twice_alone, twice_where}
use Rattle.ob0_scope.proofs.WithoutRelabelled.{name_without}

-- ---- a module without a body

names_without : (k : ℕ) (path : PathToBody) (ps : Tree Name (items procedure)) → procedure_names (procedure_list_without_body k path ps) ≡ procedure_names ps
names_without zero path end = refl
names_without (suc k) path end = refl
names_without zero path (more p ps) = ap (λ x. x ∷ procedure_names ps) (name_without path p)
names_without (suc k) path (more p ps) = ap (λ l. procedure_name p ∷ l) (names_without k path ps)

mutual
  block_without_once : (path : PathToBody) (own : List Name) (b : Tree Name block) → block_has_consistent_names own (block_without_body path b) ≡ block_has_consistent_names own b
  block_without_once [] own (forms_block (declares cs ts vs ps) statements) = refl
  block_without_once (k ∷ path) own (forms_block (declares cs ts vs ps) statements) =
      λ i. are_distinct (own ++ (constant_names (section_constants cs) ++ (declared_type_names (section_types ts) ++ (variable_names (section_variables vs) ++ names_without k path ps i))))
      && (types_have_distinct_fields (section_types ts) && (variables_have_distinct_fields (section_variables vs) && procedures_without_once k path ps i))

  procedures_without_once : (k : ℕ) (path : PathToBody) (ps : Tree Name (items procedure)) → procedure_list_has_consistent_names (procedure_list_without_body k path ps) ≡ procedure_list_has_consistent_names ps
  procedures_without_once zero path end = refl
  procedures_without_once (suc k) path end = refl
  procedures_without_once zero path (more p ps) = ap (λ b. b && procedure_list_has_consistent_names ps) (procedure_without_once path p)
  procedures_without_once (suc k) path (more p ps) = ap (λ b. procedure_has_consistent_names p && b) (procedures_without_once k path ps)

  procedure_without_once : (path : PathToBody) (p : Tree Name (item procedure)) → procedure_has_consistent_names (procedure_without_body path p) ≡ procedure_has_consistent_names p
  procedure_without_once path (declares_procedure x fs b closing) =
      ap (λ c. same_name x closing && (formals_have_distinct_fields (formal_parameter_sections fs) && c)) (block_without_once path (formal_parameter_names (formal_parameter_sections fs)) b)

once_without : (path : PathToBody) (t : Tree Name module_text) → has_consistent_names (module_without_body path t) ≡ has_consistent_names t
once_without path (forms_module x b closing) = ap (λ c. same_name x closing && c) (block_without_once path [] b)

-- Two trees that are the same without a body agree on whether names are declared once.
once_outside : (path : PathToBody) (a b : TextWithTokens) (s t : Tree ℕ module_text) → tree_with_names a (module_without_body path s) ≡ tree_with_names b (module_without_body path t) → has_consistent_names (tree_with_names a s) ≡ has_consistent_names (tree_with_names b t)
once_outside path a b s t same =
    sym (once_without path (tree_with_names a s))
    ∙ (ap has_consistent_names (without_mapped (token_text_at a) (token_value_at a) path s ∙ (same ∙ sym (without_mapped (token_text_at b) (token_value_at b) path t))) ∙ once_without path (tree_with_names b t))

-- ---- both modules

pub still_once : (old new : ParsedModule) (path : PathToBody) (s : CommonPrefixAndSuffix) → ReplacesStatementsOfOneBody old new path s → has_consistent_names (named_tree_of new) ≡ has_consistent_names (named_tree_of old)
still_once old new path s r = once_outside path new.source old.source (tree_of new) (tree_of old) (names_outside old new path s r)

pub still_once_written : (old : TextWithTokens) (m : ParsedModule) (low high : ℕ) → TreeMatchesText m → ChangesSpellingsInOneBody old m low high → has_consistent_names (named_tree_of m) ≡ has_consistent_names (tree_with_names old (tree_of m))
still_once_written old m low high parsed change = once_outside (path_to_body_in_module low (tree_of m)) m.source old (tree_of m) (tree_of m) (names_kept old m low high parsed change)

-- ---- the reported faults

nothing_left : (fs : List FaultAtTokens) → list_any is_duplicate_or_end_name_fault fs ≡ false → list_any (λ f. not (is_duplicate_or_end_name_fault f)) fs ≡ false → fs ≡ []
nothing_left [] e h = refl
nothing_left (f ∷ fs) e h = absurd (one (is_duplicate_or_end_name_fault f) e h)
  where
    one : (b : Bool) → (b || list_any is_duplicate_or_end_name_fault fs) ≡ false → (not b || list_any (λ f. not (is_duplicate_or_end_name_fault f)) fs) ≡ false → ⊥
    one true e h = absurd (cc)
    one false e h = absurd (cc)

-- A module has no fault of declarations if `known` has none. The list has one exactly if the module
-- does.
pub nothing_twice : (m : ParsedModule) (known : List FaultAtTokens) → list_any is_duplicate_or_end_name_fault known ≡ not (has_consistent_names (named_tree_of m)) → list_any is_duplicate_or_end_name_fault known ≡ false → declaration_faults m ≡ []
nothing_twice m known e h = nothing_left (declaration_faults m) (twice_where m ∙ (sym e ∙ h)) (twice_alone m)
