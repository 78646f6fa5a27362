-- Proves that faults of declarations are reported exactly if a name is declared twice or a closing
-- name is wrong.
use Rattle.std.proofs.Common.{◌≡◌, ℕ, Bool, true, false, not, ◌&&◌, ◌||◌, List, [], ◌∷◌, ◌++◌, map, refl, sym, ap, ◌∙◌}
use Rattle.std.proofs.lemmas.List.{map-append}
use Rattle.std.proofs.lemmas.List.Folds.{list_any-append}
use Rattle.std.specs.List.{list_any}
use Rattle.ob0_scan.specs.declared.fault.FaultCode.TheVariants as code
use Rattle.ob0_tree.specs.ParsedModule.{ParsedModule, named_tree_of, tree_of}
use Rattle.ob0_tree.specs.TokenIndexLeaves.{token_text_at, token_value_at}
use Rattle.ob0_tree.specs.Tree.{Sort, Tree, mapped_tree, array_type, block, body, constant, constants, declares, declares_constant, declares_const_section, declares_procedure, declares_type, declares_type_section, declares_variable, declares_var_section, end, fields, formals, fields_after_semicolon, name_after_comma, section_after_semicolon, forms_block, forms_module, item, items, listed, maybe, module_text, more, named_type, names, no_fields, no_formals, none, one, procedure, record_type, section, some_fields, some_formals, semicolon_then_fields, comma_then_name, semicolon_then_section, type_definition, type_definitions, value_section, variable, variable_section, variables, written_type}
use Rattle.ob0_language_names.specs.ConsistentNames.{are_distinct, names_declared_in_block, block_has_consistent_names, has_consistent_names, has_distinct_fields, formals_have_distinct_fields, group_field_names, group_has_distinct_fields, field_names_after_first_group, later_groups_have_distinct_fields, is_among, procedure_names, procedure_has_consistent_names, procedure_list_has_consistent_names, types_have_distinct_fields, variables_have_distinct_fields}
use Rattle.ob0_scope_table.specs.DuplicatesAndEndNames.{duplicate_faults, block_declaration_faults, closing_name_faults, duplicate_field_faults, duplicate_field_faults_in_formals, duplicate_field_faults_in_group, duplicate_field_faults_in_further_groups, tree_declaration_faults, procedure_declaration_faults, procedure_list_declaration_faults, declaration_faults, duplicate_field_faults_in_types, fault_unless, duplicate_field_faults_in_variables}
use Rattle.ob0_language_names.specs.Names.{Name, same_name}
use Rattle.ob0_language_names.specs.BlockParts.{constant_names, formal_parameter_names, formal_parameter_sections, names_after_first, declared_type_names, names_in_list, section_constants, parameter_section_names, parameter_section_type, section_types, section_variables, variable_names}
use Rattle.ob0_scope_table.specs.FaultsAtTokens.{fault_at_token}
use Rattle.ob0_scope_table.specs.Resolution.{is_duplicate_or_end_name_fault}
use Rattle.ob0_scope_table.specs.declared.faults.FaultAtTokens.{FaultAtTokens}
use Rattle.ob0_language_names.proofs.NameEquality.{same_name-comm}
use Rattle.ob0_language_names.proofs.DistinctNames.{and-swap}

and_true : (b : Bool) → (b && true) ≡ b
and_true true = refl
and_true false = refl

-- true if the names are distinct, and distinct from the names of another list
abbrev distinct_from : List Name → List Name → Bool
distinct_from before [] = true
distinct_from before (x ∷ xs) = not (is_among x before) && distinct_from (x ∷ before) xs

abbrev none_among : List Name → List Name → Bool
none_among [] before = true
none_among (x ∷ xs) before = not (is_among x before) && none_among xs before

none_before : (xs : List Name) → none_among xs [] ≡ true
none_before [] = refl
none_before (x ∷ xs) = none_before xs

-- Adding one earlier name excludes that name from the others.
more_before : (x : Name) (xs before : List Name) → none_among xs (x ∷ before) ≡ (not (is_among x xs) && none_among xs before)
more_before x [] before = refl
more_before x (y ∷ ys) before =
    ap (λ b. not (same_name y x || is_among y before) && b) (more_before x ys before)
    ∙ (ap (λ s. not (s || is_among y before) && (not (is_among x ys) && none_among ys before)) (same_name-comm y x)
    ∙ and-swap (same_name x y) (is_among y before) (is_among x ys) (none_among ys before))

regroup : (a d n p : Bool) → (a && (d && (n && p))) ≡ ((n && d) && (a && p))
regroup true true true p = refl
regroup true true false p = refl
regroup true false true p = refl
regroup true false false p = refl
regroup false true true p = refl
regroup false true false p = refl
regroup false false true p = refl
regroup false false false p = refl

distinct_apart : (before xs : List Name) → distinct_from before xs ≡ (are_distinct xs && none_among xs before)
distinct_apart before [] = refl
distinct_apart before (x ∷ xs) =
    ap (λ b. not (is_among x before) && b) (distinct_apart (x ∷ before) xs ∙ ap (λ b. are_distinct xs && b) (more_before x xs before))
    ∙ regroup (not (is_among x before)) (are_distinct xs) (not (is_among x xs)) (none_among xs before)

distinct_alone : (xs : List Name) → distinct_from [] xs ≡ are_distinct xs
distinct_alone xs = distinct_apart [] xs ∙ (ap (λ b. are_distinct xs && b) (none_before xs) ∙ and_true (are_distinct xs))

five_texts : (text : ℕ → Name) (a b c d e : List ℕ) → map text (a ++ (b ++ (c ++ (d ++ e)))) ≡ map text a ++ (map text b ++ (map text c ++ (map text d ++ map text e)))
five_texts text a b c d e =
    map-append text a (b ++ (c ++ (d ++ e))) ∙ ap (λ z. map text a ++ z) (map-append text b (c ++ (d ++ e)) ∙ ap (λ z. map text b ++ z) (map-append text c (d ++ e) ∙ ap (λ z. map text c ++ z) (map-append text d e)))

-- ---- nothing is reported exactly if everything is declared once

abbrev fine : List FaultAtTokens → Bool
fine fs = not (list_any is_duplicate_or_end_name_fault fs)

not_or : (a b : Bool) → not (a || b) ≡ (not a && not b)
not_or true b = refl
not_or false b = refl

fine_both : (xs ys : List FaultAtTokens) (a b : Bool) → fine xs ≡ a → fine ys ≡ b → fine (xs ++ ys) ≡ (a && b)
fine_both xs ys a b e h = ap not (list_any-append is_duplicate_or_end_name_fault xs ys) ∙ (not_or (list_any is_duplicate_or_end_name_fault xs) (list_any is_duplicate_or_end_name_fault ys) ∙ (λ i. e i && h i))

fine_duplicate : (token : ℕ) (b : Bool) → fine (fault_unless b (fault_at_token code.Duplicate token)) ≡ b
fine_duplicate token true = refl
fine_duplicate token false = refl

fine_closing : (token : ℕ) (b : Bool) → fine (fault_unless b (fault_at_token code.EndName token)) ≡ b
fine_closing token true = refl
fine_closing token false = refl

duplicate_faults-fine : (text : ℕ → Name) (before : List Name) (xs : List ℕ) → fine (duplicate_faults text before xs) ≡ distinct_from before (map text xs)
duplicate_faults-fine text before [] = refl
duplicate_faults-fine text before (x ∷ xs) =
    let apart = not (is_among (text x) before) in
    fine_both (fault_unless apart (fault_at_token code.Duplicate x)) (duplicate_faults text (text x ∷ before) xs) apart (distinct_from (text x ∷ before) (map text xs)) (fine_duplicate x apart) (duplicate_faults-fine text (text x ∷ before) xs)

names-fine : (text : ℕ → Name) (xs : List ℕ) (ys : List Name) → map text xs ≡ ys → fine (duplicate_faults text [] xs) ≡ are_distinct ys
names-fine text xs ys e = duplicate_faults-fine text [] xs ∙ (ap (distinct_from []) e ∙ distinct_alone ys)

-- The numbers of a tree don't matter for its names.
module _ (value : ℕ → ℕ) where
  abbrev named : {s : Sort} → (ℕ → Name) → Tree ℕ s → Tree Name s
  named text t = mapped_tree text value t

  -- The spellings of the names of a tree over tokens are the names of the tree over names.
  names_texts : (text : ℕ → Name) (ns : Tree ℕ names) → map text (names_in_list ns) ≡ names_in_list (named text ns)
  names_texts text (listed x rest) = ap (λ l. text x ∷ l) (further_texts rest)
    where
      further_texts : (ns : Tree ℕ (items name_after_comma)) → map text (names_after_first ns) ≡ names_after_first (named text ns)
      further_texts end = refl
      further_texts (more (comma_then_name x) rest) = ap (λ l. text x ∷ l) (further_texts rest)

  group_texts : (text : ℕ → Name) (g : Tree ℕ fields) → map text (group_field_names g) ≡ group_field_names (named text g)
  group_texts text no_fields = refl
  group_texts text (some_fields ns t) = names_texts text ns

  groups_texts : (text : ℕ → Name) (gs : Tree ℕ (items fields_after_semicolon)) → map text (field_names_after_first_group gs) ≡ field_names_after_first_group (named text gs)
  groups_texts text end = refl
  groups_texts text (more (semicolon_then_fields g) rest) = map-append text (group_field_names g) (field_names_after_first_group rest) ∙ (λ i. group_texts text g i ++ groups_texts text rest i)

  constants_texts : (text : ℕ → Name) (cs : Tree ℕ (items constant)) → map text (constant_names cs) ≡ constant_names (named text cs)
  constants_texts text end = refl
  constants_texts text (more (declares_constant x e) rest) = ap (λ l. text x ∷ l) (constants_texts text rest)

  constant_section_texts : (text : ℕ → Name) (cs : Tree ℕ (maybe constants)) → map text (constant_names (section_constants cs)) ≡ constant_names (section_constants (named text cs))
  constant_section_texts text none = refl
  constant_section_texts text (one (declares_const_section cs)) = constants_texts text cs

  types_texts : (text : ℕ → Name) (ts : Tree ℕ (items type_definition)) → map text (declared_type_names ts) ≡ declared_type_names (named text ts)
  types_texts text end = refl
  types_texts text (more (declares_type x t) rest) = ap (λ l. text x ∷ l) (types_texts text rest)

  type_section_texts : (text : ℕ → Name) (ts : Tree ℕ (maybe type_definitions)) → map text (declared_type_names (section_types ts)) ≡ declared_type_names (section_types (named text ts))
  type_section_texts text none = refl
  type_section_texts text (one (declares_type_section ts)) = types_texts text ts

  variables_texts : (text : ℕ → Name) (gs : Tree ℕ (items variable)) → map text (variable_names gs) ≡ variable_names (named text gs)
  variables_texts text end = refl
  variables_texts text (more (declares_variable ns t) rest) = map-append text (names_in_list ns) (variable_names rest) ∙ (λ i. names_texts text ns i ++ variables_texts text rest i)

  variable_section_texts : (text : ℕ → Name) (vs : Tree ℕ (maybe variables)) → map text (variable_names (section_variables vs)) ≡ variable_names (section_variables (named text vs))
  variable_section_texts text none = refl
  variable_section_texts text (one (declares_var_section vs)) = variables_texts text vs

  section_texts : (text : ℕ → Name) (f : Tree ℕ section) → map text (parameter_section_names f) ≡ parameter_section_names (named text f)
  section_texts text (value_section ns t) = names_texts text ns
  section_texts text (variable_section ns t) = names_texts text ns

  sections_texts : (text : ℕ → Name) (fs : Tree ℕ (items section_after_semicolon)) → map text (formal_parameter_names fs) ≡ formal_parameter_names (named text fs)
  sections_texts text end = refl
  sections_texts text (more (semicolon_then_section f) rest) = map-append text (parameter_section_names f) (formal_parameter_names rest) ∙ (λ i. section_texts text f i ++ sections_texts text rest i)

  formals_texts : (text : ℕ → Name) (fs : Tree ℕ (maybe formals)) → map text (formal_parameter_names (formal_parameter_sections fs)) ≡ formal_parameter_names (formal_parameter_sections (named text fs))
  formals_texts text none = refl
  formals_texts text (one no_formals) = refl
  formals_texts text (one (some_formals f rest)) = sections_texts text (more (semicolon_then_section f) rest)

  procedures_texts : (text : ℕ → Name) (ps : Tree ℕ (items procedure)) → map text (procedure_names ps) ≡ procedure_names (named text ps)
  procedures_texts text end = refl
  procedures_texts text (more (declares_procedure x fs b closing) rest) = ap (λ l. text x ∷ l) (procedures_texts text rest)

  mutual
    fields-fine : (text : ℕ → Name) (t : Tree ℕ written_type) → fine (duplicate_field_faults text t) ≡ has_distinct_fields (named text t)
    fields-fine text (named_type x) = refl
    fields-fine text (array_type e t) = fields-fine text t
    fields-fine text (record_type g rest) =
        fine_both (duplicate_faults text [] (group_field_names g ++ field_names_after_first_group rest)) (duplicate_field_faults_in_group text g ++ duplicate_field_faults_in_further_groups text rest)
        (are_distinct (group_field_names (named text g) ++ field_names_after_first_group (named text rest))) (group_has_distinct_fields (named text g) && later_groups_have_distinct_fields (named text rest))
        (names-fine text (group_field_names g ++ field_names_after_first_group rest) (group_field_names (named text g) ++ field_names_after_first_group (named text rest)) (groups_texts text (more (semicolon_then_fields g) rest)))
        (fine_both (duplicate_field_faults_in_group text g) (duplicate_field_faults_in_further_groups text rest) (group_has_distinct_fields (named text g)) (later_groups_have_distinct_fields (named text rest)) (group-fine text g) (groups-fine text rest))

    group-fine : (text : ℕ → Name) (g : Tree ℕ fields) → fine (duplicate_field_faults_in_group text g) ≡ group_has_distinct_fields (named text g)
    group-fine text no_fields = refl
    group-fine text (some_fields ns t) = fields-fine text t

    groups-fine : (text : ℕ → Name) (gs : Tree ℕ (items fields_after_semicolon)) → fine (duplicate_field_faults_in_further_groups text gs) ≡ later_groups_have_distinct_fields (named text gs)
    groups-fine text end = refl
    groups-fine text (more (semicolon_then_fields g) rest) = fine_both (duplicate_field_faults_in_group text g) (duplicate_field_faults_in_further_groups text rest) (group_has_distinct_fields (named text g)) (later_groups_have_distinct_fields (named text rest)) (group-fine text g) (groups-fine text rest)

  types-fine : (text : ℕ → Name) (ds : Tree ℕ (items type_definition)) → fine (duplicate_field_faults_in_types text ds) ≡ types_have_distinct_fields (named text ds)
  types-fine text end = refl
  types-fine text (more (declares_type x t) ds) = fine_both (duplicate_field_faults text t) (duplicate_field_faults_in_types text ds) (has_distinct_fields (named text t)) (types_have_distinct_fields (named text ds)) (fields-fine text t) (types-fine text ds)

  type_section-fine : (text : ℕ → Name) (ts : Tree ℕ (maybe type_definitions)) → fine (duplicate_field_faults_in_types text (section_types ts)) ≡ types_have_distinct_fields (section_types (named text ts))
  type_section-fine text none = refl
  type_section-fine text (one (declares_type_section ts)) = types-fine text ts

  variables-fine : (text : ℕ → Name) (gs : Tree ℕ (items variable)) → fine (duplicate_field_faults_in_variables text gs) ≡ variables_have_distinct_fields (named text gs)
  variables-fine text end = refl
  variables-fine text (more (declares_variable ns t) gs) = fine_both (duplicate_field_faults text t) (duplicate_field_faults_in_variables text gs) (has_distinct_fields (named text t)) (variables_have_distinct_fields (named text gs)) (fields-fine text t) (variables-fine text gs)

  variable_section-fine : (text : ℕ → Name) (vs : Tree ℕ (maybe variables)) → fine (duplicate_field_faults_in_variables text (section_variables vs)) ≡ variables_have_distinct_fields (section_variables (named text vs))
  variable_section-fine text none = refl
  variable_section-fine text (one (declares_var_section vs)) = variables-fine text vs

  section-fine : (text : ℕ → Name) (s : Tree ℕ section) → fine (duplicate_field_faults text (parameter_section_type s)) ≡ has_distinct_fields (parameter_section_type (named text s))
  section-fine text (value_section ns t) = fields-fine text t
  section-fine text (variable_section ns t) = fields-fine text t

  sections-fine : (text : ℕ → Name) (fs : Tree ℕ (items section_after_semicolon)) → fine (duplicate_field_faults_in_formals text fs) ≡ formals_have_distinct_fields (named text fs)
  sections-fine text end = refl
  sections-fine text (more (semicolon_then_section s) fs) = fine_both (duplicate_field_faults text (parameter_section_type s)) (duplicate_field_faults_in_formals text fs) (has_distinct_fields (parameter_section_type (named text s))) (formals_have_distinct_fields (named text fs)) (section-fine text s) (sections-fine text fs)

  formals-fine : (text : ℕ → Name) (fs : Tree ℕ (maybe formals)) → fine (duplicate_field_faults_in_formals text (formal_parameter_sections fs)) ≡ formals_have_distinct_fields (formal_parameter_sections (named text fs))
  formals-fine text none = refl
  formals-fine text (one no_formals) = refl
  formals-fine text (one (some_formals s fs)) = sections-fine text (more (semicolon_then_section s) fs)

  block_texts : (text : ℕ → Name) (own : List ℕ) (cs : Tree ℕ (maybe constants)) (ts : Tree ℕ (maybe type_definitions)) (vs : Tree ℕ (maybe variables)) (ps : Tree ℕ (items procedure)) (statements : Tree ℕ (maybe body))
      → map text (own ++ names_declared_in_block (forms_block (declares cs ts vs ps) statements)) ≡ map text own ++ names_declared_in_block (named text (forms_block (declares cs ts vs ps) statements))
  block_texts text own cs ts vs ps statements =
      five_texts text own (constant_names (section_constants cs)) (declared_type_names (section_types ts)) (variable_names (section_variables vs)) (procedure_names ps)
      ∙ (λ i. map text own ++ (constant_section_texts text cs i ++ (type_section_texts text ts i ++ (variable_section_texts text vs i ++ procedures_texts text ps i))))

  mutual
    block-fine : (text : ℕ → Name) (own : List ℕ) (b : Tree ℕ block) → fine (block_declaration_faults text own b) ≡ block_has_consistent_names (map text own) (named text b)
    block-fine text own (forms_block (declares cs ts vs ps) statements) =
        let names = own ++ names_declared_in_block (forms_block (declares cs ts vs ps) statements) in
        let T = duplicate_field_faults_in_types text (section_types ts) in
        let V = duplicate_field_faults_in_variables text (section_variables vs) in
        let P = procedure_list_declaration_faults text ps in
        let t = types_have_distinct_fields (section_types (named text ts)) in
        let v = variables_have_distinct_fields (section_variables (named text vs)) in
        let p = procedure_list_has_consistent_names (named text ps) in
        fine_both (duplicate_faults text [] names) (T ++ (V ++ P)) (are_distinct (map text own ++ names_declared_in_block (named text (forms_block (declares cs ts vs ps) statements)))) (t && (v && p))
        (names-fine text names (map text own ++ names_declared_in_block (named text (forms_block (declares cs ts vs ps) statements))) (block_texts text own cs ts vs ps statements))
        (fine_both T (V ++ P) t (v && p) (type_section-fine text ts) (fine_both V P v p (variable_section-fine text vs) (procedures-fine text ps)))

    procedures-fine : (text : ℕ → Name) (ps : Tree ℕ (items procedure)) → fine (procedure_list_declaration_faults text ps) ≡ procedure_list_has_consistent_names (named text ps)
    procedures-fine text end = refl
    procedures-fine text (more p rest) = fine_both (procedure_declaration_faults text p) (procedure_list_declaration_faults text rest) (procedure_has_consistent_names (named text p)) (procedure_list_has_consistent_names (named text rest)) (procedure-fine text p) (procedures-fine text rest)

    procedure-fine : (text : ℕ → Name) (p : Tree ℕ (item procedure)) → fine (procedure_declaration_faults text p) ≡ procedure_has_consistent_names (named text p)
    procedure-fine text (declares_procedure x fs b closing) =
        let C = closing_name_faults text x closing in
        let F = duplicate_field_faults_in_formals text (formal_parameter_sections fs) in
        let B = block_declaration_faults text (formal_parameter_names (formal_parameter_sections fs)) b in
        let c = same_name (text x) (text closing) in
        let f = formals_have_distinct_fields (formal_parameter_sections (named text fs)) in
        let d = block_has_consistent_names (formal_parameter_names (formal_parameter_sections (named text fs))) (named text b) in
        fine_both C (F ++ B) c (f && d) (fine_closing closing c)
        (fine_both F B f d (formals-fine text fs) (block-fine text (formal_parameter_names (formal_parameter_sections fs)) b ∙ ap (λ ns. block_has_consistent_names ns (named text b)) (formals_texts text fs)))

  module-fine : (text : ℕ → Name) (t : Tree ℕ module_text) → fine (tree_declaration_faults text t) ≡ has_consistent_names (named text t)
  module-fine text (forms_module x b closing) =
      fine_both (closing_name_faults text x closing) (block_declaration_faults text [] b) (same_name (text x) (text closing)) (block_has_consistent_names [] (named text b))
      (fine_closing closing (same_name (text x) (text closing))) (block-fine text [] b)

not_not : (a b : Bool) → not a ≡ b → a ≡ not b
not_not true b e = ap not e
not_not false b e = ap not e

pub twice_where : (m : ParsedModule) → list_any is_duplicate_or_end_name_fault (declaration_faults m) ≡ not (has_consistent_names (named_tree_of m))
twice_where m = not_not (list_any is_duplicate_or_end_name_fault (declaration_faults m)) (has_consistent_names (named_tree_of m)) (module-fine (token_value_at m.source) (token_text_at m.source) (tree_of m))

-- The test for duplicate declarations in a tree doesn't depend on its numbers.
pub once_with : (text : ℕ → Name) (f g : ℕ → ℕ) (t : Tree ℕ module_text) → has_consistent_names (mapped_tree text f t) ≡ has_consistent_names (mapped_tree text g t)
once_with text f g t = sym (module-fine f text t) ∙ module-fine g text t

-- ---- nothing else is reported

abbrev others : List FaultAtTokens → Bool
others fs = list_any (λ f. not (is_duplicate_or_end_name_fault f)) fs

no_others : (xs ys : List FaultAtTokens) → others xs ≡ false → others ys ≡ false → others (xs ++ ys) ≡ false
no_others xs ys e h = list_any-append (λ f. not (is_duplicate_or_end_name_fault f)) xs ys ∙ (λ i. e i || h i)

duplicate-alone : (token : ℕ) (b : Bool) → others (fault_unless b (fault_at_token code.Duplicate token)) ≡ false
duplicate-alone token true = refl
duplicate-alone token false = refl

closing-alone : (token : ℕ) (b : Bool) → others (fault_unless b (fault_at_token code.EndName token)) ≡ false
closing-alone token true = refl
closing-alone token false = refl

duplicate_faults-alone : (text : ℕ → Name) (before : List Name) (xs : List ℕ) → others (duplicate_faults text before xs) ≡ false
duplicate_faults-alone text before [] = refl
duplicate_faults-alone text before (x ∷ xs) =
    let apart = not (is_among (text x) before) in
    no_others (fault_unless apart (fault_at_token code.Duplicate x)) (duplicate_faults text (text x ∷ before) xs) (duplicate-alone x apart) (duplicate_faults-alone text (text x ∷ before) xs)

mutual
  fields-alone : (text : ℕ → Name) (t : Tree ℕ written_type) → others (duplicate_field_faults text t) ≡ false
  fields-alone text (named_type x) = refl
  fields-alone text (array_type e t) = fields-alone text t
  fields-alone text (record_type g rest) =
      no_others (duplicate_faults text [] (group_field_names g ++ field_names_after_first_group rest)) (duplicate_field_faults_in_group text g ++ duplicate_field_faults_in_further_groups text rest) (duplicate_faults-alone text [] (group_field_names g ++ field_names_after_first_group rest))
      (no_others (duplicate_field_faults_in_group text g) (duplicate_field_faults_in_further_groups text rest) (group-alone text g) (groups-alone text rest))

  group-alone : (text : ℕ → Name) (g : Tree ℕ fields) → others (duplicate_field_faults_in_group text g) ≡ false
  group-alone text no_fields = refl
  group-alone text (some_fields ns t) = fields-alone text t

  groups-alone : (text : ℕ → Name) (gs : Tree ℕ (items fields_after_semicolon)) → others (duplicate_field_faults_in_further_groups text gs) ≡ false
  groups-alone text end = refl
  groups-alone text (more (semicolon_then_fields g) rest) = no_others (duplicate_field_faults_in_group text g) (duplicate_field_faults_in_further_groups text rest) (group-alone text g) (groups-alone text rest)

types-alone : (text : ℕ → Name) (ds : Tree ℕ (items type_definition)) → others (duplicate_field_faults_in_types text ds) ≡ false
types-alone text end = refl
types-alone text (more (declares_type x t) ds) = no_others (duplicate_field_faults text t) (duplicate_field_faults_in_types text ds) (fields-alone text t) (types-alone text ds)

variables-alone : (text : ℕ → Name) (gs : Tree ℕ (items variable)) → others (duplicate_field_faults_in_variables text gs) ≡ false
variables-alone text end = refl
variables-alone text (more (declares_variable ns t) gs) = no_others (duplicate_field_faults text t) (duplicate_field_faults_in_variables text gs) (fields-alone text t) (variables-alone text gs)

formals-alone : (text : ℕ → Name) (fs : Tree ℕ (items section_after_semicolon)) → others (duplicate_field_faults_in_formals text fs) ≡ false
formals-alone text end = refl
formals-alone text (more (semicolon_then_section s) fs) = no_others (duplicate_field_faults text (parameter_section_type s)) (duplicate_field_faults_in_formals text fs) (fields-alone text (parameter_section_type s)) (formals-alone text fs)

mutual
  block-alone : (text : ℕ → Name) (own : List ℕ) (b : Tree ℕ block) → others (block_declaration_faults text own b) ≡ false
  block-alone text own (forms_block (declares cs ts vs ps) statements) =
      let names = own ++ names_declared_in_block (forms_block (declares cs ts vs ps) statements) in
      let T = duplicate_field_faults_in_types text (section_types ts) in
      let V = duplicate_field_faults_in_variables text (section_variables vs) in
      let P = procedure_list_declaration_faults text ps in
      no_others (duplicate_faults text [] names) (T ++ (V ++ P)) (duplicate_faults-alone text [] names)
      (no_others T (V ++ P) (types-alone text (section_types ts)) (no_others V P (variables-alone text (section_variables vs)) (procedures-alone text ps)))

  procedures-alone : (text : ℕ → Name) (ps : Tree ℕ (items procedure)) → others (procedure_list_declaration_faults text ps) ≡ false
  procedures-alone text end = refl
  procedures-alone text (more p rest) = no_others (procedure_declaration_faults text p) (procedure_list_declaration_faults text rest) (procedure-alone text p) (procedures-alone text rest)

  procedure-alone : (text : ℕ → Name) (p : Tree ℕ (item procedure)) → others (procedure_declaration_faults text p) ≡ false
  procedure-alone text (declares_procedure x fs b closing) =
      let C = closing_name_faults text x closing in
      let F = duplicate_field_faults_in_formals text (formal_parameter_sections fs) in
      let B = block_declaration_faults text (formal_parameter_names (formal_parameter_sections fs)) b in
      no_others C (F ++ B) (closing-alone closing (same_name (text x) (text closing)))
      (no_others F B (formals-alone text (formal_parameter_sections fs)) (block-alone text (formal_parameter_names (formal_parameter_sections fs)) b))

module-alone : (text : ℕ → Name) (t : Tree ℕ module_text) → others (tree_declaration_faults text t) ≡ false
module-alone text (forms_module x b closing) =
    no_others (closing_name_faults text x closing) (block_declaration_faults text [] b) (closing-alone closing (same_name (text x) (text closing))) (block-alone text [] b)

pub twice_alone : (m : ParsedModule) → list_any (λ f. not (is_duplicate_or_end_name_fault f)) (declaration_faults m) ≡ false
twice_alone m = module-alone (token_text_at m.source) (tree_of m)
