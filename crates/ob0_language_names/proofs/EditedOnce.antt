-- An edited module has consistent names (`has_consistent_names`) if the original module has.
use Rattle.std.proofs.Common.{Bool, List, [], ap, false, if◌then◌else◌, length, not, refl, suc, sym, true, ℕ, ◌&&◌, ◌++◌, ◌+◌, ◌==◌, ◌||◌, ◌∙◌, ◌∷◌, ◌≡◌}
use Rattle.ob0_tree.specs.Tree.{Tree, array_type, block, constant, constants, declares, declares_constant, declares_const_section, declares_procedure, declares_type, declares_type_section, declares_variable, declares_var_section, end, fields, formals, fields_after_semicolon, section_after_semicolon, forms_block, forms_module, item, items, maybe, module_text, more, named_type, no_fields, no_formals, none, occurrences, one, procedure, record_type, some_fields, some_formals, semicolon_then_fields, semicolon_then_section, type_definition, type_definitions, value_section, variable, variable_section, variables, written_type}
use Rattle.ob0_language_names.specs.ConsistentNames.{are_distinct, names_declared_in_block, block_has_consistent_names, has_consistent_names, has_distinct_fields, formals_have_distinct_fields, group_field_names, group_has_distinct_fields, field_names_after_first_group, later_groups_have_distinct_fields, is_among, procedure_names, procedure_has_consistent_names, procedure_list_has_consistent_names, types_have_distinct_fields, variables_have_distinct_fields}
use Rattle.ob0_language_names.specs.Names.{Name, same_name}
use Rattle.ob0_language_names.specs.BlockParts.{constant_names, formal_parameter_names, formal_parameter_sections, declared_type_names, names_in_list, section_constants, section_types, section_variables, variable_names}
use Rattle.ob0_language_names.specs.Scopes.{ordinal_after_names, ordinal_after_procedure, first_procedure_ordinal}
use Rattle.ob0_language_names.proofs.EditedTrees.{Edit, edited, edited_block, edited_constants, edited_procedure, edited_procedures, edited_section, leaf}
use Rattle.std.proofs.lemmas.Bool.{and_from, and_parts, or_parts}

-- holds if the first list has some of the names of the second one, in the same order
pub data SomeOf : List Name → List Name → Type 0 where
  none_of : SomeOf [] []
  kept : {xs ys : List Name} → (x : Name) → SomeOf xs ys → SomeOf (x ∷ xs) (x ∷ ys)
  skipped : {xs ys : List Name} → (y : Name) → SomeOf xs ys → SomeOf xs (y ∷ ys)

pub some_of-all : (xs : List Name) → SomeOf xs xs
some_of-all [] = none_of
some_of-all (x ∷ xs) = kept x (some_of-all xs)

pub some_of-append : (xs ys zs ws : List Name) → SomeOf xs ys → SomeOf zs ws → SomeOf (xs ++ zs) (ys ++ ws)
some_of-append xs ys zs ws none_of g = g
some_of-append xs ys zs ws (kept {xs = xs'} {ys = ys'} x f) g = kept x (some_of-append xs' ys' zs ws f g)
some_of-append xs ys zs ws (skipped {xs = xs'} {ys = ys'} y f) g = skipped y (some_of-append xs' ys' zs ws f g)

pub some-apart : (z : Name) (xs ys : List Name) → SomeOf xs ys → is_among z ys ≡ false → is_among z xs ≡ false
some-apart z xs ys none_of h = h
some-apart z xs ys (kept {xs = xs'} {ys = ys'} x f) h =
    let parts = or_parts (same_name z x) (is_among z ys') h in
    ap (λ v. v || is_among z xs') parts.0 ∙ some-apart z xs' ys' f parts.1
some-apart z xs ys (skipped {xs = xs'} {ys = ys'} y f) h = some-apart z xs' ys' f (or_parts (same_name z y) (is_among z ys') h).1

pub some-distinct : (xs ys : List Name) → SomeOf xs ys → are_distinct ys ≡ true → are_distinct xs ≡ true
some-distinct xs ys none_of h = h
some-distinct xs ys (kept {xs = xs'} {ys = ys'} x f) h =
    let parts = and_parts (not (is_among x ys')) (are_distinct ys') h in
    and_from (not (is_among x xs')) (are_distinct xs') (ap not (some-apart x xs' ys' f (not-true (is_among x ys') parts.0))) (some-distinct xs' ys' f parts.1)
  where
    not-true : (a : Bool) → not a ≡ true → a ≡ false
    not-true true h = sym h
    not-true false h = refl
some-distinct xs ys (skipped {xs = xs'} {ys = ys'} y f) h = some-distinct xs' ys' f (and_parts (not (is_among y ys')) (are_distinct ys') h).1

-- The names of an edited block are some of the block's names.

pub constant_names-edited : (edit : Edit) (j k : ℕ) (cs : Tree Name (items constant)) → SomeOf (constant_names (edited_constants edit j k cs)) (constant_names cs)
constant_names-edited edit j k end = none_of
constant_names-edited edit j k (more (declares_constant x e) cs) =
    elim (edit.gone && (k == edit.constant)) as (λ v. SomeOf (constant_names (if v then edited_constants edit (j + length (occurrences e)) (suc k) cs else more (declares_constant x (leaf edit j e)) (edited_constants edit (j + length (occurrences e)) (suc k) cs))) (x ∷ constant_names cs))
    [ true ↦ skipped x (constant_names-edited edit (j + length (occurrences e)) (suc k) cs) | false ↦ kept x (constant_names-edited edit (j + length (occurrences e)) (suc k) cs) ]

pub parameter_section_names-edited : (edit : Edit) (j k : ℕ) (cs : Tree Name (maybe constants)) → SomeOf (constant_names (section_constants (edited_section edit j k cs))) (constant_names (section_constants cs))
parameter_section_names-edited edit j k none = none_of
parameter_section_names-edited edit j k (one (declares_const_section cs)) = constant_names-edited edit j k cs

type_definitions-listed : (edit : Edit) (j : ℕ) (ds : Tree Name (items type_definition)) → declared_type_names (leaf edit j ds) ≡ declared_type_names ds
type_definitions-listed edit j end = refl
type_definitions-listed edit j (more (declares_type x t) ds) = λ i. x ∷ type_definitions-listed edit (j + length (occurrences t)) ds i

pub type_definitions-leaf : (edit : Edit) (j : ℕ) (ts : Tree Name (maybe type_definitions)) → declared_type_names (section_types (leaf edit j ts)) ≡ declared_type_names (section_types ts)
type_definitions-leaf edit j none = refl
type_definitions-leaf edit j (one (declares_type_section ts)) = type_definitions-listed edit j ts

variable_names-listed : (edit : Edit) (j : ℕ) (gs : Tree Name (items variable)) → variable_names (leaf edit j gs) ≡ variable_names gs
variable_names-listed edit j end = refl
variable_names-listed edit j (more (declares_variable ns t) gs) = λ i. names_in_list ns ++ variable_names-listed edit (j + length (occurrences t)) gs i

pub variable_names-leaf : (edit : Edit) (j : ℕ) (vs : Tree Name (maybe variables)) → variable_names (section_variables (leaf edit j vs)) ≡ variable_names (section_variables vs)
variable_names-leaf edit j none = refl
variable_names-leaf edit j (one (declares_var_section vs)) = variable_names-listed edit j vs

pub procedure_names-edited : (edit : Edit) (j k : ℕ) (ps : Tree Name (items procedure)) → procedure_names (edited_procedures edit j k ps) ≡ procedure_names ps
procedure_names-edited edit j k end = refl
procedure_names-edited edit j k (more (declares_procedure x fs b closing) rest) = λ i.
    x ∷ procedure_names-edited edit (j + length (occurrences (declares_procedure x fs b closing))) (ordinal_after_procedure (suc k) (declares_procedure x fs b closing)) rest i

formal_parameter_names-listed : (edit : Edit) (j : ℕ) (fs : Tree Name (items section_after_semicolon)) → formal_parameter_names (leaf edit j fs) ≡ formal_parameter_names fs
formal_parameter_names-listed edit j end = refl
formal_parameter_names-listed edit j (more (semicolon_then_section (value_section ns t)) fs) = λ i. names_in_list ns ++ formal_parameter_names-listed edit (j + length (occurrences t)) fs i
formal_parameter_names-listed edit j (more (semicolon_then_section (variable_section ns t)) fs) = λ i. names_in_list ns ++ formal_parameter_names-listed edit (j + length (occurrences t)) fs i

pub formal_parameter_names-leaf : (edit : Edit) (j : ℕ) (fs : Tree Name (maybe formals)) → formal_parameter_names (formal_parameter_sections (leaf edit j fs)) ≡ formal_parameter_names (formal_parameter_sections fs)
formal_parameter_names-leaf edit j none = refl
formal_parameter_names-leaf edit j (one no_formals) = refl
formal_parameter_names-leaf edit j (one (some_formals s fs)) = formal_parameter_names-listed edit j (more (semicolon_then_section s) fs)

-- An edit leaves the names of fields unchanged.

group_field_names-leaf : (edit : Edit) (j : ℕ) (g : Tree Name fields) → group_field_names (leaf edit j g) ≡ group_field_names g
group_field_names-leaf edit j no_fields = refl
group_field_names-leaf edit j (some_fields ns t) = refl

field_names_after_first_group-leaf : (edit : Edit) (j : ℕ) (gs : Tree Name (items fields_after_semicolon)) → field_names_after_first_group (leaf edit j gs) ≡ field_names_after_first_group gs
field_names_after_first_group-leaf edit j end = refl
field_names_after_first_group-leaf edit j (more (semicolon_then_fields g) rest) = λ i. group_field_names-leaf edit j g i ++ field_names_after_first_group-leaf edit (j + length (occurrences g)) rest i

mutual
  pub has_distinct_fields-leaf : (edit : Edit) (j : ℕ) (t : Tree Name written_type) → has_distinct_fields (leaf edit j t) ≡ has_distinct_fields t
  has_distinct_fields-leaf edit j (named_type x) = refl
  has_distinct_fields-leaf edit j (array_type e t) = has_distinct_fields-leaf edit (j + length (occurrences e)) t
  has_distinct_fields-leaf edit j (record_type g rest) = λ i.
      are_distinct (group_field_names-leaf edit j g i ++ field_names_after_first_group-leaf edit (j + length (occurrences g)) rest i) && (group_has_distinct_fields-leaf edit j g i && later_groups_have_distinct_fields-leaf edit (j + length (occurrences g)) rest i)

  group_has_distinct_fields-leaf : (edit : Edit) (j : ℕ) (g : Tree Name fields) → group_has_distinct_fields (leaf edit j g) ≡ group_has_distinct_fields g
  group_has_distinct_fields-leaf edit j no_fields = refl
  group_has_distinct_fields-leaf edit j (some_fields ns t) = has_distinct_fields-leaf edit j t

  later_groups_have_distinct_fields-leaf : (edit : Edit) (j : ℕ) (gs : Tree Name (items fields_after_semicolon)) → later_groups_have_distinct_fields (leaf edit j gs) ≡ later_groups_have_distinct_fields gs
  later_groups_have_distinct_fields-leaf edit j end = refl
  later_groups_have_distinct_fields-leaf edit j (more (semicolon_then_fields g) rest) = λ i. group_has_distinct_fields-leaf edit j g i && later_groups_have_distinct_fields-leaf edit (j + length (occurrences g)) rest i

types_have_distinct_fields-listed : (edit : Edit) (j : ℕ) (ds : Tree Name (items type_definition)) → types_have_distinct_fields (leaf edit j ds) ≡ types_have_distinct_fields ds
types_have_distinct_fields-listed edit j end = refl
types_have_distinct_fields-listed edit j (more (declares_type x t) ds) = λ i. has_distinct_fields-leaf edit j t i && types_have_distinct_fields-listed edit (j + length (occurrences t)) ds i

types_have_distinct_fields-leaf : (edit : Edit) (j : ℕ) (ts : Tree Name (maybe type_definitions)) → types_have_distinct_fields (section_types (leaf edit j ts)) ≡ types_have_distinct_fields (section_types ts)
types_have_distinct_fields-leaf edit j none = refl
types_have_distinct_fields-leaf edit j (one (declares_type_section ts)) = types_have_distinct_fields-listed edit j ts

variables_have_distinct_fields-listed : (edit : Edit) (j : ℕ) (gs : Tree Name (items variable)) → variables_have_distinct_fields (leaf edit j gs) ≡ variables_have_distinct_fields gs
variables_have_distinct_fields-listed edit j end = refl
variables_have_distinct_fields-listed edit j (more (declares_variable ns t) gs) = λ i. has_distinct_fields-leaf edit j t i && variables_have_distinct_fields-listed edit (j + length (occurrences t)) gs i

variables_have_distinct_fields-leaf : (edit : Edit) (j : ℕ) (vs : Tree Name (maybe variables)) → variables_have_distinct_fields (section_variables (leaf edit j vs)) ≡ variables_have_distinct_fields (section_variables vs)
variables_have_distinct_fields-leaf edit j none = refl
variables_have_distinct_fields-leaf edit j (one (declares_var_section vs)) = variables_have_distinct_fields-listed edit j vs

formals_have_distinct_fields-listed : (edit : Edit) (j : ℕ) (fs : Tree Name (items section_after_semicolon)) → formals_have_distinct_fields (leaf edit j fs) ≡ formals_have_distinct_fields fs
formals_have_distinct_fields-listed edit j end = refl
formals_have_distinct_fields-listed edit j (more (semicolon_then_section (value_section ns t)) fs) = λ i. has_distinct_fields-leaf edit j t i && formals_have_distinct_fields-listed edit (j + length (occurrences t)) fs i
formals_have_distinct_fields-listed edit j (more (semicolon_then_section (variable_section ns t)) fs) = λ i. has_distinct_fields-leaf edit j t i && formals_have_distinct_fields-listed edit (j + length (occurrences t)) fs i

formals_have_distinct_fields-leaf : (edit : Edit) (j : ℕ) (fs : Tree Name (maybe formals)) → formals_have_distinct_fields (formal_parameter_sections (leaf edit j fs)) ≡ formals_have_distinct_fields (formal_parameter_sections fs)
formals_have_distinct_fields-leaf edit j none = refl
formals_have_distinct_fields-leaf edit j (one no_formals) = refl
formals_have_distinct_fields-leaf edit j (one (some_formals s fs)) = formals_have_distinct_fields-listed edit j (more (semicolon_then_section s) fs)

mutual
  pub block_has_consistent_names-edited : (edit : Edit) (j k : ℕ) (own : List Name) (b : Tree Name block) → block_has_consistent_names own b ≡ true → block_has_consistent_names own (edited_block edit j k b) ≡ true
  block_has_consistent_names-edited edit j k own (forms_block (declares cs ts vs ps) statements) once =
      let b : Tree Name block = forms_block (declares cs ts vs ps) statements in
      let jt : ℕ = j + length (occurrences cs) in
      let jv : ℕ = j + length (occurrences cs) + length (occurrences ts) in
      let jp : ℕ = j + length (occurrences cs) + length (occurrences ts) + length (occurrences vs) in
      let parts = and_parts (are_distinct (own ++ names_declared_in_block b)) (types_have_distinct_fields (section_types ts) && (variables_have_distinct_fields (section_variables vs) && procedure_list_has_consistent_names ps)) once in
      let parts₁ = and_parts (types_have_distinct_fields (section_types ts)) (variables_have_distinct_fields (section_variables vs) && procedure_list_has_consistent_names ps) parts.1 in
      let parts₂ = and_parts (variables_have_distinct_fields (section_variables vs)) (procedure_list_has_consistent_names ps) parts₁.1 in
      let following : List Name = declared_type_names (section_types ts) ++ (variable_names (section_variables vs) ++ procedure_names ps) in
      and_from (are_distinct (own ++ names_declared_in_block (edited_block edit j k b))) _
      (ap (λ zs. are_distinct (own ++ (constant_names (section_constants (edited_section edit j k cs)) ++ zs)))
      (λ i. type_definitions-leaf edit jt ts i ++ (variable_names-leaf edit jv vs i ++ procedure_names-edited edit jp (first_procedure_ordinal k b) ps i))
      ∙ some-distinct (own ++ (constant_names (section_constants (edited_section edit j k cs)) ++ following)) (own ++ (constant_names (section_constants cs) ++ following))
      (some_of-append own own (constant_names (section_constants (edited_section edit j k cs)) ++ following) (constant_names (section_constants cs) ++ following) (some_of-all own)
      (some_of-append (constant_names (section_constants (edited_section edit j k cs))) (constant_names (section_constants cs)) following following (parameter_section_names-edited edit j k cs) (some_of-all following))) parts.0)
      (and_from _ _ (types_have_distinct_fields-leaf edit jt ts ∙ parts₁.0)
      (and_from _ _ (variables_have_distinct_fields-leaf edit jv vs ∙ parts₂.0) (procedure_list_has_consistent_names-edited edit jp (first_procedure_ordinal k b) ps parts₂.1)))

  procedure_list_has_consistent_names-edited : (edit : Edit) (j k : ℕ) (ps : Tree Name (items procedure)) → procedure_list_has_consistent_names ps ≡ true → procedure_list_has_consistent_names (edited_procedures edit j k ps) ≡ true
  procedure_list_has_consistent_names-edited edit j k end once = refl
  procedure_list_has_consistent_names-edited edit j k (more p rest) once =
      let parts = and_parts (procedure_has_consistent_names p) (procedure_list_has_consistent_names rest) once in
      and_from _ _ (procedure_has_consistent_names-edited edit j (suc k) p parts.0) (procedure_list_has_consistent_names-edited edit (j + length (occurrences p)) (ordinal_after_procedure (suc k) p) rest parts.1)

  procedure_has_consistent_names-edited : (edit : Edit) (j k : ℕ) (p : Tree Name (item procedure)) → procedure_has_consistent_names p ≡ true → procedure_has_consistent_names (edited_procedure edit j k p) ≡ true
  procedure_has_consistent_names-edited edit j k (declares_procedure x fs b closing) once =
      let own : List Name = formal_parameter_names (formal_parameter_sections fs) in
      let parts = and_parts (same_name x closing) (formals_have_distinct_fields (formal_parameter_sections fs) && block_has_consistent_names own b) once in
      let parts₁ = and_parts (formals_have_distinct_fields (formal_parameter_sections fs)) (block_has_consistent_names own b) parts.1 in
      and_from _ _ parts.0
      (and_from _ _ (formals_have_distinct_fields-leaf edit j fs ∙ parts₁.0)
      (ap (λ xs. block_has_consistent_names xs (edited_block edit (j + length (occurrences fs)) (ordinal_after_names k own) b)) (formal_parameter_names-leaf edit j fs) ∙ block_has_consistent_names-edited edit (j + length (occurrences fs)) (ordinal_after_names k own) own b parts₁.1))

pub has_consistent_names-edited : (edit : Edit) (m : Tree Name module_text) → has_consistent_names m ≡ true → has_consistent_names (edited edit m) ≡ true
has_consistent_names-edited edit (forms_module x b closing) once =
    let parts = and_parts (same_name x closing) (block_has_consistent_names [] b) once in
    and_from _ _ parts.0 (block_has_consistent_names-edited edit 0 7 [] b parts.1)
