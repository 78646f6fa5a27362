-- Proves that the search over indexes of tokens gives the same result as the blocks' scopes.
use Rattle.std.proofs.Common.{◌≡◌, ℕ, suc, Bool, true, false, not, ◌&&◌, ◌||◌, ◌==◌, if◌then◌else◌, Option, Some, None, List, [], ◌∷◌, ◌++◌, map, refl, sym, ap, ◌∙◌}
use Rattle.std.proofs.lemmas.List.{map-append}
use Rattle.std.specs.List.{list_any}
use Rattle.std.specs.Option.{option_or}
use Rattle.ob0_tree.specs.ParsedModule.{named_tree_of, tree_of}
use Rattle.ob0_tree.specs.TokenIndexLeaves.{token_value_at}
use Rattle.ob0_tree.specs.Tree.{Tree, block, constant, constants, declares, declares_constant, declares_const_section, declares_procedure, declares_type, declares_type_section, declares_variable, declares_var_section, end, formals, name_after_comma, section_after_semicolon, forms_block, forms_module, item, items, listed, mapped_tree, maybe, module_text, more, names, no_formals, none, one, procedure, section, some_formals, comma_then_name, semicolon_then_section, type_definition, type_definitions, value_section, variable, variable_section, variables}
use Rattle.ob0_language_names.specs.ConsistentNames.{names_declared_in_block, procedure_names}
use Rattle.ob0_language_names.specs.Names.{Name, naming_by_spelling, same_name}
use Rattle.ob0_language_names.specs.Occurrences.{scopes_in_block, scopes_in_procedure, scopes_in_procedure_list, declares_ordinal}
use Rattle.ob0_language_names.specs.BlockParts.{constant_names, formal_parameter_names, formal_parameter_sections, names_after_first, module_block, declared_type_names, names_in_list, procedure_name, section_constants, parameter_section_names, section_types, section_variables, variable_names}
use Rattle.ob0_scope.specs.Renames.{namesake_ordinal, namesake_in_scopes, other_declaration_with_name}
use Rattle.ob0_scope_table.specs.Resolution.{IsResolution, Resolution, ordinal_and_spelling_at_token, ordinal_in, ordinal_and_spelling}
use Rattle.ob0_language_names.specs.Scopes.{Scope, ordinal_after_names, ordinal_after_procedure, body_scope, declare_names, first_procedure_ordinal, predeclared_scope, scope_before_procedures, relabel_block, relabel_formals, relabel_procedure, relabel_procedure_list, relabel_module, same_ordinal}
use Rattle.ob0_scope.specs.NamesakeSearches.{NamesakeSearchView, namesake_in_block, namesake_in_procedure, namesake_in_procedure_list, is_bound_to_declaration, last_namesake, namesake_among}
use Rattle.ob0_scope.proofs.Finding.{or_assoc}
use Rattle.ob0_language_names.proofs.DistinctNames.{labels_in, onto, onto-append}
use Rattle.ob0_language_names.proofs.RenamedDeclarations.{labels_in-block, labels_in-names, sections-labels}
use Rattle.ob0_language_names.proofs.Relabelled.{formals-section}

-- Mapping the leaves of a tree maps the names of its parts.

further-with : {N M : Type 0} (f : N → M) (g : ℕ → ℕ) (ns : Tree N (items name_after_comma)) → names_after_first (mapped_tree f g ns) ≡ map f (names_after_first ns)
further-with f g end = refl
further-with f g (more (comma_then_name x) rest) = λ i. f x ∷ further-with f g rest i

listed-with : {N M : Type 0} (f : N → M) (g : ℕ → ℕ) (ns : Tree N names) → names_in_list (mapped_tree f g ns) ≡ map f (names_in_list ns)
listed-with f g (listed x rest) = λ i. f x ∷ further-with f g rest i

constants-with : {N M : Type 0} (f : N → M) (g : ℕ → ℕ) (cs : Tree N (items constant)) → constant_names (mapped_tree f g cs) ≡ map f (constant_names cs)
constants-with f g end = refl
constants-with f g (more (declares_constant x e) cs) = λ i. f x ∷ constants-with f g cs i

pub constant_section-with : {N M : Type 0} (f : N → M) (g : ℕ → ℕ) (cs : Tree N (maybe constants)) → constant_names (section_constants (mapped_tree f g cs)) ≡ map f (constant_names (section_constants cs))
constant_section-with f g none = refl
constant_section-with f g (one (declares_const_section cs)) = constants-with f g cs

types-with : {N M : Type 0} (f : N → M) (g : ℕ → ℕ) (ts : Tree N (items type_definition)) → declared_type_names (mapped_tree f g ts) ≡ map f (declared_type_names ts)
types-with f g end = refl
types-with f g (more (declares_type x t) ts) = λ i. f x ∷ types-with f g ts i

pub type_section-with : {N M : Type 0} (f : N → M) (g : ℕ → ℕ) (ts : Tree N (maybe type_definitions)) → declared_type_names (section_types (mapped_tree f g ts)) ≡ map f (declared_type_names (section_types ts))
type_section-with f g none = refl
type_section-with f g (one (declares_type_section ts)) = types-with f g ts

variables-with : {N M : Type 0} (f : N → M) (g : ℕ → ℕ) (vs : Tree N (items variable)) → variable_names (mapped_tree f g vs) ≡ map f (variable_names vs)
variables-with f g end = refl
variables-with f g (more (declares_variable ns t) vs) =
    (λ i. listed-with f g ns i ++ variables-with f g vs i) ∙ sym (map-append f (names_in_list ns) (variable_names vs))

pub variable_section-with : {N M : Type 0} (f : N → M) (g : ℕ → ℕ) (vs : Tree N (maybe variables)) → variable_names (section_variables (mapped_tree f g vs)) ≡ map f (variable_names (section_variables vs))
variable_section-with f g none = refl
variable_section-with f g (one (declares_var_section vs)) = variables-with f g vs

procedures-with : {N M : Type 0} (f : N → M) (g : ℕ → ℕ) (ps : Tree N (items procedure)) → procedure_names (mapped_tree f g ps) ≡ map f (procedure_names ps)
procedures-with f g end = refl
procedures-with f g (more (declares_procedure x fs b closing) ps) = λ i. f x ∷ procedures-with f g ps i

section-with : {N M : Type 0} (f : N → M) (g : ℕ → ℕ) (s : Tree N section) → parameter_section_names (mapped_tree f g s) ≡ map f (parameter_section_names s)
section-with f g (value_section ns t) = listed-with f g ns
section-with f g (variable_section ns t) = listed-with f g ns

sections-with : {N M : Type 0} (f : N → M) (g : ℕ → ℕ) (fs : Tree N (items section_after_semicolon)) → formal_parameter_names (mapped_tree f g fs) ≡ map f (formal_parameter_names fs)
sections-with f g end = refl
sections-with f g (more (semicolon_then_section s) fs) =
    (λ i. section-with f g s i ++ sections-with f g fs i) ∙ sym (map-append f (parameter_section_names s) (formal_parameter_names fs))

pub formals-with : {N M : Type 0} (f : N → M) (g : ℕ → ℕ) (fs : Tree N (maybe formals)) → formal_parameter_names (formal_parameter_sections (mapped_tree f g fs)) ≡ map f (formal_parameter_names (formal_parameter_sections fs))
formals-with f g none = refl
formals-with f g (one no_formals) = refl
formals-with f g (one (some_formals s fs)) = sections-with f g (more (semicolon_then_section s) fs)

pub map-append₄ : {N M : Type 0} (f : N → M) (a b c d : List N) → map f a ++ (map f b ++ (map f c ++ map f d)) ≡ map f (a ++ (b ++ (c ++ d)))
map-append₄ f a b c d =
    (λ i. map f a ++ (map f b ++ sym (map-append f c d) i))
    ∙ ((λ i. map f a ++ sym (map-append f b (c ++ d)) i) ∙ sym (map-append f a (b ++ (c ++ d))))

pub block-with : {N M : Type 0} (f : N → M) (g : ℕ → ℕ) (b : Tree N block) → names_declared_in_block (mapped_tree f g b) ≡ map f (names_declared_in_block b)
block-with f g (forms_block (declares cs ts vs ps) statements) =
    (λ i. constant_section-with f g cs i ++ (type_section-with f g ts i ++ (variable_section-with f g vs i ++ procedures-with f g ps i)))
    ∙ map-append₄ f (constant_names (section_constants cs)) (declared_type_names (section_types ts)) (variable_names (section_variables vs)) (procedure_names ps)

module _ (d : ℕ) (new : Name) where
  -- an identifier as its ordinal and its name, for the same search over trees of these
  abbrev Bound : Type 0
  Bound = Option ℕ × Name

  abbrev is_d : Bound → Bool
  is_d p = same_ordinal p.0 d

  abbrev has_new : Bound → Bool
  has_new p = same_name p.1 new && not (is_d p)

  abbrev last_new : Option ℕ → List Bound → Option ℕ
  last_new found [] = found
  last_new found (p ∷ ps) = last_new (if has_new p then p.0 else found) ps

  abbrev first_new : List Bound → Option ℕ
  first_new [] = None
  first_new (p ∷ ps) = if has_new p then p.0 else first_new ps

  abbrev new_among : List Bound → Option ℕ
  new_among ps = if list_any is_d ps then last_new None ps else None

  abbrev mutual
    new_in_block : List Bound → Tree Bound block → Option ℕ
    new_in_block own (forms_block (declares cs ts vs ps) statements) =
        option_or (new_among (own ++ names_declared_in_block (forms_block (declares cs ts vs ps) statements))) (new_in_procedures ps)

    new_in_procedures : Tree Bound (items procedure) → Option ℕ
    new_in_procedures end = None
    new_in_procedures (more p rest) = option_or (new_in_procedure p) (new_in_procedures rest)

    new_in_procedure : Tree Bound (item procedure) → Option ℕ
    new_in_procedure (declares_procedure x fs b closing) = new_in_block (formal_parameter_names (formal_parameter_sections fs)) b

  module _ (r : Resolution) where
    abbrev bound : ℕ → Bound
    bound i = ordinal_and_spelling_at_token r.module_read.source r.ordinals i

    abbrev value : ℕ → ℕ
    value i = token_value_at r.module_read.source i

    abbrev sought : NamesakeSearchView
    sought = record { source = r.module_read.source; ordinals = r.ordinals; declaration = d; new = new }

    any_bound : (is : List ℕ) → list_any (is_bound_to_declaration sought) is ≡ list_any is_d (map bound is)
    any_bound [] = refl
    any_bound (i ∷ is) = λ j. is_d (bound i) || any_bound is j

    last_bound : (found : Option ℕ) (is : List ℕ) → last_namesake sought found is ≡ last_new found (map bound is)
    last_bound found [] = refl
    last_bound found (i ∷ is) = last_bound (if has_new (bound i) then ordinal_in r.ordinals i else found) is

    among_bound : (is : List ℕ) → namesake_among sought is ≡ new_among (map bound is)
    among_bound is = λ j. if any_bound is j then last_bound None is j else None

    mutual
      block_bound : (own : List ℕ) (b : Tree ℕ block) → namesake_in_block sought own b ≡ new_in_block (map bound own) (mapped_tree bound value b)
      block_bound own (forms_block (declares cs ts vs ps) statements) =
          let b : Tree ℕ block = forms_block (declares cs ts vs ps) statements in
          let here = among_bound (own ++ names_declared_in_block b) ∙ ap new_among (map-append bound own (names_declared_in_block b) ∙ ap (λ xs. map bound own ++ xs) (sym (block-with bound value b))) in
          λ j. option_or (here j) (procedures_bound ps j)

      procedures_bound : (ps : Tree ℕ (items procedure)) → namesake_in_procedure_list sought ps ≡ new_in_procedures (mapped_tree bound value ps)
      procedures_bound end = refl
      procedures_bound (more p rest) = λ j. option_or (procedure_bound p j) (procedures_bound rest j)

      procedure_bound : (p : Tree ℕ (item procedure)) → namesake_in_procedure sought p ≡ new_in_procedure (mapped_tree bound value p)
      procedure_bound (declares_procedure x fs b closing) =
          block_bound (formal_parameter_names (formal_parameter_sections fs)) b ∙ ap (λ own. new_in_block own (mapped_tree bound value b)) (sym (formals-with bound value fs))

  -- a scope's bindings, newest first

  declares_any : (own : Scope Name) → declares_ordinal own d ≡ list_any is_d (labels_in ordinal_and_spelling own)
  declares_any [] = refl
  declares_any (b ∷ own) = λ i. b.1 == d || declares_any own i

  other_first : (own : Scope Name) → other_declaration_with_name own d new ≡ first_new (labels_in ordinal_and_spelling own)
  other_first [] = refl
  other_first (b ∷ own) = λ i. if same_name b.0 new && not (b.1 == d) then Some b.1 else other_first own i

  any-onto : (xs ys : List Bound) → list_any is_d (onto xs ys) ≡ (list_any is_d xs || list_any is_d ys)
  any-onto [] ys = refl
  any-onto (x ∷ xs) ys = any-onto xs (x ∷ ys) ∙ swap (list_any is_d xs) (is_d x) (list_any is_d ys)
    where
      swap : (a b c : Bool) → (a || (b || c)) ≡ ((b || a) || c)
      swap true true c = refl
      swap true false c = refl
      swap false true c = refl
      swap false false c = refl

  first-onto : (xs ys : List Bound) → first_new (onto xs ys) ≡ last_new (first_new ys) xs
  first-onto [] ys = refl
  first-onto (x ∷ xs) ys = first-onto xs (x ∷ ys)

  or_false : (b : Bool) → (b || false) ≡ b
  or_false true = refl
  or_false false = refl

  scope_among : (own : Scope Name) (ps : List Bound) → labels_in ordinal_and_spelling own ≡ onto ps [] → (if declares_ordinal own d then other_declaration_with_name own d new else None) ≡ new_among ps
  scope_among own ps e =
      let declared = declares_any own ∙ (ap (list_any is_d) e ∙ (any-onto ps [] ∙ or_false (list_any is_d ps))) in
      let named = other_first own ∙ (ap first_new e ∙ first-onto ps []) in
      λ i. if declared i then named i else None

  namesake_ordinal-append : (xs ys : List (Scope Name)) → namesake_in_scopes (xs ++ ys) d new ≡ option_or (namesake_in_scopes xs d new) (namesake_in_scopes ys d new)
  namesake_ordinal-append [] ys = refl
  namesake_ordinal-append (own ∷ xs) ys =
      let here : Option ℕ = if declares_ordinal own d then other_declaration_with_name own d new else None in
      ap (option_or here) (namesake_ordinal-append xs ys) ∙ sym (or_assoc here (namesake_in_scopes xs d new) (namesake_in_scopes ys d new))

  mutual
    block_scopes : (visible : Scope Name) (k : ℕ) (own : Scope Name) (ps : List Bound) (b : Tree Name block) → labels_in ordinal_and_spelling own ≡ onto ps []
        → new_in_block ps (relabel_block naming_by_spelling ordinal_and_spelling visible k b) ≡ namesake_in_scopes (scopes_in_block k own b) d new
    block_scopes visible k own ps (forms_block (declares cs ts vs procedures) statements) e =
        let b : Tree Name block = forms_block (declares cs ts vs procedures) statements in
        let declared = names_declared_in_block (relabel_block naming_by_spelling ordinal_and_spelling visible k b) in
        let labels = labels_in-block naming_by_spelling ordinal_and_spelling visible k b own ∙ (ap (onto declared) e ∙ sym (onto-append ps declared [])) in
        λ i. option_or (sym (scope_among (body_scope k b own) (ps ++ declared) labels) i) (procedures_scopes (scope_before_procedures k b visible) (first_procedure_ordinal k b) procedures i)

    procedures_scopes : (visible : Scope Name) (k : ℕ) (ps : Tree Name (items procedure)) → new_in_procedures (relabel_procedure_list naming_by_spelling ordinal_and_spelling visible k ps) ≡ namesake_in_scopes (scopes_in_procedure_list k ps) d new
    procedures_scopes visible k end = refl
    procedures_scopes visible k (more p rest) =
        (λ i. option_or (procedure_scopes visible k p i) (procedures_scopes ((procedure_name p, k) ∷ visible) (ordinal_after_procedure (suc k) p) rest i))
        ∙ sym (namesake_ordinal-append (scopes_in_procedure (suc k) p) (scopes_in_procedure_list (ordinal_after_procedure (suc k) p) rest))

    procedure_scopes : (visible : Scope Name) (k : ℕ) (p : Tree Name (item procedure)) → new_in_procedure (relabel_procedure naming_by_spelling ordinal_and_spelling visible k p) ≡ namesake_in_scopes (scopes_in_procedure (suc k) p) d new
    procedure_scopes visible k (declares_procedure x fs b closing) =
        let own = formal_parameter_names (formal_parameter_sections fs) in
        let labelled = ap formal_parameter_names (formals-section naming_by_spelling ordinal_and_spelling visible (suc k) fs) ∙ sections-labels naming_by_spelling ordinal_and_spelling visible (suc k) (formal_parameter_sections fs) in
        block_scopes (declare_names (suc k) own ((x, k) ∷ visible)) (ordinal_after_names (suc k) own) (declare_names (suc k) own []) (formal_parameter_names (formal_parameter_sections (relabel_formals naming_by_spelling ordinal_and_spelling visible (suc k) fs))) b
        (labels_in-names ordinal_and_spelling (suc k) own [] ∙ ap (λ xs. onto xs []) (sym labelled))

  module_scopes : (m : Tree Name module_text) → new_in_block [] (module_block (relabel_module naming_by_spelling ordinal_and_spelling m)) ≡ namesake_ordinal m d new
  module_scopes (forms_module x b closing) = block_scopes (predeclared_scope naming_by_spelling) 7 [] [] b refl

-- The search in a module's block finds the other declaration with the name.
pub namesake_found : (r : Resolution) (d : ℕ) (new : Name) → IsResolution r → namesake_in_block (record { source = r.module_read.source; ordinals = r.ordinals; declaration = d; new = new }) [] (module_block (tree_of r.module_read)) ≡ namesake_ordinal (named_tree_of r.module_read) d new
namesake_found r d new is =
    block_bound d new r [] (module_block (tree_of r.module_read))
    ∙ (ap (λ t. new_in_block d new [] (module_block t)) (sym is.binding) ∙ module_scopes d new (named_tree_of r.module_read))
