-- Proves that relabelling with labels made from other labels is mapping the tree that has the other
-- labels.
use Rattle.std.proofs.Common.{◌≡◌, ℕ, suc, ◌∷◌, Some, None, refl, sym}
use Rattle.ob0_tree.specs.Tree.{Sort, Tree, mapped_tree, block, constant, constants, formals, name_after_comma, section_after_semicolon, item, items, maybe, module_text, names, procedure, section, type_definition, type_definitions, variable, variables, declares, declares_constant, declares_const_section, declares_procedure, declares_type, declares_type_section, declares_variable, declares_var_section, end, forms_block, forms_module, listed, more, no_formals, none, one, some_formals, comma_then_name, semicolon_then_section, value_section, variable_section}
use Rattle.ob0_tree.proofs.Mapped.{mapped_twice}
use Rattle.ob0_language_names.specs.Names.{Naming}
use Rattle.ob0_language_names.specs.BlockParts.{formal_parameter_names, formal_parameter_sections, names_in_list, procedure_name, parameter_section_names}
use Rattle.ob0_language_names.specs.Scopes.{Labelling, Scope, ordinal_after_names, ordinal_after_procedure, body_scope, declare_names, first_procedure_ordinal, first_type_ordinal, first_variable_ordinal, label_in_scope, predeclared_scope, scope_before_procedures, relabel_block, relabel_constant_section, relabel_constants, relabel_formals, relabel_names_after_first, relabel_names, relabel_procedure, relabel_procedure_list, relabel_parameter_section, relabel_parameter_section_list, relabel_type_section, relabel_types, relabel_uses, relabel_variable_section, relabel_variables, relabel_module, scope_before_types, scope_before_variables}

module _ {N M K : Type 0} (naming : Naming N) (f : M → K) (label : Labelling N M) where
  abbrev then_f : Labelling N K
  then_f ordinal x = f (label ordinal x)

  uses-mapped_tree : {s : Sort} (scope : Scope N) (t : Tree N s) → relabel_uses naming then_f scope t ≡ mapped_tree f (λ n. n) (relabel_uses naming label scope t)
  uses-mapped_tree scope t = sym (mapped_twice f f (λ n. n) (label_in_scope naming label scope) (label None) (λ n. n) t)

  further-mapped_tree : (k : ℕ) (ns : Tree N (items name_after_comma)) → relabel_names_after_first then_f k ns ≡ mapped_tree f (λ n. n) (relabel_names_after_first label k ns)
  further-mapped_tree k end = refl
  further-mapped_tree k (more (comma_then_name x) rest) = λ i. more (comma_then_name (f (label (Some k) x))) (further-mapped_tree (suc k) rest i)

  names-mapped_tree : (k : ℕ) (ns : Tree N names) → relabel_names then_f k ns ≡ mapped_tree f (λ n. n) (relabel_names label k ns)
  names-mapped_tree k (listed x rest) = λ i. listed (f (label (Some k) x)) (further-mapped_tree (suc k) rest i)

  constants-mapped_tree : (scope : Scope N) (k : ℕ) (cs : Tree N (items constant)) → relabel_constants naming then_f scope k cs ≡ mapped_tree f (λ n. n) (relabel_constants naming label scope k cs)
  constants-mapped_tree scope k end = refl
  constants-mapped_tree scope k (more (declares_constant x e) cs) = λ i. more (declares_constant (f (label (Some k) x)) (uses-mapped_tree scope e i)) (constants-mapped_tree ((x, k) ∷ scope) (suc k) cs i)

  types-mapped_tree : (scope : Scope N) (k : ℕ) (ts : Tree N (items type_definition)) → relabel_types naming then_f scope k ts ≡ mapped_tree f (λ n. n) (relabel_types naming label scope k ts)
  types-mapped_tree scope k end = refl
  types-mapped_tree scope k (more (declares_type x t) ts) = λ i. more (declares_type (f (label (Some k) x)) (uses-mapped_tree scope t i)) (types-mapped_tree ((x, k) ∷ scope) (suc k) ts i)

  variables-mapped_tree : (scope : Scope N) (k : ℕ) (gs : Tree N (items variable)) → relabel_variables naming then_f scope k gs ≡ mapped_tree f (λ n. n) (relabel_variables naming label scope k gs)
  variables-mapped_tree scope k end = refl
  variables-mapped_tree scope k (more (declares_variable ns t) gs) = λ i.
      more (declares_variable (names-mapped_tree k ns i) (uses-mapped_tree scope t i)) (variables-mapped_tree (declare_names k (names_in_list ns) scope) (ordinal_after_names k (names_in_list ns)) gs i)

  section-mapped_tree : (scope : Scope N) (k : ℕ) (s : Tree N section) → relabel_parameter_section naming then_f scope k s ≡ mapped_tree f (λ n. n) (relabel_parameter_section naming label scope k s)
  section-mapped_tree scope k (value_section ns t) = λ i. value_section (names-mapped_tree k ns i) (uses-mapped_tree scope t i)
  section-mapped_tree scope k (variable_section ns t) = λ i. variable_section (names-mapped_tree k ns i) (uses-mapped_tree scope t i)

  sections-mapped_tree : (scope : Scope N) (k : ℕ) (fs : Tree N (items section_after_semicolon)) → relabel_parameter_section_list naming then_f scope k fs ≡ mapped_tree f (λ n. n) (relabel_parameter_section_list naming label scope k fs)
  sections-mapped_tree scope k end = refl
  sections-mapped_tree scope k (more (semicolon_then_section s) fs) = λ i.
      more (semicolon_then_section (section-mapped_tree scope k s i)) (sections-mapped_tree (declare_names k (parameter_section_names s) scope) (ordinal_after_names k (parameter_section_names s)) fs i)

  formals-mapped_tree : (scope : Scope N) (k : ℕ) (fs : Tree N (maybe formals)) → relabel_formals naming then_f scope k fs ≡ mapped_tree f (λ n. n) (relabel_formals naming label scope k fs)
  formals-mapped_tree scope k none = refl
  formals-mapped_tree scope k (one no_formals) = refl
  formals-mapped_tree scope k (one (some_formals s fs)) = λ i.
      one (some_formals (section-mapped_tree scope k s i) (sections-mapped_tree (declare_names k (parameter_section_names s) scope) (ordinal_after_names k (parameter_section_names s)) fs i))

  constant_section-mapped_tree : (scope : Scope N) (k : ℕ) (cs : Tree N (maybe constants)) → relabel_constant_section naming then_f scope k cs ≡ mapped_tree f (λ n. n) (relabel_constant_section naming label scope k cs)
  constant_section-mapped_tree scope k none = refl
  constant_section-mapped_tree scope k (one (declares_const_section cs)) = λ i. one (declares_const_section (constants-mapped_tree scope k cs i))

  type_section-mapped_tree : (scope : Scope N) (k : ℕ) (ts : Tree N (maybe type_definitions)) → relabel_type_section naming then_f scope k ts ≡ mapped_tree f (λ n. n) (relabel_type_section naming label scope k ts)
  type_section-mapped_tree scope k none = refl
  type_section-mapped_tree scope k (one (declares_type_section ts)) = λ i. one (declares_type_section (types-mapped_tree scope k ts i))

  variable_section-mapped_tree : (scope : Scope N) (k : ℕ) (vs : Tree N (maybe variables)) → relabel_variable_section naming then_f scope k vs ≡ mapped_tree f (λ n. n) (relabel_variable_section naming label scope k vs)
  variable_section-mapped_tree scope k none = refl
  variable_section-mapped_tree scope k (one (declares_var_section vs)) = λ i. one (declares_var_section (variables-mapped_tree scope k vs i))

  mutual
    block-mapped_tree : (scope : Scope N) (k : ℕ) (b : Tree N block) → relabel_block naming then_f scope k b ≡ mapped_tree f (λ n. n) (relabel_block naming label scope k b)
    block-mapped_tree scope k (forms_block (declares cs ts vs ps) statements) =
        let b : Tree N block = forms_block (declares cs ts vs ps) statements in λ i.
        forms_block
        (declares (constant_section-mapped_tree scope k cs i) (type_section-mapped_tree (scope_before_types k b scope) (first_type_ordinal k b) ts i)
        (variable_section-mapped_tree (scope_before_variables k b scope) (first_variable_ordinal k b) vs i) (procedures-mapped_tree (scope_before_procedures k b scope) (first_procedure_ordinal k b) ps i))
        (uses-mapped_tree (body_scope k b scope) statements i)

    procedures-mapped_tree : (scope : Scope N) (k : ℕ) (ps : Tree N (items procedure)) → relabel_procedure_list naming then_f scope k ps ≡ mapped_tree f (λ n. n) (relabel_procedure_list naming label scope k ps)
    procedures-mapped_tree scope k end = refl
    procedures-mapped_tree scope k (more p rest) = λ i.
        more (procedure-mapped_tree scope k p i) (procedures-mapped_tree ((procedure_name p, k) ∷ scope) (ordinal_after_procedure (suc k) p) rest i)

    procedure-mapped_tree : (scope : Scope N) (k : ℕ) (p : Tree N (item procedure)) → relabel_procedure naming then_f scope k p ≡ mapped_tree f (λ n. n) (relabel_procedure naming label scope k p)
    procedure-mapped_tree scope k (declares_procedure x fs b closing) = λ i.
        declares_procedure (f (label (Some k) x)) (formals-mapped_tree scope (suc k) fs i)
        (block-mapped_tree (declare_names (suc k) (formal_parameter_names (formal_parameter_sections fs)) ((x, k) ∷ scope)) (ordinal_after_names (suc k) (formal_parameter_names (formal_parameter_sections fs))) b i)
        (f (label (Some k) closing))

  -- Mapping the labels of a tree is the same as mapping the tree.
  pub relabel_module-mapped_tree : (m : Tree N module_text) → relabel_module naming then_f m ≡ mapped_tree f (λ n. n) (relabel_module naming label m)
  relabel_module-mapped_tree (forms_module x b closing) = λ i. forms_module (f (label None x)) (block-mapped_tree (predeclared_scope naming) 7 b i) (f (label None closing))
