-- The parts of a relabelled tree are the relabelled parts of the tree.
use Rattle.std.proofs.Common.{◌≡◌, ℕ, suc, ◌∷◌, Some, refl}
use Rattle.ob0_tree.specs.Tree.{Tree, constants, declares_const_section, declares_type_section, declares_var_section, end, formals, name_after_comma, items, listed, maybe, more, names, no_formals, none, one, section, some_formals, comma_then_name, type_definitions, value_section, variable_section, variables}
use Rattle.ob0_language_names.specs.Names.{Naming}
use Rattle.ob0_language_names.specs.BlockParts.{formal_parameter_sections, names_after_first, names_in_list, section_constants, parameter_section_names, parameter_section_type, section_types, section_variables}
use Rattle.ob0_language_names.specs.Scopes.{Labelling, Scope, labels_of_declared_names, relabel_constant_section, relabel_constants, relabel_formals, relabel_names_after_first, relabel_names, relabel_parameter_section, relabel_parameter_section_list, relabel_type_section, relabel_types, relabel_uses, relabel_variable_section, relabel_variables}

pub further-relabel : {N M : Type 0} (label : Labelling N M) (k : ℕ) (xs : Tree N (items name_after_comma)) → names_after_first (relabel_names_after_first label k xs) ≡ labels_of_declared_names label k (names_after_first xs)
further-relabel label k end = refl
further-relabel label k (more (comma_then_name x) xs) = λ i. label (Some k) x ∷ further-relabel label (suc k) xs i

pub names-relabel : {N M : Type 0} (label : Labelling N M) (k : ℕ) (ns : Tree N names) → names_in_list (relabel_names label k ns) ≡ labels_of_declared_names label k (names_in_list ns)
names-relabel label k (listed x xs) = λ i. label (Some k) x ∷ further-relabel label (suc k) xs i

pub parameter_section_names-relabel : {N M : Type 0} (naming : Naming N) (label : Labelling N M) (scope : Scope N) (k : ℕ) (s : Tree N section) → parameter_section_names (relabel_parameter_section naming label scope k s) ≡ labels_of_declared_names label k (parameter_section_names s)
parameter_section_names-relabel naming label scope k (value_section ns t) = names-relabel label k ns
parameter_section_names-relabel naming label scope k (variable_section ns t) = names-relabel label k ns

pub parameter_section_type-relabel : {N M : Type 0} (naming : Naming N) (label : Labelling N M) (scope : Scope N) (k : ℕ) (s : Tree N section) → parameter_section_type (relabel_parameter_section naming label scope k s) ≡ relabel_uses naming label scope (parameter_section_type s)
parameter_section_type-relabel naming label scope k (value_section ns t) = refl
parameter_section_type-relabel naming label scope k (variable_section ns t) = refl

pub constants-section : {N M : Type 0} (naming : Naming N) (label : Labelling N M) (scope : Scope N) (k : ℕ) (cs : Tree N (maybe constants)) → section_constants (relabel_constant_section naming label scope k cs) ≡ relabel_constants naming label scope k (section_constants cs)
constants-section naming label scope k none = refl
constants-section naming label scope k (one (declares_const_section cs)) = refl

pub types-section : {N M : Type 0} (naming : Naming N) (label : Labelling N M) (scope : Scope N) (k : ℕ) (ts : Tree N (maybe type_definitions)) → section_types (relabel_type_section naming label scope k ts) ≡ relabel_types naming label scope k (section_types ts)
types-section naming label scope k none = refl
types-section naming label scope k (one (declares_type_section ts)) = refl

pub variables-section : {N M : Type 0} (naming : Naming N) (label : Labelling N M) (scope : Scope N) (k : ℕ) (vs : Tree N (maybe variables)) → section_variables (relabel_variable_section naming label scope k vs) ≡ relabel_variables naming label scope k (section_variables vs)
variables-section naming label scope k none = refl
variables-section naming label scope k (one (declares_var_section vs)) = refl

pub formals-section : {N M : Type 0} (naming : Naming N) (label : Labelling N M) (scope : Scope N) (k : ℕ) (fs : Tree N (maybe formals)) → formal_parameter_sections (relabel_formals naming label scope k fs) ≡ relabel_parameter_section_list naming label scope k (formal_parameter_sections fs)
formals-section naming label scope k none = refl
formals-section naming label scope k (one no_formals) = refl
formals-section naming label scope k (one (some_formals s fs)) = refl
