-- A relabelled tree has the same number of words ARRAY and RECORD.
use Rattle.std.proofs.Common.{◌≡◌, ℕ, suc, ◌+◌, ◌∷◌, None, refl, ap, ◌∙◌}
use Rattle.ob0_tree.specs.Tree.{Tree, block, declares, declares_procedure, declares_type, declares_variable, end, section_after_semicolon, forms_block, item, items, more, procedure, semicolon_then_section, type_definition, variable}
use Rattle.ob0_language_names.specs.Names.{Naming}
use Rattle.ob0_language_names.specs.BlockParts.{formal_parameter_names, formal_parameter_sections, names_in_list, procedure_name, parameter_section_names, parameter_section_type, section_types, section_variables}
use Rattle.ob0_language_names.specs.Scopes.{Labelling, Scope, ordinal_after_names, ordinal_after_procedure, declare_names, first_procedure_ordinal, first_type_ordinal, first_variable_ordinal, label_in_scope, scope_before_procedures, relabel_block, relabel_procedure, relabel_procedure_list, relabel_parameter_section_list, relabel_types, relabel_variables, scope_before_types, scope_before_variables}
use Rattle.ob0_language_names.proofs.Relabelled.{formals-section, parameter_section_type-relabel, types-section, variables-section}
use Rattle.ob0_language_types.specs.Declarations.{block_constructor_count, formals_constructor_count, procedure_constructor_count, procedure_list_constructor_count, types_constructor_count, variables_constructor_count}
use Rattle.ob0_language_types.specs.Typing.{constructor_count}
use Rattle.ob0_language_types.proofs.TypeNaturality.{constructor_count-map}

pub types_constructor_count-relabel : {N M : Type 0} (naming : Naming N) (label : Labelling N M) (scope : Scope N) (k : ℕ) (ds : Tree N (items type_definition)) → types_constructor_count (relabel_types naming label scope k ds) ≡ types_constructor_count ds
types_constructor_count-relabel naming label scope k end = refl
types_constructor_count-relabel naming label scope k (more (declares_type x u) ds) = λ i.
    constructor_count-map (label_in_scope naming label scope) (label None) u i + types_constructor_count-relabel naming label ((x, k) ∷ scope) (suc k) ds i

pub variables_constructor_count-relabel : {N M : Type 0} (naming : Naming N) (label : Labelling N M) (scope : Scope N) (k : ℕ) (gs : Tree N (items variable)) → variables_constructor_count (relabel_variables naming label scope k gs) ≡ variables_constructor_count gs
variables_constructor_count-relabel naming label scope k end = refl
variables_constructor_count-relabel naming label scope k (more (declares_variable ns u) gs) = λ i.
    constructor_count-map (label_in_scope naming label scope) (label None) u i + variables_constructor_count-relabel naming label (declare_names k (names_in_list ns) scope) (ordinal_after_names k (names_in_list ns)) gs i

pub formals_constructor_count-relabel : {N M : Type 0} (naming : Naming N) (label : Labelling N M) (scope : Scope N) (k : ℕ) (fs : Tree N (items section_after_semicolon)) → formals_constructor_count (relabel_parameter_section_list naming label scope k fs) ≡ formals_constructor_count fs
formals_constructor_count-relabel naming label scope k end = refl
formals_constructor_count-relabel naming label scope k (more (semicolon_then_section f) fs) = λ i.
    (ap constructor_count (parameter_section_type-relabel naming label scope k f) ∙ constructor_count-map (label_in_scope naming label scope) (label None) (parameter_section_type f)) i + formals_constructor_count-relabel naming label (declare_names k (parameter_section_names f) scope) (ordinal_after_names k (parameter_section_names f)) fs i

mutual
  pub block_constructor_count-relabel : {N M : Type 0} (naming : Naming N) (label : Labelling N M) (scope : Scope N) (k : ℕ) (b : Tree N block) → block_constructor_count (relabel_block naming label scope k b) ≡ block_constructor_count b
  block_constructor_count-relabel naming label scope k (forms_block (declares cs ts vs ps) statements) = λ i.
      (ap types_constructor_count (types-section naming label (scope_before_types k (forms_block (declares cs ts vs ps) statements) scope) (first_type_ordinal k (forms_block (declares cs ts vs ps) statements)) ts) ∙ types_constructor_count-relabel naming label (scope_before_types k (forms_block (declares cs ts vs ps) statements) scope) (first_type_ordinal k (forms_block (declares cs ts vs ps) statements)) (section_types ts)) i
      + ((ap variables_constructor_count (variables-section naming label (scope_before_variables k (forms_block (declares cs ts vs ps) statements) scope) (first_variable_ordinal k (forms_block (declares cs ts vs ps) statements)) vs) ∙ variables_constructor_count-relabel naming label (scope_before_variables k (forms_block (declares cs ts vs ps) statements) scope) (first_variable_ordinal k (forms_block (declares cs ts vs ps) statements)) (section_variables vs)) i
      + procedure_list_constructor_count-relabel naming label (scope_before_procedures k (forms_block (declares cs ts vs ps) statements) scope) (first_procedure_ordinal k (forms_block (declares cs ts vs ps) statements)) ps i)

  pub procedure_list_constructor_count-relabel : {N M : Type 0} (naming : Naming N) (label : Labelling N M) (scope : Scope N) (k : ℕ) (ps : Tree N (items procedure)) → procedure_list_constructor_count (relabel_procedure_list naming label scope k ps) ≡ procedure_list_constructor_count ps
  procedure_list_constructor_count-relabel naming label scope k end = refl
  procedure_list_constructor_count-relabel naming label scope k (more p rest) = λ i.
      procedure_constructor_count-relabel naming label scope k p i + procedure_list_constructor_count-relabel naming label ((procedure_name p, k) ∷ scope) (ordinal_after_procedure (suc k) p) rest i

  pub procedure_constructor_count-relabel : {N M : Type 0} (naming : Naming N) (label : Labelling N M) (scope : Scope N) (k : ℕ) (p : Tree N (item procedure)) → procedure_constructor_count (relabel_procedure naming label scope k p) ≡ procedure_constructor_count p
  procedure_constructor_count-relabel naming label scope k (declares_procedure x fs b closing) = λ i.
      (ap formals_constructor_count (formals-section naming label scope (suc k) fs) ∙ formals_constructor_count-relabel naming label scope (suc k) (formal_parameter_sections fs)) i
      + block_constructor_count-relabel naming label (declare_names (suc k) (formal_parameter_names (formal_parameter_sections fs)) ((x, k) ∷ scope)) (ordinal_after_names (suc k) (formal_parameter_names (formal_parameter_sections fs))) b i
