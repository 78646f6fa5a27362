-- Proves that a module without a body has the same labels as the module, because a body declares
-- nothing.
use Rattle.std.proofs.Common.{◌≡◌, ℕ, zero, suc, [], ◌∷◌, Some, None, refl, sym, ap}
use Rattle.ob0_tree.specs.Tree.{Tree, block, declares, declares_procedure, end, forms_block, forms_module, item, items, module_text, more, procedure}
use Rattle.ob0_language_names.specs.Names.{Naming}
use Rattle.ob0_language_names.specs.BlockParts.{constant_names, formal_parameter_names, formal_parameter_sections, declared_type_names, procedure_name, section_constants, section_types, section_variables, variable_names}
use Rattle.ob0_language_names.specs.Scopes.{Labelling, Scope, ordinal_after_block, ordinal_after_names, ordinal_after_procedure, ordinal_after_procedure_list, declare_names, declare_procedure_names, predeclared_scope, relabel_block, relabel_constant_section, relabel_formals, relabel_procedure, relabel_procedure_list, relabel_type_section, relabel_uses, relabel_variable_section, relabel_module}
use Rattle.ob0_scope_table.specs.BodyReplacement.{PathToBody, block_without_body, procedure_without_body, procedure_list_without_body, module_without_body}

-- ---- the same number of declarations

mutual
  after_block_without : {N : Type 0} (path : PathToBody) (n : ℕ) (b : Tree N block) → ordinal_after_block n (block_without_body path b) ≡ ordinal_after_block n b
  after_block_without [] n (forms_block (declares cs ts vs ps) statements) = refl
  after_block_without (k ∷ path) n (forms_block (declares cs ts vs ps) statements) =
      after_procedures_without k path (ordinal_after_names (ordinal_after_names (ordinal_after_names n (constant_names (section_constants cs))) (declared_type_names (section_types ts))) (variable_names (section_variables vs))) ps

  after_procedures_without : {N : Type 0} (k : ℕ) (path : PathToBody) (n : ℕ) (ps : Tree N (items procedure)) → ordinal_after_procedure_list n (procedure_list_without_body k path ps) ≡ ordinal_after_procedure_list n ps
  after_procedures_without zero path n end = refl
  after_procedures_without (suc k) path n end = refl
  after_procedures_without zero path n (more p ps) = ap (λ m. ordinal_after_procedure_list m ps) (after_procedure_without path (suc n) p)
  after_procedures_without (suc k) path n (more p ps) = after_procedures_without k path (ordinal_after_procedure (suc n) p) ps

  after_procedure_without : {N : Type 0} (path : PathToBody) (n : ℕ) (p : Tree N (item procedure)) → ordinal_after_procedure n (procedure_without_body path p) ≡ ordinal_after_procedure n p
  after_procedure_without path n (declares_procedure x fs b closing) = after_block_without path (ordinal_after_names n (formal_parameter_names (formal_parameter_sections fs))) b

pub name_without : {N : Type 0} (path : PathToBody) (p : Tree N (item procedure)) → procedure_name (procedure_without_body path p) ≡ procedure_name p
name_without path (declares_procedure x fs b closing) = refl

-- The procedures of a block add the same names to a scope without the body.
names_without : {N : Type 0} (k : ℕ) (path : PathToBody) (n : ℕ) (ps : Tree N (items procedure)) (scope : Scope N) → declare_procedure_names n (procedure_list_without_body k path ps) scope ≡ declare_procedure_names n ps scope
names_without zero path n end scope = refl
names_without (suc k) path n end scope = refl
names_without zero path n (more p ps) scope = λ i. declare_procedure_names (after_procedure_without path (suc n) p i) ps ((name_without path p i, n) ∷ scope)
names_without (suc k) path n (more p ps) scope = names_without k path (ordinal_after_procedure (suc n) p) ps ((procedure_name p, n) ∷ scope)

-- ---- the labels

module _ {N M : Type 0} (naming : Naming N) (label : Labelling N M) where
  mutual
    block_relabelled : (path : PathToBody) (scope : Scope N) (n : ℕ) (b : Tree N block) → block_without_body path (relabel_block naming label scope n b) ≡ relabel_block naming label scope n (block_without_body path b)
    block_relabelled [] scope n (forms_block (declares cs ts vs ps) statements) = refl
    block_relabelled (k ∷ path) scope n (forms_block (declares cs ts vs ps) statements) =
        let first = ordinal_after_names (ordinal_after_names (ordinal_after_names n (constant_names (section_constants cs))) (declared_type_names (section_types ts))) (variable_names (section_variables vs)) in
        let c = declare_names n (constant_names (section_constants cs)) scope in
        let t = declare_names (ordinal_after_names n (constant_names (section_constants cs))) (declared_type_names (section_types ts)) c in
        let v = declare_names (ordinal_after_names (ordinal_after_names n (constant_names (section_constants cs))) (declared_type_names (section_types ts))) (variable_names (section_variables vs)) t in
        λ i. forms_block
        (declares (relabel_constant_section naming label scope n cs) (relabel_type_section naming label c (ordinal_after_names n (constant_names (section_constants cs))) ts)
        (relabel_variable_section naming label t (ordinal_after_names (ordinal_after_names n (constant_names (section_constants cs))) (declared_type_names (section_types ts))) vs) (procedures_relabelled k path v first ps i))
        (relabel_uses naming label (sym (names_without k path first ps v) i) statements)

    procedures_relabelled : (k : ℕ) (path : PathToBody) (scope : Scope N) (n : ℕ) (ps : Tree N (items procedure)) → procedure_list_without_body k path (relabel_procedure_list naming label scope n ps) ≡ relabel_procedure_list naming label scope n (procedure_list_without_body k path ps)
    procedures_relabelled zero path scope n end = refl
    procedures_relabelled (suc k) path scope n end = refl
    procedures_relabelled zero path scope n (more p ps) =
        λ i. more (procedure_relabelled path scope n p i) (relabel_procedure_list naming label ((sym (name_without path p) i, n) ∷ scope) (sym (after_procedure_without path (suc n) p) i) ps)
    procedures_relabelled (suc k) path scope n (more p ps) =
        ap (more (relabel_procedure naming label scope n p)) (procedures_relabelled k path ((procedure_name p, n) ∷ scope) (ordinal_after_procedure (suc n) p) ps)

    procedure_relabelled : (path : PathToBody) (scope : Scope N) (n : ℕ) (p : Tree N (item procedure)) → procedure_without_body path (relabel_procedure naming label scope n p) ≡ relabel_procedure naming label scope n (procedure_without_body path p)
    procedure_relabelled path scope n (declares_procedure x fs b closing) =
        ap (λ c. declares_procedure (label (Some n) x) (relabel_formals naming label scope (suc n) fs) c (label (Some n) closing))
        (block_relabelled path (declare_names (suc n) (formal_parameter_names (formal_parameter_sections fs)) ((x, n) ∷ scope)) (ordinal_after_names (suc n) (formal_parameter_names (formal_parameter_sections fs))) b)

  pub without_relabelled : (path : PathToBody) (m : Tree N module_text) → module_without_body path (relabel_module naming label m) ≡ relabel_module naming label (module_without_body path m)
  without_relabelled path (forms_module x b closing) = ap (λ c. forms_module (label None x) c (label None closing)) (block_relabelled path (predeclared_scope naming) 7 b)
