-- Proves that the names that are declared on the way to a body, with the ordinals that the scope
-- rules give them, are the scope of the body. These names are the same if the body's statements are
-- omitted, and replacing the names of a tree replaces them.
use Rattle.std.proofs.Common.{◌≡◌, ℕ, zero, suc, Option, Some, List, [], ◌∷◌, ◌++◌, map, refl, sym, ap, ◌∙◌}
use Rattle.std.proofs.lemmas.List.{map-append}
use Rattle.ob0_tree.specs.Tree.{Tree, block, body, constants, declares, declares_procedure, end, formals, forms_block, forms_module, item, items, mapped_tree, maybe, module_text, more, procedure, type_definitions, variables}
use Rattle.ob0_language_names.specs.Names.{Name, naming_by_spelling}
use Rattle.ob0_language_names.specs.BlockParts.{constant_names, declared_type_names, formal_parameter_names, formal_parameter_sections, procedure_name, section_constants, section_types, section_variables, variable_names}
use Rattle.ob0_language_names.specs.ConsistentNames.{procedure_names}
use Rattle.ob0_language_names.specs.Scopes.{Labelling, Scope, declare_names, declare_procedure_names, first_procedure_ordinal, first_type_ordinal, first_variable_ordinal, labels_of_declared_names, ordinal_after_names, ordinal_after_procedure, predeclared_scope, relabel_block, relabel_constant_section, relabel_formals, relabel_module, relabel_procedure, relabel_procedure_list, relabel_type_section, relabel_uses, relabel_variable_section, scope_before_procedures, scope_before_types, scope_before_variables}
use Rattle.ob0_language_names.proofs.Relabelled.{constants-section, formals-section, types-section, variables-section}
use Rattle.ob0_language_names.proofs.RenamedDeclarations.{constants-labels, sections-labels, types-labels, variables-labels}
use Rattle.ob0_scope_table.specs.BodyReplacement.{PathToBody, block_without_body, body_at_path, body_at_path_in_block, body_at_path_in_procedure, body_at_path_in_procedure_list, module_without_body, procedure_list_without_body, procedure_without_body}
use Rattle.ob0_scope_table.specs.Resolution.{ordinal_and_spelling}
use Rattle.ob0_scope_numbering.specs.BodyScope.{declare_name_if_bound, declare_names_with_ordinals}
use Rattle.ob0_scope.specs.NamesVisibleInBody.{names_visible_at_path, names_visible_at_path_in_block, names_visible_at_path_in_procedure, names_visible_at_path_in_procedure_list}
use Rattle.ob0_scope.proofs.Searched.{block-with, constant_section-with, formals-with, map-append₄, type_section-with, variable_section-with}
use Rattle.ob0_scope.proofs.WithoutRelabelled.{name_without}

-- ---- a tree with its names replaced

module _ {N M : Type 0} (f : N → M) (g : ℕ → ℕ) where
  mutual
    block_body_mapped : (path : PathToBody) (b : Tree N block) → body_at_path_in_block path (mapped_tree f g b) ≡ mapped_tree f g (body_at_path_in_block path b)
    block_body_mapped [] (forms_block ds statements) = refl
    block_body_mapped (k ∷ path) (forms_block (declares cs ts vs ps) statements) = procedures_body_mapped k path ps

    procedures_body_mapped : (k : ℕ) (path : PathToBody) (ps : Tree N (items procedure)) → body_at_path_in_procedure_list k path (mapped_tree f g ps) ≡ mapped_tree f g (body_at_path_in_procedure_list k path ps)
    procedures_body_mapped zero path end = refl
    procedures_body_mapped (suc k) path end = refl
    procedures_body_mapped zero path (more p ps) = procedure_body_mapped path p
    procedures_body_mapped (suc k) path (more p ps) = procedures_body_mapped k path ps

    procedure_body_mapped : (path : PathToBody) (p : Tree N (item procedure)) → body_at_path_in_procedure path (mapped_tree f g p) ≡ mapped_tree f g (body_at_path_in_procedure path p)
    procedure_body_mapped path (declares_procedure x fs b closing) = block_body_mapped path b

  name_mapped : (p : Tree N (item procedure)) → procedure_name (mapped_tree f g p) ≡ f (procedure_name p)
  name_mapped (declares_procedure x fs b closing) = refl

  mutual
    block_names_mapped : (path : PathToBody) (b : Tree N block) → names_visible_at_path_in_block path (mapped_tree f g b) ≡ map f (names_visible_at_path_in_block path b)
    block_names_mapped [] b = block-with f g b
    block_names_mapped (k ∷ path) (forms_block (declares cs ts vs ps) statements) =
        (λ i. constant_section-with f g cs i ++ (type_section-with f g ts i ++ (variable_section-with f g vs i ++ procedures_names_mapped k path ps i)))
        ∙ map-append₄ f (constant_names (section_constants cs)) (declared_type_names (section_types ts)) (variable_names (section_variables vs)) (names_visible_at_path_in_procedure_list k path ps)

    procedures_names_mapped : (k : ℕ) (path : PathToBody) (ps : Tree N (items procedure)) → names_visible_at_path_in_procedure_list k path (mapped_tree f g ps) ≡ map f (names_visible_at_path_in_procedure_list k path ps)
    procedures_names_mapped zero path end = refl
    procedures_names_mapped (suc k) path end = refl
    procedures_names_mapped zero path (more p ps) = λ i. name_mapped p i ∷ procedure_names_mapped path p i
    procedures_names_mapped (suc k) path (more p ps) = λ i. name_mapped p i ∷ procedures_names_mapped k path ps i

    procedure_names_mapped : (path : PathToBody) (p : Tree N (item procedure)) → names_visible_at_path_in_procedure path (mapped_tree f g p) ≡ map f (names_visible_at_path_in_procedure path p)
    procedure_names_mapped path (declares_procedure x fs b closing) =
        (λ i. formals-with f g fs i ++ block_names_mapped path b i) ∙ sym (map-append f (formal_parameter_names (formal_parameter_sections fs)) (names_visible_at_path_in_block path b))

pub names_mapped : {N M : Type 0} (f : N → M) (g : ℕ → ℕ) (path : PathToBody) (t : Tree N module_text) → names_visible_at_path path (mapped_tree f g t) ≡ map f (names_visible_at_path path t)
names_mapped f g path (forms_module x b closing) = block_names_mapped f g path b

-- Replacing names commutes with taking a body.
pub body_mapped : {N M : Type 0} (f : N → M) (g : ℕ → ℕ) (path : PathToBody) (t : Tree N module_text) → body_at_path path (mapped_tree f g t) ≡ mapped_tree f g (body_at_path path t)
body_mapped f g path (forms_module x b closing) = block_body_mapped f g path b

-- ---- a module without the body

mutual
  block_names_without : {N : Type 0} (path : PathToBody) (b : Tree N block) → names_visible_at_path_in_block path (block_without_body path b) ≡ names_visible_at_path_in_block path b
  block_names_without [] (forms_block (declares cs ts vs ps) statements) = refl
  block_names_without (k ∷ path) (forms_block (declares cs ts vs ps) statements) =
      ap (λ l. constant_names (section_constants cs) ++ (declared_type_names (section_types ts) ++ (variable_names (section_variables vs) ++ l))) (procedures_names_without k path ps)

  procedures_names_without : {N : Type 0} (k : ℕ) (path : PathToBody) (ps : Tree N (items procedure)) → names_visible_at_path_in_procedure_list k path (procedure_list_without_body k path ps) ≡ names_visible_at_path_in_procedure_list k path ps
  procedures_names_without zero path end = refl
  procedures_names_without (suc k) path end = refl
  procedures_names_without zero path (more p ps) = λ i. name_without path p i ∷ procedure_names_without path p i
  procedures_names_without (suc k) path (more p ps) = ap (λ l. procedure_name p ∷ l) (procedures_names_without k path ps)

  procedure_names_without : {N : Type 0} (path : PathToBody) (p : Tree N (item procedure)) → names_visible_at_path_in_procedure path (procedure_without_body path p) ≡ names_visible_at_path_in_procedure path p
  procedure_names_without path (declares_procedure x fs b closing) = ap (λ l. formal_parameter_names (formal_parameter_sections fs) ++ l) (block_names_without path b)

-- The names that are visible in a body don't depend on its statements.
pub names_without_statements : {N : Type 0} (path : PathToBody) (t : Tree N module_text) → names_visible_at_path path (module_without_body path t) ≡ names_visible_at_path path t
names_without_statements path (forms_module x b closing) = block_names_without path b

-- ---- the names of declarations with their ordinals, in a scope

declared_both : (xs ys : List (Option ℕ × Name)) (s : Scope Name) → declare_names_with_ordinals (xs ++ ys) s ≡ declare_names_with_ordinals ys (declare_names_with_ordinals xs s)
declared_both [] ys s = refl
declared_both (x ∷ xs) ys s = declared_both xs ys (declare_name_if_bound x.0 x.1 s)

declared_labels : (k : ℕ) (xs : List Name) (s : Scope Name) → declare_names_with_ordinals (labels_of_declared_names ordinal_and_spelling k xs) s ≡ declare_names k xs s
declared_labels k [] s = refl
declared_labels k (x ∷ xs) s = declared_labels (suc k) xs ((x, k) ∷ s)

-- If the labels of some names are these, declaring them is declaring the names.
labels_declare : (k : ℕ) (xs : List Name) (labels : List (Option ℕ × Name)) (s : Scope Name) → labels ≡ labels_of_declared_names ordinal_and_spelling k xs → declare_names_with_ordinals labels s ≡ declare_names k xs s
labels_declare k xs labels s e = ap (λ ls. declare_names_with_ordinals ls s) e ∙ declared_labels k xs s

-- returns the labels of the names that are declared in each section; `seen` is the scope there
constant_labels : (seen : Scope Name) (k : ℕ) (cs : Tree Name (maybe constants)) → constant_names (section_constants (relabel_constant_section naming_by_spelling ordinal_and_spelling seen k cs)) ≡ labels_of_declared_names ordinal_and_spelling k (constant_names (section_constants cs))
constant_labels seen k cs = ap constant_names (constants-section naming_by_spelling ordinal_and_spelling seen k cs) ∙ constants-labels naming_by_spelling ordinal_and_spelling seen k (section_constants cs)

type_labels : (seen : Scope Name) (k : ℕ) (ts : Tree Name (maybe type_definitions)) → declared_type_names (section_types (relabel_type_section naming_by_spelling ordinal_and_spelling seen k ts)) ≡ labels_of_declared_names ordinal_and_spelling k (declared_type_names (section_types ts))
type_labels seen k ts = ap declared_type_names (types-section naming_by_spelling ordinal_and_spelling seen k ts) ∙ types-labels naming_by_spelling ordinal_and_spelling seen k (section_types ts)

variable_labels : (seen : Scope Name) (k : ℕ) (vs : Tree Name (maybe variables)) → variable_names (section_variables (relabel_variable_section naming_by_spelling ordinal_and_spelling seen k vs)) ≡ labels_of_declared_names ordinal_and_spelling k (variable_names (section_variables vs))
variable_labels seen k vs = ap variable_names (variables-section naming_by_spelling ordinal_and_spelling seen k vs) ∙ variables-labels naming_by_spelling ordinal_and_spelling seen k (section_variables vs)

formal_labels : (seen : Scope Name) (k : ℕ) (fs : Tree Name (maybe formals)) → formal_parameter_names (formal_parameter_sections (relabel_formals naming_by_spelling ordinal_and_spelling seen k fs)) ≡ labels_of_declared_names ordinal_and_spelling k (formal_parameter_names (formal_parameter_sections fs))
formal_labels seen k fs = ap formal_parameter_names (formals-section naming_by_spelling ordinal_and_spelling seen k fs) ∙ sections-labels naming_by_spelling ordinal_and_spelling seen k (formal_parameter_sections fs)

procedures_declare : (seen : Scope Name) (k : ℕ) (ps : Tree Name (items procedure)) (s : Scope Name) → declare_names_with_ordinals (procedure_names (relabel_procedure_list naming_by_spelling ordinal_and_spelling seen k ps)) s ≡ declare_procedure_names k ps s
procedures_declare seen k end s = refl
procedures_declare seen k (more (declares_procedure x fs b closing) rest) s = procedures_declare ((x, k) ∷ seen) (ordinal_after_procedure (suc k) (declares_procedure x fs b closing)) rest ((x, k) ∷ s)

name_label : (seen : Scope Name) (k : ℕ) (p : Tree Name (item procedure)) → procedure_name (relabel_procedure naming_by_spelling ordinal_and_spelling seen k p) ≡ (Some k, procedure_name p)
name_label seen k (declares_procedure x fs b closing) = refl

-- The names of a block's sections, and others after them, are declared in the scope of the block's
-- procedures.
sections_declare : (scope : Scope Name) (k : ℕ) (cs : Tree Name (maybe constants)) (ts : Tree Name (maybe type_definitions)) (vs : Tree Name (maybe variables)) (ps : Tree Name (items procedure)) (statements : Tree Name (maybe body)) (rest : List (Option ℕ × Name))
    → declare_names_with_ordinals (constant_names (section_constants (relabel_constant_section naming_by_spelling ordinal_and_spelling scope k cs))
    ++ (declared_type_names (section_types (relabel_type_section naming_by_spelling ordinal_and_spelling (scope_before_types k (forms_block (declares cs ts vs ps) statements) scope) (first_type_ordinal k (forms_block (declares cs ts vs ps) statements)) ts))
    ++ (variable_names (section_variables (relabel_variable_section naming_by_spelling ordinal_and_spelling (scope_before_variables k (forms_block (declares cs ts vs ps) statements) scope) (first_variable_ordinal k (forms_block (declares cs ts vs ps) statements)) vs)) ++ rest))) scope
    ≡ declare_names_with_ordinals rest (scope_before_procedures k (forms_block (declares cs ts vs ps) statements) scope)
sections_declare scope k cs ts vs ps statements rest =
    let b : Tree Name block = forms_block (declares cs ts vs ps) statements in
    let xs = constant_names (section_constants (relabel_constant_section naming_by_spelling ordinal_and_spelling scope k cs)) in
    let t = scope_before_types k b scope in
    let ys = declared_type_names (section_types (relabel_type_section naming_by_spelling ordinal_and_spelling t (first_type_ordinal k b) ts)) in
    let v = scope_before_variables k b scope in
    let zs = variable_names (section_variables (relabel_variable_section naming_by_spelling ordinal_and_spelling v (first_variable_ordinal k b) vs)) in
    declared_both xs (ys ++ (zs ++ rest)) scope
    ∙ (ap (declare_names_with_ordinals (ys ++ (zs ++ rest))) (labels_declare k (constant_names (section_constants cs)) xs scope (constant_labels scope k cs))
    ∙ (declared_both ys (zs ++ rest) t
    ∙ (ap (declare_names_with_ordinals (zs ++ rest)) (labels_declare (first_type_ordinal k b) (declared_type_names (section_types ts)) ys t (type_labels t (first_type_ordinal k b) ts))
    ∙ (declared_both zs rest v
    ∙ ap (declare_names_with_ordinals rest) (labels_declare (first_variable_ordinal k b) (variable_names (section_variables vs)) zs v (variable_labels v (first_variable_ordinal k b) vs))))))

-- ---- a body's scope

module _ {M : Type 0} (label : Labelling Name M) where
  mutual
    block_bound : (path : PathToBody) (scope : Scope Name) (k : ℕ) (b : Tree Name block)
        → body_at_path_in_block path (relabel_block naming_by_spelling label scope k b)
        ≡ relabel_uses naming_by_spelling label (declare_names_with_ordinals (names_visible_at_path_in_block path (relabel_block naming_by_spelling ordinal_and_spelling scope k b)) scope) (body_at_path_in_block path b)
    block_bound [] scope k (forms_block (declares cs ts vs ps) statements) =
        let b : Tree Name block = forms_block (declares cs ts vs ps) statements in
        let inner = scope_before_procedures k b scope in
        let first = first_procedure_ordinal k b in
        ap (λ s. relabel_uses naming_by_spelling label s statements)
        (sym (sections_declare scope k cs ts vs ps statements (procedure_names (relabel_procedure_list naming_by_spelling ordinal_and_spelling inner first ps)) ∙ procedures_declare inner first ps inner))
    block_bound (j ∷ path) scope k (forms_block (declares cs ts vs ps) statements) =
        let b : Tree Name block = forms_block (declares cs ts vs ps) statements in
        let inner = scope_before_procedures k b scope in
        let first = first_procedure_ordinal k b in
        procedures_bound j path inner first ps
        ∙ ap (λ s. relabel_uses naming_by_spelling label s (body_at_path_in_procedure_list j path ps))
        (sym (sections_declare scope k cs ts vs ps statements (names_visible_at_path_in_procedure_list j path (relabel_procedure_list naming_by_spelling ordinal_and_spelling inner first ps))))

    procedures_bound : (j : ℕ) (path : PathToBody) (scope : Scope Name) (k : ℕ) (ps : Tree Name (items procedure))
        → body_at_path_in_procedure_list j path (relabel_procedure_list naming_by_spelling label scope k ps)
        ≡ relabel_uses naming_by_spelling label (declare_names_with_ordinals (names_visible_at_path_in_procedure_list j path (relabel_procedure_list naming_by_spelling ordinal_and_spelling scope k ps)) scope) (body_at_path_in_procedure_list j path ps)
    procedures_bound zero path scope k end = refl
    procedures_bound (suc j) path scope k end = refl
    procedures_bound zero path scope k (more p ps) = procedure_bound path scope k p
    procedures_bound (suc j) path scope k (more p ps) =
        let next = ordinal_after_procedure (suc k) p in
        let others = names_visible_at_path_in_procedure_list j path (relabel_procedure_list naming_by_spelling ordinal_and_spelling ((procedure_name p, k) ∷ scope) next ps) in
        procedures_bound j path ((procedure_name p, k) ∷ scope) next ps
        ∙ ap (λ (q : Option ℕ × Name). relabel_uses naming_by_spelling label (declare_names_with_ordinals others (declare_name_if_bound q.0 q.1 scope)) (body_at_path_in_procedure_list j path ps)) (sym (name_label scope k p))

    procedure_bound : (path : PathToBody) (scope : Scope Name) (k : ℕ) (p : Tree Name (item procedure))
        → body_at_path_in_procedure path (relabel_procedure naming_by_spelling label scope k p)
        ≡ relabel_uses naming_by_spelling label
        (declare_names_with_ordinals (procedure_name (relabel_procedure naming_by_spelling ordinal_and_spelling scope k p) ∷ names_visible_at_path_in_procedure path (relabel_procedure naming_by_spelling ordinal_and_spelling scope k p)) scope)
        (body_at_path_in_procedure path p)
    procedure_bound path scope k (declares_procedure x fs b closing) =
        let formal = formal_parameter_names (formal_parameter_sections fs) in
        let outer : Scope Name = (x, k) ∷ scope in
        let inner = declare_names (suc k) formal outer in
        let first = ordinal_after_names (suc k) formal in
        let xs = formal_parameter_names (formal_parameter_sections (relabel_formals naming_by_spelling ordinal_and_spelling scope (suc k) fs)) in
        let rest = names_visible_at_path_in_block path (relabel_block naming_by_spelling ordinal_and_spelling inner first b) in
        block_bound path inner first b
        ∙ ap (λ s. relabel_uses naming_by_spelling label s (body_at_path_in_block path b))
        (sym (declared_both xs rest outer ∙ ap (declare_names_with_ordinals rest) (labels_declare (suc k) formal xs outer (formal_labels scope (suc k) fs))))

  -- The names of a body are bound in the scope of the names that are declared on the way to it.
  pub body_bound : (path : PathToBody) (t : Tree Name module_text)
      → body_at_path path (relabel_module naming_by_spelling label t)
      ≡ relabel_uses naming_by_spelling label (declare_names_with_ordinals (names_visible_at_path path (relabel_module naming_by_spelling ordinal_and_spelling t)) (predeclared_scope naming_by_spelling)) (body_at_path path t)
  body_bound path (forms_module x b closing) = block_bound path (predeclared_scope naming_by_spelling) 7 b
