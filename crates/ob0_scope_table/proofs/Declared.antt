-- Proves that the names that a block declares are its declaring identifiers in text order, and that
-- ordinals count them.
use Rattle.std.proofs.Common.{◌≡◌, ℕ, suc, ◌+◌, List, [], ◌∷◌, ◌++◌, length, refl, sym, ap, ◌∙◌, arith, append-nil}
use Rattle.ob0_tree.specs.declared.tree.Role.TheVariants as role
use Rattle.ob0_tree.specs.Tree.{Tree, identifiers, block, constant, constants, declares, declares_constant, declares_const_section, declares_procedure, declares_type, declares_type_section, declares_variable, declares_var_section, end, formals, name_after_comma, section_after_semicolon, forms_block, forms_module, item, items, listed, maybe, module_text, more, names, none, one, procedure, section, some_formals, comma_then_name, semicolon_then_section, type_definition, type_definitions, value_section, variable, variable_section, variables, written_type}
use Rattle.ob0_language_names.specs.BlockParts.{constant_names, formal_parameter_names, formal_parameter_sections, names_after_first, module_block, declared_type_names, names_in_list, section_constants, parameter_section_names, section_types, section_variables, variable_names}
use Rattle.ob0_scope_table.specs.Resolution.{declaring_names}
use Rattle.ob0_language_names.specs.Scopes.{ordinal_after_block, ordinal_after_names, ordinal_after_procedure, ordinal_after_procedure_list}
use Rattle.ob0_language_names.proofs.Ordinals.{ordinal_after_names-append}
use Rattle.ob0_scope_table.proofs.Plain.{declares_nothing, declaring_names-append}

abbrev mutual
  pub names_in : {N : Type 0} → Tree N block → List N
  names_in (forms_block (declares cs ts vs ps) statements) =
      constant_names (section_constants cs) ++ (declared_type_names (section_types ts) ++ (variable_names (section_variables vs) ++ names_in_procedures ps))

  pub names_in_procedures : {N : Type 0} → Tree N (items procedure) → List N
  names_in_procedures end = []
  names_in_procedures (more p rest) = names_in_procedure p ++ names_in_procedures rest

  pub names_in_procedure : {N : Type 0} → Tree N (item procedure) → List N
  names_in_procedure (declares_procedure x fs b closing) = x ∷ (formal_parameter_names (formal_parameter_sections fs) ++ names_in b)

-- The ordinal after a part is the one before it plus the number of its declared names.

mutual
  pub after_names_in : {N : Type 0} (k : ℕ) (b : Tree N block) → ordinal_after_block k b ≡ ordinal_after_names k (names_in b)
  after_names_in k (forms_block (declares cs ts vs ps) statements) =
      let xs = constant_names (section_constants cs) in
      let ys = declared_type_names (section_types ts) in
      let zs = variable_names (section_variables vs) in
      after_names_in_procedures (ordinal_after_names (ordinal_after_names (ordinal_after_names k xs) ys) zs) ps
      ∙ sym (ordinal_after_names-append k xs (ys ++ (zs ++ names_in_procedures ps))
      ∙ (ordinal_after_names-append (ordinal_after_names k xs) ys (zs ++ names_in_procedures ps)
      ∙ ordinal_after_names-append (ordinal_after_names (ordinal_after_names k xs) ys) zs (names_in_procedures ps)))

  pub after_names_in_procedures : {N : Type 0} (k : ℕ) (ps : Tree N (items procedure)) → ordinal_after_procedure_list k ps ≡ ordinal_after_names k (names_in_procedures ps)
  after_names_in_procedures k end = refl
  after_names_in_procedures k (more p rest) =
      after_names_in_procedures (ordinal_after_procedure (suc k) p) rest
      ∙ (ap (λ n. ordinal_after_names n (names_in_procedures rest)) (after_names_in_procedure k p) ∙ sym (ordinal_after_names-append k (names_in_procedure p) (names_in_procedures rest)))

  pub after_names_in_procedure : {N : Type 0} (k : ℕ) (p : Tree N (item procedure)) → ordinal_after_procedure (suc k) p ≡ ordinal_after_names k (names_in_procedure p)
  after_names_in_procedure k (declares_procedure x fs b closing) =
      after_names_in (ordinal_after_names (suc k) (formal_parameter_names (formal_parameter_sections fs))) b
      ∙ sym (ordinal_after_names-append (suc k) (formal_parameter_names (formal_parameter_sections fs)) (names_in b))

pub after_count : {N : Type 0} (k : ℕ) (xs : List N) → ordinal_after_names k xs ≡ k + length xs
after_count k [] = omega arith
after_count k (x ∷ xs) = after_count (suc k) xs ∙ omega arith

-- The declared names of a part are its declaring identifiers.

further_declared : (ns : Tree ℕ (items name_after_comma)) → declaring_names (identifiers role.DeclaringName ns) ≡ names_after_first ns
further_declared end = refl
further_declared (more (comma_then_name x) rest) = λ i. x ∷ further_declared rest i

listed_declared : (ns : Tree ℕ names) → declaring_names (identifiers role.DeclaringName ns) ≡ names_in_list ns
listed_declared (listed x rest) = λ i. x ∷ further_declared rest i

group_declared : (ns : Tree ℕ names) (t : Tree ℕ written_type) → declaring_names (identifiers role.DeclaringName ns ++ identifiers role.DeclaringName t) ≡ names_in_list ns
group_declared ns t =
    declaring_names-append (identifiers role.DeclaringName ns) (identifiers role.DeclaringName t)
    ∙ ((λ i. listed_declared ns i ++ (declares_nothing tt t).plain i) ∙ append-nil (names_in_list ns))

section_declared : (s : Tree ℕ section) → declaring_names (identifiers role.DeclaringName s) ≡ parameter_section_names s
section_declared (value_section ns t) = group_declared ns t
section_declared (variable_section ns t) = group_declared ns t

sections_declared : (fs : Tree ℕ (items section_after_semicolon)) → declaring_names (identifiers role.DeclaringName fs) ≡ formal_parameter_names fs
sections_declared end = refl
sections_declared (more (semicolon_then_section s) fs) =
    declaring_names-append (identifiers role.DeclaringName s) (identifiers role.DeclaringName fs) ∙ (λ i. section_declared s i ++ sections_declared fs i)

pub formals_declared : (fs : Tree ℕ (maybe formals)) → declaring_names (identifiers role.DeclaringName fs) ≡ formal_parameter_names (formal_parameter_sections fs)
formals_declared (one (some_formals s fs)) = sections_declared (more (semicolon_then_section s) fs)
formals_declared _ = refl

constants_declared : (cs : Tree ℕ (items constant)) → declaring_names (identifiers role.DeclaringName cs) ≡ constant_names cs
constants_declared end = refl
constants_declared (more (declares_constant x e) cs) =
    ap (λ xs. x ∷ xs) (declaring_names-append (identifiers role.DeclaringName e) (identifiers role.DeclaringName cs) ∙ (λ i. (declares_nothing tt e).plain i ++ constants_declared cs i))

constant_section_declared : (cs : Tree ℕ (maybe constants)) → declaring_names (identifiers role.DeclaringName cs) ≡ constant_names (section_constants cs)
constant_section_declared none = refl
constant_section_declared (one (declares_const_section cs)) = constants_declared cs

types_declared : (ts : Tree ℕ (items type_definition)) → declaring_names (identifiers role.DeclaringName ts) ≡ declared_type_names ts
types_declared end = refl
types_declared (more (declares_type x t) ts) =
    ap (λ xs. x ∷ xs) (declaring_names-append (identifiers role.DeclaringName t) (identifiers role.DeclaringName ts) ∙ (λ i. (declares_nothing tt t).plain i ++ types_declared ts i))

type_section_declared : (ts : Tree ℕ (maybe type_definitions)) → declaring_names (identifiers role.DeclaringName ts) ≡ declared_type_names (section_types ts)
type_section_declared none = refl
type_section_declared (one (declares_type_section ts)) = types_declared ts

variables_declared : (vs : Tree ℕ (items variable)) → declaring_names (identifiers role.DeclaringName vs) ≡ variable_names vs
variables_declared end = refl
variables_declared (more (declares_variable ns t) vs) =
    declaring_names-append (identifiers role.DeclaringName ns ++ identifiers role.DeclaringName t) (identifiers role.DeclaringName vs) ∙ (λ i. group_declared ns t i ++ variables_declared vs i)

variable_section_declared : (vs : Tree ℕ (maybe variables)) → declaring_names (identifiers role.DeclaringName vs) ≡ variable_names (section_variables vs)
variable_section_declared none = refl
variable_section_declared (one (declares_var_section vs)) = variables_declared vs

mutual
  pub block_declared : (b : Tree ℕ block) → declaring_names (identifiers role.DeclaringName b) ≡ names_in b
  block_declared (forms_block (declares cs ts vs ps) statements) =
      declaring_names-append (identifiers role.DeclaringName (declares cs ts vs ps)) (identifiers role.DeclaringName statements)
      ∙ ((λ i. (declaring_names-append (identifiers role.DeclaringName cs) (identifiers role.DeclaringName ts ++ (identifiers role.DeclaringName vs ++ identifiers role.DeclaringName ps))
      ∙ (λ j. constant_section_declared cs j
      ++ (declaring_names-append (identifiers role.DeclaringName ts) (identifiers role.DeclaringName vs ++ identifiers role.DeclaringName ps)
      ∙ (λ l. type_section_declared ts l ++ (declaring_names-append (identifiers role.DeclaringName vs) (identifiers role.DeclaringName ps) ∙ (λ n. variable_section_declared vs n ++ procedures_declared ps n)) l)) j)) i
      ++ (declares_nothing tt statements).plain i)
      ∙ append-nil (names_in (forms_block (declares cs ts vs ps) statements)))

  pub procedures_declared : (ps : Tree ℕ (items procedure)) → declaring_names (identifiers role.DeclaringName ps) ≡ names_in_procedures ps
  procedures_declared end = refl
  procedures_declared (more p rest) =
      declaring_names-append (identifiers role.DeclaringName p) (identifiers role.DeclaringName rest) ∙ (λ i. procedure_declared p i ++ procedures_declared rest i)

  pub procedure_declared : (p : Tree ℕ (item procedure)) → declaring_names (identifiers role.DeclaringName p) ≡ names_in_procedure p
  procedure_declared (declares_procedure x fs b closing) =
      ap (λ xs. x ∷ xs)
      (declaring_names-append (identifiers role.DeclaringName fs) (identifiers role.DeclaringName b ++ ((role.ClosingName, closing) ∷ []))
      ∙ (λ i. formals_declared fs i ++ (declaring_names-append (identifiers role.DeclaringName b) ((role.ClosingName, closing) ∷ []) ∙ ((λ j. block_declared b j ++ []) ∙ append-nil (names_in b))) i))

pub module_declared : (t : Tree ℕ module_text) → declaring_names (identifiers role.DeclaringName t) ≡ names_in (module_block t)
module_declared (forms_module x b closing) =
    declaring_names-append (identifiers role.DeclaringName b) ((role.ModuleName, closing) ∷ []) ∙ ((λ i. block_declared b i ++ []) ∙ append-nil (names_in b))
