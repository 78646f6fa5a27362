-- Declaring two joined lists of names gives the same ordinal and scope as declaring one list and then the other.
use Rattle.std.proofs.Common.{◌≡◌, ℕ, suc, ◌≤◌, List, [], ◌∷◌, ◌++◌, refl, le_trans, le_refl, le_of_lt}
use Rattle.ob0_tree.specs.Tree.{Tree, block, declares, declares_procedure, end, forms_block, item, items, more, procedure}
use Rattle.ob0_language_names.specs.BlockParts.{constant_names, formal_parameter_names, formal_parameter_sections, declared_type_names, section_constants, section_types, section_variables, variable_names}
use Rattle.ob0_language_names.specs.Scopes.{Scope, ordinal_after_block, ordinal_after_names, ordinal_after_procedure, ordinal_after_procedure_list, declare_names}

pub ordinal_after_names-append : {N : Type 0} (k : ℕ) (xs ys : List N) → ordinal_after_names k (xs ++ ys) ≡ ordinal_after_names (ordinal_after_names k xs) ys
ordinal_after_names-append k [] ys = refl
ordinal_after_names-append k (x ∷ xs) ys = ordinal_after_names-append (suc k) xs ys

pub declare_names-append : {N : Type 0} (k : ℕ) (xs ys : List N) (scope : Scope N) → declare_names k (xs ++ ys) scope ≡ declare_names (ordinal_after_names k xs) ys (declare_names k xs scope)
declare_names-append k [] ys scope = refl
declare_names-append k (x ∷ xs) ys scope = declare_names-append (suc k) xs ys ((x, k) ∷ scope)

pub le-ordinal_after_names : {N : Type 0} (k : ℕ) (xs : List N) → k ≤ ordinal_after_names k xs
le-ordinal_after_names k [] = le_refl k
le-ordinal_after_names k (x ∷ xs) = le_trans (le_of_lt (le_refl (suc k))) (le-ordinal_after_names (suc k) xs)

mutual
  pub le-ordinal_after_block : {N : Type 0} (k : ℕ) (b : Tree N block) → k ≤ ordinal_after_block k b
  le-ordinal_after_block k (forms_block (declares cs ts vs ps) statements) =
      le_trans (le-ordinal_after_names k (constant_names (section_constants cs)))
      (le_trans (le-ordinal_after_names (ordinal_after_names k (constant_names (section_constants cs))) (declared_type_names (section_types ts)))
      (le_trans (le-ordinal_after_names (ordinal_after_names (ordinal_after_names k (constant_names (section_constants cs))) (declared_type_names (section_types ts))) (variable_names (section_variables vs)))
      (le-ordinal_after_procedure_list (ordinal_after_names (ordinal_after_names (ordinal_after_names k (constant_names (section_constants cs))) (declared_type_names (section_types ts))) (variable_names (section_variables vs))) ps)))

  pub le-ordinal_after_procedure_list : {N : Type 0} (k : ℕ) (ps : Tree N (items procedure)) → k ≤ ordinal_after_procedure_list k ps
  le-ordinal_after_procedure_list k end = le_refl k
  le-ordinal_after_procedure_list k (more p rest) =
      le_trans (le_of_lt (le_refl (suc k))) (le_trans (le-ordinal_after_procedure (suc k) p) (le-ordinal_after_procedure_list (ordinal_after_procedure (suc k) p) rest))

  pub le-ordinal_after_procedure : {N : Type 0} (k : ℕ) (p : Tree N (item procedure)) → k ≤ ordinal_after_procedure k p
  le-ordinal_after_procedure k (declares_procedure x fs b closing) =
      le_trans (le-ordinal_after_names k (formal_parameter_names (formal_parameter_sections fs))) (le-ordinal_after_block (ordinal_after_names k (formal_parameter_names (formal_parameter_sections fs))) b)
