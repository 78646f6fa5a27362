-- Defines the declaration to which each occurrence of a name is bound, and the new names that are
-- free for a declaration.
-- Rule: docs/LANGUAGE.md, Scopes 2 to 4; docs/PROTOCOL.md, Refusals of edits (Duplicate, Captures).
use Rattle.std.specs.Prelude.{◌≡◌, ℕ, suc, Bool, false, not, ◌&&◌, List, [], ◌∷◌, ◌++◌, if◌then◌else◌, ◌==◌, slice_get, Some, None, Option, option_map, option_and_then}
use Rattle.ob0_tree.specs.Tree.{Tree, block, declares, declares_procedure, end, forms_block, item, items, module_text, more, occurrences, procedure}
use Rattle.ob0_language_names.specs.Names.{Label, Name, as_written, declared, same_ordinal_label, same_name}
use Rattle.ob0_language_names.specs.BlockParts.{formal_parameter_names, formal_parameter_sections, module_block}
use Rattle.ob0_language_names.specs.Scopes.{Scope, ordinal_after_names, ordinal_after_procedure, body_scope, declare_names, first_procedure_ordinal, numbered, predeclared_count, renamed}
use Rattle.std.specs.List.{list_any}

-- Returns the label of each occurrence of a looked-up name, in text order. The label is the ordinal
-- of the declaration to which the occurrence is bound, or the name as written if the occurrence is
-- unbound.
abbrev pub labels_of_occurrences : Tree Name module_text → List Label
labels_of_occurrences m = occurrences (numbered m)

-- returns the ordinal in a label, or None if the label is a name
abbrev pub label_ordinal : Label → Option ℕ
label_ordinal (declared k) = Some k
label_ordinal (as_written x) = None

-- Returns the ordinal of the declaration that an occurrence is bound to. Occurrences are numbered from 0 in text order.
-- A declaration's ordinal is its number in text order, after the predeclared names 0 to 6. Returns None if the
-- occurrence is unbound or doesn't exist.
abbrev pub ordinal_bound_at_occurrence : Tree Name module_text → ℕ → Option ℕ
ordinal_bound_at_occurrence m occurrence = option_and_then label_ordinal (slice_get (labels_of_occurrences m) occurrence)

-- Returns a list that has, for each block, the names that the block declares, with their ordinals.
-- A procedure's parameters and its own declarations count as one block.
abbrev mutual
  -- Returns the declarations of a block, then the declarations of each block within it, as one
  -- scope for each block. The block's first declaration has ordinal `k`. If this is a procedure's
  -- block, `own` has the declarations of the parameters.
  pub scopes_in_block : {N : Type 0} → ℕ → Scope N → Tree N block → List (Scope N)
  scopes_in_block k own (forms_block (declares cs ts vs ps) statements) =
      body_scope k (forms_block (declares cs ts vs ps) statements) own
      ∷ scopes_in_procedure_list (first_procedure_ordinal k (forms_block (declares cs ts vs ps) statements)) ps

  -- returns the declarations of each block in a list of procedures, the first of which has ordinal `k`
  pub scopes_in_procedure_list : {N : Type 0} → ℕ → Tree N (items procedure) → List (Scope N)
  scopes_in_procedure_list k end = []
  scopes_in_procedure_list k (more p rest) =
      scopes_in_procedure (suc k) p ++ scopes_in_procedure_list (ordinal_after_procedure (suc k) p) rest

  -- returns the declarations of each block in a procedure; the procedure's name has ordinal `k - 1`, so the first
  -- declaration after it has ordinal `k`
  pub scopes_in_procedure : {N : Type 0} → ℕ → Tree N (item procedure) → List (Scope N)
  scopes_in_procedure k (declares_procedure x fs b closing) =
      scopes_in_block (ordinal_after_names k (formal_parameter_names (formal_parameter_sections fs)))
      (declare_names k (formal_parameter_names (formal_parameter_sections fs)) []) b

-- returns whether one of the declarations `own` of a block has the ordinal `d`
abbrev pub declares_ordinal : Scope Name → ℕ → Bool
declares_ordinal own d = list_any (λ b. b.1 == d) own

-- returns whether one of the declarations `own` of a block has the name `new` and an ordinal other than `d`
abbrev pub another_declaration_has_name : Scope Name → ℕ → Name → Bool
another_declaration_has_name own d new = list_any (λ b. same_name b.0 new && not (b.1 == d)) own

-- returns whether the block of the declaration with ordinal `d` has another declaration with the
-- name `new`
abbrev pub is_duplicate_name : Tree Name module_text → ℕ → Name → Bool
is_duplicate_name m d new =
    list_any (λ own. declares_ordinal own d && another_declaration_has_name own d new)
    (scopes_in_block predeclared_count [] (module_block m))

-- States that the name `new` is free for the declaration with ordinal `d`. No other declaration in
-- the same block has this name, and renaming the declaration to `new` changes the binding of no
-- occurrence.
abbrev pub IsFreeName : Tree Name module_text → ℕ → Name → Type 0
IsFreeName m d new = (is_duplicate_name m d new ≡ false) × (labels_of_occurrences (renamed m d new) ≡ labels_of_occurrences m)

-- returns whether two labels mean the same binding: both are the same ordinal, or both are the same spelling of an
-- unbound name
abbrev pub same_binding : Label → Label → Bool
same_binding (as_written x) (as_written y) = same_name x y
same_binding a b = same_ordinal_label a b

-- returns the first index, counted from 0, at which two lists of labels differ; None if the lists agree up to the end
-- of the shorter list
abbrev pub first_binding_difference : List Label → List Label → Option ℕ
first_binding_difference (a ∷ as₁) (b ∷ bs) =
    if same_binding a b then option_map suc (first_binding_difference as₁ bs) else Some 0
first_binding_difference _ _ = None

-- A conflict that a declaration's new name would cause. `at_declaration`: the block has another declaration with this
-- name. `at_occurrence`: the binding of the occurrence with this number would change.
pub data NameConflict : Type 0 where
  at_declaration : NameConflict
  at_occurrence : ℕ → NameConflict

-- Returns the first conflict of the new name `new` for the declaration with ordinal `d`. The conflict is at the
-- declaration if its block already has the name. Otherwise the conflict is at the first occurrence, in text order,
-- whose binding would change. Returns None if there is no conflict.
abbrev pub first_name_conflict : Tree Name module_text → ℕ → Name → Option NameConflict
first_name_conflict m d new =
    if is_duplicate_name m d new
    then Some at_declaration
    else option_map at_occurrence (first_binding_difference (labels_of_occurrences (renamed m d new)) (labels_of_occurrences m))
