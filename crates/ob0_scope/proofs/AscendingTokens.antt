-- Proves that the lists of tokens in the bindings of a module ascend: the lists of declaring names,
-- of looked-up names and of undeclared names.
use Rattle.std.proofs.Common.{◌<◌, ◌≤◌, ℕ, ◌+◌, zero, suc, Option, Some, None, List, [], ◌∷◌, length, get_or, sym, subst, arith}
use Rattle.std.specs.List.Sorted.{IsNonDecreasing}
use Rattle.ob0_tree.specs.declared.tree.Role.{Role}
use Rattle.ob0_tree.specs.declared.tree.Role.TheVariants as role
use Rattle.ob0_tree.specs.IdentifierIndexes.{AreAscendingWithin, names_without_roles}
use Rattle.ob0_tree.specs.ParsedModule.{ParsedModule, tree_of}
use Rattle.ob0_tree.specs.Tree.{identifiers, occurrences}
use Rattle.ob0_tree.proofs.AscendingNumbers.{AllFrom, ascending_from}
use Rattle.ob0_tree.proofs.Leaves.{ascending_lower, leaves_ascend, occurrences_ascend}
use Rattle.ob0_scope_table.specs.Bindings.{resolution_with_bindings}
use Rattle.ob0_scope_table.specs.Resolution.{IsResolution, declaring_names, ordinal_in, undeclared_faults_from_table}
use Rattle.ob0_scope_table.specs.declared.resolved.Bindings.{Bindings}
use Rattle.ob0_scope.specs.BindingsOutsideBody.{undeclared_tokens}
use Rattle.ob0_scope.proofs.CarriedNames.{tokens_of_faults, fault_if_unbound, unbound_tokens, undeclared_before}

reached : (n : ℕ) (xs : List ℕ) (j d : ℕ) → AllFrom n xs → j < length xs → n ≤ get_or xs j d
reached n [] j d h less = absurd (omega (arith, less))
reached n (x ∷ xs) zero d h less = h.0
reached n (x ∷ xs) (suc j) d h less = reached n xs j d h.1 (omega (arith, less))

rising : (low : ℕ) (xs : List ℕ) (high : ℕ) → AreAscendingWithin low xs high → IsNonDecreasing xs
rising low [] high h i j d le less = absurd (omega (arith, less))
rising low (x ∷ xs) high h zero zero d le less = omega arith
rising low (x ∷ xs) high h (suc i) zero d le less = absurd (omega (arith, le))
rising low (x ∷ xs) high h zero (suc j) d le less = let later = reached (x + 1) xs j d (ascending_from (x + 1) xs high h.1) (omega (arith, less)) in omega (arith, later)
rising low (x ∷ xs) high h (suc i) (suc j) d le less = rising (x + 1) xs high h.1 i j d (omega (arith, le)) (omega (arith, less))

-- If an item is left out, the other ones still ascend.
left_out : (low x : ℕ) (xs : List ℕ) (high : ℕ) → low ≤ x → AreAscendingWithin (x + 1) xs high → AreAscendingWithin low xs high
left_out low x xs high le h = ascending_lower low (x + 1) xs high (omega (arith, le)) h

declaring_ascend : (low : ℕ) (xs : List (Role × ℕ)) (high : ℕ) → AreAscendingWithin low (names_without_roles xs) high → AreAscendingWithin low (declaring_names xs) high
declaring_ascend low [] high h = h
declaring_ascend low ((role.DeclaringName, x) ∷ xs) high h = (h.0, declaring_ascend (x + 1) xs high h.1)
declaring_ascend low ((role.LookedUpName, x) ∷ xs) high h = left_out low x (declaring_names xs) high h.0 (declaring_ascend (x + 1) xs high h.1)
declaring_ascend low ((role.ClosingName, x) ∷ xs) high h = left_out low x (declaring_names xs) high h.0 (declaring_ascend (x + 1) xs high h.1)
declaring_ascend low ((role.FieldName, x) ∷ xs) high h = left_out low x (declaring_names xs) high h.0 (declaring_ascend (x + 1) xs high h.1)
declaring_ascend low ((role.ModuleName, x) ∷ xs) high h = left_out low x (declaring_names xs) high h.0 (declaring_ascend (x + 1) xs high h.1)

unbound_ascend : (table : List (Option ℕ)) (low : ℕ) (xs : List ℕ) (high : ℕ) → AreAscendingWithin low xs high → AreAscendingWithin low (unbound_tokens table xs) high
unbound_ascend table low [] high h = h
unbound_ascend table low (x ∷ xs) high h = one (unbound_ascend table (x + 1) xs high h.1) (ordinal_in table x)
  where
    one : AreAscendingWithin (x + 1) (unbound_tokens table xs) high → (o : Option ℕ) → AreAscendingWithin low (tokens_of_faults (fault_if_unbound o x (undeclared_faults_from_table table xs))) high
    one rest None = (h.0, rest)
    one rest (Some k) = left_out low x (unbound_tokens table xs) high h.0 rest

module _ (m : ParsedModule) (b : Bindings) (res : IsResolution (resolution_with_bindings m b)) where
  uses_ascend : AreAscendingWithin 0 (occurrences (tree_of m)) (length m.source.tokens)
  uses_ascend = occurrences_ascend (tree_of m) 0 (length m.source.tokens) (leaves_ascend m res.parsed)

  pub declaration_tokens_ascend : IsNonDecreasing b.declaration_tokens.items
  declaration_tokens_ascend =
      subst IsNonDecreasing (sym res.declaring)
      (rising 0 (declaring_names (identifiers role.DeclaringName (tree_of m))) (length m.source.tokens) (declaring_ascend 0 (identifiers role.DeclaringName (tree_of m)) (length m.source.tokens) (leaves_ascend m res.parsed)))

  pub occurrence_tokens_ascend : IsNonDecreasing b.occurrences.items
  occurrence_tokens_ascend = subst IsNonDecreasing (sym res.occurring) (rising 0 (occurrences (tree_of m)) (length m.source.tokens) uses_ascend)

  pub undeclared_tokens_ascend : IsNonDecreasing (undeclared_tokens b.faults.items)
  undeclared_tokens_ascend =
      subst IsNonDecreasing (sym (undeclared_before m b res))
      (rising 0 (unbound_tokens b.ordinals.items (occurrences (tree_of m))) (length m.source.tokens) (unbound_ascend b.ordinals.items 0 (occurrences (tree_of m)) (length m.source.tokens) uses_ascend))
