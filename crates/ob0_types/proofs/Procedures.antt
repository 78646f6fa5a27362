-- A loop over the procedures of a block finds the first procedure that doesn't close before a range of tokens.
use Rattle.std.proofs.Common.{◌≡◌, ◌<◌, ◌≤◌, ℕ, ◌+◌, if◌then◌else◌, nat_lt, List, ◌∷◌, length, drop, get_or, sym, ap, ◌∙◌, lt-ltb, le-ltb}
use Rattle.std.proofs.lemmas.List.{drop_all, drop_more}
use Rattle.ob0_tree.specs.Tree.{Tree, body, maybe}
use Rattle.ob0_tree.specs.View.{items_of, procedure_of}
use Rattle.ob0_tree.specs.declared.tree.Procedure.{Procedure, out-Procedure}
use Rattle.ob0_tree.proofs.Viewed.{procedure_parts}
use Rattle.ob0_scope_table.specs.SpellingChangesInOneBody.{closing_name}
use Rattle.ob0_types.specs.OneBody.{body_with_token_in_procedures, body_with_token_in_procedure}

module _ (low : ℕ) (statements : Tree ℕ (maybe body)) where
  abbrev body_left : ℕ → List Procedure → Tree ℕ (maybe body)
  body_left k xs = body_with_token_in_procedures low (items_of procedure_of (drop k xs)) statements

  one_more : (xs : List Procedure) (k : ℕ) (q : Procedure) → k < length xs → q ≡ get_or xs k q
      → body_left k xs ≡ (if nat_lt (out-Procedure q).closing low then body_left (k + 1) xs else body_with_token_in_procedure low (procedure_of q))
  one_more xs k q less here =
      ap (λ ys. body_with_token_in_procedures low (items_of procedure_of ys) statements) (drop_more xs k q less ∙ ap (λ y. y ∷ drop (k + 1) xs) (sym here))
      ∙ ap (λ n. if nat_lt n low then body_left (k + 1) xs else body_with_token_in_procedure low (procedure_of q)) (ap closing_name (procedure_parts q))

  pub past_one : (xs : List Procedure) (k : ℕ) (q : Procedure) → k < length xs → q ≡ get_or xs k q → (out-Procedure q).closing < low → body_left (k + 1) xs ≡ body_left k xs
  past_one xs k q less here past =
      sym (one_more xs k q less here ∙ ap (λ b. if b then body_left (k + 1) xs else body_with_token_in_procedure low (procedure_of q)) (lt-ltb (out-Procedure q).closing low past))

  pub in_one : (xs : List Procedure) (k : ℕ) (q : Procedure) → k < length xs → q ≡ get_or xs k q → low ≤ (out-Procedure q).closing → body_left k xs ≡ body_with_token_in_procedure low (procedure_of q)
  in_one xs k q less here le =
      one_more xs k q less here ∙ ap (λ b. if b then body_left (k + 1) xs else body_with_token_in_procedure low (procedure_of q)) (le-ltb (out-Procedure q).closing low le)

  pub past_all : (xs : List Procedure) (k : ℕ) → length xs ≤ k → body_left k xs ≡ statements
  past_all xs k all = ap (λ ys. body_with_token_in_procedures low (items_of procedure_of ys) statements) (drop_all k xs all)
