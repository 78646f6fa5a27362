-- An expression with a single factor selects the same fields as the factor. A list of length 0 is empty.
use Rattle.std.proofs.Common.{◌≡◌, ℕ, ◌==◌, ◌++◌, Bool, true, List, [], ◌∷◌, length, None, refl, sym, ◌∙◌, append-nil, arith, eqb-true}
use Rattle.ob0_tree.specs.Tree.{Tree, compares, end, factor, none, product, sum}
use Rattle.ob0_language_types.specs.Expressions.{Meanings}
use Rattle.ob0_language_types.specs.WellTyped.{Signature}
use Rattle.ob0_language_values.specs.Values.{Shape}
use Rattle.ob0_types_fields.specs.IdentifierOwners.{selected_identifiers}

-- A list is empty if its length is 0, and not empty otherwise.
pub is_nothing : {A : Type 0} (xs : List A) (n : ℕ) (b : Bool) → n ≡ length xs → b ≡ (n == 0) → b ≡ true → xs ≡ []
is_nothing [] n b long e h = refl
is_nothing (x ∷ xs) n b long e h = let none : n ≡ 0 = eqb-true n 0 (sym e ∙ h) in absurd (omega (arith, long, none))

pub factor_marked : (m : Meanings ℕ Shape Signature) (f : Tree ℕ factor) → selected_identifiers m None (compares (sum None (product f end) end) none) ≡ selected_identifiers m None f
factor_marked m f = append-nil ((selected_identifiers m None f ++ []) ++ []) ∙ (append-nil (selected_identifiers m None f ++ []) ∙ append-nil (selected_identifiers m None f))
