-- Proves that the first identifier of several parts is the first identifier of the first part that
-- has one.
use Rattle.std.proofs.Common.{◌≡◌, ℕ, ◌+◌, ◌<◌, ◌≤◌, List, [], ◌∷◌, ◌++◌, length, drop, get_or, Option, Some, None, is_some, true, false, refl, sym, ap, ◌∙◌}
use Rattle.std.proofs.lemmas.List.{drop_all, drop_more}
use Rattle.ob0_tree.specs.declared.tree.Role.{Role}
use Rattle.ob0_tree.specs.declared.tree.Role.TheVariants as role
use Rattle.ob0_tree.specs.FirstIdentifier.{first_identifier, token_of_first_identifier}
use Rattle.ob0_tree.specs.Tree.{Tree, GrammarItem, item, identifiers}
use Rattle.ob0_tree.specs.View.{items_of}

pub found_first : (xs ys : List (Role × ℕ)) {found : Option ℕ} → found ≡ token_of_first_identifier xs → is_some found ≡ true → found ≡ token_of_first_identifier (xs ++ ys)
found_first [] ys e some = absurd (cc)
found_first (x ∷ xs) ys e some = e

pub found_later : (xs ys : List (Role × ℕ)) {found : Option ℕ} → found ≡ token_of_first_identifier xs → is_some found ≡ false → token_of_first_identifier ys ≡ token_of_first_identifier (xs ++ ys)
found_later [] ys e none = refl
found_later (x ∷ xs) ys e none = absurd (cc)

-- Holds if the first identifier of the remaining parts of a list is the first identifier of all its
-- parts.
pub record Seeking {A : Type 0} {i : GrammarItem} (f : A → Tree ℕ (item i)) (xs : List A) (done : ℕ) : Type 0 where
  pub so_far : first_identifier (items_of f (drop done xs)) ≡ first_identifier (items_of f xs)

split : {A : Type 0} (xs : List A) (done : ℕ) (x : A) → done < length xs → x ≡ get_or xs done x → drop done xs ≡ x ∷ drop (done + 1) xs
split xs done x less here = drop_more xs done x less ∙ ap (λ y. y ∷ drop (done + 1) xs) (sym here)

module _ {A : Type 0} {i : GrammarItem} (f : A → Tree ℕ (item i)) {xs : List A} {done : ℕ} (x : A) where
  -- If the part here has an identifier, its first identifier is the first one of all parts.
  pub found_here : {found : Option ℕ} → Seeking f xs done → done < length xs → x ≡ get_or xs done x → found ≡ first_identifier (f x) → is_some found ≡ true → found ≡ first_identifier (items_of f xs)
  found_here w less here e some =
      found_first (identifiers role.DeclaringName (f x)) (identifiers role.DeclaringName (items_of f (drop (done + 1) xs))) e some
      ∙ (ap (λ ys. first_identifier (items_of f ys)) (sym (split xs done x less here)) ∙ w.so_far)

  -- If the part here has no identifier, the search continues with the next part.
  pub seeks_on : {found : Option ℕ} → Seeking f xs done → done < length xs → x ≡ get_or xs done x → found ≡ first_identifier (f x) → is_some found ≡ false → Seeking f xs (done + 1)
  seeks_on w less here e none =
      record {
        so_far = found_later (identifiers role.DeclaringName (f x)) (identifiers role.DeclaringName (items_of f (drop (done + 1) xs))) e none
            ∙ (ap (λ ys. first_identifier (items_of f ys)) (sym (split xs done x less here)) ∙ w.so_far);
      }

pub none_found : {A : Type 0} {i : GrammarItem} {f : A → Tree ℕ (item i)} {xs : List A} {done : ℕ} → Seeking f xs done → length xs ≤ done → None ≡ first_identifier (items_of f xs)
none_found {f = f} {xs = xs} {done = done} w all = sym (ap (λ ys. first_identifier (items_of f ys)) (drop_all done xs all)) ∙ w.so_far
