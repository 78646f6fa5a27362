-- Proves that gathering parameters from two parallel lists, the names and the signature, gives all
-- parameters. `Gathered` states that the parameters found so far, followed by the parameters of the
-- remaining items, are all parameters. It takes any two lists, each with a function. So code and
-- definition can be compared without a `map` between them.
use Rattle.std.proofs.Common.{◌≡◌, ℕ, ◌<◌, zero, suc, min, List, [], ◌∷◌, ◌++◌, length, drop, map, get_or, refl, ap, sym, ◌∙◌, arith, append_assoc, append-nil}
use Rattle.ob0_refs.specs.DeclarationTexts.{hover_parameter_of_formal, hover_parameters_of_signature}
use Rattle.ob0_refs.specs.Hovers.{HoverParameter}
use Rattle.ob0_language_names.specs.Names.{Name}
use Rattle.ob0_language_types.specs.WellTyped.{FormalParameter}

-- holds if the parameters found so far, followed by the parameters of the remaining items, are all parameters
abbrev pub Gathered : {A B : Type 0} → (A → Name) → (B → FormalParameter) → List A → List B → ℕ → List HoverParameter → Type 0
Gathered name formal xs ys n found = found ++ hover_parameters_of_signature (map name (drop n xs)) (map formal (drop n ys)) ≡ hover_parameters_of_signature (map name xs) (map formal ys)

-- One more item of both lists gives one more parameter.
shown_further : {A B : Type 0} (name : A → Name) (formal : B → FormalParameter) (xs : List A) (ys : List B) (n : ℕ) → n < length xs → n < length ys → (d : A) (e : B)
    → hover_parameters_of_signature (map name (drop n xs)) (map formal (drop n ys)) ≡ hover_parameter_of_formal (name (get_or xs n d)) (formal (get_or ys n e)) ∷ hover_parameters_of_signature (map name (drop (suc n) xs)) (map formal (drop (suc n) ys))
shown_further name formal [] ys n h g d e = absurd (omega arith)
shown_further name formal (x ∷ xs) [] n h g d e = absurd (omega arith)
shown_further name formal (x ∷ xs) (y ∷ ys) zero h g d e = refl
shown_further name formal (x ∷ xs) (y ∷ ys) (suc n) h g d e = shown_further name formal xs ys n (omega arith) (omega arith) d e

pub gathered_further : {A B : Type 0} (name : A → Name) (formal : B → FormalParameter) (xs : List A) (ys : List B) (n : ℕ) (found : List HoverParameter) (x : A) (y : B) → Gathered name formal xs ys n found
    → n < length xs → n < length ys → ((d : A) → x ≡ get_or xs n d) → ((e : B) → y ≡ get_or ys n e) → Gathered name formal xs ys (suc n) (found ++ hover_parameter_of_formal (name x) (formal y) ∷ [])
gathered_further name formal xs ys n found x y so_far h g at here =
    append_assoc found (hover_parameter_of_formal (name x) (formal y) ∷ []) (hover_parameters_of_signature (map name (drop (suc n) xs)) (map formal (drop (suc n) ys)))
    ∙ ap (λ l. found ++ l) (ap (λ z. hover_parameter_of_formal (name z) (formal y) ∷ hover_parameters_of_signature (map name (drop (suc n) xs)) (map formal (drop (suc n) ys))) (at x)
    ∙ ap (λ z. hover_parameter_of_formal (name (get_or xs n x)) (formal z) ∷ hover_parameters_of_signature (map name (drop (suc n) xs)) (map formal (drop (suc n) ys))) (here y) ∙ sym (shown_further name formal xs ys n h g x y))
    ∙ so_far

-- If one of the lists is used up, no parameter remains.
shown_ends : {A B : Type 0} (name : A → Name) (formal : B → FormalParameter) (xs : List A) (ys : List B) (n : ℕ) → n ≡ min (length xs) (length ys) → hover_parameters_of_signature (map name (drop n xs)) (map formal (drop n ys)) ≡ []
shown_ends name formal [] ys zero e = refl
shown_ends name formal [] ys (suc n) e = refl
shown_ends name formal (x ∷ xs) [] zero e = refl
shown_ends name formal (x ∷ xs) [] (suc n) e = absurd (omega arith)
shown_ends name formal (x ∷ xs) (y ∷ ys) zero e = absurd (omega arith)
shown_ends name formal (x ∷ xs) (y ∷ ys) (suc n) e = shown_ends name formal xs ys n (omega arith)

pub gathered_all : {A B : Type 0} (name : A → Name) (formal : B → FormalParameter) (xs : List A) (ys : List B) (n : ℕ) (found : List HoverParameter) → Gathered name formal xs ys n found
    → n ≡ min (length xs) (length ys) → found ≡ hover_parameters_of_signature (map name xs) (map formal ys)
gathered_all name formal xs ys n found so_far e = sym (append-nil found) ∙ ap (λ l. found ++ l) (sym (shown_ends name formal xs ys n e)) ∙ so_far
