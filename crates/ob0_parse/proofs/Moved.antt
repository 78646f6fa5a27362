-- Proves that shifting the leaves of each item of a list, one item after another, shifts the leaves
-- of the list's tree.
use Rattle.std.proofs.Common.{◌≡◌, ◌≢◌, ℕ, zero, suc, ◌≤◌, ◌<◌, ◌+◌, List, [], ◌∷◌, length, set, get_or, length-set, get_or-set_other, refl, sym, ◌∙◌, ap, subst, arith, add-one}
use Rattle.ob0_tree.specs.declared.tree.Expression.{Expression}
use Rattle.ob0_tree.specs.declared.tree.Statement.{Statement}
use Rattle.ob0_tree.specs.declared.tree.OptionalFieldGroup.{OptionalFieldGroup}
use Rattle.ob0_tree.specs.declared.tree.ParameterSection.{ParameterSection}
use Rattle.ob0_tree.specs.Tree.{Sort, GrammarItem, item, Tree, more, some_arguments, comma_then_argument, runs, semicolon_then_statement, record_type, semicolon_then_fields, some_formals, semicolon_then_section}
use Rattle.ob0_tree.specs.View.{items_of, expression_of, argument_after_comma_of, arguments_of_list, statement_of, statement_after_semicolon_of, sequence_of_list, optional_field_group_of, field_group_after_semicolon_of, record_type_of_list, parameter_section_of, parameter_section_after_semicolon_of, formals_of_list}
use Rattle.ob0_parse.specs.ShiftedTrees.{tree_with_shifted_leaves}
use Rattle.ob0_parse.specs.declared.leaf_shifts.TokenIndexShift.{TokenIndexShift}
use Rattle.ob0_parse_descent.proofs.Unique.{head_of, tail_of}

-- Holds if the first n items of the list are moved, and the others are unchanged.
abbrev pub AreMoved : {A : Type 0} {s : Sort} → (A → Tree ℕ s) → TokenIndexShift → List A → ℕ → List A → Type 0
AreMoved f by xs zero ys = ys ≡ xs
AreMoved f by [] (suc n) ys = ys ≡ []
AreMoved f by (x ∷ xs) (suc n) [] = ⊥
AreMoved f by (x ∷ xs) (suc n) (y ∷ ys) = (f y ≡ tree_with_shifted_leaves by (f x)) × AreMoved f by xs n ys

-- Holds if the first `done` items are moved and the others are unchanged, as the invariant of a
-- loop.
pub record ShiftedTrees {A : Type 0} {s : Sort} (f : A → Tree ℕ s) (by : TokenIndexShift) (xs : List A) (done : ℕ) (ys : List A) : Type 0 where
  pub so_far : AreMoved f by xs done ys

nothing_there : {A : Type 0} {x : A} {xs : List A} → ◌≡◌ {A = List A} (x ∷ xs) [] → ⊥
nothing_there e = cc

next_moved : {A : Type 0} {s : Sort} (f : A → Tree ℕ s) (by : TokenIndexShift) (xs : List A) (n : ℕ) (ys : List A) (x y : A)
    → AreMoved f by xs n ys → n < length ys → x ≡ get_or ys n x → f y ≡ tree_with_shifted_leaves by (f x) → AreMoved f by xs (suc n) (set ys n y)
next_moved f by [] zero [] x y h inside is e = absurd (omega (arith, inside))
next_moved f by [] zero (z ∷ ys) x y h inside is e = absurd (nothing_there h)
next_moved f by (a ∷ xs) zero [] x y h inside is e = absurd (omega (arith, inside))
next_moved f by (a ∷ xs) zero (z ∷ ys) x y h inside is e = (e ∙ ap (λ t. tree_with_shifted_leaves by (f t)) (is ∙ head_of h), tail_of h)
next_moved f by [] (suc n) [] x y h inside is e = absurd (omega (arith, inside))
next_moved f by [] (suc n) (z ∷ ys) x y h inside is e = absurd (nothing_there h)
next_moved f by (a ∷ xs) (suc n) [] x y h inside is e = absurd h
next_moved f by (a ∷ xs) (suc n) (z ∷ ys) x y h inside is e = (h.0, next_moved f by xs n ys x y h.1 (omega (arith, inside)) is e)

following : {A : Type 0} {s : Sort} {f : A → Tree ℕ s} {by : TokenIndexShift} {xs : List A} {n : ℕ} {ys : List A} {x y : A}
    → ShiftedTrees f by xs n ys → n < length ys → x ≡ get_or ys n x → f y ≡ tree_with_shifted_leaves by (f x) → ShiftedTrees f by xs (n + 1) (set ys n y)
following {f = f} {by = by} {xs = xs} {n = n} {ys = ys} {x = x} {y = y} w inside is e =
    record { so_far = subst (λ k. AreMoved f by xs k (set ys n y)) (sym (add-one n)) (next_moved f by xs n ys x y w.so_far inside is e) }

-- If the n-th item is moved, the loop's invariant holds for one item more.
pub next : {A : Type 0} {s : Sort} {f : A → Tree ℕ s} {by : TokenIndexShift} {xs : List A} {n : ℕ} {ys : List A} {x y : A}
    → (length ys ≡ length xs) × ShiftedTrees f by xs n ys → n < length ys → x ≡ get_or ys n x → f y ≡ tree_with_shifted_leaves by (f x)
    → (length (set ys n y) ≡ length xs) × ShiftedTrees f by xs (n + 1) (set ys n y)
next {n = n} {ys = ys} {y = y} w inside is e = (length-set ys n y ∙ w.0, following w.1 inside is e)

-- If the n-th item is moved in place, the loop's invariant holds for one item more, and later items
-- are unchanged.
pub next_down : {A : Type 0} {s : Sort} {f : A → Tree ℕ s} {by : TokenIndexShift} {xs : List A} {n : ℕ} {ys : List A} {x y : A}
    → ((length ys ≡ length xs) × ((k : ℕ) (d : A) → n ≤ k → get_or ys k d ≡ get_or xs k d)) × ShiftedTrees f by xs n ys → n < length ys → x ≡ get_or ys n x → f y ≡ tree_with_shifted_leaves by (f x)
    → ((length (set ys n y) ≡ length xs) × ((k : ℕ) (d : A) → n + 1 ≤ k → get_or (set ys n y) k d ≡ get_or xs k d)) × ShiftedTrees f by xs (n + 1) (set ys n y)
next_down {n = n} {ys = ys} {y = y} w inside is e =
    ((length-set ys n y ∙ w.0.0, λ k d h. let other : k ≢ n = omega (arith, h) in get_or-set_other ys n k y d other ∙ w.0.1 k d (omega (arith, h))), following w.1 inside is e)

-- Holds if each item of the list is moved.
abbrev pub AllMoved : {A : Type 0} {s : Sort} → (A → Tree ℕ s) → TokenIndexShift → List A → List A → Type 0
AllMoved f by [] ys = ys ≡ []
AllMoved f by (x ∷ xs) [] = ⊥
AllMoved f by (x ∷ xs) (y ∷ ys) = (f y ≡ tree_with_shifted_leaves by (f x)) × AllMoved f by xs ys

all_moved : {A : Type 0} {s : Sort} (f : A → Tree ℕ s) (by : TokenIndexShift) (xs : List A) (n : ℕ) (ys : List A) → AreMoved f by xs n ys → length ys ≤ n → AllMoved f by xs ys
all_moved f by [] zero [] h all = refl
all_moved f by [] zero (y ∷ ys) h all = absurd (nothing_there h)
all_moved f by (x ∷ xs) zero [] h all = absurd (nothing_there (sym h))
all_moved f by (x ∷ xs) zero (y ∷ ys) h all = absurd (omega (arith, all))
all_moved f by [] (suc n) ys h all = h
all_moved f by (x ∷ xs) (suc n) [] h all = absurd h
all_moved f by (x ∷ xs) (suc n) (y ∷ ys) h all = (h.0, all_moved f by xs n ys h.1 (omega (arith, all)))

pub ends : {A : Type 0} {s : Sort} {f : A → Tree ℕ s} {by : TokenIndexShift} {xs : List A} {n : ℕ} {ys : List A} → ShiftedTrees f by xs n ys → length ys ≤ n → AllMoved f by xs ys
ends {f = f} {by = by} {xs = xs} {n = n} {ys = ys} w all = all_moved f by xs n ys w.so_far all

-- If each item of a list is moved, the tree of the list is moved.
pub items_moved : {A : Type 0} {s : Sort} {i : GrammarItem} (f : A → Tree ℕ s) (within : Tree ℕ s → Tree ℕ (item i)) (by : TokenIndexShift)
    → ((t : Tree ℕ s) → within (tree_with_shifted_leaves by t) ≡ tree_with_shifted_leaves by (within t))
    → (xs ys : List A) → AllMoved f by xs ys → items_of (λ x. within (f x)) ys ≡ tree_with_shifted_leaves by (items_of (λ x. within (f x)) xs)
items_moved f within by alike [] [] h = refl
items_moved f within by alike [] (y ∷ ys) h = absurd (nothing_there h)
items_moved f within by alike (x ∷ xs) [] h = absurd h
items_moved f within by alike (x ∷ xs) (y ∷ ys) h =
    let first : within (f y) ≡ tree_with_shifted_leaves by (within (f x)) = ap within h.0 ∙ alike (f x) in
    ap (λ t. more t (items_of (λ x. within (f x)) ys)) first
    ∙ ap (more (tree_with_shifted_leaves by (within (f x)))) (items_moved f within by alike xs ys h.1)

pub parts_moved : {A : Type 0} {i : GrammarItem} (f : A → Tree ℕ (item i)) (by : TokenIndexShift) (xs ys : List A) → AllMoved f by xs ys → items_of f ys ≡ tree_with_shifted_leaves by (items_of f xs)
parts_moved f by xs ys h = items_moved f (λ t. t) by (λ t. refl) xs ys h

-- ---- lists with a separate case for the first item

pub arguments_moved : (by : TokenIndexShift) (xs ys : List Expression) → AllMoved expression_of by xs ys → arguments_of_list ys ≡ tree_with_shifted_leaves by (arguments_of_list xs)
arguments_moved by [] [] h = refl
arguments_moved by [] (y ∷ ys) h = absurd (nothing_there h)
arguments_moved by (x ∷ xs) [] h = absurd h
arguments_moved by (x ∷ xs) (y ∷ ys) h =
    ap (λ t. some_arguments t (items_of argument_after_comma_of ys)) h.0
    ∙ ap (some_arguments (tree_with_shifted_leaves by (expression_of x))) (items_moved expression_of comma_then_argument by (λ t. refl) xs ys h.1)

pub sequence_moved : (by : TokenIndexShift) (xs ys : List Statement) → AllMoved statement_of by xs ys → sequence_of_list ys ≡ tree_with_shifted_leaves by (sequence_of_list xs)
sequence_moved by [] [] h = refl
sequence_moved by [] (y ∷ ys) h = absurd (nothing_there h)
sequence_moved by (x ∷ xs) [] h = absurd h
sequence_moved by (x ∷ xs) (y ∷ ys) h =
    ap (λ t. runs t (items_of statement_after_semicolon_of ys)) h.0
    ∙ ap (runs (tree_with_shifted_leaves by (statement_of x))) (items_moved statement_of semicolon_then_statement by (λ t. refl) xs ys h.1)

pub record_moved : (by : TokenIndexShift) (xs ys : List OptionalFieldGroup) → AllMoved optional_field_group_of by xs ys → record_type_of_list ys ≡ tree_with_shifted_leaves by (record_type_of_list xs)
record_moved by [] [] h = refl
record_moved by [] (y ∷ ys) h = absurd (nothing_there h)
record_moved by (x ∷ xs) [] h = absurd h
record_moved by (x ∷ xs) (y ∷ ys) h =
    ap (λ t. record_type t (items_of field_group_after_semicolon_of ys)) h.0
    ∙ ap (record_type (tree_with_shifted_leaves by (optional_field_group_of x))) (items_moved optional_field_group_of semicolon_then_fields by (λ t. refl) xs ys h.1)

pub formals_moved : (by : TokenIndexShift) (xs ys : List ParameterSection) → AllMoved parameter_section_of by xs ys → formals_of_list ys ≡ tree_with_shifted_leaves by (formals_of_list xs)
formals_moved by [] [] h = refl
formals_moved by [] (y ∷ ys) h = absurd (nothing_there h)
formals_moved by (x ∷ xs) [] h = absurd h
formals_moved by (x ∷ xs) (y ∷ ys) h =
    ap (λ t. some_formals t (items_of parameter_section_after_semicolon_of ys)) h.0
    ∙ ap (some_formals (tree_with_shifted_leaves by (parameter_section_of x))) (items_moved parameter_section_of semicolon_then_section by (λ t. refl) xs ys h.1)
