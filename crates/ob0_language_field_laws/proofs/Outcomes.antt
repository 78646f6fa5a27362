-- `Follows` relates the outcomes of a step in two runs. The first run gets stuck, or both give results that stand for
-- the same thing, or both end alike.
use Rattle.std.proofs.Common.{◌≡◌, ℕ, Bool, true, false, ℤ, pos, negsuc, ◌+ℤ◌, ◌-ℤ◌, ◌*ℤ◌, neg_ℤ, ◌⊎◌, inl, inr, if◌then◌else◌, nat_lt, Some, None, Option, sym, refl, ap, subst₂}
use Rattle.ob0_tree.specs.declared.tree.Relation.{Relation}
use Rattle.ob0_tree.specs.declared.tree.Relation.TheVariants as relation
use Rattle.ob0_tree.specs.declared.tree.Sign.{Sign}
use Rattle.ob0_tree.specs.declared.tree.Sign.TheVariants as sign
use Rattle.ob0_tree.specs.declared.tree.AddOperator.{AddOperator}
use Rattle.ob0_tree.specs.declared.tree.AddOperator.TheVariants as add_operator
use Rattle.ob0_tree.specs.declared.tree.MultiplyOperator.{MultiplyOperator}
use Rattle.ob0_tree.specs.declared.tree.MultiplyOperator.TheVariants as multiply_operator
use Rattle.ob0_language_types.specs.Expressions.{element_step}
use Rattle.ob0_language_values.specs.Values.{Index, Outcome, Overflow, PathStep, Stuck, Value, apply_add_operator, add_operator_short_circuits, at_index, compare_numbers, value_count, checked_division, division_outcome, elements, ends_run_with, fits_in_32_bits, succeeds_with, checked_number, apply_multiply_operator, multiply_operator_short_circuits, apply_not, number, result_or_stuck, quotient, apply_relation, remainder, same_truth, apply_sign, truth, ◌>>=◌}
use Rattle.ob0_language_fields.specs.RenamedFields.{FieldRenaming}
use Rattle.ob0_language_field_laws.proofs.Values.{Finds, value_count-by, step_by, tagged, to_index, value_by}

abbrev pub Follows : {A X Y : Type 0} → (A → X) → (A → Y) → Outcome X → Outcome Y → Type 0
Follows {A} f g (succeeds_with x) (succeeds_with y) = (a : A) × (x ≡ f a) × (y ≡ g a)
Follows f g (succeeds_with x) (ends_run_with e) = ⊥
Follows f g (ends_run_with e) o = (e ≡ Stuck) ⊎ (o ≡ ends_run_with e)

pub follows-then : {A B X Y X' Y' : Type 0} (f : A → X) (g : A → Y) (f' : B → X') (g' : B → Y') (o₁ : Outcome X) (o₂ : Outcome Y) (n₁ : X → Outcome X') (n₂ : Y → Outcome Y')
    → Follows f g o₁ o₂ → ((a : A) → Follows f' g' (n₁ (f a)) (n₂ (g a))) → Follows f' g' (o₁ >>= n₁) (o₂ >>= n₂)
follows-then f g f' g' (succeeds_with x) (succeeds_with y) n₁ n₂ h each = subst₂ (λ x y. Follows f' g' (n₁ x) (n₂ y)) (sym h.1) (sym h.2) (each h.0)
follows-then f g f' g' (succeeds_with x) (ends_run_with e) n₁ n₂ h each = absurd h
follows-then {Y = Y} f g f' g' (ends_run_with e) o₂ n₁ n₂ h each = go h
  where
    go : (e ≡ Stuck) ⊎ (o₂ ≡ ends_run_with e) → (e ≡ Stuck) ⊎ (o₂ >>= n₂ ≡ ends_run_with e)
    go (inl p) = inl p
    go (inr q) = inr (ap (λ o. o >>= n₂) q)

pub result_or_stuck-follows : {A X Y : Type 0} (f : A → X) (g : A → Y) (o₁ : Option X) (o₂ : Option Y) → Finds f g o₁ o₂ → Follows f g (result_or_stuck o₁) (result_or_stuck o₂)
result_or_stuck-follows f g None o₂ h = inl refl
result_or_stuck-follows f g (Some x) None h = absurd h
result_or_stuck-follows f g (Some x) (Some y) h = h

-- holds if two outcomes give values that stand for the same value
abbrev pub ValuesFollow : FieldRenaming → Outcome Value → Outcome Value → Type 0
ValuesFollow l = Follows (value_by tagged) (value_by l)

pub checked_number-follows : (l : FieldRenaming) (n : ℤ) → ValuesFollow l (checked_number n) (checked_number n)
checked_number-follows l n = elim (fits_in_32_bits n) as (λ b. ValuesFollow l (if b then succeeds_with (number n) else ends_run_with Overflow) (if b then succeeds_with (number n) else ends_run_with Overflow)) [ true ↦ (number n, refl, refl) | false ↦ inr refl ]

pub division_outcome-follows : (l : FieldRenaming) (result : Option ℤ) → ValuesFollow l (division_outcome result) (division_outcome result)
division_outcome-follows l None = inr refl
division_outcome-follows l (Some n) = checked_number-follows l n

pub add-follows : (l : FieldRenaming) (o : AddOperator) (v w : Value) → ValuesFollow l (apply_add_operator o (value_by tagged v) (value_by tagged w)) (apply_add_operator o (value_by l v) (value_by l w))
add-follows l add_operator.Add (number a) (number b) = checked_number-follows l (a +ℤ b)
add-follows l add_operator.Subtract (number a) (number b) = checked_number-follows l (a -ℤ b)
add-follows l add_operator.Or (truth a) (truth b) = (truth _, refl, refl)
add-follows l _ _ _ = inl refl

pub multiply-follows : (l : FieldRenaming) (o : MultiplyOperator) (v w : Value) → ValuesFollow l (apply_multiply_operator o (value_by tagged v) (value_by tagged w)) (apply_multiply_operator o (value_by l v) (value_by l w))
multiply-follows l multiply_operator.Multiply (number a) (number b) = checked_number-follows l (a *ℤ b)
multiply-follows l multiply_operator.Divide (number a) (number b) = division_outcome-follows l (checked_division quotient a b)
multiply-follows l multiply_operator.Modulo (number a) (number b) = division_outcome-follows l (checked_division remainder a b)
multiply-follows l multiply_operator.And (truth a) (truth b) = (truth _, refl, refl)
multiply-follows l _ _ _ = inl refl

pub apply_relation-follows : (l : FieldRenaming) (r : Relation) (v w : Value) → ValuesFollow l (apply_relation r (value_by tagged v) (value_by tagged w)) (apply_relation r (value_by l v) (value_by l w))
apply_relation-follows l r (number a) (number b) = (truth (compare_numbers r a b), refl, refl)
apply_relation-follows l relation.Equal (truth a) (truth b) = (truth (same_truth a b), refl, refl)
apply_relation-follows l relation.NotEqual (truth a) (truth b) = (truth _, refl, refl)
apply_relation-follows l _ _ _ = inl refl

pub apply_sign-follows : (l : FieldRenaming) (s : Option Sign) (v : Value) → ValuesFollow l (apply_sign s (value_by tagged v)) (apply_sign s (value_by l v))
apply_sign-follows l None v = (v, refl, refl)
apply_sign-follows l (Some sign.Plus) (number a) = checked_number-follows l a
apply_sign-follows l (Some sign.Minus) (number a) = checked_number-follows l (neg_ℤ a)
apply_sign-follows l _ _ = inl refl

pub negate-follows : (l : FieldRenaming) (v : Value) → ValuesFollow l (apply_not (value_by tagged v)) (apply_not (value_by l v))
negate-follows l (truth b) = (truth _, refl, refl)
negate-follows l _ = inl refl

-- If the left operand settles an operation in one run, it does in the other.

pub add_operator_short_circuits-by : (l : FieldRenaming) (o : AddOperator) (v : Value) → add_operator_short_circuits o (value_by l v) ≡ add_operator_short_circuits o v
add_operator_short_circuits-by l add_operator.Or (truth true) = refl
add_operator_short_circuits-by l _ _ = refl

pub multiply_operator_short_circuits-by : (l : FieldRenaming) (o : MultiplyOperator) (v : Value) → multiply_operator_short_circuits o (value_by l v) ≡ multiply_operator_short_circuits o v
multiply_operator_short_circuits-by l multiply_operator.And (truth false) = refl
multiply_operator_short_circuits-by l _ _ = refl

pub settled-follows : (l : FieldRenaming) (b b₁ b₂ : Bool) (v : Value) (o₁ o₂ : Outcome Value) → b₁ ≡ b → b₂ ≡ b → ValuesFollow l o₁ o₂
    → ValuesFollow l (elim b₁ [ true ↦ succeeds_with (value_by tagged v) | false ↦ o₁ ]) (elim b₂ [ true ↦ succeeds_with (value_by l v) | false ↦ o₂ ])
settled-follows l b b₁ b₂ v o₁ o₂ e₁ e₂ h =
    subst₂ (λ b₁ b₂. ValuesFollow l (elim b₁ [ true ↦ succeeds_with (value_by tagged v) | false ↦ o₁ ]) (elim b₂ [ true ↦ succeeds_with (value_by l v) | false ↦ o₂ ])) (sym e₁) (sym e₂)
    (elim b as (λ b. ValuesFollow l (elim b [ true ↦ succeeds_with (value_by tagged v) | false ↦ o₁ ]) (elim b [ true ↦ succeeds_with (value_by l v) | false ↦ o₂ ])) [ true ↦ (v, refl, refl) | false ↦ h ])

-- holds if two outcomes give steps of a path that stand for the same step

abbrev pub MovesFollow : FieldRenaming → Outcome PathStep → Outcome PathStep → Type 0
MovesFollow l = Follows (step_by tagged) (step_by l)

index-follows : (l : FieldRenaming) (i n : ℕ) → MovesFollow l (if nat_lt i n then succeeds_with (at_index i) else ends_run_with Index) (if nat_lt i n then succeeds_with (at_index i) else ends_run_with Index)
index-follows l i n = elim (nat_lt i n) as (λ b. MovesFollow l (if b then succeeds_with (at_index i) else ends_run_with Index) (if b then succeeds_with (at_index i) else ends_run_with Index)) [ true ↦ (to_index i, refl, refl) | false ↦ inr refl ]

pub element_step-follows : (l : FieldRenaming) (v i : Value) → MovesFollow l (element_step (value_by tagged v) (value_by tagged i)) (element_step (value_by l v) (value_by l i))
element_step-follows l (elements vs) (number (pos i)) =
    subst₂ (λ m n. MovesFollow l (if nat_lt i m then succeeds_with (at_index i) else ends_run_with Index) (if nat_lt i n then succeeds_with (at_index i) else ends_run_with Index)) (sym (value_count-by tagged vs)) (sym (value_count-by l vs)) (index-follows l i (value_count vs))
element_step-follows l (elements vs) (number (negsuc i)) = inr refl
element_step-follows l _ _ = inl refl
