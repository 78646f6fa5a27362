-- Replacing uses of a constant by its literal leaves the values of constant expressions and the
-- types that written types denote unchanged.
use Rattle.std.proofs.Common.{List, Some, [], ap, length, map, option_and_then, option_map, refl, suc, ℕ, ◌+◌, ◌∙◌, ◌∷◌, ◌≡◌}
use Rattle.ob0_tree.specs.Tree.{Tree, array_type, end, expression, factor, fields, fields_after_semicolon, items, more, named_type, no_fields, occurrences, record_type, some_fields, semicolon_then_fields, written_type}
use Rattle.ob0_language_names.specs.Inlining.{OccurrenceSet, inline_in_tree}
use Rattle.ob0_language_names.specs.Names.{Name}
use Rattle.ob0_language_names.specs.BlockParts.{names_in_list}
use Rattle.ob0_language_values.specs.Values.{FieldShapes, Place, Shape, Value, array_shape, succeeds_with, record_shape}
use Rattle.ob0_language_types.specs.Expressions.{Meanings, a_constant, evaluate_factor}
use Rattle.ob0_language_types.specs.Laws.{EachUseSatisfies}
use Rattle.ob0_language_types.specs.Typing.{array_length_from_value, value_of_constant_object, constant_expression_value, meanings_in_constant_expressions, constructor_count, denoted_type, denoted_group_fields, denoted_further_fields, outcome_value, group_constructor_count, later_groups_constructor_count, type_of_factor, value_type, prepend_fields, type_if_within_limits, ◌>>=◌}
use Rattle.ob0_language_types.proofs.Inlined.{evaluate-inlined, uses-split}
use Rattle.ob0_language_types.proofs.InlinedTypes.{type_of_expression-inlined}

pub uses-map : (uses : OccurrenceSet) (P Q : Name → Type 0) → ((x : Name) → P x → Q x) → (k : ℕ) (xs : List Name) → EachUseSatisfies uses P k xs → EachUseSatisfies uses Q k xs
uses-map uses P Q f k [] u = tt
uses-map uses P Q f k (x ∷ xs) u = (λ e. f x (u.0 e), uses-map uses P Q f (suc k) xs u.1)

-- holds if a literal has the constant's type and value in constant expressions
pub record ConstantWritten {V P : Type 0} (meaning : Meanings Name V P) (v : Tree Name factor) (w : Value) : Type 0 where
  pub typed : type_of_factor {P = Unit {0}} (meanings_in_constant_expressions meaning) v ≡ value_type w
  pub has_value : evaluate_factor {P = Unit {0}} (meanings_in_constant_expressions meaning) [] v ≡ succeeds_with w

abbrev pub NamesConstant : {V P : Type 0} → Meanings Name V P → Value → Name → Type 0
NamesConstant meaning w x = meaning.object_for x ≡ Some (a_constant w)

pub constant_expression_value-written : {V P : Type 0} (meaning : Meanings Name V P) (uses : OccurrenceSet) (v : Tree Name factor) (w : Value) → ConstantWritten meaning v w → (k : ℕ) (e : Tree Name expression) → EachUseSatisfies uses (NamesConstant meaning w) k (occurrences e)
    → constant_expression_value meaning (inline_in_tree uses v k e) ≡ constant_expression_value meaning e
unfolding constant_expression_value
constant_expression_value-written {V} {P} meaning uses v w h k e u =
    let u₁ : EachUseSatisfies uses (NamesConstant {V = Shape} {P = Unit {0}} (meanings_in_constant_expressions meaning) w) k (occurrences e) = uses-map uses (NamesConstant meaning w) (NamesConstant (meanings_in_constant_expressions meaning) w) (λ x e. ap (λ o. option_map a_constant (value_of_constant_object o)) e) k (occurrences e) u in
    let u₂ : EachUseSatisfies uses (NamesConstant {V = Place} {P = Unit {0}} (meanings_in_constant_expressions meaning) w) k (occurrences e) = uses-map uses (NamesConstant meaning w) (NamesConstant (meanings_in_constant_expressions meaning) w) (λ x e. ap (λ o. option_map a_constant (value_of_constant_object o)) e) k (occurrences e) u in
    λ i. option_and_then (λ s. outcome_value (evaluate-inlined {P = Unit {0}} (meanings_in_constant_expressions meaning) [] uses v w record { has_value = h.has_value } k e u₂ i))
    (type_of_expression-inlined {P = Unit {0}} (meanings_in_constant_expressions meaning) uses v w record { typed = h.typed } k e u₁ i)

mutual
  pub constructor_count-inlined : (uses : OccurrenceSet) (v : Tree Name factor) (k : ℕ) (t : Tree Name written_type) → constructor_count (inline_in_tree uses v k t) ≡ constructor_count t
  constructor_count-inlined uses v k (named_type x) = refl
  constructor_count-inlined uses v k (array_type e t) = λ i. suc (constructor_count-inlined uses v (k + length (occurrences e)) t i)
  constructor_count-inlined uses v k (record_type g rest) = λ i. suc (group_constructor_count-inlined uses v k g i + later_groups_constructor_count-inlined uses v (k + length (occurrences g)) rest i)

  pub group_constructor_count-inlined : (uses : OccurrenceSet) (v : Tree Name factor) (k : ℕ) (g : Tree Name fields) → group_constructor_count (inline_in_tree uses v k g) ≡ group_constructor_count g
  group_constructor_count-inlined uses v k no_fields = refl
  group_constructor_count-inlined uses v k (some_fields ns t) = constructor_count-inlined uses v k t

  pub later_groups_constructor_count-inlined : (uses : OccurrenceSet) (v : Tree Name factor) (k : ℕ) (gs : Tree Name (items fields_after_semicolon)) → later_groups_constructor_count (inline_in_tree uses v k gs) ≡ later_groups_constructor_count gs
  later_groups_constructor_count-inlined uses v k end = refl
  later_groups_constructor_count-inlined uses v k (more (semicolon_then_fields g) rest) = λ i. group_constructor_count-inlined uses v k g i + later_groups_constructor_count-inlined uses v (k + length (occurrences g)) rest i

mutual
  unfolding denoted_type

  pub denoted_type-written : {V P : Type 0} (meaning : Meanings Name V P) (uses : OccurrenceSet) (v : Tree Name factor) (w : Value) → ConstantWritten meaning v w → (k j : ℕ) (t : Tree Name written_type) → EachUseSatisfies uses (NamesConstant meaning w) k (occurrences t)
      → denoted_type meaning j (inline_in_tree uses v k t) ≡ denoted_type meaning j t
  denoted_type-written meaning uses v w h k j (named_type x) u = refl
  denoted_type-written meaning uses v w h k j (array_type e t) u =
      let s = uses-split uses (NamesConstant meaning w) k (occurrences e) (occurrences t) u in
      λ i. constant_expression_value-written meaning uses v w h k e s.0 i >>= (λ z. array_length_from_value z >>= (λ n. denoted_type-written meaning uses v w h (k + length (occurrences e)) (suc j) t s.1 i >>= (λ s. type_if_within_limits (array_shape j n s))))
  denoted_type-written meaning uses v w h k j (record_type g rest) u =
      let s = uses-split uses (NamesConstant meaning w) k (occurrences g) (occurrences rest) u in
      λ i. ((λ m. denoted_further_fields meaning (suc j + group_constructor_count-inlined uses v k g m) (inline_in_tree uses v (k + length (occurrences g)) rest)) ∙ denoted_further_fields-written meaning uses v w h (k + length (occurrences g)) (suc j + group_constructor_count g) rest s.1) i
      >>= (λ later. denoted_group_fields-written meaning uses v w h k (suc j) later g s.0 i >>= (λ fs. type_if_within_limits (record_shape j fs)))

  pub denoted_group_fields-written : {V P : Type 0} (meaning : Meanings Name V P) (uses : OccurrenceSet) (v : Tree Name factor) (w : Value) → ConstantWritten meaning v w → (k j : ℕ) (later : FieldShapes) (g : Tree Name fields) → EachUseSatisfies uses (NamesConstant meaning w) k (occurrences g)
      → denoted_group_fields meaning j later (inline_in_tree uses v k g) ≡ denoted_group_fields meaning j later g
  denoted_group_fields-written meaning uses v w h k j later no_fields u = refl
  denoted_group_fields-written meaning uses v w h k j later (some_fields ns t) u = λ i.
      denoted_type-written meaning uses v w h k j t u i >>= (λ s. Some (prepend_fields (map meaning.written (names_in_list ns)) s later))

  pub denoted_further_fields-written : {V P : Type 0} (meaning : Meanings Name V P) (uses : OccurrenceSet) (v : Tree Name factor) (w : Value) → ConstantWritten meaning v w → (k j : ℕ) (gs : Tree Name (items fields_after_semicolon)) → EachUseSatisfies uses (NamesConstant meaning w) k (occurrences gs)
      → denoted_further_fields meaning j (inline_in_tree uses v k gs) ≡ denoted_further_fields meaning j gs
  denoted_further_fields-written meaning uses v w h k j end u = refl
  denoted_further_fields-written meaning uses v w h k j (more (semicolon_then_fields g) rest) u =
      let s = uses-split uses (NamesConstant meaning w) k (occurrences g) (occurrences rest) u in
      λ i. ((λ m. denoted_further_fields meaning (j + group_constructor_count-inlined uses v k g m) (inline_in_tree uses v (k + length (occurrences g)) rest)) ∙ denoted_further_fields-written meaning uses v w h (k + length (occurrences g)) (j + group_constructor_count g) rest s.1) i
      >>= (λ later. denoted_group_fields-written meaning uses v w h k j later g s.0 i)
