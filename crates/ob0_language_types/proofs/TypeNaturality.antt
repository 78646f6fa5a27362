-- A tree in which names are mapped has the same types and constants as the original tree, with the meanings of the new
-- names.
use Rattle.std.proofs.Common.{◌≡◌, ℕ, suc, ◌+◌, [], ◌∷◌, map, Some, option_map, refl, ◌∙◌}
use Rattle.ob0_tree.specs.Tree.{Tree, addend, adds, array_type, compares, designator, end, expression, factor, field, fields, fields_after_semicolon, name_after_comma, index, integer, items, listed, more, multiplier, multiplies, named_type, names, negation, no_fields, none, one, parenthesised, product, record_type, relates, selector, simple, some_fields, sum, term, semicolon_then_fields, comma_then_name, written_type}
use Rattle.ob0_language_names.specs.MappedNames.{map_names}
use Rattle.ob0_language_names.specs.BlockParts.{names_after_first, names_in_list}
use Rattle.ob0_language_types.specs.Expressions.{Meanings, a_constant, evaluate_expression}
use Rattle.ob0_language_types.specs.Typing.{addition_type, array_length_from_value, negation_type, value_of_constant_object, constant_expression_value, meanings_in_constant_expressions, constructor_count, denoted_type, denoted_group_fields, denoted_further_fields, element_type, field_type, outcome_value, group_constructor_count, later_groups_constructor_count, multiplication_type, type_of_variable_or_constant, relation_type, signed_operand_type, type_after_selectors, type_of_expression, type_after_addends, type_of_factor, type_after_multipliers, type_of_type_object, type_of_simple_expression, type_of_term, prepend_fields, type_if_within_limits, ◌>>=◌}
use Rattle.ob0_language_values.specs.Values.{FieldShapes, Shape, array_shape, record_shape}
use Rattle.ob0_language_types.proofs.Naturality.{evaluate-map, through}

mutual
  unfolding type_of_expression

  pub type_of_expression-map : {N M P : Type 0} (f h : N → M) (meaning : Meanings M Shape P) (e : Tree N expression) → type_of_expression meaning (map_names f h e) ≡ type_of_expression (through f h meaning) e
  type_of_expression-map f h meaning (compares a none) = type_of_simple_expression-map f h meaning a
  type_of_expression-map f h meaning (compares a (one (relates r b))) = λ i.
      type_of_simple_expression-map f h meaning a i >>= (λ x. type_of_simple_expression-map f h meaning b i >>= (λ y. relation_type r x y))

  pub type_of_simple_expression-map : {N M P : Type 0} (f h : N → M) (meaning : Meanings M Shape P) (a : Tree N simple) → type_of_simple_expression meaning (map_names f h a) ≡ type_of_simple_expression (through f h meaning) a
  type_of_simple_expression-map f h meaning (sum s t rest) = λ i.
      type_of_term-map f h meaning t i >>= (λ x. signed_operand_type s x >>= (λ y. type_after_addends-map f h meaning y rest i))

  pub type_after_addends-map : {N M P : Type 0} (f h : N → M) (meaning : Meanings M Shape P) (x : Shape) (rest : Tree N (items addend)) → type_after_addends meaning x (map_names f h rest) ≡ type_after_addends (through f h meaning) x rest
  type_after_addends-map f h meaning x end = refl
  type_after_addends-map f h meaning x (more (adds o t) rest) = λ i.
      type_of_term-map f h meaning t i >>= (λ y. addition_type o x y >>= (λ z. type_after_addends-map f h meaning z rest i))

  pub type_of_term-map : {N M P : Type 0} (f h : N → M) (meaning : Meanings M Shape P) (t : Tree N term) → type_of_term meaning (map_names f h t) ≡ type_of_term (through f h meaning) t
  type_of_term-map f h meaning (product a rest) = λ i.
      type_of_factor-map f h meaning a i >>= (λ x. type_after_multipliers-map f h meaning x rest i)

  pub type_after_multipliers-map : {N M P : Type 0} (f h : N → M) (meaning : Meanings M Shape P) (x : Shape) (rest : Tree N (items multiplier)) → type_after_multipliers meaning x (map_names f h rest) ≡ type_after_multipliers (through f h meaning) x rest
  type_after_multipliers-map f h meaning x end = refl
  type_after_multipliers-map f h meaning x (more (multiplies o a) rest) = λ i.
      type_of_factor-map f h meaning a i >>= (λ y. multiplication_type o x y >>= (λ z. type_after_multipliers-map f h meaning z rest i))

  pub type_of_factor-map : {N M P : Type 0} (f h : N → M) (meaning : Meanings M Shape P) (a : Tree N factor) → type_of_factor meaning (map_names f h a) ≡ type_of_factor (through f h meaning) a
  type_of_factor-map f h meaning (designator x path) = λ i. type_of_variable_or_constant (meaning.object_for (f x)) >>= (λ s. type_after_selectors-map f h meaning s path i)
  type_of_factor-map f h meaning (integer n) = refl
  type_of_factor-map f h meaning (parenthesised e) = type_of_expression-map f h meaning e
  type_of_factor-map f h meaning (negation a) = λ i. type_of_factor-map f h meaning a i >>= negation_type

  pub type_after_selectors-map : {N M P : Type 0} (f h : N → M) (meaning : Meanings M Shape P) (s : Shape) (path : Tree N (items selector)) → type_after_selectors meaning s (map_names f h path) ≡ type_after_selectors (through f h meaning) s path
  type_after_selectors-map f h meaning s end = refl
  type_after_selectors-map f h meaning s (more (field x) rest) = λ i. field_type s (meaning.written (h x)) >>= (λ t. type_after_selectors-map f h meaning t rest i)
  type_after_selectors-map f h meaning s (more (index e) rest) = λ i.
      type_of_expression-map f h meaning e i >>= (λ j. element_type s j >>= (λ t. type_after_selectors-map f h meaning t rest i))

-- Two constant expressions have the same value if their names mean the same constants.
pub constant_expression_value-map : {N M V P W Q : Type 0} (f h : N → M) (there : Meanings M V P) (here : Meanings N W Q) (e : Tree N expression)
    → ((x : N) → value_of_constant_object (there.object_for (f x)) ≡ value_of_constant_object (here.object_for x)) → ((x : N) → there.written (h x) ≡ here.written x) → constant_expression_value there (map_names f h e) ≡ constant_expression_value here e
unfolding constant_expression_value
constant_expression_value-map f h there here e same_constants same_written = λ i.
    (type_of_expression-map {P = Unit {0}} f h (meanings_in_constant_expressions there) e ∙ (λ j. type_of_expression {P = Unit {0}} (record { object_for = λ x. option_map a_constant (same_constants x j); written = λ x. same_written x j }) e)) i
    >>= (λ s. outcome_value ((evaluate-map {P = Unit {0}} f h (meanings_in_constant_expressions there) [] e ∙ (λ j. evaluate_expression {P = Unit {0}} (record { object_for = λ x. option_map a_constant (same_constants x j); written = λ x. same_written x j }) [] e)) i))

mutual
  pub constructor_count-map : {N M : Type 0} (f h : N → M) (t : Tree N written_type) → constructor_count (map_names f h t) ≡ constructor_count t
  constructor_count-map f h (named_type x) = refl
  constructor_count-map f h (array_type e t) = λ i. suc (constructor_count-map f h t i)
  constructor_count-map f h (record_type g rest) = λ i. suc (group_constructor_count-map f h g i + later_groups_constructor_count-map f h rest i)

  pub group_constructor_count-map : {N M : Type 0} (f h : N → M) (t : Tree N fields) → group_constructor_count (map_names f h t) ≡ group_constructor_count t
  group_constructor_count-map f h no_fields = refl
  group_constructor_count-map f h (some_fields ns t) = constructor_count-map f h t

  pub later_groups_constructor_count-map : {N M : Type 0} (f h : N → M) (t : Tree N (items fields_after_semicolon)) → later_groups_constructor_count (map_names f h t) ≡ later_groups_constructor_count t
  later_groups_constructor_count-map f h end = refl
  later_groups_constructor_count-map f h (more (semicolon_then_fields g) rest) = λ i. group_constructor_count-map f h g i + later_groups_constructor_count-map f h rest i

pub further_fields_written : {N M V P W Q : Type 0} (f h : N → M) (there : Meanings M V P) (here : Meanings N W Q) → ((x : N) → there.written (h x) ≡ here.written x)
    → (xs : Tree N (items name_after_comma)) → map there.written (names_after_first (map_names f h xs)) ≡ map here.written (names_after_first xs)
further_fields_written f h there here hw end = refl
further_fields_written f h there here hw (more (comma_then_name x) xs) = λ i. hw x i ∷ further_fields_written f h there here hw xs i

pub fields_written : {N M V P W Q : Type 0} (f h : N → M) (there : Meanings M V P) (here : Meanings N W Q) → ((x : N) → there.written (h x) ≡ here.written x)
    → (ns : Tree N names) → map there.written (names_in_list (map_names f h ns)) ≡ map here.written (names_in_list ns)
fields_written f h there here hw (listed x xs) = λ i. hw x i ∷ further_fields_written f h there here hw xs i

-- Two texts of types denote the same type if their names mean the same constants and types.
mutual
  unfolding denoted_type

  pub denoted_type-map : {N M V P W Q : Type 0} (f h : N → M) (there : Meanings M V P) (here : Meanings N W Q)
      → ((x : N) → value_of_constant_object (there.object_for (f x)) ≡ value_of_constant_object (here.object_for x)) → ((x : N) → type_of_type_object (there.object_for (f x)) ≡ type_of_type_object (here.object_for x)) → ((x : N) → there.written (h x) ≡ here.written x)
      → (k : ℕ) (t : Tree N written_type) → denoted_type there k (map_names f h t) ≡ denoted_type here k t
  denoted_type-map f h there here hc ht hw k (named_type x) = ht x
  denoted_type-map f h there here hc ht hw k (array_type e t) = λ i.
      constant_expression_value-map f h there here e hc hw i >>= (λ v. array_length_from_value v >>= (λ n. denoted_type-map f h there here hc ht hw (suc k) t i >>= (λ s. type_if_within_limits (array_shape k n s))))
  denoted_type-map f h there here hc ht hw k (record_type g rest) = λ i.
      ((λ j. denoted_further_fields there (suc k + group_constructor_count-map f h g j) (map_names f h rest)) ∙ denoted_further_fields-map f h there here hc ht hw (suc k + group_constructor_count g) rest) i
      >>= (λ later. denoted_group_fields-map f h there here hc ht hw (suc k) later g i >>= (λ fs. type_if_within_limits (record_shape k fs)))

  pub denoted_group_fields-map : {N M V P W Q : Type 0} (f h : N → M) (there : Meanings M V P) (here : Meanings N W Q)
      → ((x : N) → value_of_constant_object (there.object_for (f x)) ≡ value_of_constant_object (here.object_for x)) → ((x : N) → type_of_type_object (there.object_for (f x)) ≡ type_of_type_object (here.object_for x)) → ((x : N) → there.written (h x) ≡ here.written x)
      → (k : ℕ) (later : FieldShapes) (g : Tree N fields) → denoted_group_fields there k later (map_names f h g) ≡ denoted_group_fields here k later g
  denoted_group_fields-map f h there here hc ht hw k later no_fields = refl
  denoted_group_fields-map f h there here hc ht hw k later (some_fields ns t) = λ i. denoted_type-map f h there here hc ht hw k t i >>= (λ s. Some (prepend_fields (fields_written f h there here hw ns i) s later))

  pub denoted_further_fields-map : {N M V P W Q : Type 0} (f h : N → M) (there : Meanings M V P) (here : Meanings N W Q)
      → ((x : N) → value_of_constant_object (there.object_for (f x)) ≡ value_of_constant_object (here.object_for x)) → ((x : N) → type_of_type_object (there.object_for (f x)) ≡ type_of_type_object (here.object_for x)) → ((x : N) → there.written (h x) ≡ here.written x)
      → (k : ℕ) (gs : Tree N (items fields_after_semicolon)) → denoted_further_fields there k (map_names f h gs) ≡ denoted_further_fields here k gs
  denoted_further_fields-map f h there here hc ht hw k end = refl
  denoted_further_fields-map f h there here hc ht hw k (more (semicolon_then_fields g) rest) = λ i.
      ((λ j. denoted_further_fields there (k + group_constructor_count-map f h g j) (map_names f h rest)) ∙ denoted_further_fields-map f h there here hc ht hw (k + group_constructor_count g) rest) i
      >>= (λ later. denoted_group_fields-map f h there here hc ht hw k later g i)
