-- Defines the type that a written type denotes, the types of expressions, and the values of
-- constant expressions. A written type is a type as it is written in the text.
-- Rule: docs/LANGUAGE.md, Types 1 to 7, Nesting and limits 2.
use Rattle.std.specs.Prelude.{ℕ, suc, ◌+◌, ◌*◌, max, ◌&&◌, List, [], ◌∷◌, map, pos, if◌then◌else◌, nat_lt, nat_le, Some, None, Option, option_map, option_and_then}
use Rattle.ob0_tree.specs.declared.tree.Relation.{Relation}
use Rattle.ob0_tree.specs.declared.tree.Relation.TheVariants as relation
use Rattle.ob0_tree.specs.declared.tree.Sign.{Sign}
use Rattle.ob0_tree.specs.declared.tree.Sign.TheVariants as sign
use Rattle.ob0_tree.specs.declared.tree.AddOperator.{AddOperator}
use Rattle.ob0_tree.specs.declared.tree.AddOperator.TheVariants as add_operator
use Rattle.ob0_tree.specs.declared.tree.MultiplyOperator.{MultiplyOperator}
use Rattle.ob0_tree.specs.declared.tree.MultiplyOperator.TheVariants as multiply_operator
use Rattle.ob0_tree.specs.Tree.{Tree, addend, adds, array_type, compares, designator, end, expression, factor, field, fields, fields_after_semicolon, index, integer, items, more, multiplier, multiplies, named_type, negation, no_fields, none, one, parenthesised, product, record_type, relates, selector, simple, some_fields, sum, term, semicolon_then_fields, written_type}
use Rattle.ob0_language_names.specs.Names.{Name, same_name}
use Rattle.ob0_language_names.specs.BlockParts.{names_in_list}
use Rattle.ob0_language_types.specs.Expressions.{Meanings, Object, a_constant, a_type, a_variable, evaluate_expression}
use Rattle.ob0_language_values.specs.Values.{FieldShapes, Outcome, Shape, Value, array_shape, boolean_shape, ends_run_with, succeeds_with, integer_shape, next_field_shape, no_field_shape, number, record_shape, truth}

infixl 20 ◌>>=◌
-- applies the function `next` to an optional value; None if there is no value or the function
-- returns None
abbrev pub ◌>>=◌ : {A B : Type 0} → Option A → (A → Option B) → Option B
◌>>=◌ o next = option_and_then next o

-- Returns the type of `+`, `-` or OR with operands of these types. The type is INTEGER if `+` or
-- `-` has two INTEGER operands, and BOOLEAN if OR has two BOOLEAN operands. Otherwise returns None.
abbrev pub addition_type : AddOperator → Shape → Shape → Option Shape
addition_type add_operator.Add integer_shape integer_shape = Some integer_shape
addition_type add_operator.Subtract integer_shape integer_shape = Some integer_shape
addition_type add_operator.Or boolean_shape boolean_shape = Some boolean_shape
addition_type _ _ _ = None

-- Returns the type of `*`, DIV, MOD or `&` with operands of these types. The type is INTEGER if
-- `*`, DIV or MOD has two INTEGER operands, and BOOLEAN if `&` has two BOOLEAN operands. Otherwise
-- returns None.
abbrev pub multiplication_type : MultiplyOperator → Shape → Shape → Option Shape
multiplication_type multiply_operator.Multiply integer_shape integer_shape = Some integer_shape
multiplication_type multiply_operator.Divide integer_shape integer_shape = Some integer_shape
multiplication_type multiply_operator.Modulo integer_shape integer_shape = Some integer_shape
multiplication_type multiply_operator.And boolean_shape boolean_shape = Some boolean_shape
multiplication_type _ _ _ = None

-- Returns the type BOOLEAN if a relation may compare operands with these types, otherwise None. `=` and `#` compare two
-- INTEGER or two BOOLEAN operands. The other relations compare two INTEGER operands.
abbrev pub relation_type : Relation → Shape → Shape → Option Shape
relation_type r integer_shape integer_shape = Some boolean_shape
relation_type relation.Equal boolean_shape boolean_shape = Some boolean_shape
relation_type relation.NotEqual boolean_shape boolean_shape = Some boolean_shape
relation_type _ _ _ = None

-- returns the type of an operand with an optional sign; None if there is a sign and the operand
-- isn't INTEGER
abbrev pub signed_operand_type : Option Sign → Shape → Option Shape
signed_operand_type None s = Some s
signed_operand_type (Some sign.Plus) integer_shape = Some integer_shape
signed_operand_type (Some sign.Minus) integer_shape = Some integer_shape
signed_operand_type _ _ = None

-- returns the type of the operator `~` with an operand of this type: BOOLEAN if the operand is BOOLEAN, otherwise None
abbrev pub negation_type : Shape → Option Shape
negation_type boolean_shape = Some boolean_shape
negation_type _ = None

-- returns the type of a scalar value, INTEGER or BOOLEAN; None for an array or record
abbrev pub value_type : Value → Option Shape
value_type (number n) = Some integer_shape
value_type (truth b) = Some boolean_shape
value_type _ = None

-- returns the type of a variable, a parameter or a constant; None for any other object
abbrev pub type_of_variable_or_constant : {P : Type 0} → Option (Object Shape P) → Option Shape
type_of_variable_or_constant (Some (a_variable s)) = Some s
type_of_variable_or_constant (Some (a_constant v)) = value_type v
type_of_variable_or_constant _ = None

-- returns the type of an array's elements, given the type of the array and the type of the index; None if the first
-- type isn't an array type or the second isn't INTEGER
abbrev pub element_type : Shape → Shape → Option Shape
element_type (array_shape k n s) integer_shape = Some s
element_type _ _ = None

-- returns the type of the first field with the name `x` in a list of fields; None if there is no such field
abbrev pub named_field_shape : FieldShapes → Name → Option Shape
named_field_shape no_field_shape x = None
named_field_shape (next_field_shape y s rest) x =
    if same_name x y then Some s else named_field_shape rest x

-- returns the type of the field `x` of a record type; None if the type isn't a record type or has no such field
abbrev pub field_type : Shape → Name → Option Shape
field_type (record_shape k fs) x = named_field_shape fs x
field_type _ x = None

-- Returns the type of an expression, or None if it has an error.
unfoldable mutual
  -- returns the type of an expression: one simple expression, or a relation between two simple expressions; None if the
  -- expression has an error
  pub type_of_expression : {N P : Type 0} → Meanings N Shape P → Tree N expression → Option Shape
  type_of_expression meaning (compares a none) = type_of_simple_expression meaning a
  type_of_expression meaning (compares a (one (relates r b))) = do
    x ← type_of_simple_expression meaning a
    y ← type_of_simple_expression meaning b
    relation_type r x y

  -- returns the type of a simple expression: its first term with its sign, then the further terms; None if the
  -- expression has an error
  pub type_of_simple_expression : {N P : Type 0} → Meanings N Shape P → Tree N simple → Option Shape
  type_of_simple_expression meaning (sum s t rest) = do
    x ← type_of_term meaning t
    y ← signed_operand_type s x
    type_after_addends meaning y rest

  -- returns the type of a simple expression, given the type `x` of its first operand and the terms that follow; None if
  -- a term has an error or an operand has the wrong type
  pub type_after_addends : {N P : Type 0}
      → Meanings N Shape P
      → Shape
      → Tree N (items addend)
      → Option Shape
  type_after_addends meaning x end = Some x
  type_after_addends meaning x (more (adds o t) rest) = do
    y ← type_of_term meaning t
    z ← addition_type o x y
    type_after_addends meaning z rest

  -- returns the type of a term: its first factor, then the further factors; None if the term has an error
  pub type_of_term : {N P : Type 0} → Meanings N Shape P → Tree N term → Option Shape
  type_of_term meaning (product f rest) = do
    x ← type_of_factor meaning f
    type_after_multipliers meaning x rest

  -- returns the type of a term, given the type `x` of its first factor and the factors that follow; None if a factor
  -- has an error or the wrong type
  pub type_after_multipliers : {N P : Type 0}
      → Meanings N Shape P
      → Shape
      → Tree N (items multiplier)
      → Option Shape
  type_after_multipliers meaning x end = Some x
  type_after_multipliers meaning x (more (multiplies o f) rest) = do
    y ← type_of_factor meaning f
    z ← multiplication_type o x y
    type_after_multipliers meaning z rest

  -- returns the type of a factor: a designator, an integer, an expression in parentheses or a negation; None if the
  -- factor has an error
  pub type_of_factor : {N P : Type 0} → Meanings N Shape P → Tree N factor → Option Shape
  type_of_factor meaning (designator x path) = do
    s ← type_of_variable_or_constant (meaning.object_for x)
    type_after_selectors meaning s path
  type_of_factor meaning (integer n) = Some integer_shape
  type_of_factor meaning (parenthesised e) = type_of_expression meaning e
  type_of_factor meaning (negation f) = type_of_factor meaning f >>= negation_type

  -- returns the type of the element or field that selectors select from a value of type `s`; None if there is no such
  -- element or field, or an index isn't INTEGER
  pub type_after_selectors : {N P : Type 0} → Meanings N Shape P → Shape → Tree N (items selector) → Option Shape
  type_after_selectors meaning s end = Some s
  type_after_selectors meaning s (more (field x) rest) = do
    t ← field_type s (meaning.written x)
    type_after_selectors meaning t rest
  type_after_selectors meaning s (more (index e) rest) = do
    i ← type_of_expression meaning e
    t ← element_type s i
    type_after_selectors meaning t rest

-- returns the value of a constant; None for any other object
abbrev pub value_of_constant_object : {V P : Type 0} → Option (Object V P) → Option Value
value_of_constant_object (Some (a_constant v)) = Some v
value_of_constant_object _ = None

-- Returns the meanings of names in constant expressions. The names of constants keep their meaning.
-- Any other name has no meaning, because a constant expression may only contain names of constants.
abbrev pub meanings_in_constant_expressions : {N V P W Q : Type 0} → Meanings N V P → Meanings N W Q
meanings_in_constant_expressions meaning =
    record {
      object_for
          = λ x. option_map a_constant (value_of_constant_object (meaning.object_for x));
      written = meaning.written;
    }

-- returns the value that an evaluation gives; None if the evaluation ends the run
abbrev pub outcome_value : Outcome Value → Option Value
outcome_value (succeeds_with v) = Some v
outcome_value (ends_run_with e) = None

-- Returns the value of a constant expression, in which only the names of constants have a meaning.
-- Returns None if the expression has no type or its evaluation ends the run.
unfoldable pub constant_expression_value : {N V P : Type 0} → Meanings N V P → Tree N expression → Option Value
unfolding type_of_expression evaluate_expression
constant_expression_value meaning e = do
  s ← type_of_expression {P = Unit {0}} (meanings_in_constant_expressions meaning) e
  outcome_value (evaluate_expression {P = Unit {0}} (meanings_in_constant_expressions meaning) [] e)

-- the greatest number of scalars in a type, which is also the greatest number of elements in an array
abbrev pub max_scalars_in_type : ℕ
max_scalars_in_type = 65536

-- the greatest depth to which arrays and records may be nested
abbrev pub max_type_depth : ℕ
max_type_depth = 100

-- returns the length of an array, given the value of its length expression; None if this value isn't a number from 1 to
-- 65,536
abbrev pub array_length_from_value : Value → Option ℕ
array_length_from_value (number (pos (suc n))) = if nat_lt n max_scalars_in_type then Some (suc n) else None
array_length_from_value _ = None

-- Returns the number of scalars in a type. A record without fields counts as one scalar.
abbrev mutual
  -- Returns the number of scalars in a type. An array has the scalars of all its elements. A record
  -- has the scalars of all its fields, or one scalar if it has no fields.
  pub scalar_count : Shape → ℕ
  scalar_count integer_shape = 1
  scalar_count boolean_shape = 1
  scalar_count (array_shape k n s) = n * scalar_count s
  scalar_count (record_shape k fs) = max 1 (scalar_count_of_fields fs)

  -- returns the number of scalars in several fields together
  pub scalar_count_of_fields : FieldShapes → ℕ
  scalar_count_of_fields no_field_shape = 0
  scalar_count_of_fields (next_field_shape x s rest) = scalar_count s + scalar_count_of_fields rest

-- Returns the depth to which arrays and records are nested in a type. If a part of the type is written as a type's
-- name, the arrays and records that this name means also count.
abbrev mutual
  -- returns the depth of a type; an array is one level deeper than its elements, and a record is one level deeper than
  -- its deepest field
  pub depth : Shape → ℕ
  depth integer_shape = 0
  depth boolean_shape = 0
  depth (array_shape k n s) = suc (depth s)
  depth (record_shape k fs) = suc (deepest_field_depth fs)

  -- returns the depth of the deepest of several fields; 0 if there are no fields
  pub deepest_field_depth : FieldShapes → ℕ
  deepest_field_depth no_field_shape = 0
  deepest_field_depth (next_field_shape x s rest) = max (depth s) (deepest_field_depth rest)

-- returns the type `s` if it has at most 65,536 scalars and its arrays and records are nested at most 100 deep,
-- otherwise None
abbrev pub type_if_within_limits : Shape → Option Shape
type_if_within_limits s =
    if nat_le (scalar_count s) max_scalars_in_type && nat_le (depth s) max_type_depth then Some s else None

-- Counts the words ARRAY and RECORD in a written type. Array and record types are numbered by these
-- counts.
abbrev mutual
  -- counts the words ARRAY and RECORD in a written type; a type's name counts 0, even if it means
  -- an array or a record
  pub constructor_count : {N : Type 0} → Tree N written_type → ℕ
  constructor_count (named_type x) = 0
  constructor_count (array_type e t) = suc (constructor_count t)
  constructor_count (record_type g rest) = suc (group_constructor_count g + later_groups_constructor_count rest)

  -- counts the words ARRAY and RECORD in a group of fields, such as `x, y: T`; the type is written
  -- once for all names of the group
  pub group_constructor_count : {N : Type 0} → Tree N fields → ℕ
  group_constructor_count no_fields = 0
  group_constructor_count (some_fields ns t) = constructor_count t

  -- counts the words ARRAY and RECORD in the groups of fields after the first group
  pub later_groups_constructor_count : {N : Type 0} → Tree N (items fields_after_semicolon) → ℕ
  later_groups_constructor_count end = 0
  later_groups_constructor_count (more (semicolon_then_fields g) rest) = group_constructor_count g + later_groups_constructor_count rest

-- returns the type `s` if the object is the type `s` (`a_type s`); None for any other object
abbrev pub type_of_type_object : {V P : Type 0} → Option (Object V P) → Option Shape
type_of_type_object (Some (a_type s)) = Some s
type_of_type_object _ = None

-- returns a list of fields: a field of type `s` for each of these names, followed by the fields `rest`
abbrev pub prepend_fields : List Name → Shape → FieldShapes → FieldShapes
prepend_fields [] s rest = rest
prepend_fields (x ∷ xs) s rest = next_field_shape x s (prepend_fields xs s rest)

-- Returns the type that a written type denotes. Returns None if the written type has an error. Each word ARRAY and
-- RECORD in a module makes a separate type. These types are numbered from 0 in text order.
unfoldable mutual
  unfolding constant_expression_value

  -- Returns the type that a written type denotes: a name's type, or an array or a record within the
  -- limits. Array and record types are numbered from `k`, the count of words ARRAY and RECORD
  -- before the written type. Returns None if the written type has an error.
  pub denoted_type : {N V P : Type 0} → Meanings N V P → ℕ → Tree N written_type → Option Shape
  denoted_type meaning k (named_type x) = type_of_type_object (meaning.object_for x)
  denoted_type meaning k (array_type e t) = do
    v ← constant_expression_value meaning e
    n ← array_length_from_value v
    s ← denoted_type meaning (suc k) t
    type_if_within_limits (array_shape k n s)
  denoted_type meaning k (record_type g rest) = do
    later ← denoted_further_fields meaning (suc k + group_constructor_count g) rest
    fs ← denoted_group_fields meaning (suc k) later g
    type_if_within_limits (record_shape k fs)

  -- Returns the fields of a group, followed by the fields `later`. The group's array and record
  -- types are numbered from `k`, the count of words ARRAY and RECORD before the group. Returns None
  -- if the group's type has an error.
  pub denoted_group_fields : {N V P : Type 0}
      → Meanings N V P
      → ℕ
      → FieldShapes
      → Tree N fields
      → Option FieldShapes
  denoted_group_fields meaning k later no_fields = Some later
  denoted_group_fields meaning k later (some_fields ns t) = do
    s ← denoted_type meaning k t
    Some (prepend_fields (map meaning.written (names_in_list ns)) s later)

  -- Returns the fields of the groups after a record's first group, in text order. The groups' array
  -- and record types are numbered from `k`, the count of words ARRAY and RECORD before these
  -- groups. Returns None if a group's type has an error.
  pub denoted_further_fields : {N V P : Type 0}
      → Meanings N V P
      → ℕ
      → Tree N (items fields_after_semicolon)
      → Option FieldShapes
  denoted_further_fields meaning k end = Some no_field_shape
  denoted_further_fields meaning k (more (semicolon_then_fields g) rest) = do
    later ← denoted_further_fields meaning (k + group_constructor_count g) rest
    denoted_group_fields meaning k later g

-- returns the name and the selectors of an expression that is only a designator, without sign or parentheses; None for
-- any other expression
abbrev pub lone_designator : {N : Type 0} → Tree N expression → Option (N × Tree N (items selector))
lone_designator (compares (sum None (product (designator x path) end) end) none) = Some (x, path)
lone_designator _ = None

-- Returns the type itself if the object is a type, or the type of a variable, parameter or
-- constant. Returns None for any other object.
abbrev pub type_of_object : {P : Type 0} → Option (Object Shape P) → Option Shape
type_of_object (Some (a_type s)) = Some s
type_of_object (Some (a_variable s)) = Some s
type_of_object (Some (a_constant v)) = value_type v
type_of_object _ = None
