-- Defines the value of an expression, given the meanings of its names and a store with the values
-- of variables. Evaluation doesn't change the store.
-- Rule: docs/LANGUAGE.md, Runs 2 to 4.
use Rattle.std.specs.Prelude.{true, false, List, [], ◌∷◌, ◌++◌, pos, negsuc, if◌then◌else◌, nat_lt, Some, Option}
use Rattle.ob0_tree.specs.Tree.{Tree, addend, adds, compares, designator, end, expression, factor, field, index, integer, items, more, multiplier, multiplies, negation, none, one, parenthesised, product, relates, selector, simple, sum, term}
use Rattle.ob0_language_names.specs.Names.{Name}
use Rattle.ob0_language_values.specs.Values.{Index, Outcome, Place, Shape, PathStep, Store, Stuck, Value, apply_add_operator, add_operator_short_circuits, at_field, at_index, value_at_path, value_count, elements, ends_run_with, succeeds_with, apply_multiply_operator, multiply_operator_short_circuits, apply_not, number, result_or_stuck, value_at_step, read_place, apply_relation, apply_sign, ◌>>=◌}

-- the standard procedures: Read, Write and WriteLn
pub data StandardProcedure : Type 0 where
  read_procedure write_procedure write_line_procedure : StandardProcedure

-- the object that a name means; `V` is the type of the data about a variable, and `P` is the type of the data about a
-- procedure
pub data Object (V P : Type 0) : Type 0 where
  a_type : Shape → Object V P
  a_constant : Value → Object V P
  a_variable : V → Object V P
  a_procedure : P → Object V P
  a_standard_procedure : StandardProcedure → Object V P

-- The meanings of names at a place in the text. `object_for` returns the object that a name means, or None if the name
-- is unbound. `written` returns a name's spelling, which is used to look up fields.
pub record Meanings (N V P : Type 0) : Type 0 where
  pub object_for : N → Option (Object V P)
  pub written : N → Name

-- Returns the step of a path (`at_index`) that leads from an array to its element at an index.
-- Returns the end Index if the index is below 0 or not below the array's length. Returns the end
-- Stuck if the values aren't an array and a number.
abbrev pub element_step : Value → Value → Outcome PathStep
element_step (elements vs) (number (pos i)) =
    if nat_lt i (value_count vs) then succeeds_with (at_index i) else ends_run_with Index
element_step (elements vs) (number (negsuc i)) = ends_run_with Index
element_step _ _ = ends_run_with Stuck

-- returns the place of a variable in the store (`Place`); the end Stuck for any other object and
-- for None
abbrev pub object_place : {P : Type 0} → Option (Object Place P) → Outcome Place
object_place (Some (a_variable p)) = succeeds_with p
object_place _ = ends_run_with Stuck

-- returns the value of a constant, or the value at a variable's place in the store; the end Stuck
-- if the place doesn't exist, for any other object and for None
abbrev pub object_value : {P : Type 0} → Store → Option (Object Place P) → Outcome Value
object_value store (Some (a_constant v)) = succeeds_with v
object_value store (Some (a_variable p)) = result_or_stuck (read_place store p)
object_value store _ = ends_run_with Stuck

-- Evaluates an expression from left to right: returns its value, or the reason why the run ends.
unfoldable mutual
  -- evaluates an expression: one simple expression, or a relation between two simple expressions
  pub evaluate_expression : {N P : Type 0} → Meanings N Place P → Store → Tree N expression → Outcome Value
  evaluate_expression meaning store (compares a none) = evaluate_simple_expression meaning store a
  evaluate_expression meaning store (compares a (one (relates r b))) = do
    x ← evaluate_simple_expression meaning store a
    y ← evaluate_simple_expression meaning store b
    apply_relation r x y

  -- evaluates a simple expression: its first term with its sign, then the further terms
  pub evaluate_simple_expression : {N P : Type 0} → Meanings N Place P → Store → Tree N simple → Outcome Value
  evaluate_simple_expression meaning store (sum s t rest) = do
    x ← evaluate_term meaning store t
    y ← apply_sign s x
    evaluate_addends meaning store y rest

  -- evaluates the terms that follow an operand with the value `x`, from left to right; if the left operand of an OR is
  -- TRUE, the right operand isn't evaluated
  pub evaluate_addends : {N P : Type 0}
      → Meanings N Place P
      → Store
      → Value
      → Tree N (items addend)
      → Outcome Value
  evaluate_addends meaning store x end = succeeds_with x
  evaluate_addends meaning store x (more (adds o t) rest) = do
    y ← elim (add_operator_short_circuits o x)
        [ true ↦ succeeds_with x | false ↦ evaluate_term meaning store t >>= apply_add_operator o x ]
    evaluate_addends meaning store y rest

  -- evaluates a term: its first factor, then the further factors
  pub evaluate_term : {N P : Type 0} → Meanings N Place P → Store → Tree N term → Outcome Value
  evaluate_term meaning store (product f rest) = do
    x ← evaluate_factor meaning store f
    evaluate_multipliers meaning store x rest

  -- evaluates the factors that follow an operand with the value `x`, from left to right; if the left operand of an `&`
  -- is FALSE, the right operand isn't evaluated
  pub evaluate_multipliers : {N P : Type 0}
      → Meanings N Place P
      → Store
      → Value
      → Tree N (items multiplier)
      → Outcome Value
  evaluate_multipliers meaning store x end = succeeds_with x
  evaluate_multipliers meaning store x (more (multiplies o f) rest) = do
    y ← elim (multiply_operator_short_circuits o x)
        [ true ↦ succeeds_with x | false ↦ evaluate_factor meaning store f >>= apply_multiply_operator o x ]
    evaluate_multipliers meaning store y rest

  -- evaluates a factor: a designator, an integer, an expression in parentheses or a negation
  pub evaluate_factor : {N P : Type 0} → Meanings N Place P → Store → Tree N factor → Outcome Value
  evaluate_factor meaning store (designator x path) = do
    v ← object_value store (meaning.object_for x)
    steps ← evaluate_selectors meaning store v path
    result_or_stuck (value_at_path steps v)
  evaluate_factor meaning store (integer n) = succeeds_with (number (pos n))
  evaluate_factor meaning store (parenthesised e) = evaluate_expression meaning store e
  evaluate_factor meaning store (negation f) = evaluate_factor meaning store f >>= apply_not

  -- Returns the path that selectors describe in the value `v`. Evaluates each index and checks it
  -- against the length of its array. Returns the end Stuck if a selector doesn't fit the value, for
  -- example an index after a record.
  pub evaluate_selectors : {N P : Type 0}
      → Meanings N Place P
      → Store
      → Value
      → Tree N (items selector)
      → Outcome (List PathStep)
  evaluate_selectors meaning store v end = succeeds_with []
  evaluate_selectors meaning store v (more (field x) rest) = do
    w ← result_or_stuck (value_at_step v (at_field (meaning.written x)))
    steps ← evaluate_selectors meaning store w rest
    succeeds_with (at_field (meaning.written x) ∷ steps)
  evaluate_selectors meaning store v (more (index e) rest) = do
    i ← evaluate_expression meaning store e
    s ← element_step v i
    w ← result_or_stuck (value_at_step v s)
    steps ← evaluate_selectors meaning store w rest
    succeeds_with (s ∷ steps)

-- Returns the place of a designator: the place of the variable `x`, extended by the path of the
-- selectors. The evaluation of an index can end the run. Returns the end Stuck if `x` isn't a
-- variable or a selector doesn't fit the value.
unfoldable pub designated_place : {N P : Type 0}
    → Meanings N Place P
    → Store
    → N
    → Tree N (items selector)
    → Outcome Place
unfolding evaluate_expression
designated_place meaning store x path = do
  p ← object_place (meaning.object_for x)
  v ← result_or_stuck (read_place store p)
  steps ← evaluate_selectors meaning store v path
  succeeds_with record { variable = p.variable; path = p.path ++ steps }
