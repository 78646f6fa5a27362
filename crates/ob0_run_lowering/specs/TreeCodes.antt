-- Defines the code of designators and expressions. The code depends on a scene (`Scene`), which has
-- the object and the site of each declaration.
-- Rule: none; used in contracts of lowering.
use Rattle.std.specs.Prelude.{List, pos, Some, None, Option, option_and_then}
use Rattle.ob0_tree.specs.Tree.{Tree, addend, adds, compares, designator, end, expression, factor, field, index, integer, item, items, more, multiplier, multiplies, negation, none, one, parenthesised, product, relates, selector, simple, sum, term}
use Rattle.ob0_language_names.specs.Names.{Label, label_text}
use Rattle.ob0_types_table.specs.DeclarationTableView.{type_shape}
use Rattle.ob0_language_types.specs.Expressions.{Object, a_variable}
use Rattle.ob0_language_types.specs.Typing.{value_of_constant_object}
use Rattle.ob0_language_types.specs.WellTyped.{Signature}
use Rattle.ob0_language_values.specs.Values.{Shape}
use Rattle.ob0_run_machine.specs.LoweredSyntax as lowered
use Rattle.ob0_run_machine.specs.LoweredCodeViews.{number_of, place_of, truth_of}
use Rattle.ob0_run_cells.specs.LoweredExpressions.{slot_place}
use Rattle.ob0_run_lowering.specs.OperationCodes.{ExpressionCode, PlaceWithShape, a_block, a_number, a_truth, addition_code, element_of_optional_place, record_field_place, multiplication_code, designator_code, negation_code, no_code, relation_code, signed_term_code}
use Rattle.ob0_run_lowering.specs.Scenes.{object_of_label, slot_of_label}
use Rattle.ob0_run_lowering.specs.declared.lowered_expression.TypedPlace.{TypedPlace}
use Rattle.ob0_run_lowering.specs.declared.lowered_expression.LoweredExpression.{LoweredExpression}
use Rattle.ob0_run_lowering.specs.declared.lowered_expression.LoweredExpression.TheVariants as code
use Rattle.ob0_run_lowering.specs.declared.scene.Scene.{Scene}

-- converts the code in a `LoweredExpression` to an `ExpressionCode`
abbrev pub expression_code_of : LoweredExpression → ExpressionCode
expression_code_of (code.Number n) = a_number (number_of n)
expression_code_of (code.Truth t) = a_truth (truth_of t)
expression_code_of (code.Block q n) = a_block (place_of q) n
expression_code_of code.NoCode = no_code

-- converts a `TypedPlace` to a `PlaceWithShape`; the list `shapes` has the array and record types
-- of the table of declarations
abbrev pub place_with_shape_of : List Shape → TypedPlace → PlaceWithShape
place_with_shape_of shapes l = record { place = place_of l.place; shape = type_shape shapes l.type_id }

-- returns the place `q` and the type of a variable, or None if the object isn't a variable
abbrev pub place_if_variable : lowered.Place → Option (Object Shape Signature) → Option PlaceWithShape
place_if_variable q (Some (a_variable s)) = Some (record { place = q; shape = s })
place_if_variable q _ = None

-- Returns the place and the type of the variable or parameter that a label refers to, without any
-- selectors. Returns None if the label is unbound, or refers to another kind of object.
abbrev pub variable_place_of_label : Scene → Label → Option PlaceWithShape
variable_place_of_label scene x = place_if_variable (slot_place (slot_of_label scene x)) (object_of_label scene.types.now x)

abbrev mutual
  -- returns the code of an expression, which is one simple expression or a relation between two
  pub expression_code : Scene → Tree Label expression → ExpressionCode
  expression_code scene (compares a none) = simple_expression_code scene a
  expression_code scene (compares a (one (relates r b))) =
      relation_code r (simple_expression_code scene a) (simple_expression_code scene b)

  -- returns the code of a simple expression: the code of the first term with its sign, combined
  -- with each further term from left to right
  pub simple_expression_code : Scene → Tree Label simple → ExpressionCode
  simple_expression_code scene (sum s t rest) = addends_code scene (signed_term_code s (term_code scene t)) rest

  -- returns the code `c`, combined with each further term from left to right
  pub addends_code : Scene → ExpressionCode → Tree Label (items addend) → ExpressionCode
  addends_code scene c end = c
  addends_code scene c (more (adds o t) rest) =
      addends_code scene (addition_code o c (term_code scene t)) rest

  -- returns the code of a term: the code of the first factor, combined with each further factor
  -- from left to right
  pub term_code : Scene → Tree Label term → ExpressionCode
  term_code scene (product f rest) = multipliers_code scene (factor_code scene f) rest

  -- returns the code `c`, combined with each further factor from left to right
  pub multipliers_code : Scene → ExpressionCode → Tree Label (items multiplier) → ExpressionCode
  multipliers_code scene c end = c
  multipliers_code scene c (more (multiplies o f) rest) =
      multipliers_code scene (multiplication_code o c (factor_code scene f)) rest

  -- Returns the code of a factor. For a designator, this is the code of the constant's value, or of
  -- the value at the variable's place.
  pub factor_code : Scene → Tree Label factor → ExpressionCode
  factor_code scene (designator x path) =
      designator_code (value_of_constant_object (object_of_label scene.types.now x))
      (selected_place scene (variable_place_of_label scene x) path)
  factor_code scene (integer n) = a_number (lowered.literal (pos n))
  factor_code scene (parenthesised e) = expression_code scene e
  factor_code scene (negation f) = negation_code (factor_code scene f)

  -- Returns the place and the type that selectors reach from a place, one selector after the other.
  -- Returns None if no place was found, or if a selector selects nothing.
  pub selected_place : Scene → Option PlaceWithShape → Tree Label (items selector) → Option PlaceWithShape
  selected_place scene found end = found
  selected_place scene found (more (field x) rest) =
      selected_place scene (option_and_then (record_field_place (label_text x)) found) rest
  selected_place scene found (more (index e) rest) =
      selected_place scene (element_of_optional_place (expression_code scene e) found) rest

-- Returns the place and the type that one selector reaches from a place. Returns None if no place
-- was found, or if the selector selects nothing.
abbrev pub place_after_selector : Scene
    → Option PlaceWithShape
    → Tree Label (item selector)
    → Option PlaceWithShape
place_after_selector scene found (field x) = option_and_then (record_field_place (label_text x)) found
place_after_selector scene found (index e) = element_of_optional_place (expression_code scene e) found
