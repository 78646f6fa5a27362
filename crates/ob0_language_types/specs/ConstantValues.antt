-- Defines the values of a module's constants, computed in environments that have only the values of
-- constants. Other names are bound to a placeholder, because they can hide a constant's name.
-- Rule: docs/LANGUAGE.md, Types 6, 7.
use Rattle.std.specs.Prelude.{None, Option, Some, if◌then◌else◌, map, nat_lt, option_and_then, suc, ℕ, ◌++◌, ◌==◌, ◌∷◌}
use Rattle.ob0_tree.specs.Tree.{Tree, block, constant, declares, declares_constant, declares_procedure, end, forms_block, item, items, module_text, more, procedure}
use Rattle.ob0_language_names.specs.Names.{Name, naming_by_spelling}
use Rattle.ob0_language_names.specs.BlockParts.{formal_parameter_names, formal_parameter_sections, module_block, declared_type_names, procedure_name, section_constants, section_types, section_variables, variable_names}
use Rattle.ob0_language_names.specs.Scopes.{ordinal_after_names, ordinal_after_procedure, first_procedure_ordinal, first_type_ordinal, predeclared_count}
use Rattle.ob0_language_values.specs.Values.{Value}
use Rattle.ob0_language_types.specs.Declarations.{declare_constants}
use Rattle.ob0_language_types.specs.Environments.{Environment, meanings, outermost_environment}
use Rattle.ob0_language_types.specs.Expressions.{Object, a_constant, a_procedure, a_standard_procedure, a_type, a_variable}
use Rattle.ob0_language_types.specs.Typing.{constant_expression_value, ◌>>=◌}
use Rattle.ob0_language_types.specs.WellTyped.{bind_names}

-- environments that bind the name of each constant to its value, and any other name to the
-- placeholder `non_constant_placeholder`
abbrev pub ConstantEnvironment : Type 0
ConstantEnvironment = Environment Name (Unit {0}) (Unit {0})

-- a placeholder for any object that isn't a constant, in a `ConstantEnvironment`
abbrev pub non_constant_placeholder : Object (Unit {0}) (Unit {0})
non_constant_placeholder = a_variable tt

-- returns the object unchanged if it is a constant, otherwise `non_constant_placeholder`
abbrev pub constant_or_placeholder : {V P : Type 0} → Object V P → Object (Unit {0}) (Unit {0})
constant_or_placeholder (a_constant v) = a_constant v
constant_or_placeholder (a_type s) = non_constant_placeholder
constant_or_placeholder (a_variable p) = non_constant_placeholder
constant_or_placeholder (a_procedure p) = non_constant_placeholder
constant_or_placeholder (a_standard_procedure p) = non_constant_placeholder

-- the environment of the predeclared names: TRUE and FALSE are bound to their values, the other
-- names to `non_constant_placeholder`
abbrev pub predeclared_constants : ConstantEnvironment
predeclared_constants =
    map (λ b. (b.0, constant_or_placeholder b.1)) (outermost_environment {V = Unit {0}} {P = Unit {0}} naming_by_spelling)

-- Returns the value of the constant with ordinal `d` in a list of constant declarations. `known` is
-- the environment before the list. The first declaration in the list has ordinal `k`. Returns None
-- if the list doesn't declare this constant, or if this constant or an earlier one in the list has
-- no value.
unfoldable pub constant_value_in_section : ConstantEnvironment → ℕ → ℕ → Tree Name (items constant) → Option Value
unfolding constant_expression_value
constant_value_in_section known d k end = None
constant_value_in_section known d k (more (declares_constant x e) cs) = do
  v ← constant_expression_value (meanings naming_by_spelling known) e
  if k == d then Some v else constant_value_in_section ((x, a_constant v) ∷ known) d (suc k) cs

-- Returns the value of the constant with ordinal `d`. Returns None if no CONST section declares a
-- constant with this ordinal. Also returns None if this constant, an earlier constant in its
-- section or a constant of an enclosing block has no value.
unfoldable mutual
  unfolding constant_value_in_section declare_constants

  -- Returns the value of the constant with ordinal `d` in a block or its procedures. The block's
  -- first declaration has ordinal `k`. Returns None if the block and its procedures don't declare
  -- this constant, or its value can't be computed.
  pub constant_value_in_block : ConstantEnvironment → ℕ → ℕ → Tree Name block → Option Value
  constant_value_in_block known d k (forms_block (declares cs ts vs ps) statements) =
      if nat_lt d (first_type_ordinal k (forms_block (declares cs ts vs ps) statements))
      then constant_value_in_section known d k (section_constants cs)
      else if nat_lt d (first_procedure_ordinal k (forms_block (declares cs ts vs ps) statements)) then None
      else option_and_then (λ inner. constant_value_in_procedure_list (bind_names
      (declared_type_names (section_types ts) ++ variable_names (section_variables vs)) non_constant_placeholder
      inner) d (first_procedure_ordinal k (forms_block (declares cs ts vs ps) statements)) ps)
      (declare_constants naming_by_spelling known (section_constants cs))

  -- returns the value of the constant with ordinal `d` in a list of procedures, the first of which
  -- has ordinal `k`; None if no procedure in the list declares this constant or its value can't be
  -- computed
  pub constant_value_in_procedure_list : ConstantEnvironment → ℕ → ℕ → Tree Name (items procedure) → Option Value
  constant_value_in_procedure_list known d k end = None
  constant_value_in_procedure_list known d k (more p rest) =
      if nat_lt d (ordinal_after_procedure (suc k) p)
      then constant_value_in_procedure ((procedure_name p, non_constant_placeholder) ∷ known) d (suc k) p
      else constant_value_in_procedure_list ((procedure_name p, non_constant_placeholder) ∷ known) d
      (ordinal_after_procedure (suc k) p) rest

  -- Returns the value of the constant with ordinal `d` in a procedure's block. The procedure's
  -- first parameter has ordinal `k`. Returns None if the block doesn't declare this constant or its
  -- value can't be computed. Also returns None if `d` is the ordinal of a parameter.
  pub constant_value_in_procedure : ConstantEnvironment → ℕ → ℕ → Tree Name (item procedure) → Option Value
  constant_value_in_procedure known d k (declares_procedure x fs b closing) =
      if nat_lt d (ordinal_after_names k (formal_parameter_names (formal_parameter_sections fs))) then None
      else constant_value_in_block (bind_names (formal_parameter_names (formal_parameter_sections fs)) non_constant_placeholder known) d
      (ordinal_after_names k (formal_parameter_names (formal_parameter_sections fs))) b

-- Returns the value of the constant with ordinal `d`. A declaration's ordinal is its number in text
-- order, after the predeclared names 0 to 6. Returns None if no CONST section declares a constant
-- with this ordinal. Also returns None if this constant, an earlier constant in its section or a
-- constant of an enclosing block has no value.
unfoldable pub constant_value_in_module : Tree Name module_text → ℕ → Option Value
unfolding constant_value_in_block
constant_value_in_module m d =
    if nat_lt d predeclared_count
    then None
    else constant_value_in_block predeclared_constants d predeclared_count (module_block m)
