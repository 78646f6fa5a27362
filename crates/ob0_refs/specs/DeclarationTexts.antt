-- Defines the hover text of a name, given the constant, type, variable or procedure that the name
-- is declared as.
-- Rule: docs/PROTOCOL.md, JSON shapes 3.
use Rattle.std.specs.Prelude.{ℕ, ◌+◌, ◌-◌, Bool, true, false, List, [], ◌∷◌, drop, map, nat_lt, if◌then◌else◌, Option, Some, None, option_and_then}
use Rattle.ob0_tree.specs.declared.tree.Role.TheVariants as role
use Rattle.ob0_tree.specs.ParsedModule.{ParsedModule, tree_of}
use Rattle.ob0_tree.specs.TokenIndexLeaves.{token_text_at}
use Rattle.ob0_tree.specs.Tree.{identifiers}
use Rattle.ob0_language_names.specs.Names.{Name}
use Rattle.ob0_language_names.specs.Scopes.{predeclared_count}
use Rattle.ob0_scope_table.specs.Resolution.{declaring_names}
use Rattle.ob0_scope.specs.declared.bound_names.BoundName as named
use Rattle.ob0_refs.specs.Hovers.{HoverParameter, constant_text, type_declaration_text, predeclared_name_text, procedure_text, type_text, variable_text}
use Rattle.ob0_language_types.specs.Expressions.{Object, a_constant, a_procedure, a_standard_procedure, a_type, a_variable}
use Rattle.ob0_language_types.specs.WellTyped.{FormalParameter, ParameterMode, Signature, by_place, by_value}
use Rattle.ob0_language_values.specs.Values.{Shape, Value, elements, members, number, truth}
use Rattle.ob0_language_values.specs.declared.scalar.Scalar.TheVariants as scalar

-- returns the hover text of a constant, or None if its value is neither a number nor a truth value
abbrev pub hover_text_of_constant : Name → Value → Option (List ℕ)
hover_text_of_constant name (number n) = Some (constant_text name (scalar.Number n))
hover_text_of_constant name (truth b) = Some (constant_text name (scalar.Truth b))
hover_text_of_constant name (elements vs) = None
hover_text_of_constant name (members k ms) = None

-- returns whether a parameter with this mode is a VAR parameter
abbrev pub is_var_parameter_mode : ParameterMode → Bool
is_var_parameter_mode by_value = false
is_var_parameter_mode by_place = true

-- returns the `HoverParameter` for a formal parameter and its name
abbrev pub hover_parameter_of_formal : Name → FormalParameter → HoverParameter
hover_parameter_of_formal name f =
    record { by_place = is_var_parameter_mode f.mode; name = name; text_of_type = type_text f.shape }

-- Returns the `HoverParameter` of each parameter in a procedure's signature. The first argument has
-- the names that the text declares after the procedure's name, which begin with the parameters'
-- names. If there are fewer names than parameters, the result has no entry for the remaining
-- parameters.
abbrev pub hover_parameters_of_signature : List Name → Signature → List HoverParameter
hover_parameters_of_signature (x ∷ xs) (f ∷ fs) = hover_parameter_of_formal x f ∷ hover_parameters_of_signature xs fs
hover_parameters_of_signature [] fs = []
hover_parameters_of_signature (x ∷ xs) [] = []

-- Returns the hover text of a declaration. The arguments are its name, the names declared after
-- this name, and the constant, type, variable or procedure that it declares. Returns None for a
-- constant whose value is neither a number nor a truth value.
abbrev pub hover_text_of_object : Name → List Name → Object Shape Signature → Option (List ℕ)
hover_text_of_object name following (a_constant v) = hover_text_of_constant name v
hover_text_of_object name following (a_type s) = Some (type_declaration_text name (type_text s))
hover_text_of_object name following (a_variable s) = Some (variable_text name (type_text s))
hover_text_of_object name following (a_procedure fs) =
    Some (procedure_text name (hover_parameters_of_signature following fs))
hover_text_of_object name following (a_standard_procedure s) = Some (predeclared_name_text name)

-- returns the names that the text declares after the declaration with this ordinal, in text order
abbrev pub names_declared_after_declaration : ParsedModule → ℕ → List Name
names_declared_after_declaration m ordinal =
    map (token_text_at m.source)
    (drop (ordinal + 1 - predeclared_count) (declaring_names (identifiers role.DeclaringName (tree_of m))))

-- Returns the hover text of a name that the text declares, given the constant, type, variable or
-- procedure that it is declared as (`object`). Returns None if `object` is None or a constant
-- without a hover text.
abbrev pub hover_text_of_declaration : ParsedModule
    → named.BoundName
    → Option (Object Shape Signature)
    → Option (List ℕ)
hover_text_of_declaration m n object =
    option_and_then (hover_text_of_object (token_text_at m.source n.token) (names_declared_after_declaration m n.ordinal)) object

-- Returns the hover text of a name, given the constant, type, variable or procedure that it is
-- declared as (`object`). A name with an ordinal from 0 to 6 is predeclared, and `object` isn't
-- used. For any other name, returns None if `object` is None or a constant without a hover text.
abbrev pub hover_text_of_name : ParsedModule → named.BoundName → Option (Object Shape Signature) → Option (List ℕ)
hover_text_of_name m n object =
    if nat_lt n.ordinal predeclared_count
    then Some (predeclared_name_text (token_text_at m.source n.token))
    else hover_text_of_declaration m n object
