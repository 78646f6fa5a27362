-- Defines the hover texts of names. A text shows a declaration, or says that the name is
-- predeclared. Names and types are given by their texts.
-- Rule: docs/PROTOCOL.md, JSON shapes 3.
use Rattle.std.specs.Prelude.{ℕ, ◌+◌, Bool, true, false, List, [], ◌∷◌, ◌++◌, codes, decimal}
use Rattle.std.specs.Fmt.{signed_decimal}
use Rattle.ob0_language_values.specs.Values.{FieldShapes, Shape, array_shape, boolean_shape, integer_shape, next_field_shape, no_field_shape, record_shape}
use Rattle.ob0_language_values.specs.declared.scalar.Scalar.{Scalar}
use Rattle.ob0_language_values.specs.declared.scalar.Scalar.TheVariants as scalar

-- returns the word TRUE or FALSE for a truth value
abbrev pub truth_text : Bool → List ℕ
truth_text true = codes "TRUE"
truth_text false = codes "FALSE"

-- returns the text of a constant's value: a decimal number, TRUE or FALSE
abbrev pub scalar_text : Scalar → List ℕ
scalar_text (scalar.Number n) = signed_decimal n
scalar_text (scalar.Truth b) = truth_text b

-- returns the number of fields of a record
abbrev pub field_count : FieldShapes → ℕ
field_count no_field_shape = 0
field_count (next_field_shape x s rest) = field_count rest + 1

-- Returns the text of a type. An array is shown as `ARRAY n OF T`, and a record as
-- `RECORD with k fields`.
abbrev pub type_text : Shape → List ℕ
type_text integer_shape = codes "INTEGER"
type_text boolean_shape = codes "BOOLEAN"
type_text (array_shape k n s) = codes "ARRAY " ++ (decimal n ++ (codes " OF " ++ type_text s))
type_text (record_shape k fs) =
    codes "RECORD with " ++ (decimal (field_count fs) ++ codes " fields")

-- returns the hover text of a constant: `CONST c = V`
abbrev pub constant_text : List ℕ → Scalar → List ℕ
constant_text name value = codes "CONST " ++ (name ++ (codes " = " ++ scalar_text value))

-- returns the hover text of a type declaration, given its name and the text of its type:
-- `TYPE t = T`
abbrev pub type_declaration_text : List ℕ → List ℕ → List ℕ
type_declaration_text name of = codes "TYPE " ++ (name ++ (codes " = " ++ of))

-- returns the hover text of a variable, given its name and the text of its type: `VAR x: T`
abbrev pub variable_text : List ℕ → List ℕ → List ℕ
variable_text name of = codes "VAR " ++ (name ++ (codes ": " ++ of))

-- returns the hover text of a field, given its name and the text of its type: `FIELD f: T`
abbrev pub field_text : List ℕ → List ℕ → List ℕ
field_text name of = codes "FIELD " ++ (name ++ (codes ": " ++ of))

-- a parameter: its name, the text of its type, and whether it is a VAR parameter (`by_place`)
pub record HoverParameter : Type 0 where
  pub by_place : Bool
  pub name : List ℕ
  pub text_of_type : List ℕ

-- returns `VAR ` for a VAR parameter, otherwise the empty text
abbrev pub var_prefix_text : Bool → List ℕ
var_prefix_text true = codes "VAR "
var_prefix_text false = []

-- returns the text of a parameter: `a: T` or `VAR a: T`
abbrev pub parameter_text : HoverParameter → List ℕ
parameter_text p = var_prefix_text p.by_place ++ (p.name ++ (codes ": " ++ p.text_of_type))

-- returns the texts of these parameters, with `; ` before each
abbrev pub further_parameters_text : List HoverParameter → List ℕ
further_parameters_text [] = []
further_parameters_text (p ∷ ps) = codes "; " ++ (parameter_text p ++ further_parameters_text ps)

-- returns the texts of all parameters, with `; ` between them
abbrev pub parameter_list_text : List HoverParameter → List ℕ
parameter_list_text [] = []
parameter_list_text (p ∷ ps) = parameter_text p ++ further_parameters_text ps

-- returns the hover text of a procedure: `PROCEDURE p(a: T; VAR b: T)`
abbrev pub procedure_text : List ℕ → List HoverParameter → List ℕ
procedure_text name ps =
    codes "PROCEDURE " ++ (name ++ (codes "(" ++ (parameter_list_text ps ++ codes ")")))

-- returns the hover text of a predeclared name: `predeclared N`
abbrev pub predeclared_name_text : List ℕ → List ℕ
predeclared_name_text name = codes "predeclared " ++ name
