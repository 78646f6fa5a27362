-- Defines when the values, places and meanings of names in a run agree with the types that the
-- checker gives them.
-- Rule: docs/LANGUAGE.md, Runs 11.
use Rattle.std.specs.Prelude.{◌≡◌, true, List, [], ◌∷◌, map, if◌then◌else◌, nat_lt, slice_get, Some, None, Option, option_and_then}
use Rattle.ob0_language_names.specs.Names.{Naming}
use Rattle.ob0_language_names.specs.BlockParts.{procedure_formals}
use Rattle.ob0_language_types.specs.Expressions.{Meanings, Object, a_constant, a_procedure, a_standard_procedure, a_type, a_variable}
use Rattle.ob0_language_types.specs.Typing.{named_field_shape}
use Rattle.ob0_language_types.specs.WellTyped.{ParameterMode, Signature, TypeEnvironment, TypeMeanings, TypedParameter, bind_typed_parameters, by_place, by_value, bind_procedure, procedure_is_well_typed, typed_parameters}
use Rattle.ob0_language_values.specs.Values.{FieldShapes, Members, Place, Shape, PathStep, Store, Value, Values, array_shape, at_field, at_index, boolean_shape, value_count, elements, integer_shape, members, next_field_shape, next_member, next_value, no_field_shape, no_member, no_value, number, record_shape, truth}
use Rattle.ob0_language_runs.specs.Runs.{RunEnvironment, Argument, ProcedureText, object_for_statements, place_argument, value_argument}

-- States that a value has a type, including the types of the value's parts.
abbrev mutual
  -- States that a value has this type. A number is an INTEGER, and a truth value is a BOOLEAN. An array must have the
  -- length of the array type. A record must have the same ordinal as the record type: the number of words ARRAY and
  -- RECORD before the RECORD that constructs the type. The parts of the value must have the types of the type's parts.
  pub HasShape : Value → Shape → Type 0
  HasShape (number n) integer_shape = Unit {0}
  HasShape (truth b) boolean_shape = Unit {0}
  HasShape (elements vs) (array_shape k n s) = (value_count vs ≡ n) × EachElementHasShape vs s
  HasShape (members j ms) (record_shape k fs) = (j ≡ k) × MembersHaveShapes ms fs
  HasShape _ _ = ⊥

  -- states that all elements of an array have this type
  pub EachElementHasShape : Values → Shape → Type 0
  EachElementHasShape no_value s = Unit {0}
  EachElementHasShape (next_value v rest) s = HasShape v s × EachElementHasShape rest s

  -- states that the members of a record have the names and types of the fields, in the same order
  pub MembersHaveShapes : Members → FieldShapes → Type 0
  MembersHaveShapes no_member no_field_shape = Unit {0}
  MembersHaveShapes (next_member x v rest) (next_field_shape y s others) =
      (x ≡ y) × HasShape v s × MembersHaveShapes rest others
  MembersHaveShapes _ _ = ⊥

-- returns the type of the element or field that one step selects from the type; None if there is no such element or
-- field, for example because an index isn't below the array's length
abbrev pub shape_at_step : Shape → PathStep → Option Shape
shape_at_step (array_shape k n s) (at_index i) = if nat_lt i n then Some s else None
shape_at_step (record_shape k fs) (at_field x) = named_field_shape fs x
shape_at_step _ _ = None

-- returns the type of the part that a path selects from the type; None if there is no such part
abbrev pub shape_at_path : List PathStep → Shape → Option Shape
shape_at_path [] s = Some s
shape_at_path (step ∷ path) s = option_and_then (shape_at_path path) (shape_at_step s step)

-- the types of a store's variables, in the order of the store; the proofs extend this list when a run adds variables
abbrev pub StoreTyping : Type 0
StoreTyping = List Shape

-- states that the store has as many values as the list has types, and each value has the type at the same index
abbrev pub StoreHasTypes : StoreTyping → Store → Type 0
StoreHasTypes [] [] = Unit {0}
StoreHasTypes (s ∷ ss) (v ∷ vs) = HasShape v s × StoreHasTypes ss vs
StoreHasTypes _ _ = ⊥

-- states that the part of a variable that a place denotes has this type, given the types of the store's variables
abbrev pub PlaceHasType : StoreTyping → Place → Shape → Type 0
PlaceHasType typing p s = option_and_then (shape_at_path p.path) (slice_get typing p.variable) ≡ Some s

-- returns the modes of a procedure's parameters, given its signature
abbrev pub signature_modes : Signature → List ParameterMode
signature_modes = map (λ f. f.mode)

-- States that a name's object in a run agrees with the name's object in the checked module. If the
-- name has no object in one of them, it must have none in the other. Types, constants and standard
-- procedures must be equal. The place of a variable must have the variable's type. The modes of a
-- procedure's parameters must be the modes in its signature.
abbrev pub RunObjectAgreesWithCheckedObject : StoreTyping
    → Option (Object Shape Signature)
    → Option (Object Place (List ParameterMode))
    → Type 0
RunObjectAgreesWithCheckedObject typing None None = Unit {0}
RunObjectAgreesWithCheckedObject typing (Some (a_type s)) (Some (a_type t)) = s ≡ t
RunObjectAgreesWithCheckedObject typing (Some (a_constant v)) (Some (a_constant w)) = v ≡ w
RunObjectAgreesWithCheckedObject typing (Some (a_variable s)) (Some (a_variable p)) = PlaceHasType typing p s
RunObjectAgreesWithCheckedObject typing (Some (a_procedure signature)) (Some (a_procedure modes)) =
    modes ≡ signature_modes signature
RunObjectAgreesWithCheckedObject typing (Some (a_standard_procedure p)) (Some (a_standard_procedure q)) = p ≡ q
RunObjectAgreesWithCheckedObject typing _ _ = ⊥

-- States that each name's object in a run agrees with the name's object in the checked module. Also states that each
-- name has the same spelling in both.
abbrev pub RunMeaningsAgreeWithCheckedMeanings : {N : Type 0}
    → StoreTyping
    → TypeMeanings N
    → Meanings N Place (List ParameterMode)
    → Type 0
RunMeaningsAgreeWithCheckedMeanings {N} typing checked active =
    ((x : N) → RunObjectAgreesWithCheckedObject typing (checked.object_for x) (active.object_for x))
    × ((x : N) → checked.written x ≡ active.written x)

-- states that there are as many arguments as parameters of the called procedure, and each argument has the mode and
-- type of its parameter
abbrev pub ArgumentsMatchSignature : StoreTyping → Signature → List Argument → Type 0
ArgumentsMatchSignature typing [] [] = Unit {0}
ArgumentsMatchSignature typing (f ∷ fs) (place_argument p ∷ args) =
    (f.mode ≡ by_place) × PlaceHasType typing p f.shape × ArgumentsMatchSignature typing fs args
ArgumentsMatchSignature typing (f ∷ fs) (value_argument v ∷ args) =
    (f.mode ≡ by_value) × HasShape v f.shape × ArgumentsMatchSignature typing fs args
ArgumentsMatchSignature typing _ _ = ⊥

-- States that the object of the name `x` in an activation agrees with the object of `x` in the
-- checked environment. `checked` has the bindings of that environment that are older than the
-- binding of `x`. A procedure's signature must have the modes and types of the parameters in its
-- heading, and the procedure must be well-typed, both given these older bindings.
abbrev pub RunBindingAgreesWithCheckedBinding : {N : Type 0}
    → Naming N
    → StoreTyping
    → TypeEnvironment N
    → N
    → Object Shape Signature
    → Object Place (ProcedureText N)
    → Type 0
RunBindingAgreesWithCheckedBinding {N} naming typing checked x (a_procedure signature) (a_procedure code) =
    (ps : List (TypedParameter N))
    × (typed_parameters naming checked code.constructors_before (procedure_formals code.text)
    ≡ Some ps)
    × (signature ≡ map (λ p. p.formal) ps)
    × (procedure_is_well_typed naming (bind_typed_parameters ps (bind_procedure x ps checked)) code.constructors_before code.text
    ≡ true)
RunBindingAgreesWithCheckedBinding naming typing checked x o r = RunObjectAgreesWithCheckedObject typing (Some o) (object_for_statements (Some r))

-- states that the environment of a run agrees with the checked environment: both bind the same names in the same order,
-- to objects that agree
abbrev pub RunEnvironmentAgreesWithCheckedEnvironment : {N : Type 0}
    → Naming N
    → StoreTyping
    → TypeEnvironment N
    → RunEnvironment N
    → Type 0
RunEnvironmentAgreesWithCheckedEnvironment naming typing [] [] = Unit {0}
RunEnvironmentAgreesWithCheckedEnvironment naming typing (b ∷ checked) (d ∷ active) =
    (b.0 ≡ d.0)
    × RunBindingAgreesWithCheckedBinding naming typing checked b.0 b.1 d.1
    × RunEnvironmentAgreesWithCheckedEnvironment naming typing checked active
RunEnvironmentAgreesWithCheckedEnvironment naming typing _ _ = ⊥
