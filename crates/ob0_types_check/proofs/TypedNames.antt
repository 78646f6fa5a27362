-- No fault is reported for names that have a type. The types of a table are distinguished by their shapes.
use Rattle.std.proofs.Common.{◌≡◌, ℕ, Bool, true, false, true≢false, List, [], ◌∷◌, slice_get, Option, Some, None, option_map, option_and_then, if◌then◌else◌, refl, sym, ap, ◌∙◌}
use Rattle.ob0_scan.specs.declared.fault.FaultCode.TheVariants as code
use Rattle.ob0_tree.specs.declared.tree.Role.{Role}
use Rattle.ob0_tree.specs.declared.tree.Role.TheVariants as role
use Rattle.ob0_language_types.specs.Expressions as meant
use Rattle.ob0_language_types.specs.Expressions.{Object}
use Rattle.ob0_language_types.specs.Typing.{value_of_constant_object, meanings_in_constant_expressions, type_of_variable_or_constant}
use Rattle.ob0_language_types.specs.WellTyped.{Signature, TypeMeanings, signature_of}
use Rattle.ob0_types_table.specs.declared.types.TypeId.{TypeId}
use Rattle.ob0_types_table.specs.declared.types.TypeId.TheVariants as type
use Rattle.ob0_language_values.specs.Values.{Shape, array_shape, boolean_shape, integer_shape, record_shape}
use Rattle.ob0_types_check.specs.TypesAndMeanings.{Facts, Meaning, a_constant, a_procedure, a_scalar, a_type, a_variable}
use Rattle.ob0_types_check.specs.OperandFaults.{non_constant_name_operand, fault_at_token, operand_from_meaning, without_fault}
use Rattle.ob0_types_check.specs.Agreement.{IsKnownAndAgreesWithObject, TokenAgreesWithLabel, TokensAgreeWithLabels, shape_if_array, shape_if_record, shape_of_type_in}
use Rattle.ob0_types_check.specs.KnownDeclarations.{CompositeType, form_of_known_type, known_types_representation}
use Rattle.ob0_types_check.proofs.TypedExpressions.{NameTyped, NamesTyped}
use Rattle.ob0_types_check.proofs.TypedOperands.{TypesApart, and-then}
use Rattle.ob0_types_check.proofs.Unreported.{some-none, some-same}

-- The types of a table are distinguished by their shapes (`TypesApart`).

no-array-of : (shapes : List Shape) (i : ℕ) (s : Shape) → option_and_then shape_if_array (slice_get shapes i) ≡ Some s → shape_if_array s ≡ Some s
no-array-of shapes i s h = let (r, at, is) = and-then shape_if_array (slice_get shapes i) s h in of-array r s is
  where
    of-array : (r s : Shape) → shape_if_array r ≡ Some s → shape_if_array s ≡ Some s
    of-array (array_shape k n u) s e = ap shape_if_array (sym (some-same (array_shape k n u) s e)) ∙ e
    of-array integer_shape s e = absurd (cc)
    of-array boolean_shape s e = absurd (cc)
    of-array (record_shape k fs) s e = absurd (cc)

no-record-of : (shapes : List Shape) (i : ℕ) (s : Shape) → option_and_then shape_if_record (slice_get shapes i) ≡ Some s → shape_if_record s ≡ Some s
no-record-of shapes i s h = let (r, at, is) = and-then shape_if_record (slice_get shapes i) s h in of-record r s is
  where
    of-record : (r s : Shape) → shape_if_record r ≡ Some s → shape_if_record s ≡ Some s
    of-record (record_shape k fs) s e = ap shape_if_record (sym (some-same (record_shape k fs) s e)) ∙ e
    of-record integer_shape s e = absurd (cc)
    of-record boolean_shape s e = absurd (cc)
    of-record (array_shape k n u) s e = absurd (cc)

integer-alone : (made : List CompositeType) (shapes : List Shape) (t : TypeId) → shape_of_type_in shapes t ≡ Some integer_shape → (known_types_representation made).same t type.Integer ≡ true
integer-alone made shapes type.Integer h = refl
integer-alone made shapes type.Boolean h = absurd (cc)
integer-alone made shapes type.Unknown h = absurd (cc)
integer-alone made shapes (type.Array i) h = absurd (some-none integer_shape (sym (no-array-of shapes i integer_shape h)))
integer-alone made shapes (type.Record i) h = absurd (some-none integer_shape (sym (no-record-of shapes i integer_shape h)))

boolean-alone : (made : List CompositeType) (shapes : List Shape) (t : TypeId) → shape_of_type_in shapes t ≡ Some boolean_shape → (known_types_representation made).same t type.Boolean ≡ true
boolean-alone made shapes type.Boolean h = refl
boolean-alone made shapes type.Integer h = absurd (cc)
boolean-alone made shapes type.Unknown h = absurd (cc)
boolean-alone made shapes (type.Array i) h = absurd (some-none boolean_shape (sym (no-array-of shapes i boolean_shape h)))
boolean-alone made shapes (type.Record i) h = absurd (some-none boolean_shape (sym (no-record-of shapes i boolean_shape h)))

scalar-alone : (made : List CompositeType) (shapes : List Shape) (t : TypeId) (s : Shape) → shape_of_type_in shapes t ≡ Some s → form_of_known_type made t ≡ a_scalar → (shape_if_array s ≡ None) × (shape_if_record s ≡ None)
scalar-alone made shapes type.Integer s h e = let is = some-same integer_shape s h in (sym (ap shape_if_array is), sym (ap shape_if_record is))
scalar-alone made shapes type.Boolean s h e = let is = some-same boolean_shape s h in (sym (ap shape_if_array is), sym (ap shape_if_record is))
scalar-alone made shapes type.Unknown s h e = absurd (cc)
scalar-alone made shapes (type.Array i) s h e = absurd (cc)
scalar-alone made shapes (type.Record i) s h e = absurd (cc)

pub types-apart : (made : List CompositeType) (shapes : List Shape) → TypesApart (known_types_representation made) (shape_of_type_in shapes)
types-apart made shapes = record { integer = integer-alone made shapes; boolean = boolean-alone made shapes; scalar = scalar-alone made shapes }

-- No fault is reported for a name that has a type.

module _ {T : Type 0} (facts : Facts T) (shape : T → Option Shape) where
  no-procedure : (o : Option (Object Shape Signature)) (signature : Signature) (s : Shape) → signature_of o ≡ Some signature → type_of_variable_or_constant o ≡ Some s → ⊥
  no-procedure None signature s e h = some-none s (sym h)
  no-procedure (Some (meant.a_type t)) signature s e h = some-none s (sym h)
  no-procedure (Some (meant.a_constant v)) signature s e h = some-none signature (sym e)
  no-procedure (Some (meant.a_variable t)) signature s e h = some-none signature (sym e)
  no-procedure (Some (meant.a_procedure p)) signature s e h = some-none s (sym h)
  no-procedure (Some (meant.a_standard_procedure p)) signature s e h = some-none s (sym h)

  variable-named : (x : ℕ) (t : T) (b : Bool) → b ≡ false → (if b then record { known = non_constant_name_operand facts.types.unknown x; faults = fault_at_token code.NotConstant x } else without_fault (non_constant_name_operand t x)).faults ≡ []
  variable-named x t true e = absurd (true≢false e)
  variable-named x t false e = refl

  holds-right : (x : ℕ) (m : Option (Meaning T)) (o : Option (Object Shape Signature)) → facts.only_constants ≡ false → IsKnownAndAgreesWithObject shape m o → (s : Shape) → type_of_variable_or_constant o ≡ Some s → (operand_from_meaning facts x m).faults ≡ []
  holds-right x None o only a s h = absurd a
  holds-right x (Some (a_type t)) o only (u, known, holds) s h = absurd (some-none s (sym h ∙ ap type_of_variable_or_constant holds))
  holds-right x (Some (a_procedure fs)) o only (signature, holds, formals) s h = absurd (no-procedure o signature s holds h)
  holds-right x (Some (a_constant c)) o only a s h = refl
  holds-right x (Some (a_variable t)) o only a s h = variable-named x t facts.only_constants only

  -- In a constant expression, no fault is reported for a name that means a constant and has a type.

  abbrev only : Option (Object Shape Signature) → Option (Object Shape (Unit {0}))
  only o = option_map meant.a_constant (value_of_constant_object o)

  only-right : (Q : Type 0) (x : ℕ) (m : Option (Meaning T)) (o : Option (Object Shape Signature)) → IsKnownAndAgreesWithObject shape m o → (s : Shape) → type_of_variable_or_constant (option_map {U = Object Shape Q} meant.a_constant (value_of_constant_object o)) ≡ Some s → (operand_from_meaning facts x m).faults ≡ []
  only-right Q x None o a s h = absurd a
  only-right Q x (Some (a_type t)) o (u, known, holds) s h = absurd (some-none s (sym h ∙ ap (λ z. type_of_variable_or_constant (option_map {U = Object Shape Q} meant.a_constant (value_of_constant_object z))) holds))
  only-right Q x (Some (a_procedure fs)) o (signature, holds, formals) s h = absurd (no-constant o signature s holds h)
    where
      no-constant : (o : Option (Object Shape Signature)) (signature : Signature) (s : Shape) → signature_of o ≡ Some signature → type_of_variable_or_constant (option_map {U = Object Shape Q} meant.a_constant (value_of_constant_object o)) ≡ Some s → ⊥
      no-constant None signature s e h = some-none s (sym h)
      no-constant (Some (meant.a_type t)) signature s e h = some-none s (sym h)
      no-constant (Some (meant.a_constant v)) signature s e h = some-none signature (sym e)
      no-constant (Some (meant.a_variable t)) signature s e h = some-none s (sym h)
      no-constant (Some (meant.a_procedure p)) signature s e h = some-none s (sym h)
      no-constant (Some (meant.a_standard_procedure p)) signature s e h = some-none s (sym h)
  only-right Q x (Some (a_constant c)) o a s h = refl
  only-right Q x (Some (a_variable t)) o (u, known, holds) s h = absurd (some-none s (sym h ∙ ap (λ z. type_of_variable_or_constant (option_map {U = Object Shape Q} meant.a_constant (value_of_constant_object z))) holds))

module _ {T N : Type 0} (facts : Facts T) (shape : T → Option Shape) (label : ℕ → N) (meaning : TypeMeanings N) where
  name-typed : facts.only_constants ≡ false → (r : Role) (x : ℕ) → TokenAgreesWithLabel facts shape label meaning r x → NameTyped facts label meaning r x
  name-typed only role.LookedUpName x a = λ s h. holds-right facts shape x (facts.object_for x) (meaning.object_for (label x)) only a s h
  name-typed only role.FieldName x a = tt
  name-typed only role.DeclaringName x a = tt
  name-typed only role.ClosingName x a = tt
  name-typed only role.ModuleName x a = tt

  pub names-typed : facts.only_constants ≡ false → (xs : List (Role × ℕ)) → TokensAgreeWithLabels facts shape label meaning xs → NamesTyped facts label meaning xs
  names-typed only [] a = tt
  names-typed only (x ∷ xs) a = (name-typed only x.0 x.1 a.0, names-typed only xs a.1)

  constant-typed : (Q : Type 0) (r : Role) (x : ℕ) → TokenAgreesWithLabel facts shape label meaning r x → NameTyped {P = Q} facts label (meanings_in_constant_expressions meaning) r x
  constant-typed Q role.LookedUpName x a = λ s h. only-right facts shape Q x (facts.object_for x) (meaning.object_for (label x)) a s h
  constant-typed Q role.FieldName x a = tt
  constant-typed Q role.DeclaringName x a = tt
  constant-typed Q role.ClosingName x a = tt
  constant-typed Q role.ModuleName x a = tt

  pub constants-typed : (Q : Type 0) (xs : List (Role × ℕ)) → TokensAgreeWithLabels facts shape label meaning xs → NamesTyped {P = Q} facts label (meanings_in_constant_expressions meaning) xs
  constants-typed Q [] a = tt
  constants-typed Q (x ∷ xs) a = (constant-typed Q x.0 x.1 a.0, constants-typed Q xs a.1)
