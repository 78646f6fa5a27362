-- Defines when the types and meanings of names that the checker has found are correct. They must
-- agree with the shapes and objects of the language's definitions.
-- Rule: none; used in laws about the types and meanings that the checker has found.
use Rattle.std.specs.Prelude.{◌≡◌, ℕ, Bool, true, false, List, [], ◌∷◌, ◌++◌, Option, Some, None, option_map, option_and_then, is_some, slice_get}
use Rattle.ob0_language_names.specs.Names.{Name}
use Rattle.ob0_types_table.specs.declared.types.TypeId.{TypeId}
use Rattle.ob0_types_table.specs.declared.types.TypeId.TheVariants as type
use Rattle.ob0_types_table.specs.DeclarationTableView.{mode_from_flag}
use Rattle.ob0_tree.specs.declared.tree.Role.{Role}
use Rattle.ob0_tree.specs.declared.tree.Role.TheVariants as role
use Rattle.ob0_tree.specs.TokenIndexLeaves.{token_text_at}
use Rattle.ob0_tree.specs.Tree.{Sort, Tree, identifiers}
use Rattle.ob0_language_types.specs.Expressions as meant
use Rattle.ob0_language_types.specs.Typing as typing
use Rattle.ob0_language_types.specs.Typing.{named_field_shape, value_type}
use Rattle.ob0_language_types.specs.WellTyped.{Signature, TypeMeanings, signature_of}
use Rattle.ob0_language_values.specs.Values.{FieldShapes, Shape, Value, array_shape, boolean_shape, integer_shape, next_field_shape, no_field_shape, record_shape}
use Rattle.ob0_types_check.specs.TypesAndMeanings.{Facts, TypeForm, KnownParameter, Meaning, Types, a_constant, a_procedure, a_record, a_scalar, a_type, a_variable, an_array, unknown_form}
use Rattle.ob0_types_check.specs.KnownDeclarations.{CompositeType, CompositeParts, KnownField, of_elements, of_fields}

-- States that a type's form agrees with the shape `s`. The function `shape` returns the shape of a
-- type, or None if the type is unknown. An array's form agrees with an array's shape if its element
-- type has the shape of the elements. A record's form agrees with a record's shape if both have the
-- same field names, and the field types have the shapes of these fields. A scalar's form has no
-- parts, so it agrees with every shape. The unknown form agrees with no shape.
abbrev pub FormAgreesWithShape : {T : Type 0} → (T → Option Shape) → TypeForm T → Shape → Type 0
FormAgreesWithShape shape a_scalar s = Unit {0}
FormAgreesWithShape shape (an_array t) s =
    (k : ℕ) × (n : ℕ) × (u : Shape) × (s ≡ array_shape k n u) × (shape t ≡ Some u)
FormAgreesWithShape shape (a_record fields) s =
    (k : ℕ)
    × (fs : FieldShapes)
    × (s ≡ record_shape k fs)
    × ((x : Name) → option_map shape (fields x) ≡ option_map Some (named_field_shape fs x))
FormAgreesWithShape shape unknown_form s = ⊥

-- States that types agree with the shapes that `shape` returns for them. INTEGER and BOOLEAN have
-- their own shapes, and the unknown type has none. Types that are the same according to
-- `types.same` have the same shape, and INTEGER is the same as itself. If a type has a shape, its
-- form agrees with that shape.
pub record TypesAgreeWithShapes {T : Type 0} (types : Types T) (shape : T → Option Shape) : Type 0 where
  pub integer : shape types.integer ≡ Some integer_shape
  pub boolean : shape types.boolean ≡ Some boolean_shape
  pub unknown : shape types.unknown ≡ None
  pub integer_same : types.same types.integer types.integer ≡ true
  pub same : (s t : T) → types.same s t ≡ true → shape s ≡ shape t
  pub form_agrees : (t : T) (s : Shape) → shape t ≡ Some s → FormAgreesWithShape shape (types.form t) s

-- states that formal parameters agree one by one with the parameters of a signature, in mode and
-- type
abbrev pub FormalsAgreeWithSignature : {T : Type 0}
    → (T → Option Shape)
    → List (KnownParameter T)
    → Signature
    → Type 0
FormalsAgreeWithSignature shape [] [] = Unit {0}
FormalsAgreeWithSignature shape [] (g ∷ gs) = ⊥
FormalsAgreeWithSignature shape (f ∷ fs) [] = ⊥
FormalsAgreeWithSignature shape (f ∷ fs) (g ∷ gs) =
    (g.mode ≡ mode_from_flag f.by_place) × (shape f.of ≡ Some g.shape) × FormalsAgreeWithSignature shape fs gs

-- States that the meaning of a name agrees with the object to which the name refers. A type or
-- variable has the object's shape. A constant has the object's value, which is a scalar. A
-- procedure has the object's parameters.
abbrev pub MeaningAgreesWithObject : {T : Type 0}
    → (T → Option Shape)
    → Meaning T
    → Option (meant.Object Shape Signature)
    → Type 0
MeaningAgreesWithObject shape (a_type t) o = (s : Shape) × (shape t ≡ Some s) × (o ≡ Some (meant.a_type s))
MeaningAgreesWithObject shape (a_constant c) o =
    (v : Value) × (c ≡ Some v) × (o ≡ Some (meant.a_constant v)) × (is_some (value_type v) ≡ true)
MeaningAgreesWithObject shape (a_variable t) o =
    (s : Shape) × (shape t ≡ Some s) × (o ≡ Some (meant.a_variable s))
MeaningAgreesWithObject shape (a_procedure fs) o =
    (signature : Signature) × (signature_of o ≡ Some signature) × FormalsAgreeWithSignature shape fs signature

-- returns whether an object is a predeclared procedure; false for None
abbrev pub is_standard_procedure : Option (meant.Object Shape Signature) → Bool
is_standard_procedure None = false
is_standard_procedure (Some (meant.a_type s)) = false
is_standard_procedure (Some (meant.a_constant v)) = false
is_standard_procedure (Some (meant.a_variable s)) = false
is_standard_procedure (Some (meant.a_procedure signature)) = false
is_standard_procedure (Some (meant.a_standard_procedure p)) = true

-- states that the meaning of a declaration agrees with its object, or that both are None
abbrev pub DeclarationAgreesWithObject : (TypeId → Option Shape)
    → Option (Meaning TypeId)
    → Option (meant.Object Shape Signature)
    → Type 0
DeclarationAgreesWithObject shape None o = o ≡ None
DeclarationAgreesWithObject shape (Some m) o = MeaningAgreesWithObject shape m o

-- states that a name has a meaning, and that this meaning agrees with the object
abbrev pub IsKnownAndAgreesWithObject : {T : Type 0}
    → (T → Option Shape)
    → Option (Meaning T)
    → Option (meant.Object Shape Signature)
    → Type 0
IsKnownAndAgreesWithObject shape None o = ⊥
IsKnownAndAgreesWithObject shape (Some m) o = MeaningAgreesWithObject shape m o

-- States that the identifier at the token `x` agrees with its label, `label x`. The label is the
-- name that replaces the token in another tree of the same text. The requirement depends on the
-- identifier's role. A looked-up name must have a meaning in `facts` that agrees with the label's
-- object. A field's label must be spelled like the token. Identifiers with other roles always
-- agree.
abbrev pub TokenAgreesWithLabel : {T N : Type 0}
    → Facts T
    → (T → Option Shape)
    → (ℕ → N)
    → TypeMeanings N
    → Role
    → ℕ
    → Type 0
TokenAgreesWithLabel facts shape label meaning role.LookedUpName x =
    IsKnownAndAgreesWithObject shape (facts.object_for x) (meaning.object_for (label x))
TokenAgreesWithLabel facts shape label meaning role.FieldName x =
    meaning.written (label x) ≡ token_text_at facts.source x
TokenAgreesWithLabel facts shape label meaning role.DeclaringName x = Unit {0}
TokenAgreesWithLabel facts shape label meaning role.ClosingName x = Unit {0}
TokenAgreesWithLabel facts shape label meaning role.ModuleName x = Unit {0}

-- states that each identifier in the list agrees with its label (`TokenAgreesWithLabel`)
abbrev pub TokensAgreeWithLabels : {T N : Type 0}
    → Facts T
    → (T → Option Shape)
    → (ℕ → N)
    → TypeMeanings N
    → List (Role × ℕ)
    → Type 0
TokensAgreeWithLabels facts shape label meaning [] = Unit {0}
TokensAgreeWithLabels facts shape label meaning (x ∷ xs) =
    TokenAgreesWithLabel facts shape label meaning x.0 x.1 × TokensAgreeWithLabels facts shape label meaning xs

-- States that the types in `facts` agree with their shapes, and that each identifier in the tree
-- `t` agrees with its label (`TokensAgreeWithLabels`).
pub record FactsAgreeWithShapesAndLabels
    {T N : Type 0} (facts : Facts T) (shape : T → Option Shape) (label : ℕ → N) (meaning : TypeMeanings N)
    {s : Sort} (t : Tree ℕ s) : Type 0 where
  pub types : TypesAgreeWithShapes facts.types shape
  pub tokens : TokensAgreeWithLabels facts shape label meaning (identifiers role.DeclaringName t)

-- returns the shape if it is an array's, otherwise None
abbrev pub shape_if_array : Shape → Option Shape
shape_if_array integer_shape = None
shape_if_array boolean_shape = None
shape_if_array (array_shape k n s) = Some (array_shape k n s)
shape_if_array (record_shape k fs) = None

-- returns the shape if it is a record's, otherwise None
abbrev pub shape_if_record : Shape → Option Shape
shape_if_record integer_shape = None
shape_if_record boolean_shape = None
shape_if_record (array_shape k n s) = None
shape_if_record (record_shape k fs) = Some (record_shape k fs)

-- Returns the shape of a type. `shapes` has the shapes of the array and record types found so far,
-- in the order of their indexes. The result is None for the unknown type. It is also None if
-- `shapes` has no entry at the type's index. The same holds if the entry isn't an array's or
-- record's shape, as the type requires.
abbrev pub shape_of_type_in : List Shape → TypeId → Option Shape
shape_of_type_in shapes type.Integer = Some integer_shape
shape_of_type_in shapes type.Boolean = Some boolean_shape
shape_of_type_in shapes (type.Array i) = option_and_then shape_if_array (slice_get shapes i)
shape_of_type_in shapes (type.Record i) = option_and_then shape_if_record (slice_get shapes i)
shape_of_type_in shapes type.Unknown = None

-- states that the fields in the list have the same names and shapes, in the same order, as the
-- fields of a record's shape
abbrev pub FieldsAgreeWithShapes : (TypeId → Option Shape) → List KnownField → FieldShapes → Type 0
FieldsAgreeWithShapes shape [] no_field_shape = Unit {0}
FieldsAgreeWithShapes shape [] (next_field_shape x s fs) = ⊥
FieldsAgreeWithShapes shape (f ∷ fields) no_field_shape = ⊥
FieldsAgreeWithShapes shape (f ∷ fields) (next_field_shape x s fs) =
    (f.name ≡ x) × (shape f.of ≡ Some s) × FieldsAgreeWithShapes shape fields fs

-- States that the parts of an array or record type agree with its shape. `k` is the type's ordinal:
-- the number of words ARRAY and RECORD before its own in the text.
abbrev pub PartsAgreeWithShape : (TypeId → Option Shape) → ℕ → CompositeParts → Shape → Type 0
PartsAgreeWithShape shape k (of_elements n t) s = (u : Shape) × (s ≡ array_shape k n u) × (shape t ≡ Some u)
PartsAgreeWithShape shape k (of_fields fields) s =
    (fs : FieldShapes) × (s ≡ record_shape k fs) × FieldsAgreeWithShapes shape fields fs

-- states that an array or record type has the parts, the number of scalars and the depth of its
-- shape
pub record CompositeAgreesWithShape (shape : TypeId → Option Shape) (m : CompositeType) (s : Shape) : Type 0 where
  pub parts : PartsAgreeWithShape shape m.ordinal m.parts s
  pub scalars : m.size.scalars ≡ typing.scalar_count s
  pub depth : m.size.depth ≡ typing.depth s

-- States that each array or record type in the second list agrees with the shape at the same index
-- of the third list. The first list, `known`, has the shapes of the types that come before these in
-- the table of types. The parts of a type may refer only to types before it.
abbrev pub EntriesAgreeWithShapes : List Shape → List CompositeType → List Shape → Type 0
EntriesAgreeWithShapes known [] [] = Unit {0}
EntriesAgreeWithShapes known [] (s ∷ ss) = ⊥
EntriesAgreeWithShapes known (m ∷ ms) [] = ⊥
EntriesAgreeWithShapes known (m ∷ ms) (s ∷ ss) =
    CompositeAgreesWithShape (shape_of_type_in known) m s × EntriesAgreeWithShapes (known ++ s ∷ []) ms ss

-- states that each array or record type in `made` agrees with the shape at the same index of
-- `shapes`
abbrev pub TableAgreesWithShapes : List CompositeType → List Shape → Type 0
TableAgreesWithShapes made shapes = EntriesAgreeWithShapes [] made shapes
