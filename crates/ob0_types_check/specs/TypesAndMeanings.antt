-- Defines how the definitions of faults represent types, the meanings of names, and checked
-- expressions. A type may be unknown, as a whole or in parts.
-- Rule: docs/LANGUAGE.md, Faults of scopes and types 2.
use Rattle.std.specs.Prelude.{ℕ, Bool, List, Option}
use Rattle.ob0_scan.specs.TextWithTokens.{TextWithTokens}
use Rattle.ob0_scope_table.specs.declared.faults.FaultAtTokens.{FaultAtTokens}
use Rattle.ob0_language_names.specs.Names.{Name}
use Rattle.ob0_language_values.specs.Values.{Value}

-- the form of a type: a scalar, an array with its element type, a record with the type of each
-- field by name, or unknown
pub data TypeForm (T : Type 0) : Type 0 where
  a_scalar : TypeForm T
  an_array : T → TypeForm T
  a_record : (Name → Option T) → TypeForm T
  unknown_form : TypeForm T

-- a representation of types by values of `T`: INTEGER, BOOLEAN, the unknown type, equality of
-- types, and the form of each type
pub record Types (T : Type 0) : Type 0 where
  pub integer : T
  pub boolean : T
  pub unknown : T
  pub same : T → T → Bool
  pub form : T → TypeForm T

-- a formal parameter: its type, and whether it is passed by reference (VAR) or by value
pub record KnownParameter (T : Type 0) : Type 0 where
  pub by_place : Bool
  pub of : T

-- The meaning of a name: the type of a type or variable, the value of a constant, or the parameters
-- of a procedure. If the declaration has a fault, the type is unknown or there is no value.
pub data Meaning (T : Type 0) : Type 0 where
  a_type : T → Meaning T
  a_constant : Option Value → Meaning T
  a_variable : T → Meaning T
  a_procedure : List (KnownParameter T) → Meaning T

-- The data with which expressions, statements and type names are checked. It has the text with its
-- tokens, the types, and the meaning of the name at each token (`object_for`), or None if the
-- meaning isn't known. If `only_constants` is true, names may only refer to constants.
pub record Facts (T : Type 0) : Type 0 where
  pub source : TextWithTokens
  pub types : Types T
  pub object_for : ℕ → Option (Meaning T)
  pub only_constants : Bool

-- The result of checking an expression: its type (`of`), its value, and its first and last token.
-- The value is None if constants don't determine it. In `FALSE & x` they do, even if `x` is a
-- variable or has a fault. `may_be_variable` is true if the expression is only a name with its
-- selectors, if any, and the name isn't a constant's.
pub record Operand (T : Type 0) : Type 0 where
  pub of : T
  pub value : Option Value
  pub may_be_variable : Bool
  pub first : ℕ
  pub last : ℕ

-- a result (`known`), and the faults that are reported while this result is found
pub record ResultWithFaults (A : Type 0) : Type 0 where
  pub known : A
  pub faults : List FaultAtTokens
