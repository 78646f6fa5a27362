-- Defines marks. A mark has the token of an identifier and the ordinal of the identifier's
-- declaration. An ordinal is a declaration's number: 0 to 6 for the predeclared names, then 7
-- upwards for the text's declarations in text order.
-- Rule: none; used in contracts of the walk over identifiers.
use Rattle.std.specs.Prelude.{ℕ, List, [], ◌∷◌, Option, Some, slice_set}

-- the token of an identifier, with the ordinal of the identifier's declaration; the ordinal is None
-- if the identifier isn't bound to a declaration
pub record OrdinalMark : Type 0 where
  pub token : ℕ
  pub ordinal : Option ℕ

-- returns the table in which the ordinal of each mark is entered, in order, at the index of the
-- mark's token
abbrev pub table_with_marks : List (Option ℕ) → List OrdinalMark → List (Option ℕ)
table_with_marks table [] = table
table_with_marks table (m ∷ ms) = table_with_marks (slice_set table m.token m.ordinal) ms

-- Returns a mark that gives this token the ordinal 0. Such marks are used in tables that record
-- only which tokens are looked-up names, so the ordinal has no meaning.
abbrev pub zero_mark_at_token : ℕ → OrdinalMark
zero_mark_at_token token = record { token = token; ordinal = Some 0 }
