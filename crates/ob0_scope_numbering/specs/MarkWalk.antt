-- Defines the walk over a module's identifiers in text order that collects their ordinals in a list
-- of marks. A mark is a token with its ordinal. The order of the visits is defined in
-- `IdentifierWalk`.
-- Rule: none; used in contracts of the walk over identifiers.
use Rattle.std.specs.Prelude.{ℕ, List, [], ◌∷◌, ◌++◌, Option}
use Rattle.ob0_scope_numbering.specs.OrdinalMarks.{OrdinalMark}
use Rattle.ob0_scope_numbering.specs.IdentifierWalk as visit
use Rattle.ob0_scope_numbering.specs.IdentifierSpellings.{Spellings}

-- appends to a list the mark that gives the token `i` this ordinal, or no ordinal (None)
abbrev pub put_ordinal : ℕ → Option ℕ → List OrdinalMark → List OrdinalMark
put_ordinal i ordinal ms = ms ++ (record { token = i; ordinal = ordinal } ∷ [])

-- the state of the walk that collects marks
abbrev pub WalkState : Type 0
WalkState = visit.WalkState put_ordinal

-- returns the state before the first identifier of a module, with an empty list of marks
abbrev pub initial_walk_state : Spellings → WalkState
initial_walk_state spellings = visit.state_before_module spellings []
