-- Defines the walk over a module's identifiers in text order that enters their ordinals into a
-- table by token index. The order of the visits is defined in `IdentifierWalk`.
-- Rule: none; used in contracts of the walk over identifiers.
use Rattle.std.specs.Prelude.{ℕ, List, Option, None, length, replicate, slice_set}
use Rattle.ob0_tree.specs.Tree.{Tree, module_text}
use Rattle.ob0_scope_table.specs.OrdinalEntries.{stored_ordinal}
use Rattle.ob0_scope_numbering.specs.MarkWalk as marking
use Rattle.ob0_scope_numbering.specs.OrdinalMarks.{table_with_marks}
use Rattle.ob0_scope_numbering.specs.IdentifierWalk as visit
use Rattle.ob0_scope_numbering.specs.IdentifierSpellings.{Spellings}

-- Writes an ordinal, or None, into a table at the index of the token `i`. An ordinal that is too
-- large for an entry is stored as the greatest ordinal that fits.
abbrev pub put_ordinal : ℕ → Option ℕ → List (Option ℕ) → List (Option ℕ)
put_ordinal i ordinal table = slice_set table i (stored_ordinal ordinal)

-- the state of the walk that fills a table
abbrev pub WalkState : Type 0
WalkState = visit.WalkState put_ordinal

-- returns the state before the first identifier of a module, with a table that has None for each
-- token
abbrev pub initial_walk_state : Spellings → WalkState
initial_walk_state spellings =
    visit.state_before_module spellings (replicate (length spellings.source.tokens) None)

-- Converts a state of the walk that collects marks to a state of the walk that fills a table. The
-- marks are entered into the table `table`.
abbrev pub state_with_marks_in_table : List (Option ℕ) → marking.WalkState → WalkState
state_with_marks_in_table table v =
    record {
      spellings = v.spellings;
      scope = v.scope;
      declaration_tokens = v.declaration_tokens;
      uses = v.uses;
      marks = table_with_marks table v.marks;
    }

-- Returns the state after the walk over a module whose identifiers have the spellings `spellings`.
-- The walk collects marks, which are then entered into a table that has None for each token.
abbrev pub number_module : Tree ℕ module_text → Spellings → WalkState
number_module m spellings =
    state_with_marks_in_table (replicate (length spellings.source.tokens) None)
    (visit.visit_module m (marking.initial_walk_state spellings))
