-- Defines the span of the first conflict of a new name for a declaration.
-- Rule: docs/PROTOCOL.md, Refusals of edits.
use Rattle.std.specs.Prelude.{ℕ, Option, Some, None, option_map, slice_get}
use Rattle.ob0_scan.specs.declared.lexeme.Span.{Span}
use Rattle.ob0_tree.specs.ParsedModule.{ParsedModule, named_tree_of, tree_of}
use Rattle.ob0_tree.specs.Tree.{occurrences}
use Rattle.ob0_language_names.specs.Names.{Name}
use Rattle.ob0_language_names.specs.Occurrences.{NameConflict, at_declaration, at_occurrence, first_name_conflict}
use Rattle.ob0_scope_table.specs.Resolution.{token_span}
use Rattle.ob0_refs.specs.Places.{declaring_identifier_span}

-- Returns the span of the looked-up name with this number, counted from 0 in text order. Returns
-- None if there is no such name.
abbrev pub occurrence_span : ParsedModule → ℕ → Option Span
occurrence_span m k = option_map (token_span m.source) (slice_get (occurrences (tree_of m)) k)

-- returns the span, or an empty span at the text's start if there is none
abbrev pub span_or_text_start : Option Span → Span
span_or_text_start None = record { start = 0; end = 0 }
span_or_text_start (Some span) = span

-- Returns the span of the identifier at which a new name for the declaration with the ordinal `d`
-- has this conflict. For the conflict `at_declaration`, this is the identifier that declares `d`.
-- For `at_occurrence k`, it is the looked-up name with the number `k`, counted from 0 in text
-- order. If that identifier isn't found, returns an empty span at the text's start.
abbrev pub conflict_span : ParsedModule → ℕ → NameConflict → Span
conflict_span m d at_declaration = span_or_text_start (declaring_identifier_span m d)
conflict_span m d (at_occurrence k) = span_or_text_start (occurrence_span m k)

-- Returns the span of the first conflict of a renaming of the declaration with the ordinal `d` to
-- `new`. Returns None if `new` is free. If another declaration of the same block has the name
-- `new`, returns the span of the identifier that declares `d`. Otherwise returns the span of the
-- first looked-up name, in text order, whose binding the renaming would change.
abbrev pub first_conflict_span : ParsedModule → ℕ → Name → Option Span
first_conflict_span m d new = option_map (conflict_span m d) (first_name_conflict (named_tree_of m) d new)
