-- Defines the gaps of a text: the white space before, between and after its tokens and comments.
-- Rule: docs/PROTOCOL.md, Requests on documents 8.
use Rattle.std.specs.Prelude.{ℕ, Bool, true, not, bytes_eq, List, [], ◌∷◌, length, filter, slice_range}
use Rattle.std.specs.List.{AllPass}
use Rattle.ob0_scan.specs.LexemeClasses.{is_white_space}
use Rattle.ob0_scan.specs.TextLexemes.{Lexeme}
use Rattle.ob0_text.specs.declared.edits.Indent.{Indent}
use Rattle.ob0_text.specs.Patches.{Cut}
use Rattle.ob0_layout.specs.declared.line_role.LineRole.{LineRole}
use Rattle.ob0_layout.specs.Layout.{LexemeWithRole, lexemes_with_roles, gap_text_between}

-- Returns the gaps after the token or comment `a`, given the tokens and comments that follow it.
-- Each gap is a cut: its byte range and its replacement. `len` is the length of the text in bytes.
-- The replacement of the last gap is a line feed.
abbrev pub gaps_after_token_or_comment : Indent → ℕ → LexemeWithRole → List LexemeWithRole → List Cut
gaps_after_token_or_comment indent len a [] = record { from = a.span.end; to = len; new = 10 ∷ [] } ∷ []
gaps_after_token_or_comment indent len a (b ∷ bs) =
    record { from = a.span.end; to = b.span.start; new = gap_text_between indent a b }
    ∷ gaps_after_token_or_comment indent len b bs

-- Returns all gaps of a text of `len` bytes, given the text's tokens and comments. Each gap is a
-- cut: its byte range and its replacement. The gap at the start of the text has an empty
-- replacement.
abbrev pub gaps_of_lexemes : Indent → ℕ → List LexemeWithRole → List Cut
gaps_of_lexemes indent len [] = record { from = 0; to = len; new = [] } ∷ []
gaps_of_lexemes indent len (a ∷ bs) =
    record { from = 0; to = a.span.start; new = [] } ∷ gaps_after_token_or_comment indent len a bs

-- Returns all gaps of a text as cuts: for each gap its byte range, and the text that replaces it.
-- `lexemes` are all lexemes of the text, including white space, and `ss` has the line roles of the
-- text's tokens.
abbrev pub all_gaps : Indent → List ℕ → List LineRole → List Lexeme → List Cut
all_gaps indent text ss lexemes = gaps_of_lexemes indent (length text) (lexemes_with_roles 0 0 true ss lexemes)

-- Returns whether formatting changes the gap that the cut `c` replaces: the gap's bytes differ from
-- the replacement.
abbrev pub formatting_changes_gap : List ℕ → Cut → Bool
formatting_changes_gap text c = not (bytes_eq (slice_range text c.from c.to) c.new)

-- Returns the cuts of `cs` whose replacement differs from the replaced bytes, in the same order.
abbrev pub changed_gaps : List ℕ → List Cut → List Cut
changed_gaps text cs = filter (formatting_changes_gap text) cs

-- States that the cut `c` replaces only white space of `text`.
abbrev pub ReplacesOnlyWhiteSpace : List ℕ → Cut → Type 0
ReplacesOnlyWhiteSpace text c = AllPass is_white_space (slice_range text c.from c.to)
