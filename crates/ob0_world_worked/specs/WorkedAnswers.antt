-- States which answers four requests (`Ask`) about the example text `example_text` get.
-- Rule: docs/PROTOCOL.md, Requests on documents 6, 9; worked examples.
use Rattle.std.specs.Prelude.{◌≡◌, ◌↔◌, ℕ, List, [], ◌∷◌, codes}
use Rattle.ob0_text.specs.declared.position_types.Range.{Range}
use Rattle.ob0_text.specs.declared.position_types.Unit.TheVariants.{Utf16}
use Rattle.ob0_text.specs.declared.refusals.EditRefusal.TheVariants.{Captures}
use Rattle.ob0_edits.specs.Renamings.{IsRenameRefusedInText}
use Rattle.ob0_world_rules.specs.Asks.{Ask, rename, inline_here, inline_all}
use Rattle.ob0_world_rules.specs.Answers.{IsAnswerForText}
use Rattle.ob0_world_rules.specs.TextEdits.{Replacement}
use Rattle.ob0_world_worked.specs.WorkedText.{position_on_line, example_text}

-- returns the range on this line from the character `from`, included, to the character `to`,
-- excluded; lines and characters are counted from 0
abbrev pub range_on_line : ℕ → ℕ → ℕ → Range
range_on_line line from to = record { start = position_on_line line from; end = position_on_line line to }

-- returns the replacement of a range on a line (`range_on_line`) by this text
abbrev pub replacement_on_line : ℕ → ℕ → ℕ → List ℕ → Replacement
replacement_on_line line from to new = record { range = range_on_line line from to; text = new }

-- states that the request `ask` about `example_text` is answered by these edits, and by no others
abbrev pub IsAnsweredOnlyBy : Ask → List Replacement → Type 0
IsAnsweredOnlyBy ask edits =
    (given : List Replacement) → IsAnswerForText Utf16 example_text ask given ↔ (given ≡ edits)

-- states that renaming `x` to `y` is answered by three edits: at the declaration and at both uses
abbrev pub RenameAnswerHasThreeEdits : Type 0
RenameAnswerHasThreeEdits =
    IsAnsweredOnlyBy (rename (position_on_line 4 2) (codes "y"))
    (replacement_on_line 4 2 3 (codes "y") ∷ replacement_on_line 6 2 3 (codes "y") ∷ replacement_on_line 7 8 9 (codes "y") ∷ [])

-- States that renaming `x` to `Write` is refused, because the renamed variable would capture the
-- call of `Write`. The answer has no edits.
pub record CapturingRenameIsRefused : Type 0 where
  pub refused : IsRenameRefusedInText Utf16 example_text (position_on_line 4 2) (codes "Write") (Captures (range_on_line 7 2 7))
  pub no_edits : IsAnsweredOnlyBy (rename (position_on_line 4 2) (codes "Write")) []

-- states that inlining `n` at its use is answered by one edit, which replaces the use by the value
abbrev pub InlineHereAnswerHasOneEdit : Type 0
InlineHereAnswerHasOneEdit = IsAnsweredOnlyBy (inline_here (position_on_line 6 7)) (replacement_on_line 6 7 8 (codes "2") ∷ [])

-- states that inlining `n` everywhere is answered by two edits: one removes the declaration, and
-- one replaces the use by the value
abbrev pub InlineAllAnswerHasTwoEdits : Type 0
InlineAllAnswerHasTwoEdits =
    IsAnsweredOnlyBy (inline_all (position_on_line 6 7)) (replacement_on_line 2 2 8 [] ∷ replacement_on_line 6 7 8 (codes "2") ∷ [])
