-- Defines the text after edits and the text after changes. The ranges of edits all refer to the
-- same text. Changes are made one after another, and the range of each change refers to the text
-- that results from the previous change.
use Rattle.std.specs.Prelude.{◌≡◌, ℕ, List, map, fold, Option, None, string_bytes}
use Rattle.std.specs.Str.{chars}
use Rattle.ob0_text.specs.declared.edits.Edit.{Edit}
use Rattle.ob0_text.specs.declared.position_types.Range.{Range}
use Rattle.ob0_text.specs.declared.position_types.Unit.{Unit}
use Rattle.ob0_text.specs.Units.{width_of}
use Rattle.ob0_text.specs.Patches.{cut_of_range, text_patched_by_cuts, patched_text}
use Rattle.ob0_text.specs.OpenDocuments.{TextChange, changed_text}

-- a range of a text, and the characters that replace it
pub record Replacement : Type 0 where
  pub range : Range
  pub text : List ℕ

-- converts an edit of the code's type `Edit` to a replacement
abbrev pub replacement_of_edit : Edit → Replacement
replacement_of_edit e = record { range = e.range; text = chars (string_bytes e.text) }

-- converts a list of edits of the code's type `Edit` to values of the type `Replacement`
abbrev pub replacements_of_edits : List Edit → List Replacement
replacements_of_edits edits = map replacement_of_edit edits

-- Returns the text after all these edits. Each range refers to the text before the edits. Positions
-- are counted in `unit`. Returns None if two edits share a character.
unfoldable pub text_after_edits : Unit → List ℕ → List Replacement → Option (List ℕ)
text_after_edits unit text edits =
    text_patched_by_cuts text (map (λ e. cut_of_range (width_of unit) text e.range e.text) edits)

-- returns the change that replaces the whole text by this text
abbrev pub whole_text_change : List ℕ → TextChange
whole_text_change text = record { range = None; text = text }

-- Returns the text after these changes, each made in the text that results from the previous
-- change. If the text is unknown (None), only a change of the whole text makes it known.
abbrev pub text_after_changes : Unit → Option (List ℕ) → List TextChange → Option (List ℕ)
text_after_changes unit text changes = fold (changed_text unit) text changes

-- ---- the law

-- States that two definitions of the text after edits agree. `text_after_edits` takes edits of the
-- model's type `Replacement`, and `patched_text` takes edits of the code's type `Edit`.
abbrev pub EditedTextDefinitionsAgree : Type 0
EditedTextDefinitionsAgree =
    (unit : Unit) (text : List ℕ) (edits : List Edit)
    → text_after_edits unit text (replacements_of_edits edits) ≡ patched_text (width_of unit) text edits
