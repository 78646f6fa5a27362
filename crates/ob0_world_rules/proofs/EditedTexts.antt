-- Proves that the text after edits is the same by `text_after_edits` (with values of the type
-- `Replacement`) and by `patched_text` (with the code's type `Edit`).
use Rattle.std.proofs.Common.{ap}
use mathlib.Core.List.{map-map}
use Rattle.ob0_text.specs.Units.{width_of}
use Rattle.ob0_text.specs.Patches.{cut_of_range, text_patched_by_cuts}
use Rattle.ob0_world_rules.specs.TextEdits.{replacement_of_edit, text_after_edits, EditedTextDefinitionsAgree}

pub edited_as_patched : EditedTextDefinitionsAgree
unfolding text_after_edits
edited_as_patched unit text edits = ap (text_patched_by_cuts text) (map-map (λ e. cut_of_range (width_of unit) text e.range e.text) replacement_of_edit edits)
