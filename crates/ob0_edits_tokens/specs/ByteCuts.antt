-- Defines the edit for a cut, and the length of a text after cuts are applied. A cut replaces a
-- range of bytes.
-- Rule: docs/PROTOCOL.md, Requests on documents 8 to 10; LSP 3.17, TextEdit.
use Rattle.std.specs.Prelude.{ℕ, ◌+◌, ◌-◌, List, [], ◌∷◌, length}
use Rattle.ob0_text.specs.declared.position_types.Range.{Range}
use Rattle.ob0_text.specs.declared.position_types.Unit as counting
use Rattle.ob0_text.specs.Patches.{Cut}
use Rattle.ob0_text.specs.Units.{width_of}
use Rattle.ob0_edits_tokens.specs.Ranges.{range_of}

-- Returns the edit, as a pair of its range and text, that makes the cut `c` in the text with the
-- characters `text`. The cut's ends are byte offsets, and its replacement is a list of bytes.
abbrev pub edit_of_cut : counting.Unit → List ℕ → Cut → Range × List ℕ
edit_of_cut unit text c =
    (range_of (width_of unit) text (record { start = c.from; end = c.to }), c.new)

-- Returns the length in bytes of the rest of a text, from the offset `at` to the end, after all
-- cuts are applied. `len` is the length of the whole text before the cuts, in bytes. `at` and the
-- ends of the cuts are byte offsets in the text before the cuts.
abbrev pub length_after_cuts_from_offset : ℕ → ℕ → List Cut → ℕ
length_after_cuts_from_offset len at [] = len - at
length_after_cuts_from_offset len at (c ∷ cs) = (c.from - at) + (length c.new + length_after_cuts_from_offset len c.to cs)
