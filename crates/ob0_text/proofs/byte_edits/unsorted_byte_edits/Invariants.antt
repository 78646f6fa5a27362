use Rattle.std.proofs.Common.{◌≡◌, map, take}
use Rattle.ob0_text.specs.Units.{width_of}
use Rattle.ob0_text.specs.Patches.{cuts_of_edits}
use Rattle.ob0_text.specs.StoredCuts.{cut_of_byte_edit, cut_with_byte_offsets}
use Rattle.ob0_text.proofs.byte_edits.unsorted_byte_edits.Given as goal

abbrev pub invariant-loop-i : goal.invariant-loop-i
invariant-loop-i g l =
    let text = g.T.TextStore.content l.store in
    map cut_of_byte_edit l.cuts.items ≡ map (cut_with_byte_offsets text) (cuts_of_edits (width_of (g.T.TextStore.unit_of l.store)) text (take l.i l.edits))
