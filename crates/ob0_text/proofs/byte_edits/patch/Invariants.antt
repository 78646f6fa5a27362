use Rattle.std.proofs.Common.{◌≡◌, map, drop, string_bytes}
use Rattle.std.specs.Str.{chars}
use Rattle.ob0_text.specs.Units.{width_of}
use Rattle.ob0_text.specs.Patches.{cuts_of_edits, cuts_in_text_order}
use Rattle.ob0_text.specs.StoredCuts.{cut_of_byte_edit, cut_with_byte_offsets}
use Rattle.ob0_text.proofs.Pieces.{IsPieced}
use Rattle.ob0_text.proofs.byte_edits.patch.Given as goal

abbrev pub invariant-loop-cut : goal.invariant-loop-cut
invariant-loop-cut g l =
    let text = g.T.TextStore.content l.store in
    let cuts = cuts_in_text_order (cuts_of_edits (width_of (g.T.TextStore.unit_of l.store)) text l.edits) in
    (map cut_of_byte_edit l.cut-items ≡ map (cut_with_byte_offsets text) cuts) × (chars l.text ≡ text)
    × IsPieced text cuts (chars (string_bytes l.patched_text)) l.kept (drop l.cut-index cuts)
