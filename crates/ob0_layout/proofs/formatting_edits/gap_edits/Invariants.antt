use Rattle.std.proofs.Common.{◌≡◌, map, take}
use Rattle.ob0_edits_tokens.specs.Replacements.{range_and_text}
use Rattle.ob0_layout.proofs.EditSteps.{edit_of_site}
use Rattle.ob0_layout.proofs.formatting_edits.gap_edits.Given as goal

abbrev pub invariant-loop-i : goal.invariant-loop-i
invariant-loop-i g l = map range_and_text l.edits.items ≡ map (edit_of_site (g.T.TextStore.unit_of l.store) (g.T.TextStore.content l.store) l.indent) (take l.i l.gap_sites)
