use Rattle.std.proofs.Common.{◌≡◌, take}
use Rattle.ob0_scan.specs.ReusedLexemes.{spellings_of_identifiers_in}
use Rattle.ob0_scan.proofs.incremental_scan.have_same_names.Given as goal

abbrev pub invariant-loop-index : goal.invariant-loop-index
invariant-loop-index l = spellings_of_identifiers_in l.new_text (take l.index l.new) ≡ spellings_of_identifiers_in l.old_text (take l.index l.old)
