use Rattle.std.proofs.Common.{◌≡◌, take}
use Rattle.ob0_scan.specs.ReusedLexemes.{words_of_tokens}
use Rattle.ob0_scan.proofs.incremental_scan.have_same_words.Given as goal

abbrev pub invariant-loop-index : goal.invariant-loop-index
invariant-loop-index l = words_of_tokens l.new_text (take l.index l.new) ≡ words_of_tokens l.old_text (take l.index l.old)
