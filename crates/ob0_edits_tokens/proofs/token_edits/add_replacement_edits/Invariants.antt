use Rattle.std.proofs.Common.{◌≡◌, ◌++◌, map, take}
use Rattle.ob0_edits_tokens.specs.Replacements.{range_and_text}
use Rattle.ob0_edits_tokens.proofs.token_edits.add_replacement_edits.Given as goal

abbrev pub invariant-loop-range : goal.invariant-loop-range
invariant-loop-range g l = map range_and_text l.edits.items ≡ map range_and_text l.initial.edits.items ++ map (λ range. (range, l.new)) (take l.range-index l.range-items)
