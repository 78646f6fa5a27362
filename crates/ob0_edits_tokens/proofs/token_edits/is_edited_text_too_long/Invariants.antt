use Rattle.std.proofs.Common.{◌≡◌, ◌+◌, ◌≤◌, ◌^◌, drop, length, map}
use Rattle.ob0_edits_tokens.specs.ByteCuts.{length_after_cuts_from_offset}
use Rattle.ob0_edits_tokens.specs.Replacements.{replacement_cut}
use Rattle.ob0_edits_tokens.proofs.token_edits.is_edited_text_too_long.Given as goal

abbrev pub invariant-loop-token_index : goal.invariant-loop-token_index
invariant-loop-token_index l = record {
  short : l.length ≤ 2 ^ 32;
  counted : l.length + length_after_cuts_from_offset (length l.fn.tokens.text) l.end (map (replacement_cut l.fn.tokens.tokens l.fn.new) (drop l.token_index-index l.fn.token_indexes))
      ≡ l.fn.removed.start + length_after_cuts_from_offset (length l.fn.tokens.text) l.fn.removed.end (map (replacement_cut l.fn.tokens.tokens l.fn.new) l.fn.token_indexes);
}
