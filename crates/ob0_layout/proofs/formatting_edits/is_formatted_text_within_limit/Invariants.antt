use Rattle.std.proofs.Common.{◌≡◌, ◌+◌, ◌≤◌, drop, map}
use Rattle.ob0_scan.specs.TextWithTokens.{max_text_length}
use Rattle.ob0_edits_tokens.specs.ByteCuts.{length_after_cuts_from_offset}
use Rattle.ob0_layout.specs.Cuts.{gap_cut}
use Rattle.ob0_layout.proofs.formatting_edits.is_formatted_text_within_limit.Given as goal

abbrev pub invariant-loop-site : goal.invariant-loop-site
invariant-loop-site l = record {
  short : l.made ≤ max_text_length;
  counted : l.made + length_after_cuts_from_offset l.len l.at (map (gap_cut l.indent) (drop l.site-index l.gap_sites)) ≡ length_after_cuts_from_offset l.len 0 (map (gap_cut l.indent) l.gap_sites);
}
