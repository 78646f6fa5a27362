use Rattle.std.proofs.Common.{◌≡◌, ◌+◌, ◌-◌, ◌<◌, ◌≤◌, length, drop, option_map}
use Rattle.ob0_scan.proofs.Closings.{closing}
use Rattle.ob0_scan.proofs.leading_lexemes.leading_comment_len.Given as goal

-- The loop's invariant: the place that closes the comments that are open here also closes the first
-- one.
abbrev pub invariant-loop-len : goal.invariant-loop-len
invariant-loop-len l = record {
  some_open : 0 < l.depth;
  few_open : l.depth ≤ l.len;
  in_range : l.len ≤ length l.bytes;
  same_end : option_map (λ n. l.len + n) (closing l.depth (drop l.len l.bytes)) ≡ option_map (λ n. 2 + n) (closing 1 (drop 2 l.bytes));
}

abbrev pub decreases-loop-len : goal.decreases-loop-len
decreases-loop-len l = length l.bytes - l.len
