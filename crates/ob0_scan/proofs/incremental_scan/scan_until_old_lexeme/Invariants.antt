use Rattle.std.proofs.Common.{◌≡◌, ℕ, ◌+◌, ◌-◌, ◌≤◌, length}
use Rattle.ob0_scan.specs.ScannerState.{IsConsistentScanner}
use Rattle.ob0_scan.specs.ReusedLexemes.{tokens_beginning_at_or_after, comments_beginning_at_or_after}
use Rattle.ob0_scan.specs.RescanState.{AddsNewLexemes}
use Rattle.ob0_scan.proofs.incremental_scan.scan_until_old_lexeme.Given as goal

-- The loop's invariant: the remaining old tokens and comments include every one that begins after
-- the change and at or after this place.
abbrev pub invariant-loop-scanner : goal.invariant-loop-scanner
invariant-loop-scanner l = record {
  consistent_scanner : IsConsistentScanner l.scanner;
  same_text : l.scanner.text ≡ l.fn.scanner.text;
  same_front : l.scanner.front ≡ l.fn.scanner.front;
  reads : length l.scanner.faults.items ≡ 0 → AddsNewLexemes l.old l.change.from l.change.removed l.change.added l.fn.scanner l.scanner;
  tokens : (place : ℕ) → l.change.from + l.change.removed ≤ place → l.scanner.at + l.change.removed ≤ place + l.change.added → tokens_beginning_at_or_after place l.rest.tokens.now ≡ tokens_beginning_at_or_after place l.old.tokens;
  comments : (place : ℕ) → l.change.from + l.change.removed ≤ place → l.scanner.at + l.change.removed ≤ place + l.change.added → comments_beginning_at_or_after place l.rest.comments.now ≡ comments_beginning_at_or_after place l.old.comments;
}

abbrev pub decreases-loop-scanner : goal.decreases-loop-scanner
decreases-loop-scanner l = length l.scanner.text.now - l.scanner.at
