use Rattle.ob0_scan.proofs.Spans.{scan_token_ranges, scan_comment_ranges}
use Rattle.ob0_scan.proofs.laws.scanned_spans_are_ranges.Goals as goal

pub returns : goal.returns
returns c = record { tokens = scan_token_ranges; comments = scan_comment_ranges }
