use Rattle.std.proofs.Common.{◌+◌, length}
use Rattle.ob0_scan.specs.TextWithTokens.{IsScan}
use Rattle.ob0_layout.specs.Gaps.{all_gaps}
use Rattle.ob0_layout.proofs.Ahead.{Passing}
use Rattle.ob0_layout.proofs.gap_sites.gap_sites_to_change.Given as goal

abbrev pub invariant-loop-next : goal.invariant-loop-next
invariant-loop-next l = (scan : IsScan l.tokens) → Passing l.indent l.text (all_gaps l.indent l.text l.fn.roles scan.lexemes) l.left l.comments l.roles l.before l.level l.start l.gap_sites.items

abbrev pub decreases-loop-next : goal.decreases-loop-next
decreases-loop-next l = length l.left + length l.comments
