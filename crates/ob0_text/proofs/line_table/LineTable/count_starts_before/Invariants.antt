use Rattle.std.proofs.Common.{◌≡◌, ◌-◌, ◌≤◌, ◌++◌, List, ℕ, length}
use Rattle.ob0_text.specs.LineStarts.{AreAllAtLeast, AreAllBelow}
use Rattle.ob0_text.proofs.line_table.LineTable.count_starts_before.Given as goal

abbrev pub invariant-loop-low : goal.invariant-loop-low
invariant-loop-low l = record {
  order : l.low ≤ l.high;
  inside : l.high ≤ length l.self.starts;
  between : (front back : List ℕ) → l.self.starts ≡ front ++ back → AreAllBelow l.offset front → AreAllAtLeast l.offset back → (l.low ≤ length front) × (length front ≤ l.high);
}

abbrev pub decreases-loop-low : goal.decreases-loop-low
decreases-loop-low l = l.high - l.low
