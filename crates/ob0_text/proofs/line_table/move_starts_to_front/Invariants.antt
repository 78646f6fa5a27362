use Rattle.std.proofs.Common.{◌≡◌, ◌+◌, ◌-◌, ◌≤◌, length}
use Rattle.std.specs.Vec.{vec_capacity, vec_len}
use Rattle.ob0_text.specs.LineStarts.{starts_in_front_and_back}
use Rattle.ob0_text.proofs.line_table.move_starts_to_front.Given as goal

abbrev pub invariant-loop-back : goal.invariant-loop-back
invariant-loop-back l = record {
  same : starts_in_front_and_back l.len l.front.items l.back.items ≡ starts_in_front_and_back l.len l.initial.front.items l.initial.back.items;
  most : length l.initial.front.items ≤ l.count → length l.front.items ≤ l.count;
  room : vec_len l.front + (l.count - length l.front.items) ≤ vec_capacity l.front;
}

abbrev pub decreases-loop-back : goal.decreases-loop-back
decreases-loop-back l = length l.back.items
