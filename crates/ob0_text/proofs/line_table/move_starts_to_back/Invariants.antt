use Rattle.std.proofs.Common.{◌≡◌, ◌+◌, ◌-◌, ◌≤◌, length, min}
use Rattle.std.specs.Vec.{vec_capacity, vec_len}
use Rattle.ob0_text.specs.LineStarts.{starts_in_front_and_back}
use Rattle.ob0_text.proofs.line_table.move_starts_to_back.Given as goal

abbrev pub invariant-loop-front : goal.invariant-loop-front
invariant-loop-front l = record {
  same : starts_in_front_and_back l.len l.front.items l.back.items ≡ starts_in_front_and_back l.len l.initial.front.items l.initial.back.items;
  least : min l.count (length l.initial.front.items) ≤ length l.front.items;
  most : length l.front.items ≤ length l.initial.front.items;
  room : vec_len l.back + (length l.front.items - l.count) ≤ vec_capacity l.back;
}

abbrev pub decreases-loop-front : goal.decreases-loop-front
decreases-loop-front l = length l.front.items
