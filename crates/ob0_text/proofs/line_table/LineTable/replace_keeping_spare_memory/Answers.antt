use Rattle.std.proofs.Common.{◌≡◌, ◌+◌, ◌-◌, ◌≤◌, ◌∷◌, ◌++◌, true, length, take, drop, get_or, sym, ap, ◌∙◌, subst, arith, string_bytes, vec_len}
use Rattle.std.specs.Prelude.{if◌then◌else◌, is_ok}
use Rattle.std.specs.Str.{IsUtf8, chars}
use Rattle.std.specs.Vec.{vec_capacity}
use Rattle.std.proofs.lemmas.Str.{IsUtf8-string_bytes}
use Rattle.ob0_text.specs.Texts.{LF}
use Rattle.ob0_text.specs.LineStarts.{AreAllBelow, LineStartTable, line_starts, line_starts_after_bytes, starts_in_front_and_back}
use Rattle.ob0_text.proofs.LineTables.{all_within, table_replaced}
use Rattle.ob0_text.proofs.line_table.LineTable.replace_keeping_spare_memory.Goals as goal

pub move_starts_to_back-requires : goal.move_starts_to_back-requires
move_starts_to_back-requires c =
    let bytes = string_bytes c.args.text.now in
    let starts : starts_in_front_and_back c.self.inside.len c.self.inside.front.items c.self.inside.back.items ≡ line_starts (chars bytes) = ap (λ (t : LineStartTable). t.starts) c.self.view_is ∙ c.requires.table.starts in
    let long : c.self.inside.len ≡ length bytes = ap (λ (t : LineStartTable). t.len) c.self.view_is ∙ c.requires.table.len in
    subst (λ n. AreAllBelow (n + 1) (starts_in_front_and_back c.self.inside.len c.self.inside.front.items c.self.inside.back.items)) (sym long)
    (subst (AreAllBelow (length bytes + 1)) (sym starts) (all_within bytes (IsUtf8-string_bytes c.args.text.now)))

pub returns-in_err-move_starts_to_back-clause-table : goal.returns-in_err-move_starts_to_back-clause-table
returns-in_err-move_starts_to_back-clause-table c = record {
  starts = c.move_starts_to_back.ensures.same ∙ ap (λ (t : LineStartTable). t.starts) c.self.view_is ∙ c.requires.table.starts;
  len = ap (λ (t : LineStartTable). t.len) c.self.view_is ∙ c.requires.table.len;
}

pub returns-in_err-move_starts_to_front-clause-table : goal.returns-in_err-move_starts_to_front-clause-table
returns-in_err-move_starts_to_front-clause-table c = record {
  starts = c.move_starts_to_front.ensures.same ∙ c.move_starts_to_back.ensures.same ∙ ap (λ (t : LineStartTable). t.starts) c.self.view_is ∙ c.requires.table.starts;
  len = ap (λ (t : LineStartTable). t.len) c.self.view_is ∙ c.requires.table.len;
}

pub returns-in_err-reserve-clause-table : goal.returns-in_err-reserve-clause-table
returns-in_err-reserve-clause-table c = record {
  starts =
      ap (λ f. starts_in_front_and_back c.self.inside.len f c.move_starts_to_front.new.back.items) c.reserve.ensures.items
      ∙ c.move_starts_to_front.ensures.same ∙ c.move_starts_to_back.ensures.same ∙ ap (λ (t : LineStartTable). t.starts) c.self.view_is ∙ c.requires.table.starts;
  len = ap (λ (t : LineStartTable). t.len) c.self.view_is ∙ c.requires.table.len;
}

pub returns-clause-table : goal.returns-clause-table
returns-clause-table c =
    let bytes = string_bytes c.args.text.now in
    let new = c.args.new.now in
    let front = c.move_starts_to_front.new.front.items in
    let back = c.move_starts_to_front.new.back.items in
    let added = c.in_ok-added.added.items in
    let starts = c.args.self.now.starts in
    let from = c.args.from in
    let to = c.args.to in
    let kept = c.count_starts_before-kept.result in
    let moved = c.count_starts_before-moved.result in
    let long : c.self.inside.len ≡ length bytes = ap (λ (t : LineStartTable). t.len) c.self.view_is ∙ c.requires.table.len in
    let left : starts_in_front_and_back c.self.inside.len c.move_starts_to_back.new.front.items c.move_starts_to_back.new.back.items ≡ starts = c.move_starts_to_back.ensures.same ∙ ap (λ (t : LineStartTable). t.starts) c.self.view_is in
    let parts : starts_in_front_and_back c.self.inside.len front back ≡ starts = c.move_starts_to_front.ensures.same ∙ left in
    let few : length c.move_starts_to_back.new.front.items ≤ kept = omega (arith, c.in_ok-move_starts_to_back.ensures.left) in
    let enough : kept ≤ length (starts_in_front_and_back c.self.inside.len c.move_starts_to_back.new.front.items c.move_starts_to_back.new.back.items) = subst (λ xs. kept ≤ length xs) (sym left) c.count_starts_before-kept.ensures.bound in
    let here : length front ≡ kept = c.in_ok-move_starts_to_front.ensures.left few enough in
    let added_is : added ≡ line_starts_after_bytes from (get_or (LF ∷ bytes) from 0 ∷ new) (drop to bytes) = c.in_ok-added.ensures ∙ ap (λ t. line_starts_after_bytes from (get_or (LF ∷ t) from 0 ∷ new) (drop to t)) c.as_str.ensures.value in
    let room : vec_len c.reserve.new.self + length c.deref.result.now ≤ vec_capacity c.reserve.new.self = omega (arith, c.in_ok-reserve.ensures.ok, c.len.ensures, c.deref.ensures.len) in
    let done : is_ok c.extend_from_slice.result ≡ true = c.extend_from_slice.ensures.succeeds room in
    let front_is : c.extend_from_slice.new.self.items ≡ front ++ added =
    c.extend_from_slice.ensures.items
    ∙ ap (λ b. if b then c.reserve.new.self.items ++ c.deref.result.now else c.reserve.new.self.items) done
    ∙ (λ i. c.reserve.ensures.items i ++ c.deref.ensures.value i) in
    let back_long : c.len-2.result ≡ length back = omega (arith, c.len-2.ensures, c.move_starts_to_front.new.back.ok.0) in
    let back_is : c.truncate.new.self.items ≡ take (length back - (moved - kept)) back =
    c.truncate.ensures.items ∙ ap (λ n. take n back) (c.saturating_sub.ensures ∙ (λ i. back_long i - c.saturating_sub-gone.ensures i)) in
    let bytes_is : string_bytes c.replace_range.new.self ≡ (take from bytes ++ new) ++ drop to bytes = c.in_ok-replace_range.ensures.bytes in
    let len : c.len-self-inside.result ≡ length (string_bytes c.replace_range.new.self) = c.len-self-inside.ensures ∙ c.replace_range.new.self.bytes.ok.0 in
    record {
      starts =
          (λ i. starts_in_front_and_back c.len-self-inside.result (front_is i) (back_is i))
          ∙ table_replaced bytes new starts front back added c.self.inside.len from to kept moved (IsUtf8-string_bytes c.args.text.now) c.requires.table.starts long c.requires.order c.requires.end.0 c.count_starts_before-kept.ensures.count c.count_starts_before-moved.ensures.count parts here c.count_starts_before-moved.ensures.bound added_is c.len-self-inside.result (len ∙ ap length bytes_is) (subst IsUtf8 bytes_is (IsUtf8-string_bytes c.replace_range.new.self))
          ∙ ap (λ b. line_starts (chars b)) (sym bytes_is);
      len = len;
    }
