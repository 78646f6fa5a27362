-- Proves that an unfinished message has fewer bytes than the longest head and the longest content
-- have together. In more bytes a head would end, since otherwise no message could begin with them.
-- The head would be accepted, for the same reason, and its content would be complete.
use Rattle.std.proofs.Common.{◌≡◌, ◌∙◌, ◌<◌, ◌≤◌, ◌+◌, ℕ, zero, suc, inl, inr, List, [], ◌∷◌, ◌++◌, length, take, drop, sym, ap, subst, arith}
use Rattle.std.proofs.Math.Nat.{lt_of_not-le}
use Rattle.std.proofs.lemmas.List.{length-drop, length-take-le, take-append-drop, take-take, take_all}
use Rattle.ob0_frame.specs.Frames.{BeginsWithNoMessage, CannotBeginMessage, Frames}
use Rattle.ob0_frame.specs.Head.{AnnouncesContentLength, EndsInEmptyLine, IsHead, max_content_length, max_head_length}
use Rattle.ob0_world_determined.specs.DeterminedOutput.{UnfinishedMessageIsBounded}

no_message_left : (bytes left : List ℕ) (contents : List (List ℕ)) → Frames bytes contents left → BeginsWithNoMessage left
no_message_left bytes left [] frames = frames.1
no_message_left bytes left (content ∷ contents) frames = no_message_left frames.1 left contents frames.3

module _ (left : List ℕ) (none : BeginsWithNoMessage left) (can_begin : CannotBeginMessage left → ⊥) (long : max_head_length + max_content_length ≤ length left) where
  -- No head of this length is accepted, since its content would be complete.
  not_announced : (n : ℕ) → n ≤ max_head_length → (size : ℕ) → AnnouncesContentLength (take n left) size → ⊥
  not_announced n small size a =
      let rest : List ℕ = drop n left in
      let fits : size ≤ length rest = omega (arith, length-drop n left, a.text_is_size.small, long, small) in
      let is : length (take size rest) ≡ size = length-take-le size rest fits in
      none (take n left) (take size rest) (drop size rest) (record {
        announces = subst (AnnouncesContentLength (take n left)) (sym is) a;
        joined = sym (take-append-drop n left) ∙ ap (λ l. take n left ++ l) (sym (take-append-drop size rest));
      })

  never_ends : (fuel n : ℕ) → n < fuel → n ≤ max_head_length → EndsInEmptyLine (take n left) → ⊥
  never_ends zero n within small ends = absurd (omega arith)
  never_ends (suc fuel) n within small ends =
      let is : length (take n left) ≡ n = length-take-le n left (omega (arith, long, small)) in
      let whole : IsHead (take n left) = record {
        ends = ends;
        first = λ m less sooner.
            let before : m < n = omega (arith, less, is) in
            never_ends fuel m (omega (arith, before, within)) (omega (arith, before, small)) (subst EndsInEmptyLine (take-take m n left (omega (arith, before))) sooner);
      } in
      can_begin (inl (record { head = take n left; more = drop n left; joined = sym (take-append-drop n left); whole = whole; refused = not_announced n small }))

  ends_within : (n : ℕ) → EndsInEmptyLine (take n (take max_head_length left)) → ⊥
  ends_within n ends =
      let large : max_head_length < n = lt_of_not-le (λ small. never_ends (suc n) n (omega arith) small (subst EndsInEmptyLine (take-take n max_head_length left small) ends)) in
      let is : length (take max_head_length left) ≡ max_head_length = length-take-le max_head_length left (omega (arith, long)) in
      never_ends (suc max_head_length) max_head_length (omega arith) (omega arith) (subst EndsInEmptyLine (take_all n (take max_head_length left) (omega (arith, is, large))) ends)

  too_long : ⊥
  too_long = can_begin (inr (omega (arith, long), ends_within))

pub unfinished_message_is_bounded : UnfinishedMessageIsBounded
unfinished_message_is_bounded bytes left contents h = lt_of_not-le (too_long left (no_message_left bytes left contents h.0) h.1)
