-- Proves that replacing the bytes between the offsets of a range's two ends replaces the characters
-- in the range.
use Rattle.std.proofs.Common.{◌≡◌, ℕ, List, ◌++◌, take, drop, min, max, sym, ap, ◌∙◌, subst, Some}
use Rattle.std.specs.Str.{IsUtf8, IsCharBoundary, chars}
use Rattle.ob0_text.specs.Texts.{text_before, byte_len, offset_of}
use Rattle.ob0_text.specs.Patches.{char_count_before_position, cut_of_range, text_with_range_replaced}
use Rattle.ob0_text.specs.declared.position_types.Range.{Range}
use Rattle.ob0_text.proofs.Prefixes.{patched_text-one, range_start, range_end, border_at, replaced_at}

module _ (width : ℕ → ℕ) (text bs : List ℕ) (u : IsUtf8 bs) (is : chars bs ≡ text) (r : Range) (s e from to : ℕ) (s_is : s ≡ offset_of width text r.start) (e_is : e ≡ offset_of width text r.end) (from_is : from ≡ min s e) (to_is : to ≡ max s e) where
  at_from : from ≡ byte_len (take (min (char_count_before_position width (chars bs) r.start) (char_count_before_position width (chars bs) r.end)) (chars bs))
  at_from =
      from_is ∙ (λ i. min (s_is i) (e_is i)) ∙ ap (λ t. min (byte_len (text_before width t r.start)) (byte_len (text_before width t r.end))) (sym is)
      ∙ range_start width (chars bs) r.start r.end

  at_to : to ≡ byte_len (take (max (char_count_before_position width (chars bs) r.start) (char_count_before_position width (chars bs) r.end)) (chars bs))
  at_to =
      to_is ∙ (λ i. max (s_is i) (e_is i)) ∙ ap (λ t. max (byte_len (text_before width t r.start)) (byte_len (text_before width t r.end))) (sym is)
      ∙ range_end width (chars bs) r.start r.end

  pub from_border : IsCharBoundary bs from
  from_border = subst (IsCharBoundary bs) (sym at_from) (border_at bs u (min (char_count_before_position width (chars bs) r.start) (char_count_before_position width (chars bs) r.end)))

  pub to_border : IsCharBoundary bs to
  to_border = subst (IsCharBoundary bs) (sym at_to) (border_at bs u (max (char_count_before_position width (chars bs) r.start) (char_count_before_position width (chars bs) r.end)))

  pub replaced_is : (new bytes : List ℕ) → IsUtf8 new → bytes ≡ (take from bs ++ new) ++ drop to bs → text_with_range_replaced width text r (chars new) ≡ Some (chars bytes)
  unfolding cut_of_range
  replaced_is new bytes v bytes_is =
      ap (λ t. text_with_range_replaced width t r (chars new)) (sym is)
      ∙ patched_text-one (chars bs) (min (char_count_before_position width (chars bs) r.start) (char_count_before_position width (chars bs) r.end)) (max (char_count_before_position width (chars bs) r.start) (char_count_before_position width (chars bs) r.end)) (chars new)
      ∙ ap Some (sym (ap chars bytes_is ∙ (λ i. chars ((take (at_from i) bs ++ new) ++ drop (at_to i) bs)) ∙ replaced_at bs u (min (char_count_before_position width (chars bs) r.start) (char_count_before_position width (chars bs) r.end)) (max (char_count_before_position width (chars bs) r.start) (char_count_before_position width (chars bs) r.end)) new v))
