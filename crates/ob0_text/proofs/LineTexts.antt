-- Proves that the bytes from one line start of the table to the next are one line with its ending.
use Rattle.std.proofs.Common.{◌≡◌, ℕ, zero, suc, ◌+◌, ◌<◌, ◌≤◌, Bool, true, false, List, [], ◌∷◌, ◌++◌, length, get_or, refl, sym, ap, ◌∙◌, subst, append_assoc, length-append, arith, Some, None}
use Rattle.std.specs.Prelude.{encode_utf8_all, nat_lt, slice_get}
use Rattle.std.proofs.lemmas.Bool.{ltb-true, ltb-false}
use Rattle.std.specs.Char.{len_utf8}
use Rattle.std.specs.Str.{IsUtf8, IsCharBoundary, chars}
use Rattle.std.proofs.lemmas.Str.{encodes-append, encodes-chars, IsCharBoundary-end}
use Rattle.ob0_text.specs.Texts.{Line, lines, text_of_lines, byte_len}
use Rattle.ob0_text.specs.LineStarts.{line_with_ending, line_starts_from, line_starts}
use Rattle.ob0_text.proofs.LawsOfLines.{lines_joined}
use Rattle.ob0_text.proofs.PositionSteps.{rest_border}
use Rattle.ob0_text.proofs.StartLaws.{byte_len-append}
use Rattle.ob0_text.proofs.LinePlaces.{line_counted}

-- Holds if the bytes of line k, with its ending, are between the offsets `start` and `end`.
pub record IsFound (bytes : List ℕ) (ls : List Line) (at k start end : ℕ) : Type 0 where
  pub line : Line
  pub is_indented_break : slice_get ls k ≡ Some line
  pub front : List ℕ
  pub rest : List ℕ
  pub split : bytes ≡ front ++ (encode_utf8_all (line_with_ending line) ++ rest)
  pub here : at + length front ≡ start
  pub there : start + byte_len (line_with_ending line) ≡ end

joined-cons : (l : Line) (ls : List Line) → text_of_lines (l ∷ ls) ≡ line_with_ending l ++ text_of_lines ls
unfolding text_of_lines
joined-cons l ls = sym (append_assoc l.body l.ending (text_of_lines ls))

first_split : (l : Line) (ls : List Line) → encode_utf8_all (text_of_lines (l ∷ ls)) ≡ encode_utf8_all (line_with_ending l) ++ encode_utf8_all (text_of_lines ls)
first_split l ls = ap encode_utf8_all (joined-cons l ls) ∙ encodes-append (line_with_ending l) (text_of_lines ls)

first_len : (l : Line) (ls : List Line) → byte_len (text_of_lines (l ∷ ls)) ≡ byte_len (line_with_ending l) + byte_len (text_of_lines ls)
first_len l ls = ap byte_len (joined-cons l ls) ∙ byte_len-append (line_with_ending l) (text_of_lines ls)

first_end : (l : Line) (ls : List Line) (at end : ℕ) → (1 < length (l ∷ ls) → end ≡ get_or (line_starts_from at (l ∷ ls)) 1 0) → (length (l ∷ ls) ≤ 1 → end ≡ at + byte_len (text_of_lines (l ∷ ls))) → at + byte_len (line_with_ending l) ≡ end
unfolding line_starts_from text_of_lines
first_end l [] at end next last = let all : end ≡ at + byte_len (text_of_lines (l ∷ [])) = last (omega arith) in omega (arith, all, first_len l [])
first_end l (m ∷ ms) at end next last = sym (next (omega arith))

line_at : (ls : List Line) (at k end : ℕ) → k < length ls → (suc k < length ls → end ≡ get_or (line_starts_from at ls) (suc k) 0) → (length ls ≤ suc k → end ≡ at + byte_len (text_of_lines ls)) → IsFound (encode_utf8_all (text_of_lines ls)) ls at k (get_or (line_starts_from at ls) k 0) end
unfolding line_starts_from
line_at [] at k end inside next last = absurd (omega arith)
line_at (l ∷ ls) at zero end inside next last = record {
  line = l;
  is_indented_break = refl;
  front = [];
  rest = encode_utf8_all (text_of_lines ls);
  split = first_split l ls;
  here = omega arith;
  there = first_end l ls at end next last;
}
line_at (l ∷ ls) at (suc k) end inside next last =
    let more = line_at ls (at + byte_len (line_with_ending l)) k end (omega arith) (λ low. next (omega arith)) (λ up. let all : end ≡ at + byte_len (text_of_lines (l ∷ ls)) = last (omega arith) in omega (arith, all, first_len l ls)) in
    let long : length (encode_utf8_all (line_with_ending l) ++ more.front) ≡ byte_len (line_with_ending l) + length more.front = length-append (encode_utf8_all (line_with_ending l)) more.front in record {
      line = more.line;
      is_indented_break = more.is_indented_break;
      front = encode_utf8_all (line_with_ending l) ++ more.front;
      rest = more.rest;
      split = first_split l ls ∙ ap (λ t. encode_utf8_all (line_with_ending l) ++ t) more.split ∙ sym (append_assoc (encode_utf8_all (line_with_ending l)) more.front (encode_utf8_all (line_with_ending more.line) ++ more.rest));
      here = omega (arith, long, more.here);
      there = more.there;
    }

length-starts : (at : ℕ) (ls : List Line) → length (line_starts_from at ls) ≡ length ls
unfolding line_starts_from
length-starts at [] = refl
length-starts at (l ∷ ls) = ap suc (length-starts (at + byte_len (line_with_ending l)) ls)

past_last : (ls : List Line) (k : ℕ) → length ls ≤ k → slice_get ls k ≡ None
past_last [] k h = refl
past_last (l ∷ ls) zero h = absurd (omega arith)
past_last (l ∷ ls) (suc k) h = past_last ls k (omega arith)

module _ (text starts : List ℕ) (u : IsUtf8 text) (is : starts ≡ line_starts (chars text)) where
  as_many : length starts ≡ length (lines (chars text))
  as_many = ap length is ∙ length-starts 0 (lines (chars text))

  pub no_line : (k : ℕ) → length starts ≤ k → slice_get (lines (chars text)) k ≡ None
  no_line k h = past_last (lines (chars text)) k (omega (arith, as_many))

  pub found_line : (k end : ℕ) → k < length starts → (k + 1 < length starts → end ≡ get_or starts (k + 1) 0) → (length starts ≤ k + 1 → end ≡ length text) → IsFound text (lines (chars text)) 0 k (get_or starts k 0) end
  found_line k end inside next last =
      let bytes : encode_utf8_all (text_of_lines (lines (chars text))) ≡ text = ap encode_utf8_all (lines_joined (chars text)) ∙ encodes-chars text u in
      let one : k + 1 ≡ suc k = omega arith in
      subst (λ b. IsFound b (lines (chars text)) 0 k (get_or starts k 0) end) bytes
      (subst (λ t. IsFound (encode_utf8_all (text_of_lines (lines (chars text)))) (lines (chars text)) 0 k (get_or t k 0) end) (sym is)
      (line_at (lines (chars text)) 0 k end (omega (arith, as_many))
      (λ low. next (omega (arith, as_many)) ∙ ap (λ t. get_or t (k + 1) 0) is ∙ ap (λ j. get_or (line_starts (chars text)) j 0) one)
      (λ up. let all : end ≡ length text = last (omega (arith, as_many)) in omega (arith, all, ap length bytes))))

  pub start_border : (k : ℕ) → k < length starts → IsCharBoundary text (get_or starts k 0)
  start_border k inside =
      let same : get_or starts k 0 ≡ get_or (line_starts (chars text)) k 0 = ap (λ t. get_or t k 0) is in
      let here = line_counted len_utf8 (λ c. omega arith) text u k (subst (λ t. k < length t) is inside) in
      subst (IsCharBoundary text) (sym same) (rest_border text _ (get_or (line_starts (chars text)) k 0) here.rest_is)

  pub end_border : (k end : ℕ) → (k + 1 < length starts → end ≡ get_or starts (k + 1) 0) → (length starts ≤ k + 1 → end ≡ length text) → IsCharBoundary text end
  end_border k end next last = by_side (nat_lt (k + 1) (length starts)) refl
    where
      by_side : (b : Bool) → nat_lt (k + 1) (length starts) ≡ b → IsCharBoundary text end
      by_side true e =
          let low : k + 1 < length starts = ltb-true (k + 1) (length starts) e in
          subst (IsCharBoundary text) (sym (next low)) (start_border (k + 1) low)
      by_side false e = subst (IsCharBoundary text) (sym (last (ltb-false (k + 1) (length starts) e))) (IsCharBoundary-end text)
