-- Proves which text results from edits at ascending places of a text, in bytes and in characters.
use Rattle.std.proofs.Common.{◌≡◌, ℕ, ◌+◌, ◌-◌, ◌≤◌, true, false, List, [], ◌∷◌, ◌++◌, length, get_or, take, drop, map, min, max, refl, sym, ap, ap₂, ◌∙◌, subst, arith, append_assoc, length-append, length-drop, get_or-append-add, le-leb}
use Rattle.std.specs.Prelude.{if◌then◌else◌, Some, None, encode_utf8_all}
use Rattle.std.specs.List.{list_all}
use Rattle.std.specs.Str.{IsUtf8, chars, IsCharBoundary}
use Rattle.std.proofs.Math.Seq.{take-append_seam, drop-append_seam, take-append-add, take-add}
use Rattle.std.proofs.lemmas.Str.{chars-append, chars-nil, IsUtf8-append, IsUtf8-take, IsUtf8-drop, IsUtf8-between, IsCharBoundary-start, encodes-append, encodes-chars, encode_ascii}
use Rattle.std.proofs.lemmas.List.{drop-drop, take-append-drop, take_at, length-take-le}
use Rattle.std.proofs.lemmas.Simd.{map-map}
use Rattle.std.proofs.lemmas.Bool.Decides.{nat_tests}
use Rattle.ob0_text.specs.declared.edits.Edit.{Edit}
use Rattle.ob0_text.specs.declared.position_types.Range.{Range}
use Rattle.ob0_text.specs.declared.position_types.Unit as counting
use Rattle.ob0_text.specs.Units.{width_of}
use Rattle.ob0_text.specs.Texts.{CR, LF, text_before, position_of, byte_len, IsBetweenCrAndLf}
use Rattle.ob0_text.specs.Patches.{Cut, char_count_before_position, cut_of_range, are_disjoint, are_all_disjoint, is_cut_before, insert_cut_in_order, cuts_in_text_order, text_after_cuts_from_offset, text_patched_by_cuts, patched_text}
use Rattle.ob0_text.proofs.Widths.{wide}
use Rattle.ob0_text.proofs.RoundTrip.{places_go_back}
use Rattle.ob0_edits_tokens.specs.ByteCuts.{edit_of_cut, length_after_cuts_from_offset}
use Rattle.ob0_edits_tokens.specs.Replacements.{range_and_text}
use Rattle.ob0_edits_tokens.proofs.Borders.{IsBorder, IsEnding}

-- States that a cut begins at or after an offset, begins and ends at borders of a text, and puts in
-- UTF-8.
pub record IsCut (text : List ℕ) (at : ℕ) (c : Cut) : Type 0 where
  pub up : at ≤ c.from
  pub ordered : c.from ≤ c.to
  pub start : IsBorder text c.from
  pub end : IsBorder text c.to
  pub utf8 : IsUtf8 c.new

-- Holds if each cut begins at or after the end of the previous one, and the first at or after `at`.
abbrev pub AreCuts : List ℕ → ℕ → List Cut → Type 0
AreCuts text at [] = Unit {0}
AreCuts text at (c ∷ cs) = IsCut text at c × AreCuts text c.to cs

pub none_taken : (n : ℕ) (xs : List ℕ) → take (n - n) xs ≡ []
none_taken n xs = let zero : n - n ≡ 0 = omega arith in ap (λ k. take k xs) zero

pub two_parts : (text : List ℕ) (a b c : ℕ) → a ≤ b → b ≤ c → take (c - a) (drop a text) ≡ take (b - a) (drop a text) ++ take (c - b) (drop b text)
two_parts text a b c h k =
    let long : c - a ≡ (b - a) + (c - b) = omega arith in
    let there : a + (b - a) ≡ b = omega arith in
    ap (λ n. take n (drop a text)) long ∙ take-add (b - a) (c - b) (drop a text)
    ∙ ap (λ xs. take (b - a) (drop a text) ++ take (c - b) xs) (drop-drop (b - a) a text ∙ ap (λ n. drop n text) there)

-- If the first cut begins at the place, the text begins with the cut's new text.
pub pieced_here : (text : List ℕ) (at : ℕ) (c : Cut) (end : ℕ) (cs : List Cut) → c.from ≡ at → c.to ≡ end → text_after_cuts_from_offset text at (c ∷ cs) ≡ c.new ++ text_after_cuts_from_offset text end cs
unfolding text_after_cuts_from_offset
pieced_here text at c end cs f t =
    let none : c.from - at ≡ 0 = omega (arith, f) in
    λ i. take (none i) (drop at text) ++ (c.new ++ text_after_cuts_from_offset text (t i) cs)

pub pieced_end : (text : List ℕ) (at : ℕ) → drop at text ≡ text_after_cuts_from_offset text at []
unfolding text_after_cuts_from_offset
pieced_end text at = refl

module _ (text : List ℕ) where
  pub cuts_from : (at low : ℕ) (cs : List Cut) → low ≤ at → AreCuts text at cs → AreCuts text low cs
  cuts_from at low [] h are = tt
  cuts_from at low (c ∷ cs) h are = (record { up = omega (arith, h, are.0.up); ordered = are.0.ordered; start = are.0.start; end = are.0.end; utf8 = are.0.utf8 }, are.1)

  -- The text before the first cut is kept.
  pub pieced_later : (a b : ℕ) (cs : List Cut) → a ≤ b → AreCuts text b cs → text_after_cuts_from_offset text a cs ≡ take (b - a) (drop a text) ++ text_after_cuts_from_offset text b cs
  unfolding text_after_cuts_from_offset
  pieced_later a b [] h are =
      let there : a + (b - a) ≡ b = omega arith in
      sym (take-append-drop (b - a) (drop a text)) ∙ ap (λ xs. take (b - a) (drop a text) ++ xs) (drop-drop (b - a) a text ∙ ap (λ n. drop n text) there)
  pieced_later a b (c ∷ cs) h are =
      ap (λ xs. xs ++ (c.new ++ text_after_cuts_from_offset text c.to cs)) (two_parts text a b c.from h are.0.up) ∙ append_assoc (take (b - a) (drop a text)) (take (c.from - b) (drop b text)) (c.new ++ text_after_cuts_from_offset text c.to cs)

  pub pieced_kept : (at end : ℕ) (front rest : List ℕ) (cs : List Cut) → drop at text ≡ front ++ rest → at + length front ≡ end → AreCuts text end cs → text_after_cuts_from_offset text at cs ≡ front ++ text_after_cuts_from_offset text end cs
  pieced_kept at end front rest cs e far are =
      let long : length front ≡ end - at = omega (arith, far) in
      pieced_later at end cs (omega (arith, far)) are ∙ ap (λ xs. xs ++ text_after_cuts_from_offset text end cs) (ap (take (end - at)) e ∙ take_at front rest (end - at) long)

  pub made_length : (at : ℕ) (cs : List Cut) → AreCuts text at cs → length (text_after_cuts_from_offset text at cs) ≡ length_after_cuts_from_offset (length text) at cs
  unfolding text_after_cuts_from_offset
  made_length at [] are = length-drop at text
  made_length at (c ∷ cs) are =
      let kept : length (take (c.from - at) (drop at text)) ≡ c.from - at = length-take-le (c.from - at) (drop at text) (omega (arith, length-drop at text, are.0.start.place.0, are.0.up)) in
      length-append (take (c.from - at) (drop at text)) (c.new ++ text_after_cuts_from_offset text c.to cs)
      ∙ ap₂ (λ a b. a + b) kept (length-append c.new (text_after_cuts_from_offset text c.to cs) ∙ ap (λ n. length c.new + n) (made_length c.to cs are.1))

  pub made_utf8 : IsUtf8 text → (at : ℕ) (cs : List Cut) → IsCharBoundary text at → AreCuts text at cs → IsUtf8 (text_after_cuts_from_offset text at cs)
  unfolding text_after_cuts_from_offset
  made_utf8 u at [] here are = IsUtf8-drop text at u here
  made_utf8 u at (c ∷ cs) here are =
      IsUtf8-append (take (c.from - at) (drop at text)) (c.new ++ text_after_cuts_from_offset text c.to cs) (IsUtf8-between text at c.from u are.0.up here are.0.start.place)
      (IsUtf8-append c.new (text_after_cuts_from_offset text c.to cs) are.0.utf8 (made_utf8 u c.to cs are.0.end.place are.1))

-- ---- cuts in text order

-- holds if each cut begins at or after the end of the previous one, and the first at or after `at`
abbrev Chain : ℕ → List Cut → Type 0
Chain at [] = Unit {0}
Chain at (c ∷ cs) = (at ≤ c.from) × (c.from ≤ c.to) × Chain c.to cs

-- Inserting a cut before cuts that follow it puts it first.
first_stays : (c : Cut) (cs : List Cut) → c.from ≤ c.to → Chain c.to cs → insert_cut_in_order c cs ≡ c ∷ cs
first_stays c [] some chain = refl
first_stays c (d ∷ ds) some chain =
    let after : is_cut_before d c ≡ false = grind (arith, nat_tests) in
    ap (λ b. if b then d ∷ insert_cut_in_order c ds else c ∷ d ∷ ds) after

order_stays : (at : ℕ) (cs : List Cut) → Chain at cs → cuts_in_text_order cs ≡ cs
unfolding cuts_in_text_order
order_stays at [] chain = refl
order_stays at (c ∷ cs) chain = ap (insert_cut_in_order c) (order_stays c.to cs chain.2) ∙ first_stays c cs chain.1 chain.2

apart_from_later : (c : Cut) (at : ℕ) (cs : List Cut) → c.to ≤ at → Chain at cs → list_all (are_disjoint c) cs ≡ true
apart_from_later c at [] h chain = refl
apart_from_later c at (d ∷ ds) h chain =
    rw (le-leb c.to d.from (omega (arith, chain.0)), apart_from_later c d.to ds (omega (arith, chain.0, chain.1)) chain.2) refl

all_are_apart : (at : ℕ) (cs : List Cut) → Chain at cs → are_all_disjoint cs ≡ true
unfolding are_all_disjoint
all_are_apart at [] chain = refl
all_are_apart at (c ∷ cs) chain = rw (apart_from_later c c.to cs (omega arith) chain.2, all_are_apart c.to cs chain.2) refl

patched_in_order : (text : List ℕ) (at : ℕ) (cs : List Cut) → Chain at cs → text_patched_by_cuts text cs ≡ Some (text_after_cuts_from_offset text 0 cs)
unfolding text_patched_by_cuts
patched_in_order text at cs chain =
    ap (λ b. if b then Some (text_after_cuts_from_offset text 0 (cuts_in_text_order cs)) else None) (all_are_apart at cs chain) ∙ ap (λ xs. Some (text_after_cuts_from_offset text 0 xs)) (order_stays at cs chain)

-- ---- bytes and characters

ascii_pair : (rest : List ℕ) → encode_utf8_all (CR ∷ LF ∷ rest) ≡ 13 ∷ 10 ∷ encode_utf8_all rest
ascii_pair rest = λ i. encode_ascii 13 (omega arith) i ++ (encode_ascii 10 (omega arith) i ++ encode_utf8_all rest)

ascii_one : encode_utf8_all (CR ∷ []) ≡ 13 ∷ []
ascii_one = λ i. encode_ascii 13 (omega arith) i ++ []

ending_bytes : (text : List ℕ) (offset k : ℕ) → byte_len (take k text) ≡ offset → IsBetweenCrAndLf text k → IsEnding (encode_utf8_all text) offset
ending_bytes text offset k here (front, rest, e, count) =
    let start : List ℕ = encode_utf8_all front in
    let bytes : encode_utf8_all text ≡ start ++ (13 ∷ 10 ∷ encode_utf8_all rest) = ap encode_utf8_all e ∙ encodes-append front (CR ∷ LF ∷ rest) ∙ ap (λ t. start ++ t) (ascii_pair rest) in
    let cut : take k text ≡ front ++ (CR ∷ []) = (λ i. take (count i) (e i)) ∙ take-append-add front (CR ∷ LF ∷ rest) 1 in
    let at : offset ≡ length start + 1 = sym here ∙ ap byte_len cut ∙ ap length (encodes-append front (CR ∷ []) ∙ ap (λ t. start ++ t) ascii_one) ∙ length-append start (13 ∷ []) in
    let before_it : offset - 1 ≡ length start + 0 = omega (arith, at) in
    record {
      cr = (λ i. get_or (bytes i) (before_it i) 0) ∙ get_or-append-add start (13 ∷ 10 ∷ encode_utf8_all rest) 0 0;
      lf = (λ i. get_or (bytes i) (at i) 0) ∙ get_or-append-add start (13 ∷ 10 ∷ encode_utf8_all rest) 1 0;
    }

module _ (unit : counting.Unit) (text : List ℕ) (u : IsUtf8 text) where
  -- returns the number of characters before an offset
  abbrev char_count : ℕ → ℕ
  char_count at = length (chars (take at text))

  halves : (at : ℕ) → IsCharBoundary text at → chars text ≡ chars (take at text) ++ chars (drop at text)
  halves at here = ap chars (sym (take-append-drop at text)) ∙ chars-append (take at text) (drop at text) (IsUtf8-take text at u here)

  rest_in_chars : (at : ℕ) → IsCharBoundary text at → drop (char_count at) (chars text) ≡ chars (drop at text)
  rest_in_chars at here = ap (drop (char_count at)) (halves at here) ∙ drop-append_seam (chars (take at text)) (chars (drop at text))

  count_on : (a b : ℕ) → a ≤ b → IsCharBoundary text a → char_count b ≡ char_count a + length (chars (take (b - a) (drop a text)))
  count_on a b up here =
      let far : b ≡ a + (b - a) = omega arith in
      ap (λ n. length (chars (take n text))) far
      ∙ ap (λ t. length (chars t)) (take-add a (b - a) text)
      ∙ ap length (chars-append (take a text) (take (b - a) (drop a text)) (IsUtf8-take text a u here))
      ∙ length-append (chars (take a text)) (chars (take (b - a) (drop a text)))

  part_in_chars : (a b : ℕ) → a ≤ b → IsCharBoundary text a → IsCharBoundary text b → take (char_count b - char_count a) (drop (char_count a) (chars text)) ≡ chars (take (b - a) (drop a text))
  part_in_chars a b up start end =
      let part : List ℕ = take (b - a) (drop a text) in
      let long : length (chars part) ≡ char_count b - char_count a = omega (arith, count_on a b up start) in
      ap (take (char_count b - char_count a))
      (rest_in_chars a start ∙ ap chars (sym (take-append-drop (b - a) (drop a text))) ∙ chars-append part (drop (b - a) (drop a text)) (IsUtf8-between text a b u up start end))
      ∙ take_at (chars part) (chars (drop (b - a) (drop a text))) (char_count b - char_count a) long

  -- returns the number of characters before the position of an offset
  abbrev count_at_position : ℕ → ℕ
  count_at_position at = char_count_before_position (width_of unit) (chars text) (position_of (width_of unit) (chars text) at)

  -- The position of a border leads back to it.
  goes_back : (at : ℕ) → IsBorder text at → count_at_position at ≡ char_count at
  unfolding char_count_before_position
  goes_back at border =
      let front : chars text ≡ chars (take at text) ++ chars (drop at text) = halves at border.place in
      let inside : char_count at ≤ length (chars text) = omega (arith, ap length front, length-append (chars (take at text)) (chars (drop at text))) in
      let here : byte_len (take (char_count at) (chars text)) ≡ at =
      ap (λ t. byte_len (take (char_count at) t)) front ∙ ap byte_len (take-append_seam (chars (take at text)) (chars (drop at text)))
      ∙ ap length (encodes-chars (take at text) (IsUtf8-take text at u border.place)) ∙ length-take-le at text border.place.0 in
      let outside : IsBetweenCrAndLf (chars text) (char_count at) → ⊥ = λ ending. border.clear (subst (λ b. IsEnding b at) (encodes-chars text u) (ending_bytes (chars text) at (char_count at) here ending)) in
      ap (λ n. length (text_before (width_of unit) (chars text) (position_of (width_of unit) (chars text) n))) (sym here)
      ∙ ap length (places_go_back (width_of unit) (wide unit) (chars text) (char_count at) inside outside)
      ∙ length-take-le (char_count at) (chars text) inside

  -- returns the cut, in characters, that an edit makes
  abbrev cut_of : Range × List ℕ → Cut
  cut_of edit = cut_of_range (width_of unit) (chars text) edit.0 (chars edit.1)

  -- returns a cut in bytes as a cut in characters
  abbrev in_chars : Cut → Cut
  in_chars c = record { from = char_count c.from; to = char_count c.to; new = chars c.new }

  same_cut : (at : ℕ) (c : Cut) → IsCut text at c → cut_of (edit_of_cut unit (chars text) c) ≡ in_chars c
  unfolding cut_of_range
  same_cut at c is =
      let a = goes_back c.from is.start in
      let b = goes_back c.to is.end in
      let up : char_count c.from ≤ char_count c.to = omega (arith, count_on c.from c.to is.ordered is.start.place) in
      let low : min (count_at_position c.from) (count_at_position c.to) ≡ char_count c.from = (λ i. min (a i) (b i)) ∙ omega (arith, up) in
      let high : max (count_at_position c.from) (count_at_position c.to) ≡ char_count c.to = (λ i. max (a i) (b i)) ∙ omega (arith, up) in
      λ i. record { from = low i; to = high i; new = chars c.new }

  same_cuts : (at : ℕ) (cs : List Cut) → AreCuts text at cs → map (λ (c : Cut). cut_of (edit_of_cut unit (chars text) c)) cs ≡ map in_chars cs
  same_cuts at [] are = refl
  same_cuts at (c ∷ cs) are = λ i. same_cut at c are.0 i ∷ same_cuts c.to cs are.1 i

  chain_in_chars : (at : ℕ) (cs : List Cut) → IsCharBoundary text at → AreCuts text at cs → Chain (char_count at) (map in_chars cs)
  chain_in_chars at [] here are = tt
  chain_in_chars at (c ∷ cs) here are =
      (omega (arith, count_on at c.from are.0.up here), omega (arith, count_on c.from c.to are.0.ordered are.0.start.place), chain_in_chars c.to cs are.0.end.place are.1)

  made_in_chars : (at : ℕ) (cs : List Cut) → IsCharBoundary text at → AreCuts text at cs → text_after_cuts_from_offset (chars text) (char_count at) (map in_chars cs) ≡ chars (text_after_cuts_from_offset text at cs)
  unfolding text_after_cuts_from_offset
  made_in_chars at [] here are = rest_in_chars at here
  made_in_chars at (c ∷ cs) here are =
      let part : List ℕ = take (c.from - at) (drop at text) in
      (λ i. part_in_chars at c.from are.0.up here are.0.start.place i ++ (chars c.new ++ made_in_chars c.to cs are.0.end.place are.1 i))
      ∙ sym (chars-append part (c.new ++ text_after_cuts_from_offset text c.to cs) (IsUtf8-between text at c.from u are.0.up here are.0.start.place) ∙ ap (λ t. chars part ++ t) (chars-append c.new (text_after_cuts_from_offset text c.to cs) are.0.utf8))

  -- Edits at cuts in bytes leave the text that the cuts leave.
  pub patched_at_cuts : (edits : List Edit) (cs : List Cut) → AreCuts text 0 cs → map range_and_text edits ≡ map (edit_of_cut unit (chars text)) cs → patched_text (width_of unit) (chars text) edits ≡ Some (chars (text_after_cuts_from_offset text 0 cs))
  patched_at_cuts edits cs are e =
      let start = IsCharBoundary-start text u in
      let none : char_count 0 ≡ 0 = ap length chars-nil in
      ap (text_patched_by_cuts (chars text)) (sym (map-map cut_of range_and_text edits) ∙ ap (map cut_of) e ∙ map-map cut_of (edit_of_cut unit (chars text)) cs ∙ same_cuts 0 cs are)
      ∙ patched_in_order (chars text) (char_count 0) (map in_chars cs) (chain_in_chars 0 cs start are)
      ∙ ap Some (ap (λ n. text_after_cuts_from_offset (chars text) n (map in_chars cs)) (sym none) ∙ made_in_chars 0 cs start are)
