-- Proves that offsets have the order of their positions: if p isn't after q, the offset of p is at
-- most the offset of q.
use Rattle.std.proofs.Common.{◌≡◌, ◌∙◌, ℕ, zero, suc, ◌+◌, ◌-◌, ◌<◌, ◌≤◌, Bool, true, false, List, [], ◌∷◌, ◌++◌, length, take, refl, sym, ap, arith, inl, inr, cond, append_assoc}
use Rattle.std.specs.Prelude.{◌⊎◌, min, nat_le, encode_utf8_all}
use Rattle.std.proofs.lemmas.Str.{encodes-append}
use Rattle.std.proofs.lemmas.Bool.{leb-true, leb-false, cases_lt}
use Rattle.std.proofs.lemmas.Bool.Decides.{nat_tests}
use Rattle.std.proofs.lemmas.List.{length-append}
use Rattle.ob0_text.specs.declared.position_types.Position.{Position}
use Rattle.ob0_text.specs.declared.position_types.Range.{Range}
use Rattle.ob0_text.specs.declared.position_types.Unit.{Unit}
use Rattle.ob0_text.specs.Texts.{Line, lines, text_of_lines, line_body, fitting_prefix, text_before, byte_len, offset_of}
use Rattle.ob0_text.specs.Units.{width_of}
use Rattle.ob0_session_answers.specs.Actions.{first_offset_in_range}
use Rattle.ob0_world_rules.specs.Answers.{position_offset}
use Rattle.ob0_world.specs.Exchanges.{is_before, first_position}

-- holds if position `p` isn't after position `q` in a text
abbrev IsAtOrBefore : Position → Position → Type 0
IsAtOrBefore p q = (p.line < q.line) ⊎ ((p.line ≡ q.line) × (p.character ≤ q.character))

len-append : (xs ys : List ℕ) → byte_len (xs ++ ys) ≡ byte_len xs + byte_len ys
len-append xs ys = ap length (encodes-append xs ys) ∙ length-append (encode_utf8_all xs) (encode_utf8_all ys)

len-cons : (c : ℕ) (xs ys : List ℕ) → byte_len xs ≤ byte_len ys → byte_len (c ∷ xs) ≤ byte_len (c ∷ ys)
len-cons c xs ys h =
    let one : byte_len (c ∷ xs) ≡ byte_len (c ∷ []) + byte_len xs = len-append (c ∷ []) xs in
    let other : byte_len (c ∷ ys) ≡ byte_len (c ∷ []) + byte_len ys = len-append (c ∷ []) ys in
    omega (arith, one, other, h)

module _ (width : ℕ → ℕ) where
  -- More units fit at least as many bytes.
  more_fits : (cs : List ℕ) (n m : ℕ) → n ≤ m → byte_len (fitting_prefix width n cs) ≤ byte_len (fitting_prefix width m cs)
  unfolding fitting_prefix
  more_fits [] n m h = omega arith
  more_fits (c ∷ cs) n m h = go (nat_le (width c) n) (nat_le (width c) m) refl refl (more_fits cs (n - width c) (m - width c) (omega arith))
    where
      go : (a b : Bool) → nat_le (width c) n ≡ a → nat_le (width c) m ≡ b → byte_len (fitting_prefix width (n - width c) cs) ≤ byte_len (fitting_prefix width (m - width c) cs)
          → byte_len (cond a (c ∷ fitting_prefix width (n - width c) cs) []) ≤ byte_len (cond b (c ∷ fitting_prefix width (m - width c) cs) [])
      go true true one other more = len-cons c (fitting_prefix width (n - width c) cs) (fitting_prefix width (m - width c) cs) more
      go true false one other more =
          let low : width c ≤ n = leb-true (width c) n one in
          let high : m < width c = leb-false (width c) m other in absurd (omega arith)
      go false b one other more = omega arith

  all_fits : (cs : List ℕ) (n : ℕ) → byte_len (fitting_prefix width n cs) ≤ byte_len cs
  unfolding fitting_prefix
  all_fits [] n = omega arith
  all_fits (c ∷ cs) n = go (nat_le (width c) n) (all_fits cs (n - width c))
    where
      go : (b : Bool) → byte_len (fitting_prefix width (n - width c) cs) ≤ byte_len cs → byte_len (cond b (c ∷ fitting_prefix width (n - width c) cs) []) ≤ byte_len (c ∷ cs)
      go true more = len-cons c (fitting_prefix width (n - width c) cs) cs more
      go false more = omega arith

  up_to : List Line → ℕ → ℕ → List ℕ
  up_to ls line n = text_of_lines (take line ls) ++ fitting_prefix width n (line_body ls line)

  take_none : (k : ℕ) → take {A = Line} k [] ≡ []
  take_none zero = refl
  take_none (suc k) = refl

  none_before : (line n : ℕ) → up_to [] line n ≡ []
  unfolding up_to text_of_lines line_body fitting_prefix
  none_before line n = ap (λ ls. text_of_lines ls ++ []) (take_none line)

  further : (ls : List Line) (a b n m : ℕ) → (a < b) ⊎ ((a ≡ b) × (n ≤ m)) → byte_len (up_to ls a n) ≤ byte_len (up_to ls b m)
  unfolding up_to text_of_lines line_body fitting_prefix
  further [] a b n m h =
      let one : byte_len (up_to [] a n) ≡ 0 = ap byte_len (none_before a n) in omega (arith, one)
  further (l ∷ ls) zero zero n m (inl less) = absurd (omega arith)
  further (l ∷ ls) zero zero n m (inr (same, more)) = more_fits l.body n m more
  further (l ∷ ls) zero (suc b) n m h =
      let fits : byte_len (fitting_prefix width n l.body) ≤ byte_len l.body = all_fits l.body n in
      let rest : List ℕ = l.ending ++ text_of_lines (take b ls) in
      let parts : byte_len ((l.body ++ rest) ++ fitting_prefix width m (line_body ls b)) ≡ byte_len (l.body ++ rest) + byte_len (fitting_prefix width m (line_body ls b)) = len-append (l.body ++ rest) (fitting_prefix width m (line_body ls b)) in
      let first : byte_len (l.body ++ rest) ≡ byte_len l.body + byte_len rest = len-append l.body rest in
      omega (arith, fits, parts, first)
  further (l ∷ ls) (suc a) zero n m (inl less) = absurd (omega arith)
  further (l ∷ ls) (suc a) zero n m (inr (same, more)) = absurd (omega arith)
  further (l ∷ ls) (suc a) (suc b) n m h =
      let more : byte_len (up_to ls a n) ≤ byte_len (up_to ls b m) = further ls a b n m (lower h) in
      let one : byte_len ((l.body ++ (l.ending ++ text_of_lines (take a ls))) ++ fitting_prefix width n (line_body ls a)) ≡ byte_len (l.body ++ l.ending) + byte_len (up_to ls a n) =
      split l.body l.ending (text_of_lines (take a ls)) (fitting_prefix width n (line_body ls a)) in
      let other : byte_len ((l.body ++ (l.ending ++ text_of_lines (take b ls))) ++ fitting_prefix width m (line_body ls b)) ≡ byte_len (l.body ++ l.ending) + byte_len (up_to ls b m) =
      split l.body l.ending (text_of_lines (take b ls)) (fitting_prefix width m (line_body ls b)) in
      omega (arith, more, one, other)
    where
      lower : (suc a < suc b) ⊎ ((suc a ≡ suc b) × (n ≤ m)) → (a < b) ⊎ ((a ≡ b) × (n ≤ m))
      lower (inl less) = inl (omega arith)
      lower (inr (same, more)) = inr (omega (arith, same), more)

      split : (x y z w : List ℕ) → byte_len ((x ++ (y ++ z)) ++ w) ≡ byte_len (x ++ y) + byte_len (z ++ w)
      split x y z w =
          ap (λ v. byte_len (v ++ w)) (sym (append_assoc x y z)) ∙ ap byte_len (append_assoc (x ++ y) z w) ∙ len-append (x ++ y) (z ++ w)

  before_up_to : (text : List ℕ) (p : Position) → text_before width text p ≡ up_to (lines text) p.line p.character
  unfolding text_before up_to
  before_up_to text p = refl

  place_further : (text : List ℕ) (p q : Position) → IsAtOrBefore p q → offset_of width text p ≤ offset_of width text q
  place_further text p q h =
      let one : offset_of width text p ≡ byte_len (up_to (lines text) p.line p.character) = ap byte_len (before_up_to text p) in
      let other : offset_of width text q ≡ byte_len (up_to (lines text) q.line q.character) = ap byte_len (before_up_to text q) in
      let more : byte_len (up_to (lines text) p.line p.character) ≤ byte_len (up_to (lines text) q.line q.character) = further (lines text) p.line q.line p.character q.character h in
      omega (arith, one, other, more)

before_so : (p q : Position) → is_before p q ≡ true → IsAtOrBefore p q
before_so p q e = elim (cases_lt p.line q.line) [ inl less ↦ inl less | inr more ↦ inr (grind (arith, nat_tests), grind (arith, nat_tests)) ]

not_before_so : (p q : Position) → is_before q p ≡ false → IsAtOrBefore p q
not_before_so p q e = elim (cases_lt p.line q.line) [ inl less ↦ inl less | inr more ↦ inr (grind (arith, nat_tests), grind (arith, nat_tests)) ]

least_first : (a b : ℕ) → a ≤ b → min a b ≡ a
least_first a b h = omega arith

least_last : (a b : ℕ) → b ≤ a → min a b ≡ b
least_last a b h = omega arith

-- The offset for the code actions of a range is the offset of its first position.
pub place_of_range : (range : Range) (position : Position) → first_position range ≡ position → (unit : Unit) (text : List ℕ) → first_offset_in_range unit text range ≡ position_offset unit text position
place_of_range range position from unit text = go (is_before range.end range.start) refl ∙ ap (position_offset unit text) from
  where
    go : (b : Bool) → is_before range.end range.start ≡ b → min (position_offset unit text range.start) (position_offset unit text range.end) ≡ position_offset unit text (cond b range.end range.start)
    go true e = least_last (position_offset unit text range.start) (position_offset unit text range.end) (place_further (width_of unit) text range.end range.start (before_so range.end range.start e))
    go false e = least_first (position_offset unit text range.start) (position_offset unit text range.end) (place_further (width_of unit) text range.start range.end (not_before_so range.start range.end e))
