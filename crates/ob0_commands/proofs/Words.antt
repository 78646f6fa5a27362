-- Proves that a word that spells a number ends at the first white space after it: it is all the
-- bytes before that white space.
use Rattle.std.proofs.Common.{◌≡◌, ◌∙◌, ℕ, ℤ, ◌+◌, ◌<◌, ◌≤◌, ◌==◌, zero, suc, Bool, true, false, List, [], ◌∷◌, ◌++◌, length, drop, take, refl, sym, ap, subst, arith, slice_index}
use Rattle.std.proofs.Math.Seq.{drop-append_seam, take-append_seam}
use Rattle.std.proofs.lemmas.Bool.Decides.{nat_tests}
use Rattle.std.proofs.lemmas.Str.Parse.{digit_from_value}
use Rattle.std.specs.Bool.{⊤}
use Rattle.std.specs.List.{position_or_len}
use Rattle.std.specs.Str.Parse.{AllDigits, IsNumeral}
use Rattle.ob0_commands.specs.InputNumbers.{MayFollowWord, IsListOfNumbers, SpellsNumber, SpellsNumberList, nothing, number, space}
use Rattle.ob0_scan.specs.LexemeClasses.{is_white_space}

-- Holds if each byte is from `-` to `9`.
abbrev pub IsOfSignsAndDigits : List ℕ → Type 0
IsOfSignsAndDigits [] = ⊤
IsOfSignsAndDigits (c ∷ cs) = (45 ≤ c) × (c ≤ 57) × IsOfSignsAndDigits cs

of_digits : (ds : List ℕ) → AllDigits 10 ds → IsOfSignsAndDigits ds
of_digits [] h = tt
of_digits (c ∷ cs) h = let r = digit_from_value c h.0 in (omega (arith, r.0), r.1, of_digits cs h.1)

pub is_plain : (word : List ℕ) (n : ℤ) → SpellsNumber word n → IsOfSignsAndDigits word
is_plain [] n w = tt
is_plain (c ∷ cs) n w = by (c == 45) refl
  where
    by : (t : Bool) → (c == 45) ≡ t → IsOfSignsAndDigits (c ∷ cs)
    by true e =
        let c_is : c ≡ 45 = grind (arith, nat_tests) in
        let rest : IsNumeral 10 cs = rw e at w.digits in
        (omega (arith, c_is), omega (arith, c_is), of_digits cs rest.1)
    by false e =
        let no : (c == 43) ≡ false = let p = w.no_plus in grind (arith, nat_tests) in
        let all : IsNumeral 10 (c ∷ cs) = rw no at (rw e at w.digits) in
        of_digits (c ∷ cs) all.1

pub has_bytes : (word : List ℕ) (n : ℤ) → SpellsNumber word n → 0 < length word
has_bytes [] n w = absurd (omega (arith, w.digits.0))
has_bytes (c ∷ cs) n w = omega arith

not_space : (c : ℕ) → 45 ≤ c → is_white_space c ≡ false
not_space c h = grind (arith, nat_tests)

no_space_first : (c : ℕ) (cs : List ℕ) → is_white_space c ≡ true → ¬ IsOfSignsAndDigits (c ∷ cs)
no_space_first c cs is h = let no = not_space c h.0 in absurd (cc)

first_is : (word after : List ℕ) → IsOfSignsAndDigits word → MayFollowWord after → position_or_len is_white_space (word ++ after) ≡ length word
first_is [] [] h e = refl
first_is [] (b ∷ bs) h e = rw e refl
first_is (c ∷ cs) after h e =
    let no = not_space c h.0 in
    let counted : position_or_len is_white_space (c ∷ (cs ++ after)) ≡ 1 + position_or_len is_white_space (cs ++ after) = rw no refl in
    counted ∙ ap (λ k. 1 + k) (first_is cs after h.2 e) ∙ omega arith

-- If a list of numbers begins with a space, the text after the space is a list of numbers.
pub after_space : (text : List ℕ) (ns : List ℤ) → SpellsNumberList text ns → (b : ℕ) (rest : List ℕ) → text ≡ b ∷ rest → is_white_space b ≡ true → IsListOfNumbers rest
after_space text ns nothing b rest e is = absurd (cc)
after_space text ns (space {text = more} {ns = ms} s h) b rest e is =
    let same : more ≡ rest = ap (drop 1) e in
    (ms, subst (λ t. SpellsNumberList t ms) same h)
after_space text ns (number [] after n cut w ends h) b rest e is = absurd (omega (arith, has_bytes [] n w))
after_space text ns (number (c ∷ cs) after n cut w ends h) b rest e is =
    let first : b ≡ c = ap (λ t. slice_index t 0) (sym e ∙ cut) in
    absurd (no_space_first c cs (ap is_white_space (sym first) ∙ is) (is_plain (c ∷ cs) n w))

-- Holds if the bytes before the first white space spell a number, and the rest is a list of numbers.
pub record Begins (text : List ℕ) : Type 0 where
  pub n : ℤ
  pub word : SpellsNumber (take (position_or_len is_white_space text) text) n
  pub rest : IsListOfNumbers (drop (position_or_len is_white_space text) text)

pub first_word : (text : List ℕ) (ns : List ℤ) → SpellsNumberList text ns → 0 < length text → is_white_space (slice_index text 0) ≡ false → Begins text
first_word text ns nothing some apart = absurd (omega (arith, some))
first_word text ns (space s h) some apart = absurd (cc)
first_word text ns (number {ns = ms} word after n cut w ends h) some apart =
    let k : position_or_len is_white_space text ≡ length word = ap (position_or_len is_white_space) cut ∙ first_is word after (is_plain word n w) ends in
    let front : take (position_or_len is_white_space text) text ≡ word = ap (λ i. take i text) k ∙ ap (take (length word)) cut ∙ take-append_seam word after in
    let left : drop (position_or_len is_white_space text) text ≡ after = ap (λ i. drop i text) k ∙ ap (drop (length word)) cut ∙ drop-append_seam word after in
    record {
      n = n;
      word = subst (λ t. SpellsNumber t n) (sym front) w;
      rest = (ms, subst (λ t. SpellsNumberList t ms) (sym left) h);
    }

ascii : (word : List ℕ) → IsOfSignsAndDigits word → (i : ℕ) → slice_index word i < 128
ascii [] h zero = omega arith
ascii [] h (suc i) = omega arith
ascii (c ∷ cs) h zero = omega (arith, h.1)
ascii (c ∷ cs) h (suc i) = ascii cs h.2 i

pub is_ascii : (word : List ℕ) (n : ℤ) → SpellsNumber word n → (i : ℕ) → slice_index word i < 128
is_ascii word n w = ascii word (is_plain word n w)
