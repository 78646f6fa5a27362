-- Proves the invariant of the loop that reads numbers: the numbers read so far, followed by the
-- numbers of the rest, are the numbers of the text. If the text is a list of numbers, the rest is
-- also one.
use Rattle.std.proofs.Common.{◌≡◌, ◌∙◌, ℕ, ◌+◌, ◌-◌, ◌<◌, ◌≤◌, suc, Bool, true, false, List, [], ◌∷◌, ◌++◌, ℤ, length, drop, take, refl, sym, ap, subst, append_assoc, append-nil, arith, IsTrue, slice_index}
use Rattle.std.specs.List.{position_or_len, slice_range}
use Rattle.std.proofs.Math.Seq.{drop-cons}
use Rattle.std.proofs.lemmas.List.{drop_all, drop-drop, length-drop, take_all}
use Rattle.std.proofs.lemmas.List.Folds.{drop_split}
use Rattle.ob0_commands.proofs.Words.{Begins, after_space, first_word}
use Rattle.ob0_commands.specs.InputNumbers.{MayFollowWord, IsListOfNumbers, SpellsNumber, SpellsNumberList, nothing, number, space}
use Rattle.ob0_scan.specs.LexemeClasses.{is_white_space}

pub record Gathered (text : List ℕ) (at : ℕ) (ns : List ℤ) : Type 0 where
  pub within : at ≤ length text
  pub goes_on : (more : List ℤ) → SpellsNumberList (drop at text) more → SpellsNumberList text (ns ++ more)
  pub left : IsListOfNumbers text → IsListOfNumbers (drop at text)

pub nothing_gathered : (text : List ℕ) → Gathered text 0 []
nothing_gathered text = record { within = omega arith; goes_on = λ more h. h; left = λ all. all }

pub space_passed : (text : List ℕ) (at : ℕ) (ns : List ℤ) → at < length text → IsTrue (is_white_space (slice_index text at)) → Gathered text at ns → Gathered text (at + 1) ns
space_passed text at ns inside is g =
    let next : at + 1 ≡ suc at = omega arith in
    record {
      within = omega (arith, inside);
      goes_on = λ more h. g.goes_on more (subst (λ t. SpellsNumberList t more) (sym (drop-cons text at 0 inside)) (space is (subst (λ n. SpellsNumberList (drop n text) more) next h)));
      left = λ all.
          let here = g.left all in
          subst (λ n. IsListOfNumbers (drop n text)) (sym next)
          (after_space (drop at text) here.0 here.1 (slice_index text at) (drop (suc at) text) (drop-cons text at 0 inside) is);
    }

-- The rest after the first word is empty or begins with white space.
pub ends_before : (text : List ℕ) → MayFollowWord (drop (position_or_len is_white_space text) text)
ends_before [] = tt
ends_before (b ∷ text) = go (is_white_space b) refl (ends_before text)
  where
    go : (s : Bool) → is_white_space b ≡ s → MayFollowWord (drop (position_or_len is_white_space text) text) → MayFollowWord (drop (position_or_len is_white_space (b ∷ text)) (b ∷ text))
    go true e more =
        let none : position_or_len is_white_space (b ∷ text) ≡ 0 = rw e refl in
        let is : MayFollowWord (b ∷ text) = e in
        subst (λ n. MayFollowWord (drop n (b ∷ text))) (sym none) is
    go false e more =
        let counted : position_or_len is_white_space (b ∷ text) ≡ 1 + position_or_len is_white_space text = rw e refl in
        let further : position_or_len is_white_space (b ∷ text) ≡ suc (position_or_len is_white_space text) = counted ∙ omega arith in
        subst (λ n. MayFollowWord (drop n (b ∷ text))) (sym further) more

-- The end that the code computes for the word at a place is the first white space after that place.
word_end : (text : List ℕ) (at end : ℕ) → end ≡ at + position_or_len is_white_space (take (length text - at) (drop at text)) → end ≡ at + position_or_len is_white_space (drop at text)
word_end text at end is =
    let all : take (length text - at) (drop at text) ≡ drop at text = take_all (length text - at) (drop at text) (omega (arith, length-drop at text)) in
    is ∙ ap (λ t. at + position_or_len is_white_space t) all

-- If the text is a list of numbers, the word at a place that isn't a space spells a number. A list of numbers follows
-- it.
word_here : (text : List ℕ) (at : ℕ) (ns : List ℤ) → at < length text → is_white_space (slice_index text at) ≡ false → Gathered text at ns → IsListOfNumbers text → Begins (drop at text)
word_here text at ns inside apart g all =
    let here = g.left all in
    let first : slice_index (drop at text) 0 ≡ slice_index text at = ap (λ t. slice_index t 0) (drop-cons text at 0 inside) in
    first_word (drop at text) here.0 here.1 (omega (arith, length-drop at text, inside)) (ap is_white_space first ∙ apart)

-- If the word at a place isn't a number, the text isn't a list of numbers.
pub word_refused : (text : List ℕ) (at end : ℕ) (ns : List ℤ) → at < length text → is_white_space (slice_index text at) ≡ false → end ≡ at + position_or_len is_white_space (take (length text - at) (drop at text))
    → ¬ ((n : ℤ) × SpellsNumber (slice_range text at end) n) → Gathered text at ns → ¬ IsListOfNumbers text
word_refused text at end ns inside apart is none g = λ all.
    let word = word_here text at ns inside apart g all in
    let size : position_or_len is_white_space (drop at text) ≡ end - at = omega (arith, word_end text at end is) in
    none (word.n, subst (λ k. SpellsNumber (take k (drop at text)) word.n) size word.word)

pub word_gathered : (text : List ℕ) (at end : ℕ) (ns : List ℤ) (n : ℤ) → at < length text → is_white_space (slice_index text at) ≡ false → at ≤ end → end ≤ length text → end ≡ at + position_or_len is_white_space (take (length text - at) (drop at text))
    → SpellsNumber (slice_range text at end) n → Gathered text at ns → Gathered text end (ns ++ n ∷ [])
word_gathered text at end ns n begins apart forth inside is word g =
    let len = word_end text at end is in
    let ends : MayFollowWord (drop end text) = subst MayFollowWord (drop-drop (position_or_len is_white_space (drop at text)) at text ∙ ap (λ i. drop i text) (sym len)) (ends_before (drop at text)) in
    record {
      within = inside;
      goes_on = λ more h. subst (SpellsNumberList text) (sym (append_assoc ns (n ∷ []) more)) (g.goes_on (n ∷ more)
          (number (slice_range text at end) (drop end text) n (drop_split text at end forth) word ends h));
      left = λ all.
          let rest = (word_here text at ns begins apart g all).rest in
          subst IsListOfNumbers (drop-drop (position_or_len is_white_space (drop at text)) at text ∙ ap (λ i. drop i text) (sym len)) rest;
    }

pub all_gathered : (text : List ℕ) (at : ℕ) (ns : List ℤ) → length text ≤ at → Gathered text at ns → SpellsNumberList text ns
all_gathered text at ns end g =
    subst (SpellsNumberList text) (append-nil ns) (g.goes_on [] (subst (λ t. SpellsNumberList t []) (sym (drop_all at text end)) nothing))
