-- Defines which numbers the input of `run` spells. Texts and words are lists of bytes.
-- Rule: docs/PROTOCOL.md, The program 2 and 6.
use Rattle.std.specs.Prelude.{◌≡◌, ◌≢◌, ◌≤◌, ◌⊎◌, ℕ, ℤ, List, [], ◌∷◌, ◌++◌, Bool, true, Option, IfSome, IsTrue, ⊤, length, slice_index}
use Rattle.std.specs.Str.Parse.{IsNumeral, signed_digits_value, without_leading_sign}
use Rattle.ob0_run_machine.specs.Evaluation.{fits_in_32_bits}
use Rattle.ob0_scan.specs.LexemeClasses.{is_white_space}

-- States that the word spells this 32-bit number: one or more decimal digits, optionally after a
-- `-`.
pub record SpellsNumber (word : List ℕ) (n : ℤ) : Type 0 where
  pub no_plus : slice_index word 0 ≢ 43
  pub digits : IsNumeral 10 (without_leading_sign word)
  pub value : n ≡ signed_digits_value 10 word
  pub fits_in_32_bits : fits_in_32_bits n ≡ true

-- States that this text may directly follow a word: it is empty or begins with white space.
abbrev pub MayFollowWord : List ℕ → Type 0
MayFollowWord [] = ⊤
MayFollowWord (b ∷ bs) = IsTrue (is_white_space b)

-- States that the text spells these numbers, in order. Each word of the text spells one number.
-- Words are separated by white space: space, tab, CR or LF.
pub data SpellsNumberList : List ℕ → List ℤ → Type 0 where
  nothing : SpellsNumberList [] []
  space : {b : ℕ} {text : List ℕ} {ns : List ℤ}
      → IsTrue (is_white_space b)
      → SpellsNumberList text ns
      → SpellsNumberList (b ∷ text) ns
  number : {text : List ℕ} {ns : List ℤ} (word after : List ℕ) (n : ℤ)
      → text ≡ word ++ after
      → SpellsNumber word n
      → MayFollowWord after → SpellsNumberList after ns → SpellsNumberList text (n ∷ ns)

-- States that the text spells a list of numbers.
abbrev pub IsListOfNumbers : List ℕ → Type 0
IsListOfNumbers text = (ns : List ℤ) × SpellsNumberList text ns

-- The greatest length in bytes of the input of `run`.
abbrev pub max_input_bytes : ℕ
max_input_bytes = 16777216

-- States that the text spells the numbers `ns`, and that it has at most 16,777,216 bytes
-- (`max_input_bytes`).
pub record IsValidInputTextOfNumbers (ns : List ℤ) (text : List ℕ) : Type 0 where
  pub short : length text ≤ max_input_bytes
  pub writes : SpellsNumberList text ns

-- States that the text isn't a valid input: it is too long, or isn't a list of numbers.
abbrev pub IsInvalidInput : List ℕ → Type 0
IsInvalidInput text = ¬ ((ns : List ℤ) × IsValidInputTextOfNumbers ns text)

-- States that the input of `run` can't be used: its reader has failed (`failed`), or its bytes
-- (`given`) aren't a valid input. If the bytes aren't known (None), only a failed reader makes the
-- input unusable.
abbrev pub IsUnusableInput : Option (List ℕ) → Bool → Type 0
IsUnusableInput given failed = (failed ≡ true) ⊎ IfSome given IsInvalidInput
