-- Proves that the text of a scalar value is UTF-8 and short, so that it is a string of the code, and that it may
-- replace any identifier.
use Rattle.std.specs.Prelude.{codes, decimal, negsuc}
use Rattle.std.proofs.Common.{◌≡◌, ℕ, zero, suc, ℤ, pos, ◌++◌, ◌≤◌, true, false, if◌then◌else◌, nat_lt, List, [], ◌∷◌, length, refl, length-append, arith}
use Rattle.std.specs.List.{list_all}
use Rattle.std.specs.Str.{IsAscii, IsUtf8}
use Rattle.std.proofs.lemmas.Bool.{and_parts, ltb-true}
use Rattle.std.proofs.lemmas.Fmt.{IsAscii-decimal, length-decimal-le}
use Rattle.std.proofs.lemmas.Str.{IsAscii-append, IsUtf8-from_ascii}
use Rattle.ob0_edits_tokens.specs.Replacements.{MayReplaceIdentifier}
use Rattle.ob0_edits_tokens.specs.Written.{IsInt32, number_text}
use Rattle.ob0_edits_tokens.proofs.Values.{a_truth, a_value}
use Rattle.ob0_language_types.specs.EditLaws.{Is32BitScalar}
use Rattle.ob0_language_values.specs.declared.scalar.Scalar.{Scalar}
use Rattle.ob0_language_values.specs.declared.scalar.Scalar.TheVariants as scalar
use Rattle.ob0_language_values.specs.Scalars.{scalar_value}
use Rattle.ob0_language_values.specs.Values.{fits_in_32_bits}
use Rattle.ob0_inline.specs.Values.{value_text, value_words}

-- states that the text of a value is a string of the code and may replace any identifier
pub record IsWritable (v : Scalar) : Type 0 where
  pub utf8 : IsUtf8 (value_text v)
  pub short : length (value_text v) ≤ 1048576
  pub replaces : MayReplaceIdentifier (value_text v) (value_words v)

ascii_of : (bytes : List ℕ) → list_all (λ b. nat_lt b 128) bytes ≡ true → IsAscii bytes
ascii_of [] h i = omega (arith)
ascii_of (b ∷ bs) h zero = ltb-true b 128 (and_parts (nat_lt b 128) (list_all (λ b. nat_lt b 128) bs) h).0
ascii_of (b ∷ bs) h (suc i) = ascii_of bs (and_parts (nat_lt b 128) (list_all (λ b. nat_lt b 128) bs) h).1 i

int32 : (n : ℤ) → fits_in_32_bits n ≡ true → IsInt32 n
int32 (pos n) h = let low = ltb-true n 2147483648 h in omega (arith, low)
int32 (negsuc n) h = let low = ltb-true n 2147483648 h in omega (arith, low)

negative_ascii : (n : ℕ) → n ≤ 2147483647 → IsAscii (codes "(-" ++ (decimal (suc n) ++ codes ")"))
negative_ascii n h =
    IsAscii-append (codes "(-") (decimal (suc n) ++ codes ")") (ascii_of (codes "(-") refl)
    (IsAscii-append (decimal (suc n)) (codes ")") (IsAscii-decimal (suc n) (omega (arith, h))) (ascii_of (codes ")") refl))

number_ascii : (n : ℤ) → IsInt32 n → IsAscii (number_text n)
number_ascii (pos n) h = IsAscii-decimal n (omega (arith, h))
number_ascii (negsuc n) h =
    elim (nat_lt n 2147483647) as (λ b. IsAscii (if b then codes "(-" ++ (decimal (suc n) ++ codes ")") else codes "(-2147483647 - 1)"))
    [ true ↦ negative_ascii n h | false ↦ ascii_of (codes "(-2147483647 - 1)") refl ]

digits_short : (n : ℕ) → n ≤ 2147483648 → length (decimal n) ≤ 10
digits_short n h = length-decimal-le 10 n (omega arith) (omega (arith, h)) (omega (arith, h))

negative_short : (n : ℕ) → n ≤ 2147483647 → length (codes "(-" ++ (decimal (suc n) ++ codes ")")) ≤ 1048576
negative_short n h = let d = digits_short (suc n) (omega (arith, h)) in omega (arith, d, length-append (decimal (suc n)) (codes ")"))

number_short : (n : ℤ) → IsInt32 n → length (number_text n) ≤ 1048576
number_short (pos n) h = let d = digits_short n (omega (arith, h)) in omega (arith, d)
number_short (negsuc n) h =
    elim (nat_lt n 2147483647) as (λ b. length (if b then codes "(-" ++ (decimal (suc n) ++ codes ")") else codes "(-2147483647 - 1)") ≤ 1048576)
    [ true ↦ negative_short n h | false ↦ omega arith ]

pub writable : (v : Scalar) → Is32BitScalar (scalar_value v) → IsWritable v
writable (scalar.Number n) h =
    let small = int32 n h in record { utf8 = IsUtf8-from_ascii (number_text n) (number_ascii n small); short = number_short n small; replaces = a_value n small }
writable (scalar.Truth true) h = record { utf8 = IsUtf8-from_ascii (codes "TRUE") (ascii_of (codes "TRUE") refl); short = omega arith; replaces = a_truth true }
writable (scalar.Truth false) h = record { utf8 = IsUtf8-from_ascii (codes "FALSE") (ascii_of (codes "FALSE") refl); short = omega arith; replaces = a_truth false }
