-- Proves that the text of a constant's value may replace any identifier.
use Rattle.std.proofs.Common.{◌≡◌, ℕ, suc, ◌+◌, ◌-◌, ◌*◌, ◌/◌, ◌%◌, length-append, ◌<◌, ◌≤◌, ◌^◌, Bool, true, false, List, [], ◌∷◌, ◌++◌, length, get_or, refl, sym, ap, ◌∙◌, arith, append-nil}
use Rattle.std.specs.Prelude.{codes, decimal, ℤ, pos, negsuc, nat_lt, if◌then◌else◌}
use Rattle.std.specs.List.{AllPass}
use Rattle.std.specs.Char.{is_ascii_alphanumeric, is_ascii_digit}
use Rattle.std.proofs.lemmas.Fmt.{decimal_by_steps}
use Rattle.std.proofs.lemmas.Bool.Decides.{nat_tests}
use Rattle.std.proofs.lemmas.Bool.{ltb-true}
use Rattle.ob0_scan.specs.declared.lexeme.ReservedWord.{ReservedWord}
use Rattle.ob0_scan.specs.declared.lexeme.ReservedWord.TheVariants as reserved
use Rattle.ob0_scan.specs.declared.lexeme.Symbol.TheVariants as symbol
use Rattle.ob0_scan.specs.declared.lexeme.TokenKind.TheVariants as token
use Rattle.ob0_scan.specs.declared.lexeme.LexemeKind.TheVariants as lexeme
use Rattle.ob0_scan.specs.LexemeClasses.{IsInteger, IsNonEmptySequenceOf, decimal_value, reserved_word_text, symbol_text, is_white_space}
use Rattle.ob0_edits_tokens.specs.Replacements.{MayReplaceIdentifier}
use Rattle.ob0_edits_tokens.specs.Written.{IsInt32, number_text, number_words, truth_text, truth_words, integer_word, symbol_word}
use Rattle.ob0_scan.proofs.Runs.{digit_or_letter}
use Rattle.std.proofs.lemmas.List.Sums.{fold-append, AllPass-from_list_all}
use Rattle.std.proofs.lemmas.List.Elements.{All-nil, All-cons, All-push}
use Rattle.ob0_edits_tokens.proofs.Names.{a_name, before_word, before_paren}

-- states that digits write a number
record Writes (n : ℕ) (ds : List ℕ) : Type 0 where
  some : 0 < length ds
  all : AllPass is_ascii_digit ds
  value : decimal_value ds ≡ n

one_digit : (n : ℕ) → n < 10 → Writes n ((48 + n) ∷ [])
one_digit n h =
    let digit : is_ascii_digit (48 + n) ≡ true = grind (arith, nat_tests) in
    record { some = omega arith; all = All-cons (λ b. is_ascii_digit b ≡ true) (48 + n) [] digit (All-nil (λ b. is_ascii_digit b ≡ true)); value = omega arith }

more_digits : (n : ℕ) (ds : List ℕ) → 10 ≤ n → Writes (n / 10) ds → Writes n (ds ++ ((48 + n % 10) ∷ []))
more_digits n ds h w =
    let small : n % 10 < 10 = omega arith in
    let digit : is_ascii_digit (48 + n % 10) ≡ true = grind (arith, nat_tests) in
    let long = length-append ds ((48 + n % 10) ∷ []) in
    record {
      some = omega (arith, long, w.some);
      all = All-push (λ b. is_ascii_digit b ≡ true) ds (48 + n % 10) w.all digit;
      value = fold-append (λ m d. 10 * m + (d - 48)) 0 ds ((48 + n % 10) ∷ []) ∙ omega (arith, w.value);
    }

writes : (n : ℕ) → n < 2 ^ 64 → Writes n (decimal n)
writes n h = decimal_by_steps Writes one_digit more_digits n h

digits_lexeme : (n : ℕ) → n ≤ 2147483647 → IsInteger n (decimal n)
digits_lexeme n h =
    let w = writes n (omega arith) in
    record { digits = record { nonempty = w.some; all = w.all }; value_of_digits = sym w.value; fits = h }

-- A number that isn't negative may replace any identifier.
pub a_number : (n : ℕ) → n ≤ 2147483647 → MayReplaceIdentifier (decimal n) (integer_word n ∷ [])
a_number n h =
    let w = writes n (omega arith) in
    record {
      lexemes = record { kind = lexeme.Token (token.Integer n); text = decimal n } ∷ [];
      whole = append-nil (decimal n);
      read = refl;
      some = w.some;
      front = before_word (get_or (decimal n) 0 0) (digit_or_letter (get_or (decimal n) 0 0) (w.all 0 0 w.some));
      apart = λ byte e. (record { belongs = digits_lexeme n h; ends = e }, tt);
    }

-- A negative number in parentheses may replace any identifier.
pub a_negative : (n : ℕ) → suc n ≤ 2147483647
    → MayReplaceIdentifier (codes "(-" ++ (decimal (suc n) ++ codes ")")) (symbol_word symbol.LeftParen ∷ symbol_word symbol.Minus ∷ integer_word (suc n) ∷ symbol_word symbol.RightParen ∷ [])
a_negative n h = record {
  lexemes = record { kind = lexeme.Token (token.Symbol symbol.LeftParen); text = symbol_text symbol.LeftParen }
      ∷ record { kind = lexeme.Token (token.Symbol symbol.Minus); text = symbol_text symbol.Minus }
      ∷ record { kind = lexeme.Token (token.Integer (suc n)); text = decimal (suc n) }
      ∷ record { kind = lexeme.Token (token.Symbol symbol.RightParen); text = symbol_text symbol.RightParen } ∷ [];
  whole = refl;
  read = refl;
  some = omega arith;
  front = λ kind letter l e. before_paren kind;
  apart = λ byte e. (record { belongs = refl; ends = refl }, (record { belongs = refl; ends = refl }, (record { belongs = digits_lexeme (suc n) h; ends = refl }, (record { belongs = refl; ends = refl }, tt))));
}

-- The least number, written as a difference, may replace any identifier.
pub the_least : MayReplaceIdentifier (codes "(-2147483647 - 1)") (symbol_word symbol.LeftParen ∷ symbol_word symbol.Minus ∷ record { kind = token.Integer 2147483647; text = codes "2147483647" } ∷ symbol_word symbol.Minus ∷ record { kind = token.Integer 1; text = codes "1" } ∷ symbol_word symbol.RightParen ∷ [])
the_least = record {
  lexemes = record { kind = lexeme.Token (token.Symbol symbol.LeftParen); text = symbol_text symbol.LeftParen }
      ∷ record { kind = lexeme.Token (token.Symbol symbol.Minus); text = symbol_text symbol.Minus }
      ∷ record { kind = lexeme.Token (token.Integer 2147483647); text = codes "2147483647" }
      ∷ record { kind = lexeme.WhiteSpace; text = 32 ∷ [] }
      ∷ record { kind = lexeme.Token (token.Symbol symbol.Minus); text = symbol_text symbol.Minus }
      ∷ record { kind = lexeme.WhiteSpace; text = 32 ∷ [] }
      ∷ record { kind = lexeme.Token (token.Integer 1); text = codes "1" }
      ∷ record { kind = lexeme.Token (token.Symbol symbol.RightParen); text = symbol_text symbol.RightParen } ∷ [];
  whole = refl;
  read = refl;
  some = omega arith;
  front = λ kind letter l e. before_paren kind;
  apart = λ byte e. (record { belongs = refl; ends = refl }, (record { belongs = refl; ends = refl }, (record { belongs = most; ends = refl }, (record { belongs = one_space; ends = refl }, (record { belongs = refl; ends = refl }, (record { belongs = one_space; ends = refl }, (record { belongs = unit; ends = refl }, (record { belongs = refl; ends = refl }, tt))))))));
}
  where
    one_space : IsNonEmptySequenceOf is_white_space (32 ∷ [])
    one_space = record { nonempty = omega arith; all = All-cons (λ b. is_white_space b ≡ true) 32 [] refl (All-nil (λ b. is_white_space b ≡ true)) }

    most : IsInteger 2147483647 (codes "2147483647")
    most = record { digits = record { nonempty = omega arith; all = AllPass-from_list_all is_ascii_digit (codes "2147483647") refl }; value_of_digits = refl; fits = omega arith }

    unit : IsInteger 1 (codes "1")
    unit = record { digits = record { nonempty = omega arith; all = AllPass-from_list_all is_ascii_digit (codes "1") refl }; value_of_digits = refl; fits = omega arith }

-- Any 32-bit number may replace any identifier.
pub a_value : (z : ℤ) → IsInt32 z → MayReplaceIdentifier (number_text z) (number_words z)
a_value (pos n) h = a_number n h
a_value (negsuc n) h = by_test (nat_lt n 2147483647) refl
  where
    by_test : (b : Bool) → nat_lt n 2147483647 ≡ b
        → MayReplaceIdentifier (if b then codes "(-" ++ (decimal (suc n) ++ codes ")") else codes "(-2147483647 - 1)")
        (if b then symbol_word symbol.LeftParen ∷ symbol_word symbol.Minus ∷ integer_word (suc n) ∷ symbol_word symbol.RightParen ∷ []
        else symbol_word symbol.LeftParen ∷ symbol_word symbol.Minus ∷ record { kind = token.Integer 2147483647; text = codes "2147483647" } ∷ symbol_word symbol.Minus ∷ record { kind = token.Integer 1; text = codes "1" } ∷ symbol_word symbol.RightParen ∷ [])
    by_test true e = a_negative n (ltb-true n 2147483647 e)
    by_test false e = the_least

true_free : (word : ReservedWord) → codes "TRUE" ≡ reserved_word_text word → ⊥
true_free reserved.Type e = omega (arith, ap (λ t. get_or t 1 0) e)
true_free reserved.Then e = omega (arith, ap (λ t. get_or t 1 0) e)
true_free reserved.Else e = omega (arith, ap (λ t. get_or t 0 0) e)
true_free _ e = omega (arith, ap length e)

false_free : (word : ReservedWord) → codes "FALSE" ≡ reserved_word_text word → ⊥
false_free reserved.Begin e = omega (arith, ap (λ t. get_or t 0 0) e)
false_free reserved.Const e = omega (arith, ap (λ t. get_or t 0 0) e)
false_free reserved.Elsif e = omega (arith, ap (λ t. get_or t 0 0) e)
false_free reserved.While e = omega (arith, ap (λ t. get_or t 0 0) e)
false_free reserved.Array e = omega (arith, ap (λ t. get_or t 0 0) e)
false_free reserved.Until e = omega (arith, ap (λ t. get_or t 0 0) e)
false_free _ e = omega (arith, ap length e)

-- TRUE and FALSE may replace any identifier.
pub a_truth : (b : Bool) → MayReplaceIdentifier (truth_text b) (truth_words b)
a_truth true = a_name (codes "TRUE") (record { word = record { letter = refl; all = AllPass-from_list_all is_ascii_alphanumeric (codes "TRUE") refl }; differs_from_reserved = true_free })
a_truth false = a_name (codes "FALSE") (record { word = record { letter = refl; all = AllPass-from_list_all is_ascii_alphanumeric (codes "FALSE") refl }; differs_from_reserved = false_free })
