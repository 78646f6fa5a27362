-- Proves that the UTF-8 bytes of characters determine how many units the characters have, and
-- whether one of the characters is LF or CR.
use Rattle.std.proofs.Common.{◌≡◌, ℕ, ◌+◌, ◌<◌, Bool, true, false, ◌||◌, List, [], ◌∷◌, ◌++◌, length, refl, sym, ap, ◌∙◌, subst, arith, length-append}
use Rattle.std.specs.Prelude.{◌==◌, encode_utf8_all, sum_by}
use Rattle.std.specs.List.{All}
use Rattle.std.specs.Str.{IsUtf8, chars}
use Rattle.std.specs.Char.{encode_utf8, len_utf8}
use Rattle.std.proofs.lemmas.Bool.Decides.{nat_tests}
use Rattle.std.proofs.lemmas.List.Sums.{sum_by-append, sum_by-cons}
use Rattle.std.proofs.lemmas.List.Elements.{All-nil, All-cons, All-head, All-drop}
use Rattle.std.proofs.Math.Seq.{drop-append_seam}
use Rattle.std.proofs.lemmas.Str.{encode_ascii, encodes-chars, length-encode}
use Rattle.ob0_text.specs.Texts.{LF, CR, utf16_width, byte_len}
use Rattle.ob0_text.specs.Stretches.{IsNotLineBreak, utf16_units_at_byte, AreInOneLineWithUnits}

-- The units counted at the bytes of a character are its UTF-16 units.
units_of_char : (c : ℕ) → sum_by utf16_units_at_byte (encode_utf8 c) ≡ utf16_width c
unfolding encode_utf8
units_of_char c = grind (arith, nat_tests)

pub units_of_chars : (cs : List ℕ) → sum_by utf16_units_at_byte (encode_utf8_all cs) ≡ sum_by utf16_width cs
units_of_chars [] = refl
units_of_chars (c ∷ cs) =
    sum_by-append utf16_units_at_byte (encode_utf8 c) (encode_utf8_all cs) ∙ (λ i. units_of_char c i + units_of_chars cs i) ∙ sym (sum_by-cons utf16_width c cs)

pub bytes_of_chars : (cs : List ℕ) → byte_len cs ≡ sum_by len_utf8 cs
bytes_of_chars [] = refl
bytes_of_chars (c ∷ cs) =
    length-append (encode_utf8 c) (encode_utf8_all cs) ∙ (λ i. length-encode c i + bytes_of_chars cs i) ∙ sym (sum_by-cons len_utf8 c cs)

-- If no byte of a character ends a line, the character doesn't end one either.
char_of_line : (c : ℕ) (bs : List ℕ) → All IsNotLineBreak (encode_utf8 c ++ bs) → IsNotLineBreak c
char_of_line c bs h = by_end (c == LF || c == CR) refl
  where
    by_end : (b : Bool) → (c == LF || c == CR) ≡ b → IsNotLineBreak c
    by_end true e =
        let low : c < 128 = grind (arith, nat_tests) in
        All-head IsNotLineBreak c bs (subst (λ t. All IsNotLineBreak (t ++ bs)) (encode_ascii c low) h)
    by_end false e = e

pub chars_of_line : (cs : List ℕ) → All IsNotLineBreak (encode_utf8_all cs) → All IsNotLineBreak cs
chars_of_line [] h = All-nil IsNotLineBreak
chars_of_line (c ∷ cs) h =
    All-cons IsNotLineBreak c cs (char_of_line c (encode_utf8_all cs) h)
    (chars_of_line cs (subst (All IsNotLineBreak) (drop-append_seam (encode_utf8 c) (encode_utf8_all cs)) (All-drop IsNotLineBreak (length (encode_utf8 c)) (encode_utf8 c ++ encode_utf8_all cs) h)))

module _ (bs : List ℕ) (u : IsUtf8 bs) (h : All IsNotLineBreak bs) where
  no_line_break : All IsNotLineBreak (chars bs)
  no_line_break = chars_of_line (chars bs) (subst (All IsNotLineBreak) (sym (encodes-chars bs u)) h)

  pub counted_in_utf16 : AreInOneLineWithUnits utf16_width (chars bs) (sum_by utf16_units_at_byte bs)
  counted_in_utf16 = record {
    no_line_break = no_line_break;
    width_sum = sym (units_of_chars (chars bs)) ∙ ap (sum_by utf16_units_at_byte) (encodes-chars bs u);
  }

  pub counted_in_bytes : AreInOneLineWithUnits len_utf8 (chars bs) (length bs)
  counted_in_bytes = record {
    no_line_break = no_line_break;
    width_sum = sym (bytes_of_chars (chars bs)) ∙ ap length (encodes-chars bs u);
  }
