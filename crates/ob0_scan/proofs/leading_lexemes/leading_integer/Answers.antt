use Rattle.std.proofs.Common.{◌≡◌, ◌∙◌, ◌≤◌, sym, ap, ap₂, subst, get_or, take, length, arith, true, false}
use Rattle.std.specs.List.{prefix_len, AllPass}
use Rattle.std.specs.Char.{is_ascii_alphabetic, is_ascii_alphanumeric, is_ascii_digit}
use Rattle.ob0_scan.specs.declared.lexeme.LexemeKind.TheVariants as lexeme
use Rattle.ob0_scan.specs.declared.lexeme.TokenKind.TheVariants as token
use Rattle.ob0_scan.specs.LexemeClasses.{decimal_value}
use Rattle.ob0_scan.specs.LeadingLexemes.{StartsWithLexeme}
use Rattle.ob0_scan.specs.LeadingLexemeOrFault.{StartsWithFault}
use Rattle.ob0_scan.specs.Faults.{letter_follows_digits}
use Rattle.ob0_scan.specs.declared.fault.FaultCode.TheVariants as code
use Rattle.ob0_scan.proofs.Runs.{run_passes, digit_longer}
use Rattle.ob0_scan.proofs.Numbers.{integer_first, joined_fault, large_fault, no_letter_past}
use Rattle.ob0_scan.proofs.leading_lexemes.leading_integer.Goals as goal
use Rattle.ob0_scan.proofs.leading_lexemes.leading_integer.Goals.{After-integer_value, else-len-bytes-via-then-len-bytes+else-is_ascii_alphabetic, else-len-bytes-via-else-len-bytes}

-- If a letter follows the digits, the result is the fault `NumberJoinsLetter`.
pub returns-then-is_ascii_alphabetic : goal.returns-then-is_ascii_alphabetic
returns-then-is_ascii_alphabetic c =
    let text = c.args.text.now in
    let same = c.as_bytes-bytes.ensures.value in
    let len = c.leading_digits_len-len.ensures ∙ ap (prefix_len is_ascii_digit) same in
    let word = c.leading_alphanumeric_len.ensures ∙ ap (prefix_len is_ascii_alphanumeric) same in
    let letter : is_ascii_alphabetic (get_or text (prefix_len is_ascii_digit text) 0) ≡ true =
    ap is_ascii_alphabetic (ap₂ (λ t n. get_or t n 0) (sym same) (sym len)) ∙ sym c.if-is_ascii_alphabetic.ensures.value in
    subst (StartsWithFault text code.NumberJoinsLetter) (sym word) (joined_fault text c.utf8.text c.requires letter)

pub integer_value-requires : goal.integer_value-requires
integer_value-requires c =
    let bytes = c.as_bytes-bytes.result.now in
    subst (λ n. AllPass is_ascii_digit (take n bytes)) (sym c.leading_digits_len-len.ensures) (run_passes is_ascii_digit bytes (prefix_len is_ascii_digit bytes) (omega arith))

-- In the branch without a letter after the digits, no letter follows them.
no_letter : (c : After-integer_value) → letter_follows_digits c.args.text.now ≡ false
no_letter c =
    let text = c.args.text.now in
    let same = c.as_bytes-bytes.ensures.value in
    let len = c.leading_digits_len-len.ensures ∙ ap (prefix_len is_ascii_digit) same in
    let byte : get_or c.as_bytes-bytes.result.now c.leading_digits_len-len.result 0 ≡ get_or text (prefix_len is_ascii_digit text) 0 = ap₂ (λ t n. get_or t n 0) same len in
    elim c.else-len-bytes.branch [
      | else-len-bytes-via-then-len-bytes+else-is_ascii_alphabetic w ↦ ap is_ascii_alphabetic (sym byte) ∙ sym w.if-is_ascii_alphabetic.ensures.value
      | else-len-bytes-via-else-len-bytes w ↦ no_letter_past text (prefix_len is_ascii_digit text) (omega (arith, w.if-len-bytes.false, len, ap length same))
    ]

pub returns-in-Some : goal.returns-in-Some
returns-in-Some c =
    let text = c.args.text.now in
    let value = c.in-Some.value in
    let same = c.as_bytes-bytes.ensures.value in
    let len = c.leading_digits_len-len.ensures ∙ ap (prefix_len is_ascii_digit) same in
    let digits = ap decimal_value (ap₂ take len same) in
    subst (StartsWithLexeme text (lexeme.Token (token.Integer value))) (sym len)
    (integer_first text value c.requires (digit_longer text c.requires) (c.in-Some.ensures.1 ∙ digits) (omega (arith, c.in-Some.ensures.0, c.in-Some.ensures.1)) (no_letter (goal.at.returns-in-Some c).After-integer_value))

pub returns-in-None : goal.returns-in-None
returns-in-None c =
    let text = c.args.text.now in
    let same = c.as_bytes-bytes.ensures.value in
    let len = c.leading_digits_len-len.ensures ∙ ap (prefix_len is_ascii_digit) same in
    subst (StartsWithFault text code.NumberTooLarge) (sym len)
    (large_fault text c.utf8.text c.requires (λ fits. c.in-None.ensures (subst (λ v. v ≤ 2147483647) (sym (ap decimal_value (ap₂ take len same))) fits)) (no_letter (goal.at.returns-in-None c).After-integer_value))
