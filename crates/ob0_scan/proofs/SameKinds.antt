-- Proves that the tokens before and after a change have the same kinds as in the old text.
use Rattle.std.proofs.Common.{◌≡◌, ℕ, ◌+◌, ◌-◌, ◌≤◌, List, ◌++◌, map, take, drop, length, sym, ap, ◌∙◌, arith, append_assoc, length-append, length-drop}
use Rattle.std.proofs.lemmas.List.{take-map, drop-map, take_at, drop_at, length-map, length-take-le}
use Rattle.ob0_scan.specs.declared.lexeme.Token.{Token}
use Rattle.ob0_scan.specs.declared.tokens.CommonPrefixAndSuffix.{CommonPrefixAndSuffix}
use Rattle.ob0_scan.specs.ReusedLexemes.{kind_without_value, token_kinds_without_values, token_after_shift}
use Rattle.ob0_scan.specs.SamePrefixAndSuffix.{PrefixAndSuffixHaveSameKinds}
use Rattle.ob0_scan.proofs.Alike.{token_kinds_without_values-append, token_kinds_without_values-moved}

-- Returns the tokens of a changed text: the old ones before the change, the new ones, and the old
-- ones after it, shifted.
abbrev pub joined_tokens : (old between : List Token) (front following removed added : ℕ) → List Token
joined_tokens old between front following removed added = take front old ++ (between ++ map (token_after_shift removed added) (drop following old))

pub joined_length : (old between : List Token) (front following removed added : ℕ) → front ≤ length old → length (joined_tokens old between front following removed added) ≡ front + (length between + (length old - following))
joined_length old between front following removed added inside =
    let moved : List Token = map (token_after_shift removed added) (drop following old) in
    let first : length (take front old) ≡ front = length-take-le front old inside in
    let last : length moved ≡ length old - following = length-map (drop following old) (token_after_shift removed added) ∙ length-drop following old in
    length-append (take front old) (between ++ moved) ∙ omega (arith, first, last, length-append between moved)

front_kinds : (old others : List Token) (front : ℕ) → front ≤ length old → take front (token_kinds_without_values (take front old ++ others)) ≡ take front (token_kinds_without_values old)
front_kinds old others front inside =
    let kind = λ (t : Token). kind_without_value t.kind in
    ap (take front) (token_kinds_without_values-append (take front old) others)
    ∙ take_at (token_kinds_without_values (take front old)) (token_kinds_without_values others) front (length-map (take front old) kind ∙ length-take-le front old inside)
    ∙ sym (take-map kind front old)

back_kinds : (old first : List Token) (following back removed added : ℕ) → length first ≡ back → drop back (token_kinds_without_values (first ++ map (token_after_shift removed added) (drop following old))) ≡ drop following (token_kinds_without_values old)
back_kinds old first following back removed added at =
    let kind = λ (t : Token). kind_without_value t.kind in
    let moved : List Token = map (token_after_shift removed added) (drop following old) in
    ap (drop back) (token_kinds_without_values-append first moved)
    ∙ drop_at (token_kinds_without_values first) (token_kinds_without_values moved) back (length-map first kind ∙ at)
    ∙ token_kinds_without_values-moved removed added (drop following old)
    ∙ sym (drop-map kind following old)

pub same_tokens : (old between : List Token) (front following removed added : ℕ) (s : CommonPrefixAndSuffix)
    → front ≤ following → following ≤ length old → s.prefix ≡ front → s.old_suffix ≡ following
    → s.new_suffix ≡ length (joined_tokens old between front following removed added) - (length old - following)
    → PrefixAndSuffixHaveSameKinds s old (joined_tokens old between front following removed added)
same_tokens old between front following removed added s ordered inside is_front is_old_back is_back =
    let moved : List Token = map (token_after_shift removed added) (drop following old) in
    let all : List Token = joined_tokens old between front following removed added in
    let front_inside : front ≤ length old = omega (arith, ordered, inside) in
    let count : length all ≡ front + (length between + (length old - following)) = joined_length old between front following removed added front_inside in
    let first : length (take front old ++ between) ≡ s.new_suffix = length-append (take front old) between ∙ omega (arith, is_back, count, inside, length-take-le front old front_inside) in
    record {
      old_range = omega (arith, is_front, is_old_back, ordered);
      new_range = omega (arith, is_front, is_back, count, inside);
      old_inside = omega (arith, is_old_back, inside);
      new_inside = omega (arith, is_back, count);
      front = ap (λ n. take n (token_kinds_without_values all)) is_front ∙ front_kinds old (between ++ moved) front front_inside ∙ ap (λ n. take n (token_kinds_without_values old)) (sym is_front);
      back = ap (λ (l : List Token). drop s.new_suffix (token_kinds_without_values l)) (sym (append_assoc (take front old) between moved))
          ∙ back_kinds old (take front old ++ between) following s.new_suffix removed added first
          ∙ ap (λ n. drop n (token_kinds_without_values old)) (sym is_old_back);
    }
