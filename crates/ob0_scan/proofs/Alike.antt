-- Proves that a changed text has tokens of the same kinds as the old text, if the new tokens have
-- the same kinds as the replaced tokens.
use Rattle.std.proofs.Common.{◌≡◌, ℕ, ◌+◌, ◌-◌, ◌≤◌, List, [], ◌∷◌, ◌++◌, map, take, drop, refl, sym, ap, ◌∙◌, arith}
use Rattle.std.proofs.lemmas.List.{take-append-drop, drop-drop}
use Rattle.ob0_scan.specs.declared.lexeme.Token.{Token}
use Rattle.ob0_scan.specs.ReusedLexemes.{kind_without_value, token_kinds_without_values, token_after_shift}

pub token_kinds_without_values-moved : (removed added : ℕ) (tokens : List Token) → token_kinds_without_values (map (token_after_shift removed added) tokens) ≡ token_kinds_without_values tokens
token_kinds_without_values-moved removed added [] = refl
token_kinds_without_values-moved removed added (t ∷ tokens) = ap (λ ks. kind_without_value t.kind ∷ ks) (token_kinds_without_values-moved removed added tokens)

pub token_kinds_without_values-append : (a b : List Token) → token_kinds_without_values (a ++ b) ≡ token_kinds_without_values a ++ token_kinds_without_values b
token_kinds_without_values-append [] b = refl
token_kinds_without_values-append (t ∷ a) b = ap (λ ks. kind_without_value t.kind ∷ ks) (token_kinds_without_values-append a b)

pub kinds_stay : (old between : List Token) (front following removed added : ℕ) → front ≤ following → token_kinds_without_values between ≡ token_kinds_without_values (take (following - front) (drop front old)) → token_kinds_without_values (take front old ++ (between ++ map (token_after_shift removed added) (drop following old))) ≡ token_kinds_without_values old
kinds_stay old between front following removed added ordered same =
    let gone : List Token = take (following - front) (drop front old) in
    let rest : List Token = drop following old in
    let place : front + (following - front) ≡ following = omega (arith, ordered) in
    let parts : gone ++ rest ≡ drop front old =
    ap (λ l. gone ++ l) (ap (λ n. drop n old) (sym place) ∙ sym (drop-drop (following - front) front old))
    ∙ take-append-drop (following - front) (drop front old) in
    let middle : token_kinds_without_values (between ++ map (token_after_shift removed added) rest) ≡ token_kinds_without_values (drop front old) =
    token_kinds_without_values-append between (map (token_after_shift removed added) rest)
    ∙ ap (λ ks. ks ++ token_kinds_without_values (map (token_after_shift removed added) rest)) same
    ∙ ap (λ ks. token_kinds_without_values gone ++ ks) (token_kinds_without_values-moved removed added rest)
    ∙ sym (token_kinds_without_values-append gone rest)
    ∙ ap token_kinds_without_values parts in
    token_kinds_without_values-append (take front old) (between ++ map (token_after_shift removed added) rest)
    ∙ ap (λ ks. token_kinds_without_values (take front old) ++ ks) middle
    ∙ sym (token_kinds_without_values-append (take front old) (drop front old))
    ∙ ap token_kinds_without_values (take-append-drop front old)
