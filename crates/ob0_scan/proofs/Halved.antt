-- Proves that the tokens and comments of a scan are in order, so that binary search finds how many
-- of them come before a place.
use Rattle.std.proofs.Common.{◌≡◌, ℕ, zero, suc, ◌<◌, ◌≤◌, Bool, true, false, List, [], ◌∷◌, length, get_or, sym, subst, arith}
use Rattle.std.specs.List.{prefix_len}
use Rattle.std.specs.List.Sorted.{IsNonDecreasingBy, IsPartitionPoint}
use Rattle.std.proofs.lemmas.List.Elements.{All-get_or}
use Rattle.std.proofs.lemmas.List.Sums.{prefix_len_is}
use Rattle.ob0_scan.specs.declared.lexeme.Span.{Span}
use Rattle.ob0_scan.specs.declared.lexeme.Token.{Token}
use Rattle.ob0_scan.specs.TextWithTokens.{TextWithTokens, IsScan}
use Rattle.ob0_scan.specs.RescanState.{SpansAreInOrder}
use Rattle.ob0_scan.proofs.AtLexemes.{of_tokens, of_comments, full, AreAscending, ascending, starts_after, ends_after}

rising : {X : Type 0} (n : X → ℕ) (xs : List X) → AreAscending n xs → IsNonDecreasingBy n xs
rising n [] h i j d le less = absurd (omega (arith, less))
rising n (x ∷ xs) h zero zero d le less = omega arith
rising n (x ∷ xs) h (suc i) zero d le less = absurd (omega (arith, le))
rising n (x ∷ xs) h zero (suc j) d le less = let later : n x < n (get_or xs j d) = All-get_or (λ y. n x < n y) xs j d (omega (arith, less)) h.0 in omega (arith, later)
rising n (x ∷ xs) h (suc i) (suc j) d le less = rising n xs h.1 i j d (omega (arith, le)) (omega (arith, less))

pub in_order : (s : TextWithTokens) → IsScan s → SpansAreInOrder s.tokens s.comments
in_order s o =
    let some = full o.lexemes [] o.lexed.each in
    record {
      token_starts_ascend = rising (λ (t : Token). t.span.start) s.tokens (subst (AreAscending (λ (t : Token). t.span.start)) (sym o.tokens) (ascending of_tokens (λ (v : Span). v.start) starts_after 0 o.lexemes some));
      token_ends_ascend = rising (λ (t : Token). t.span.end) s.tokens (subst (AreAscending (λ (t : Token). t.span.end)) (sym o.tokens) (ascending of_tokens (λ (v : Span). v.end) ends_after 0 o.lexemes some));
      comment_starts_ascend = rising (λ (c : Span). c.start) s.comments (subst (AreAscending (λ (c : Span). c.start)) (sym o.comments) (ascending of_comments (λ (v : Span). v.start) starts_after 0 o.lexemes some));
      comment_ends_ascend = rising (λ (c : Span). c.end) s.comments (subst (AreAscending (λ (c : Span). c.end)) (sym o.comments) (ascending of_comments (λ (v : Span). v.end) ends_after 0 o.lexemes some));
    }

-- The partition point of a test is the number of leading items that pass it.
pub point_is_count : {X : Type 0} (p : X → Bool) (xs : List X) (i : ℕ) → i ≤ length xs → IsPartitionPoint (λ y. p y ≡ true) (λ y. p y ≡ false) xs i → i ≡ prefix_len p xs
point_is_count p [] i inside point = omega (arith, inside)
point_is_count p (x ∷ xs) i inside point = sym (prefix_len_is p (x ∷ xs) i x inside (λ k less. point.0 k x (omega arith) less) (λ less. point.1 i x (omega arith) less))
