-- Proves that binary search finds the first identifier at a place: it is the first token that
-- doesn't end before the place, or the next one.
use Rattle.std.proofs.Common.{◌≡◌, ℕ, zero, suc, ◌+◌, ◌<◌, ◌≤◌, Bool, true, false, cond, List, [], ◌∷◌, length, get_or, Some, None, refl, ap, ◌∙◌, sym, arith, add-zero}
use Rattle.std.specs.Prelude.{nat_le, nat_lt}
use Rattle.std.specs.List.{position_from}
use Rattle.std.specs.List.Sorted.{IsNonDecreasingBy, IsPartitionPoint}
use Rattle.std.proofs.lemmas.Bool.{and_parts, leb-true, ltb-false, ltb-true}
use Rattle.ob0_scan.specs.declared.lexeme.Token.{Token}
use Rattle.ob0_scope_table.specs.Spans.{TokensAreDisjoint, is_in_span_or_at_end}
use Rattle.ob0_scope.specs.BoundTokens.{is_identifier, is_identifier_at_offset}

-- ---- the tokens of a text

beyond : (from : ℕ) (ts : List Token) (j : ℕ) (d : Token) → TokensAreDisjoint from ts → j < length ts → from ≤ (get_or ts j d).span.end
beyond from [] j d h less = absurd (omega (arith, less))
beyond from (t ∷ ts) zero d h less = omega (arith, h.0, h.1.0)
beyond from (t ∷ ts) (suc j) d h less =
    let later = beyond t.span.end ts j d h.1.1 (omega (arith, less)) in
    omega (arith, h.0, h.1.0, later)

pub ends_rise : (from : ℕ) (ts : List Token) → TokensAreDisjoint from ts → IsNonDecreasingBy (λ (t : Token). t.span.end) ts
ends_rise from [] h i j d le less = absurd (omega (arith, less))
ends_rise from (t ∷ ts) h zero zero d le less = omega arith
ends_rise from (t ∷ ts) h (suc i) zero d le less = absurd (omega (arith, le))
ends_rise from (t ∷ ts) h zero (suc j) d le less = beyond t.span.end ts j d h.1.1 (omega (arith, less))
ends_rise from (t ∷ ts) h (suc i) (suc j) d le less = ends_rise t.span.end ts h.1.1 i j d (omega (arith, le)) (omega (arith, less))

-- ---- binary search

module _ (offset : ℕ) where
  abbrev on : Token → Bool
  on t = is_identifier_at_offset offset t

  abbrev Splits : List Token → ℕ → Type 0
  Splits ts i = IsPartitionPoint (λ (t : Token). nat_lt t.span.end offset ≡ true) (λ (t : Token). nat_lt t.span.end offset ≡ false) ts i

  bounds : (t : Token) → on t ≡ true → (t.span.start ≤ offset) × (offset ≤ t.span.end)
  bounds t h =
      let inside = and_parts (nat_le t.span.start offset) (nat_le offset t.span.end) (and_parts (is_identifier t.kind) (is_in_span_or_at_end offset t.span) h).1 in
      (leb-true t.span.start offset inside.0, leb-true offset t.span.end inside.1)

  off : (t : Token) → ((t.span.start ≤ offset) × (offset ≤ t.span.end) → ⊥) → on t ≡ false
  off t h = one (on t) refl
    where
      one : (b : Bool) → on t ≡ b → b ≡ false
      one false e = refl
      one true e = absurd (h (bounds t e))

  none_past : (from k : ℕ) (ts : List Token) → offset < from → TokensAreDisjoint from ts → position_from on k ts ≡ None
  none_past from k [] low h = refl
  none_past from k (t ∷ ts) low h =
      ap (λ b. cond b (Some k) (position_from on (k + 1) ts)) (off t (λ w. omega (arith, low, h.0, w.0)))
      ∙ none_past t.span.end (k + 1) ts (omega (arith, low, h.0, h.1.0)) h.1.1

  tail_splits : (t : Token) (ts : List Token) (i : ℕ) → Splits (t ∷ ts) (suc i) → Splits ts i
  tail_splits t ts i point = (λ k d low less. point.0 (suc k) d (omega (arith, low)) (omega (arith, less)), λ k d low less. point.1 (suc k) d (omega (arith, low)) (omega (arith, less)))

  passed : (t : Token) (ts : List Token) (i k : ℕ) → Splits (t ∷ ts) (suc i) → position_from on k (t ∷ ts) ≡ position_from on (k + 1) ts
  passed t ts i k point =
      ap (λ b. cond b (Some k) (position_from on (k + 1) ts)) (off t (λ w. omega (arith, w.1, ltb-true t.span.end offset (point.0 zero t (omega arith) (omega arith)))))

  pub found_here : (k : ℕ) (ts : List Token) (i : ℕ) (d : Token) → Splits ts i → i < length ts → on (get_or ts i d) ≡ true → position_from on k ts ≡ Some (k + i)
  found_here k [] i d point less h = absurd (omega (arith, less))
  found_here k (t ∷ ts) zero d point less h = ap (λ b. cond b (Some k) (position_from on (k + 1) ts)) h ∙ ap Some (sym (add-zero k))
  found_here k (t ∷ ts) (suc i) d point less h =
      passed t ts i k point ∙ (found_here (k + 1) ts i d (tail_splits t ts i point) (omega (arith, less)) h ∙ ap Some (omega arith))

  pub found_next : (k : ℕ) (ts : List Token) (i : ℕ) (d : Token) → Splits ts i → suc i < length ts → on (get_or ts i d) ≡ false → on (get_or ts (suc i) d) ≡ true → position_from on k ts ≡ Some (k + suc i)
  found_next k [] i d point less h g = absurd (omega (arith, less))
  found_next k (t ∷ []) zero d point less h g = absurd (omega (arith, less))
  found_next k (t ∷ u ∷ ts) zero d point less h g =
      ap (λ b. cond b (Some k) (position_from on (k + 1) (u ∷ ts))) h ∙ (ap (λ b. cond b (Some (k + 1)) (position_from on (k + 1 + 1) ts)) g ∙ ap Some (omega arith))
  found_next k (t ∷ ts) (suc i) d point less h g =
      passed t ts i k point ∙ (found_next (k + 1) ts i d (tail_splits t ts i point) (omega (arith, less)) h g ∙ ap Some (omega arith))

  pub found_none : (from k : ℕ) (ts : List Token) (i : ℕ) (d : Token) → TokensAreDisjoint from ts → Splits ts i → i < length ts → on (get_or ts i d) ≡ false → (suc i < length ts → on (get_or ts (suc i) d) ≡ false) → position_from on k ts ≡ None
  found_none from k [] i d apart point less h g = refl
  found_none from k (t ∷ []) zero d apart point less h g = ap (λ b. cond b (Some k) None) h
  found_none from k (t ∷ u ∷ ts) zero d apart point less h g =
      let reached : offset ≤ t.span.end = ltb-false t.span.end offset (point.1 zero t (omega arith) (omega arith)) in
      ap (λ b. cond b (Some k) (position_from on (k + 1) (u ∷ ts))) h
      ∙ (ap (λ b. cond b (Some (k + 1)) (position_from on (k + 1 + 1) ts)) (g (omega arith))
      ∙ none_past u.span.end (k + 1 + 1) ts (omega (arith, reached, apart.1.1.0, apart.1.1.1.0)) apart.1.1.1.1)
  found_none from k (t ∷ ts) (suc i) d apart point less h g =
      passed t ts i k point ∙ found_none t.span.end (k + 1) ts i d apart.1.1 (tail_splits t ts i point) (omega (arith, less)) h (λ w. g (omega (arith, w)))

  pub found_past : (k : ℕ) (ts : List Token) (i : ℕ) → Splits ts i → length ts ≤ i → position_from on k ts ≡ None
  found_past k [] i point past = refl
  found_past k (t ∷ ts) zero point past = absurd (omega (arith, past))
  found_past k (t ∷ ts) (suc i) point past = passed t ts i k point ∙ found_past (k + 1) ts i (tail_splits t ts i point) (omega (arith, past))
