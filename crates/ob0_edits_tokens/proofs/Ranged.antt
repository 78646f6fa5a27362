-- Proves that the loops over spans find the range of each span, in order.
use Rattle.std.proofs.Common.{◌≡◌, ℕ, zero, suc, ◌+◌, ◌*◌, ◌<◌, ◌≤◌, List, [], ◌∷◌, ◌++◌, length, drop, map, take, get_or, refl, sym, ap, ◌∙◌, arith, add-one, append_assoc, length-append}
use Rattle.std.proofs.lemmas.List.{get_or-map, length-drop, length-map, length-take-le, map-append, map_more}
use Rattle.std.proofs.lemmas.Simd.{map-map}
use Rattle.std.proofs.Math.Seq.{take-add, take-suc}
use Rattle.ob0_scan.specs.declared.lexeme.Span.{Span}
use Rattle.ob0_scan.specs.declared.lexeme.Token.{Token}
use Rattle.ob0_text.specs.declared.position_types.Position.{Position}
use Rattle.ob0_text.specs.declared.position_types.Range.{Range}
use Rattle.ob0_text.specs.Texts.{position_of}
use Rattle.ob0_text.specs.declared.position_types.Unit as counting
use Rattle.ob0_text.specs.Units.{width_of}
use Rattle.ob0_edits_tokens.specs.Replacements.{token_span_or_empty, replacement_at_token}
use Rattle.ob0_edits_tokens.specs.Ranges.{span_bounds, range_of}

span_bounds-append : (xs ys : List Span) → span_bounds (xs ++ ys) ≡ span_bounds xs ++ span_bounds ys
unfolding span_bounds
span_bounds-append [] ys = refl
span_bounds-append (x ∷ xs) ys = ap (λ t. x.start ∷ x.end ∷ t) (span_bounds-append xs ys)

pub bounds_none : [] ≡ span_bounds []
unfolding span_bounds
bounds_none = refl

-- Appending the start and the end of a span gives the bounds of one more span.
pub bounds_further : (spans : List Span) (i : ℕ) (d : Span) (found : List ℕ) → i < length spans → found ≡ span_bounds (take i spans)
    → (found ++ (get_or spans i d).start ∷ []) ++ (get_or spans i d).end ∷ [] ≡ span_bounds (take (i + 1) spans)
unfolding span_bounds
bounds_further spans i d found low is =
    append_assoc found ((get_or spans i d).start ∷ []) ((get_or spans i d).end ∷ [])
    ∙ ap (λ t. t ++ span_bounds (get_or spans i d ∷ [])) is
    ∙ sym (span_bounds-append (take i spans) (get_or spans i d ∷ []))
    ∙ ap span_bounds (sym (take-suc spans i d low) ∙ ap (λ n. take n spans) (sym (add-one i)))

bounds_long : (spans : List Span) → length (span_bounds spans) ≡ 2 * length spans
unfolding span_bounds
bounds_long [] = refl
bounds_long (s ∷ ss) = omega (arith, bounds_long ss)

start_at : (spans : List Span) (i : ℕ) (d : Span) → i < length spans → get_or (span_bounds spans) (2 * i) 0 ≡ (get_or spans i d).start
unfolding span_bounds
start_at [] i d low = absurd (omega (arith, low))
start_at (s ∷ ss) zero d low = refl
start_at (s ∷ ss) (suc i) d low =
    let two : 2 * suc i ≡ suc (suc (2 * i)) = omega arith in
    ap (λ n. get_or (s.start ∷ s.end ∷ span_bounds ss) n 0) two ∙ start_at ss i d (omega (arith, low))

end_at : (spans : List Span) (i : ℕ) (d : Span) → i < length spans → get_or (span_bounds spans) (2 * i + 1) 0 ≡ (get_or spans i d).end
unfolding span_bounds
end_at [] i d low = absurd (omega (arith, low))
end_at (s ∷ ss) zero d low = refl
end_at (s ∷ ss) (suc i) d low =
    let two : 2 * suc i + 1 ≡ suc (suc (2 * i + 1)) = omega arith in
    ap (λ n. get_or (s.start ∷ s.end ∷ span_bounds ss) n 0) two ∙ end_at ss i d (omega (arith, low))

pub positions_long : (unit : counting.Unit) (content : List ℕ) (spans : List Span) (offsets : List ℕ) (ps : List Position) → ps ≡ map (position_of (width_of unit) content) offsets → offsets ≡ span_bounds spans → length ps ≡ 2 * length spans
positions_long unit content spans offsets ps e f = omega (arith, ap length e, length-map offsets (position_of (width_of unit) content), ap length f, bounds_long spans)

module _ (unit : counting.Unit) (content : List ℕ) (spans : List Span) (i : ℕ) (low : i < length spans) (d : Span) (offsets : List ℕ) (ps : List Position) (e : ps ≡ map (position_of (width_of unit) content) offsets) (f : offsets ≡ span_bounds spans) where
  at_bound : (k : ℕ) (p : Position) → k < 2 * length spans → get_or ps k p ≡ position_of (width_of unit) content (get_or (span_bounds spans) k 0)
  at_bound k p h =
      let long : k < length (span_bounds spans) = omega (arith, bounds_long spans, h) in
      ap (λ qs. get_or qs k p) (e ∙ ap (map (position_of (width_of unit) content)) f) ∙ get_or-map (position_of (width_of unit) content) (span_bounds spans) k 0 p long

  pub starts_there : (p : Position) → get_or ps (2 * i) p ≡ position_of (width_of unit) content (get_or spans i d).start
  starts_there p = at_bound (2 * i) p (omega (arith, low)) ∙ ap (position_of (width_of unit) content) (start_at spans i d low)

  pub ends_there : (p : Position) → get_or ps (2 * i + 1) p ≡ position_of (width_of unit) content (get_or spans i d).end
  ends_there p = at_bound (2 * i + 1) p (omega (arith, low)) ∙ ap (position_of (width_of unit) content) (end_at spans i d low)

-- Appending a range gives the ranges of one more span.
pub range_added : (unit : counting.Unit) (content : List ℕ) (spans : List Span) (i : ℕ) (low : i < length spans) (d : Span) (old ranges : List Range) (x : Range)
    → ranges ≡ old ++ map (range_of (width_of unit) content) (take i spans) → x ≡ range_of (width_of unit) content (get_or spans i d)
    → ranges ++ (x ∷ []) ≡ old ++ map (range_of (width_of unit) content) (take (i + 1) spans)
range_added unit content spans i low d old ranges x so_far is =
    (λ j. so_far j ++ (is j ∷ [])) ∙ append_assoc old _ _ ∙ ap (λ t. old ++ t) (sym (map_more (range_of (width_of unit) content) spans i d low))

-- Appending the ranges of a part gives the ranges of all spans up to its end.
pub part_added : (unit : counting.Unit) (content : List ℕ) (spans : List Span) (n : ℕ) (found more : List Range)
    → length found + n ≤ length spans → found ≡ map (range_of (width_of unit) content) (take (length found) spans)
    → more ≡ found ++ map (range_of (width_of unit) content) (take n (drop (length found) spans))
    → more ≡ map (range_of (width_of unit) content) (take (length more) spans)
part_added unit content spans n found more within so_far is =
    let f = range_of (width_of unit) content in
    let rest = drop (length found) spans in
    let part : length (take n rest) ≡ n = length-take-le n rest (omega (arith, length-drop (length found) spans, within)) in
    let long : length more ≡ length found + n = omega (arith, ap length is, length-append found (map f (take n rest)), length-map (take n rest) f, part) in
    is ∙ ap (λ t. t ++ map f (take n rest)) so_far ∙ sym (map-append f (take (length found) spans) (take n rest))
    ∙ ap (map f) (sym (take-add (length found) n spans) ∙ ap (λ k. take k spans) (sym long))

-- The ranges of tokens, each with the same text, are the edits at these tokens.
pub edits_at_places : (unit : counting.Unit) (content : List ℕ) (tokens : List Token) (new places : List ℕ) (spans : List Span) (ranges : List Range)
    → spans ≡ map (token_span_or_empty tokens) places → ranges ≡ map (range_of (width_of unit) content) spans → map (λ (r : Range). (r, new)) ranges ≡ map (replacement_at_token unit content tokens new) places
edits_at_places unit content tokens new places spans ranges e f =
    ap (map (λ (r : Range). (r, new))) (f ∙ ap (map (range_of (width_of unit) content)) e)
    ∙ map-map (λ (r : Range). (r, new)) (range_of (width_of unit) content) (map (token_span_or_empty tokens) places)
    ∙ map-map (λ (s : Span). (range_of (width_of unit) content s, new)) (token_span_or_empty tokens) places
