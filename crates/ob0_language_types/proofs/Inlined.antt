-- Replacing uses of a constant by its value leaves the evaluation of an expression unchanged.
use Rattle.std.proofs.Common.{List, Some, [], add-zero, ap, arith, false, if◌then◌else◌, length, refl, subst, suc, sym, true, ℕ, ◌++◌, ◌+◌, ◌∙◌, ◌∷◌, ◌≡◌}
use Rattle.ob0_tree.specs.Tree.{Tree, addend, adds, compares, designator, end, expression, factor, field, index, integer, items, more, multiplier, multiplies, negation, none, occurrences, one, parenthesised, product, relates, selector, simple, sum, term}
use Rattle.ob0_language_names.specs.Inlining.{OccurrenceSet, inline_in_tree}
use Rattle.ob0_language_names.specs.Names.{Name}
use Rattle.ob0_language_values.specs.Values.{Place, Store, Value, apply_add_operator, add_operator_short_circuits, at_field, value_at_path, succeeds_with, apply_multiply_operator, multiply_operator_short_circuits, apply_not, result_or_stuck, value_at_step, apply_relation, apply_sign, ◌>>=◌}
use Rattle.ob0_language_types.specs.Expressions.{Meanings, a_constant, element_step, evaluate_expression, evaluate_addends, evaluate_factor, evaluate_multipliers, evaluate_simple_expression, evaluate_term, evaluate_selectors, object_value}
use Rattle.ob0_language_types.specs.Laws.{InliningKeepsEvaluation, EachUseSatisfies}

pub uses-split : (uses : OccurrenceSet) (P : Name → Type 0) (k : ℕ) (xs ys : List Name) → EachUseSatisfies uses P k (xs ++ ys) → EachUseSatisfies uses P k xs × EachUseSatisfies uses P (k + length xs) ys
uses-split uses P k [] ys h = (tt, subst (λ n. EachUseSatisfies uses P n ys) (sym (add-zero k)) h)
uses-split uses P k (x ∷ xs) ys h =
    let g = uses-split uses P (suc k) xs ys h.1 in
    let e : suc k + length xs ≡ k + suc (length xs) = omega arith in
    ((h.0, g.0), subst (λ n. EachUseSatisfies uses P n ys) e g.1)

-- holds if the literal has the constant's value
pub record Writing {P : Type 0} (meaning : Meanings Name Place P) (store : Store) (v : Tree Name factor) (w : Value) : Type 0 where
  pub has_value : evaluate_factor meaning store v ≡ succeeds_with w

abbrev pub IsConstantOf : {P : Type 0} → Meanings Name Place P → Value → Name → Type 0
IsConstantOf meaning w x = meaning.object_for x ≡ Some (a_constant w)

mutual
  unfolding evaluate_expression

  pub evaluate-inlined : {P : Type 0} (meaning : Meanings Name Place P) (store : Store) (uses : OccurrenceSet) (v : Tree Name factor) (w : Value) → Writing meaning store v w → (k : ℕ) (e : Tree Name expression) → EachUseSatisfies uses (IsConstantOf meaning w) k (occurrences e) → evaluate_expression meaning store (inline_in_tree uses v k e) ≡ evaluate_expression meaning store e
  evaluate-inlined meaning store uses v w h k (compares a none) u = evaluate_simple_expression-inlined meaning store uses v w h k a (uses-split uses (IsConstantOf meaning w) k (occurrences a) [] u).0
  evaluate-inlined meaning store uses v w h k (compares a (one (relates r b))) u =
      let s = uses-split uses (IsConstantOf meaning w) k (occurrences a) (occurrences b) u in
      λ i. evaluate_simple_expression-inlined meaning store uses v w h k a s.0 i >>= (λ x. evaluate_simple_expression-inlined meaning store uses v w h (k + length (occurrences a)) b s.1 i >>= (λ y. apply_relation r x y))

  pub evaluate_simple_expression-inlined : {P : Type 0} (meaning : Meanings Name Place P) (store : Store) (uses : OccurrenceSet) (v : Tree Name factor) (w : Value) → Writing meaning store v w → (k : ℕ) (a : Tree Name simple) → EachUseSatisfies uses (IsConstantOf meaning w) k (occurrences a) → evaluate_simple_expression meaning store (inline_in_tree uses v k a) ≡ evaluate_simple_expression meaning store a
  evaluate_simple_expression-inlined meaning store uses v w h k (sum sign t rest) u =
      let s = uses-split uses (IsConstantOf meaning w) k (occurrences t) (occurrences rest) u in
      λ i. evaluate_term-inlined meaning store uses v w h k t s.0 i >>= (λ x. apply_sign sign x >>= (λ y. evaluate_addends-inlined meaning store uses v w h (k + length (occurrences t)) y rest s.1 i))

  pub evaluate_addends-inlined : {P : Type 0} (meaning : Meanings Name Place P) (store : Store) (uses : OccurrenceSet) (v : Tree Name factor) (w : Value) → Writing meaning store v w → (k : ℕ) (x : Value) (a : Tree Name (items addend)) → EachUseSatisfies uses (IsConstantOf meaning w) k (occurrences a) → evaluate_addends meaning store x (inline_in_tree uses v k a) ≡ evaluate_addends meaning store x a
  evaluate_addends-inlined meaning store uses v w h k x end u = refl
  evaluate_addends-inlined meaning store uses v w h k x (more (adds o t) rest) u =
      let s = uses-split uses (IsConstantOf meaning w) k (occurrences t) (occurrences rest) u in
      λ i. (elim (add_operator_short_circuits o x) [ true ↦ succeeds_with x | false ↦ evaluate_term-inlined meaning store uses v w h k t s.0 i >>= apply_add_operator o x ]) >>= (λ y. evaluate_addends-inlined meaning store uses v w h (k + length (occurrences t)) y rest s.1 i)

  pub evaluate_term-inlined : {P : Type 0} (meaning : Meanings Name Place P) (store : Store) (uses : OccurrenceSet) (v : Tree Name factor) (w : Value) → Writing meaning store v w → (k : ℕ) (a : Tree Name term) → EachUseSatisfies uses (IsConstantOf meaning w) k (occurrences a) → evaluate_term meaning store (inline_in_tree uses v k a) ≡ evaluate_term meaning store a
  evaluate_term-inlined meaning store uses v w h k (product f rest) u =
      let s = uses-split uses (IsConstantOf meaning w) k (occurrences f) (occurrences rest) u in
      λ i. evaluate_factor-inlined meaning store uses v w h k f s.0 i >>= (λ x. evaluate_multipliers-inlined meaning store uses v w h (k + length (occurrences f)) x rest s.1 i)

  pub evaluate_multipliers-inlined : {P : Type 0} (meaning : Meanings Name Place P) (store : Store) (uses : OccurrenceSet) (v : Tree Name factor) (w : Value) → Writing meaning store v w → (k : ℕ) (x : Value) (a : Tree Name (items multiplier)) → EachUseSatisfies uses (IsConstantOf meaning w) k (occurrences a) → evaluate_multipliers meaning store x (inline_in_tree uses v k a) ≡ evaluate_multipliers meaning store x a
  evaluate_multipliers-inlined meaning store uses v w h k x end u = refl
  evaluate_multipliers-inlined meaning store uses v w h k x (more (multiplies o f) rest) u =
      let s = uses-split uses (IsConstantOf meaning w) k (occurrences f) (occurrences rest) u in
      λ i. (elim (multiply_operator_short_circuits o x) [ true ↦ succeeds_with x | false ↦ evaluate_factor-inlined meaning store uses v w h k f s.0 i >>= apply_multiply_operator o x ]) >>= (λ y. evaluate_multipliers-inlined meaning store uses v w h (k + length (occurrences f)) y rest s.1 i)

  pub evaluate_factor-inlined : {P : Type 0} (meaning : Meanings Name Place P) (store : Store) (uses : OccurrenceSet) (v : Tree Name factor) (w : Value) → Writing meaning store v w → (k : ℕ) (a : Tree Name factor) → EachUseSatisfies uses (IsConstantOf meaning w) k (occurrences a) → evaluate_factor meaning store (inline_in_tree uses v k a) ≡ evaluate_factor meaning store a
  evaluate_factor-inlined {P} meaning store uses v w h k (designator x end) u =
      (elim (uses k) as (λ b. uses k ≡ b → evaluate_factor meaning store (if b then v else designator x end) ≡ evaluate_factor meaning store (designator x end))
      [ true ↦ λ e. h.has_value ∙ sym (ap (λ o. object_value {P = P} store o >>= (λ v. succeeds_with [] >>= (λ steps. result_or_stuck (value_at_path steps v)))) (u.0 e)) | false ↦ λ e. refl ]) refl
  evaluate_factor-inlined meaning store uses v w h k (designator x (more step rest)) u = λ i.
      object_value store (meaning.object_for x) >>= (λ z. follow-inlined meaning store uses v w h (suc k) z (more step rest) u.1 i >>= (λ steps. result_or_stuck (value_at_path steps z)))
  evaluate_factor-inlined meaning store uses v w h k (integer n) u = refl
  evaluate_factor-inlined meaning store uses v w h k (parenthesised e) u = evaluate-inlined meaning store uses v w h k e u
  evaluate_factor-inlined meaning store uses v w h k (negation f) u = λ i. evaluate_factor-inlined meaning store uses v w h k f u i >>= apply_not

  pub follow-inlined : {P : Type 0} (meaning : Meanings Name Place P) (store : Store) (uses : OccurrenceSet) (v : Tree Name factor) (w : Value) → Writing meaning store v w → (k : ℕ) (z : Value) (a : Tree Name (items selector)) → EachUseSatisfies uses (IsConstantOf meaning w) k (occurrences a) → evaluate_selectors meaning store z (inline_in_tree uses v k a) ≡ evaluate_selectors meaning store z a
  follow-inlined meaning store uses v w h k z end u = refl
  follow-inlined meaning store uses v w h k z (more (field x) rest) u = λ i.
      result_or_stuck (value_at_step z (at_field (meaning.written x))) >>= (λ y. follow-inlined meaning store uses v w h (k + 0) y rest (subst (λ n. EachUseSatisfies uses (IsConstantOf meaning w) n (occurrences rest)) (sym (add-zero k)) u) i >>= (λ steps. succeeds_with (at_field (meaning.written x) ∷ steps)))
  follow-inlined meaning store uses v w h k z (more (index e) rest) u =
      let s = uses-split uses (IsConstantOf meaning w) k (occurrences e) (occurrences rest) u in
      λ i. evaluate-inlined meaning store uses v w h k e s.0 i >>= (λ j. element_step z j >>= (λ step. result_or_stuck (value_at_step z step) >>= (λ y. follow-inlined meaning store uses v w h (k + length (occurrences e)) y rest s.1 i >>= (λ steps. succeeds_with (step ∷ steps)))))

pub inlining_keeps_evaluation-holds : InliningKeepsEvaluation
inlining_keeps_evaluation-holds meaning store uses v w k e has_value u = evaluate-inlined meaning store uses v w record { has_value = has_value } k e u
