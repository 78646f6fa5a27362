-- Replacing uses of a constant by its value leaves the type of an expression unchanged.
use Rattle.std.proofs.Common.{None, Option, Some, [], add-zero, ap, false, if◌then◌else◌, length, refl, subst, suc, sym, true, ℕ, ◌+◌, ◌∙◌, ◌≡◌}
use Rattle.ob0_tree.specs.Tree.{Tree, addend, adds, compares, designator, end, expression, factor, field, index, integer, items, more, multiplier, multiplies, negation, none, occurrences, one, parenthesised, product, relates, selector, simple, sum, term}
use Rattle.ob0_language_names.specs.Inlining.{OccurrenceSet, inline_in_tree}
use Rattle.ob0_language_names.specs.Names.{Name}
use Rattle.ob0_language_values.specs.Values.{Shape, Value}
use Rattle.ob0_language_types.specs.Expressions.{Meanings, a_constant}
use Rattle.ob0_language_types.specs.Laws.{InliningKeepsTypes, EachUseSatisfies}
use Rattle.ob0_language_types.specs.Typing.{addition_type, negation_type, element_type, field_type, multiplication_type, type_of_variable_or_constant, relation_type, signed_operand_type, type_after_selectors, type_of_expression, type_after_addends, type_of_factor, type_after_multipliers, type_of_simple_expression, type_of_term, value_type, ◌>>=◌}
use Rattle.ob0_language_types.proofs.Inlined.{uses-split}

pub record Typing {P : Type 0} (checked : Meanings Name Shape P) (v : Tree Name factor) (w : Value) : Type 0 where
  pub typed : type_of_factor checked v ≡ value_type w

abbrev pub IsConstant : {P : Type 0} → Meanings Name Shape P → Value → Name → Type 0
IsConstant checked w x = checked.object_for x ≡ Some (a_constant w)

pub then-some : (o : Option Shape) → o >>= (λ s. Some s) ≡ o
then-some None = refl
then-some (Some s) = refl

mutual
  unfolding type_of_expression

  pub type_of_expression-inlined : {P : Type 0} (checked : Meanings Name Shape P) (uses : OccurrenceSet) (v : Tree Name factor) (w : Value) → Typing checked v w → (k : ℕ) (a : Tree Name expression) → EachUseSatisfies uses (IsConstant checked w) k (occurrences a) → type_of_expression checked (inline_in_tree uses v k a) ≡ type_of_expression checked a
  type_of_expression-inlined checked uses v w h k (compares a none) u = type_of_simple_expression-inlined checked uses v w h k a (uses-split uses (IsConstant checked w) k (occurrences a) [] u).0
  type_of_expression-inlined checked uses v w h k (compares a (one (relates r b))) u =
      let s = uses-split uses (IsConstant checked w) k (occurrences a) (occurrences b) u in
      λ i. type_of_simple_expression-inlined checked uses v w h k a s.0 i >>= (λ x. type_of_simple_expression-inlined checked uses v w h (k + length (occurrences a)) b s.1 i >>= (λ y. relation_type r x y))

  pub type_of_simple_expression-inlined : {P : Type 0} (checked : Meanings Name Shape P) (uses : OccurrenceSet) (v : Tree Name factor) (w : Value) → Typing checked v w → (k : ℕ) (a : Tree Name simple) → EachUseSatisfies uses (IsConstant checked w) k (occurrences a) → type_of_simple_expression checked (inline_in_tree uses v k a) ≡ type_of_simple_expression checked a
  type_of_simple_expression-inlined checked uses v w h k (sum sign t rest) u =
      let s = uses-split uses (IsConstant checked w) k (occurrences t) (occurrences rest) u in
      λ i. type_of_term-inlined checked uses v w h k t s.0 i >>= (λ x. signed_operand_type sign x >>= (λ y. type_after_addends-inlined checked uses v w h (k + length (occurrences t)) y rest s.1 i))

  pub type_after_addends-inlined : {P : Type 0} (checked : Meanings Name Shape P) (uses : OccurrenceSet) (v : Tree Name factor) (w : Value) → Typing checked v w → (k : ℕ) (x : Shape) (a : Tree Name (items addend)) → EachUseSatisfies uses (IsConstant checked w) k (occurrences a) → type_after_addends checked x (inline_in_tree uses v k a) ≡ type_after_addends checked x a
  type_after_addends-inlined checked uses v w h k x end u = refl
  type_after_addends-inlined checked uses v w h k x (more (adds o t) rest) u =
      let s = uses-split uses (IsConstant checked w) k (occurrences t) (occurrences rest) u in
      λ i. type_of_term-inlined checked uses v w h k t s.0 i >>= (λ y. addition_type o x y >>= (λ z. type_after_addends-inlined checked uses v w h (k + length (occurrences t)) z rest s.1 i))

  pub type_of_term-inlined : {P : Type 0} (checked : Meanings Name Shape P) (uses : OccurrenceSet) (v : Tree Name factor) (w : Value) → Typing checked v w → (k : ℕ) (a : Tree Name term) → EachUseSatisfies uses (IsConstant checked w) k (occurrences a) → type_of_term checked (inline_in_tree uses v k a) ≡ type_of_term checked a
  type_of_term-inlined checked uses v w h k (product f rest) u =
      let s = uses-split uses (IsConstant checked w) k (occurrences f) (occurrences rest) u in
      λ i. type_of_factor-inlined checked uses v w h k f s.0 i >>= (λ x. type_after_multipliers-inlined checked uses v w h (k + length (occurrences f)) x rest s.1 i)

  pub type_after_multipliers-inlined : {P : Type 0} (checked : Meanings Name Shape P) (uses : OccurrenceSet) (v : Tree Name factor) (w : Value) → Typing checked v w → (k : ℕ) (x : Shape) (a : Tree Name (items multiplier)) → EachUseSatisfies uses (IsConstant checked w) k (occurrences a) → type_after_multipliers checked x (inline_in_tree uses v k a) ≡ type_after_multipliers checked x a
  type_after_multipliers-inlined checked uses v w h k x end u = refl
  type_after_multipliers-inlined checked uses v w h k x (more (multiplies o f) rest) u =
      let s = uses-split uses (IsConstant checked w) k (occurrences f) (occurrences rest) u in
      λ i. type_of_factor-inlined checked uses v w h k f s.0 i >>= (λ y. multiplication_type o x y >>= (λ z. type_after_multipliers-inlined checked uses v w h (k + length (occurrences f)) z rest s.1 i))

  pub type_of_factor-inlined : {P : Type 0} (checked : Meanings Name Shape P) (uses : OccurrenceSet) (v : Tree Name factor) (w : Value) → Typing checked v w → (k : ℕ) (a : Tree Name factor) → EachUseSatisfies uses (IsConstant checked w) k (occurrences a) → type_of_factor checked (inline_in_tree uses v k a) ≡ type_of_factor checked a
  type_of_factor-inlined checked uses v w h k (designator x end) u =
      (elim (uses k) as (λ b. uses k ≡ b → type_of_factor checked (if b then v else designator x end) ≡ type_of_factor checked (designator x end))
      [ true ↦ λ e. h.typed ∙ (sym (then-some (value_type w)) ∙ sym (ap (λ o. type_of_variable_or_constant o >>= (λ s. Some s)) (u.0 e))) | false ↦ λ e. refl ]) refl
  type_of_factor-inlined checked uses v w h k (designator x (more step rest)) u = λ i.
      type_of_variable_or_constant (checked.object_for x) >>= (λ s. type_after_selectors-inlined checked uses v w h (suc k) s (more step rest) u.1 i)
  type_of_factor-inlined checked uses v w h k (integer n) u = refl
  type_of_factor-inlined checked uses v w h k (parenthesised e) u = type_of_expression-inlined checked uses v w h k e u
  type_of_factor-inlined checked uses v w h k (negation f) u = λ i. type_of_factor-inlined checked uses v w h k f u i >>= negation_type

  pub type_after_selectors-inlined : {P : Type 0} (checked : Meanings Name Shape P) (uses : OccurrenceSet) (v : Tree Name factor) (w : Value) → Typing checked v w → (k : ℕ) (t : Shape) (a : Tree Name (items selector)) → EachUseSatisfies uses (IsConstant checked w) k (occurrences a) → type_after_selectors checked t (inline_in_tree uses v k a) ≡ type_after_selectors checked t a
  type_after_selectors-inlined checked uses v w h k t end u = refl
  type_after_selectors-inlined checked uses v w h k t (more (field x) rest) u = λ i.
      field_type t (checked.written x) >>= (λ y. type_after_selectors-inlined checked uses v w h (k + 0) y rest (subst (λ n. EachUseSatisfies uses (IsConstant checked w) n (occurrences rest)) (sym (add-zero k)) u) i)
  type_after_selectors-inlined checked uses v w h k t (more (index e) rest) u =
      let s = uses-split uses (IsConstant checked w) k (occurrences e) (occurrences rest) u in
      λ i. type_of_expression-inlined checked uses v w h k e s.0 i >>= (λ j. element_type t j >>= (λ y. type_after_selectors-inlined checked uses v w h (k + length (occurrences e)) y rest s.1 i))

pub inlining_keeps_types-holds : InliningKeepsTypes
inlining_keeps_types-holds checked uses v w k e typed u = type_of_expression-inlined checked uses v w record { typed = typed } k e u
