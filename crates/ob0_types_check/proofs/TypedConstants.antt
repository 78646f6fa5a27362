-- No fault is reported for an expression that has a type, a constant that has a value, or a valid length.
use Rattle.std.proofs.Common.{◌≡◌, ℕ, Bool, true, false, zero, suc, pos, negsuc, [], Option, Some, None, option_and_then, if◌then◌else◌, is_some, refl, sym, ap, ◌∙◌}
use Rattle.ob0_tree.specs.declared.tree.Role.TheVariants as role
use Rattle.ob0_tree.specs.TokenIndexLeaves.{token_value_at}
use Rattle.ob0_tree.specs.Tree.{Tree, expression, identifiers, mapped_tree}
use Rattle.ob0_language_types.specs.Expressions.{Meanings, evaluate_expression}
use Rattle.ob0_language_types.specs.Typing.{array_length_from_value, constant_expression_value, meanings_in_constant_expressions, outcome_value, type_of_expression, value_type}
use Rattle.ob0_language_types.specs.WellTyped.{Signature, TypeMeanings}
use Rattle.ob0_language_values.specs.Values.{Shape, Value, elements, integer_shape, members, number, truth}
use Rattle.ob0_types_check.specs.ExpressionFaults.{report_on_expression}
use Rattle.ob0_types_check.specs.TypesAndMeanings.{Facts, Operand}
use Rattle.ob0_types_check.specs.OperandFaults.{require_type, without_fault}
use Rattle.ob0_types_check.specs.KnownDeclarations.{facts_from_declarations}
use Rattle.ob0_types_check.specs.TypeFaults.{require_constant_value, length_or_fault, length_from_value, length_from_operand, report_on_constant_expression, value_or_fault}
use Rattle.ob0_types_check.specs.Agreement.{FactsAgreeWithShapesAndLabels, shape_of_type_in}
use Rattle.ob0_types_check.specs.WellTypedLaws.{ConstantsWithValuesHaveNoFault, WellTypedExpressionsHaveNoFault, ValidLengthsHaveNoFault}
use Rattle.ob0_types_check.proofs.FittingExpressions.{FitsExpression, expression-fits}
use Rattle.ob0_types_check.proofs.FittingNames.{only-tokens, tokens-fit}
use Rattle.ob0_types_check.proofs.Proved.{constants-again}
use Rattle.ob0_types_check.proofs.TypedExpressions.{expression-right}
use Rattle.ob0_types_check.proofs.TypedNames.{constants-typed, names-typed, types-apart}
use Rattle.ob0_types_check.proofs.TypedOperands.{TypesApart, and-then, require_type-right, none-of-both}
use Rattle.ob0_types_check.proofs.Unreported.{some-same}

pub is-there : {A : Type 0} (o : Option A) → is_some o ≡ true → (a : A) × (o ≡ Some a)
is-there None h = absurd (cc)
is-there (Some a) h = (a, refl)

module _ {T N : Type 0} (facts : Facts T) (shape : T → Option Shape) (apart : TypesApart facts.types shape) (label : ℕ → N) (meaning : TypeMeanings N) (e : Tree ℕ expression) (agrees : FactsAgreeWithShapesAndLabels facts shape label meaning e) where
  abbrev here : Tree N expression
  here = mapped_tree label (token_value_at facts.source) e

  pub typed-right : facts.only_constants ≡ false → (s : Shape) → type_of_expression meaning here ≡ Some s → (report_on_expression facts e).faults ≡ []
  typed-right only s h =
      expression-right facts shape agrees.types apart label meaning e
      (tokens-fit facts shape agrees.types label meaning (identifiers role.DeclaringName e) agrees.tokens, names-typed facts shape label meaning only (identifiers role.DeclaringName e) agrees.tokens) s h

  pub constant-right : (Q : Type 0) → facts.only_constants ≡ true → (s : Shape) → type_of_expression {P = Q} (meanings_in_constant_expressions meaning) here ≡ Some s → (report_on_expression facts e).faults ≡ []
  constant-right Q only s h =
      expression-right facts shape agrees.types apart label (meanings_in_constant_expressions {Q = Q} meaning) e
      (only-tokens facts shape agrees.types label meaning Q only (identifiers role.DeclaringName e) agrees.tokens, constants-typed facts shape label meaning Q (identifiers role.DeclaringName e) agrees.tokens) s h

  -- holds if no fault is reported for a constant expression, and its operand has this value and its type
  pub record HasValue (v : Value) : Type 0 where
    pub none : (report_on_expression facts e).faults ≡ []
    pub of : Shape
    pub known : shape (report_on_expression facts e).known.of ≡ Some of
    pub value : (report_on_expression facts e).known.value ≡ Some v
    pub scalar : value_type v ≡ Some of

  pub value-known : facts.only_constants ≡ true → (v : Value) → constant_expression_value meaning here ≡ Some v → HasValue v
  unfolding constant_expression_value
  value-known only v h =
      let among : Meanings N Shape (Unit {0}) = meanings_in_constant_expressions {W = Shape} {Q = Unit {0}} meaning in
      let (s, hs, given) = and-then (λ s. outcome_value (evaluate_expression {P = Unit {0}} (meanings_in_constant_expressions meaning) [] here)) (type_of_expression {P = Unit {0}} (meanings_in_constant_expressions meaning) here) v h in
      let none = constant-right (Unit {0}) only s hs in
      let fe : FitsExpression facts shape agrees.types label among e
      = expression-fits facts shape agrees.types label among e (only-tokens facts shape agrees.types label meaning _ only (identifiers role.DeclaringName e) agrees.tokens) none in
      let value : (report_on_expression facts e).known.value ≡ Some v = fe.value_agrees ∙ (ap (λ m. outcome_value (evaluate_expression {P = Unit {0}} m [] here)) (constants-again meaning) ∙ given) in
      record { none = none; of = fe.of; known = fe.known; value = value; scalar = fe.scalar v value }

require_constant_value-right : {T : Type 0} (o : Operand T) (b : Bool) (c : Option Value) (v : Value) → c ≡ Some v → (if b then without_fault None else value_or_fault o c).faults ≡ []
require_constant_value-right o true c v h = refl
require_constant_value-right o false c v h = ap (λ c. (value_or_fault o c).faults) h

bounds-right : {T : Type 0} (o : Operand T) (b : Bool) (c : Option Value) (v : Value) (n : ℕ) → c ≡ Some v → array_length_from_value v ≡ Some n → (if b then length_from_value o c else without_fault None).faults ≡ []
bounds-right o true c v n h k = ap (λ c. (length_from_value o c).faults) h ∙ ap (λ m. (length_or_fault o m).faults) k
bounds-right o false c v n h k = refl

length-integer : (v : Value) (n : ℕ) (s : Shape) → array_length_from_value v ≡ Some n → value_type v ≡ Some s → s ≡ integer_shape
length-integer (number (pos (suc m))) n s h k = some-same s integer_shape (sym k)
length-integer (number (pos zero)) n s h k = absurd (cc)
length-integer (number (negsuc m)) n s h k = absurd (cc)
length-integer (truth b) n s h k = absurd (cc)
length-integer (elements vs) n s h k = absurd (cc)
length-integer (members j ms) n s h k = absurd (cc)

pub well_typed_expressions_have_no_fault-holds : {N : Type 0} → WellTypedExpressionsHaveNoFault N
well_typed_expressions_have_no_fault-holds p true shapes label meaning e agrees h =
    let (s, hs) = is-there (type_of_expression (meanings_in_constant_expressions meaning) (mapped_tree label (token_value_at p.source) e)) h in
    constant-right (facts_from_declarations p true) (shape_of_type_in shapes) (types-apart p.made shapes) label meaning e agrees Signature refl s hs
well_typed_expressions_have_no_fault-holds p false shapes label meaning e agrees h =
    let (s, hs) = is-there (type_of_expression meaning (mapped_tree label (token_value_at p.source) e)) h in
    typed-right (facts_from_declarations p false) (shape_of_type_in shapes) (types-apart p.made shapes) label meaning e agrees refl s hs

pub constants_with_values_have_no_fault-holds : {N : Type 0} → ConstantsWithValuesHaveNoFault N
unfolding report_on_constant_expression
constants_with_values_have_no_fault-holds p shapes label meaning e agrees h =
    let facts = facts_from_declarations p true in
    let (v, hv) = is-there (constant_expression_value meaning (mapped_tree label (token_value_at p.source) e)) h in
    let c = value-known facts (shape_of_type_in shapes) (types-apart p.made shapes) label meaning e agrees refl v hv in
    let o : Operand _ = (report_on_expression facts e).known in
    none-of-both (report_on_expression facts e).faults (require_constant_value facts o).faults c.none (require_constant_value-right o (facts.types.same o.of facts.types.unknown) o.value v c.value)

pub valid_lengths_have_no_fault-holds : {N : Type 0} → ValidLengthsHaveNoFault N
valid_lengths_have_no_fault-holds p shapes label meaning e agrees h =
    let facts = facts_from_declarations p true in
    let after = facts_from_declarations p false in
    let (n, hn) = is-there (option_and_then array_length_from_value (constant_expression_value meaning (mapped_tree label (token_value_at p.source) e))) h in
    let (v, hv, counted) = and-then array_length_from_value (constant_expression_value meaning (mapped_tree label (token_value_at p.source) e)) n hn in
    let apart = types-apart p.made shapes in
    let c = value-known facts (shape_of_type_in shapes) apart label meaning e agrees refl v hv in
    let o : Operand _ = (report_on_expression facts e).known in
    let integer = apart.integer o.of (c.known ∙ ap Some (length-integer v n c.of counted c.scalar)) in
    let t = (require_type after after.types.integer o).known in
    none-of-both (report_on_expression facts e).faults (length_from_operand after o).faults c.none
    (none-of-both (require_type after after.types.integer o).faults _ (require_type-right after (shape_of_type_in shapes) agrees.types apart after.types.integer o integer)
    (bounds-right o (after.types.same t after.types.integer) o.value v n c.value counted))
