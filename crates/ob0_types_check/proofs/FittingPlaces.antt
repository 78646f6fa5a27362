-- If no fault is reported for an expression that may be a variable, it is a variable or parameter
-- with its selectors.
use Rattle.std.proofs.Common.{◌≡◌, ℕ, true, false, true≢false, List, [], ◌++◌, Option, Some, None, refl, sym, ap, ◌∙◌}
use Rattle.ob0_tree.specs.declared.tree.Role.{Role}
use Rattle.ob0_tree.specs.declared.tree.Role.TheVariants as role
use Rattle.ob0_tree.specs.TokenIndexLeaves.{token_value_at}
use Rattle.ob0_tree.specs.Tree.{Sort, Tree, adds, compares, designator, end, expression, factor, identifiers, integer, items, mapped_tree, more, multiplies, negation, none, one, parenthesised, product, relates, selector, sum}
use Rattle.ob0_language_types.specs.Expressions.{Meanings, a_variable}
use Rattle.ob0_language_types.specs.Typing.{lone_designator, type_after_selectors}
use Rattle.ob0_language_types.specs.WellTyped.{assignable_type}
use Rattle.ob0_language_values.specs.Values.{Shape}
use Rattle.ob0_types_check.specs.ExpressionFaults.{report_on_expression, report_on_factor, report_on_selectors, report_on_term}
use Rattle.ob0_types_check.specs.TypesAndMeanings.{Facts, Operand}
use Rattle.ob0_types_check.specs.OperandFaults.{check_sum, check_product, name_operand, check_sign}
use Rattle.ob0_types_check.specs.Agreement.{TypesAgreeWithShapes}
use Rattle.ob0_types_check.specs.ReportLaws.{OperandAgreesWithExpression}
use Rattle.ob0_types_check.proofs.FittingExpressions.{FitsExpression, FitsSelectors, NameFits, TokensFit, addends-apart, expression-fits, multipliers-apart, parts-placed, selectors-fit, split-tokens}
use Rattle.ob0_types_check.proofs.Unreported.{none-reported}

module _ {T N P : Type 0} (facts : Facts T) (shape : T → Option Shape) (types : TypesAgreeWithShapes facts.types shape) (label : ℕ → N) (meaning : Meanings N Shape P) where
  abbrev here : {s : Sort} → Tree ℕ s → Tree N s
  here t = mapped_tree label (token_value_at facts.source) t

  abbrev Agreed : {s : Sort} → Tree ℕ s → Type 0
  Agreed t = TokensFit facts shape label meaning (identifiers role.DeclaringName t)

  abbrev ids : {s : Sort} → Tree ℕ s → List (Role × ℕ)
  ids t = identifiers role.DeclaringName t

  split : (xs ys : List (Role × ℕ)) → TokensFit facts shape label meaning (xs ++ ys) → TokensFit facts shape label meaning xs × TokensFit facts shape label meaning ys
  split = split-tokens facts shape label meaning

  pub variable-typed : (x : ℕ) (path : Tree ℕ (items selector)) (s : Shape) (u : Option Shape) → meaning.object_for (label x) ≡ Some (a_variable s)
      → type_after_selectors meaning s (mapped_tree label (token_value_at facts.source) path) ≡ u → assignable_type meaning (Some (label x, mapped_tree label (token_value_at facts.source) path)) ≡ u
  unfolding assignable_type
  variable-typed x path s u holds typed = ap (λ o. elim o [ Some (a_variable s) ↦ type_after_selectors meaning s (here path) | _ ↦ None ]) holds ∙ typed

  -- holds if an operand has the type of the variable that the expression designates
  pub record IsPlaced (o : Operand T) (e : Tree N expression) : Type 0 where
    pub of : Shape
    pub known : shape o.of ≡ Some of
    pub placed : assignable_type meaning (lone_designator e) ≡ Some of

  designator-placed : (x : ℕ) (path : Tree ℕ (items selector)) (f : Tree N factor) → NameFits facts shape label meaning x → Agreed path → (report_on_selectors facts (name_operand facts x).known path).faults ≡ []
      → (report_on_selectors facts (name_operand facts x).known path).known.may_be_variable ≡ true
      → IsPlaced (report_on_selectors facts (name_operand facts x).known path).known (compares (sum None (product (designator (label x) (here path)) end) end) none)
  designator-placed x path f name k h e =
      let fs : FitsSelectors facts shape types label meaning (name_operand facts x).known name.fits.of path = selectors-fit facts shape types label meaning (name_operand facts x).known name.fits.of path name.fits.known k h in
      record {
        of = fs.of;
        known = fs.known;
        placed = variable-typed x path name.fits.of (Some fs.of) (name.placed (sym (parts-placed facts (name_operand facts x).known path) ∙ e)) fs.typed;
      }

  no-place : {A : Type 0} (o : Operand T) → o.may_be_variable ≡ false → o.may_be_variable ≡ true → A
  no-place o f e = absurd (true≢false (sym e ∙ f))

  placed-factor : (f : Tree ℕ factor) → Agreed f → (report_on_factor facts f).faults ≡ [] → (report_on_factor facts f).known.may_be_variable ≡ true
      → IsPlaced (report_on_factor facts f).known (compares (sum None (product (here f) end) end) none)
  unfolding report_on_expression
  placed-factor (designator x path) k h e =
      let parts = none-reported (name_operand facts x).faults _ h in
      designator-placed x path (here (designator x path)) (k.0 parts.0) k.1 parts.1 e
  placed-factor (integer n) k h e = no-place (report_on_factor facts (integer n)).known refl e
  placed-factor (parenthesised a) k h e = no-place (report_on_factor facts (parenthesised a)).known refl e
  placed-factor (negation a) k h e = no-place (report_on_factor facts (negation a)).known refl e

  pub expression-placed : (e : Tree ℕ expression) → Agreed e → (report_on_expression facts e).faults ≡ [] → (report_on_expression facts e).known.may_be_variable ≡ true → IsPlaced (report_on_expression facts e).known (here e)
  unfolding report_on_expression
  expression-placed (compares a (one (relates r b))) k h e = no-place (report_on_expression facts (compares a (one (relates r b)))).known refl e
  expression-placed (compares (sum g t (more (adds o u) rest)) none) k h e =
      no-place (report_on_expression facts (compares (sum g t (more (adds o u) rest)) none)).known
      (addends-apart facts (check_sum facts o (check_sign facts g (report_on_term facts t).known).known (report_on_term facts u).known).known rest refl) e
  expression-placed (compares (sum (Some g) t end) none) k h e = no-place (report_on_expression facts (compares (sum (Some g) t end) none)).known refl e
  expression-placed (compares (sum None (product f (more (multiplies o u) rest)) end) none) k h e =
      no-place (report_on_expression facts (compares (sum None (product f (more (multiplies o u) rest)) end) none)).known
      (multipliers-apart facts (check_product facts o (report_on_factor facts f).known (report_on_factor facts u).known).known rest refl) e
  expression-placed (compares (sum None (product f end) end) none) k h e =
      placed-factor f (split (ids f) [] (split (ids (product f end)) [] (split (ids (sum None (product f end) end)) [] k).0).0).0
      (none-reported (report_on_factor facts f).faults _ (none-reported (report_on_term facts (product f end)).faults _ h).0).0 e

  -- An operand for which no fault is reported agrees with its expression (`OperandAgreesWithExpression`).
  pub operand-fits : (e : Tree ℕ expression) → Agreed e → (report_on_expression facts e).faults ≡ [] → OperandAgreesWithExpression shape meaning (report_on_expression facts e).known (here e)
  operand-fits e k h =
      let fe : FitsExpression facts shape types label meaning e = expression-fits facts shape types label meaning e k h in
      record {
        of = fe.of;
        known = fe.known;
        typed = fe.typed;
        value_agrees = fe.value_agrees;
        scalar = fe.scalar;
        placed = λ i. let p : IsPlaced (report_on_expression facts e).known (here e) = expression-placed e k h i in p.placed ∙ (sym p.known ∙ fe.known);
      }
