-- Laws about the type check and about evaluation. Numbering a module doesn't change its type check,
-- and inlining a constant doesn't change types and values. A constant has the same value in a run
-- as in the checker. In a module's numbered tree (`numbered`), each bound name is replaced by the
-- ordinal of its declaration.
-- Rule: none; states laws about types.
use Rattle.std.specs.Prelude.{◌≡◌, ℕ, suc, true, ◌↔◌, List, [], ◌∷◌, IsTrue, Some}
use Rattle.ob0_tree.specs.Tree.{Tree, expression, factor, module_text, occurrences}
use Rattle.ob0_language_names.specs.Inlining.{OccurrenceSet, inline_in_tree}
use Rattle.ob0_language_names.specs.Names.{Name, naming_by_label, naming_by_spelling}
use Rattle.ob0_language_names.specs.Scopes.{numbered}
use Rattle.ob0_language_types.specs.Expressions.{Meanings, a_constant, evaluate_expression, evaluate_factor}
use Rattle.ob0_language_types.specs.Typing.{value_of_constant_object, constant_expression_value, type_of_expression, type_of_factor, value_type}
use Rattle.ob0_language_values.specs.Values.{Place, Store, Value, succeeds_with}
use Rattle.ob0_language_names.specs.ConsistentNames.{has_consistent_names}
use Rattle.ob0_language_types.specs.WellTyped.{ParameterMode, TypeMeanings, WellTyped, passes_type_check}

-- States that the type check by names accepts a module exactly if the type check by ordinals accepts the module's
-- numbered tree. In this tree, each bound name is replaced by the ordinal of its declaration.
abbrev pub NumberingKeepsTypeCheck : Type 0
NumberingKeepsTypeCheck =
    (m : Tree Name module_text) → passes_type_check naming_by_spelling m ≡ passes_type_check naming_by_label (numbered m)

-- States that two modules with the same numbered tree are both well-typed or neither is. In a numbered tree, each bound
-- name is replaced by the ordinal of its declaration. Both modules must declare no name twice in a block or record, and
-- each closing name must equal the name of its module or procedure.
abbrev pub NumberedTreeDecidesTyping : Type 0
NumberedTreeDecidesTyping =
    (a b : Tree Name module_text)
    → numbered a ≡ numbered b
    → IsTrue (has_consistent_names a)
    → IsTrue (has_consistent_names b)
    → WellTyped a ↔ WellTyped b

-- States that a constant expression has the same value in a run as in the checker. Each name that means a constant in
-- the checker must mean the same constant in the run. Each name must also have the same spelling in both.
abbrev pub ConstantsHaveSameValueInRunAndChecker : Type 0
ConstantsHaveSameValueInRunAndChecker =
    (checked : TypeMeanings Name) (active : Meanings Name Place (List ParameterMode)) (store : Store)
    (e : Tree Name expression) (v : Value)
    → ((x : Name) → checked.written x ≡ active.written x)
    → ((x : Name) (w : Value)
    → value_of_constant_object (checked.object_for x) ≡ Some w
    → value_of_constant_object (active.object_for x) ≡ Some w)
    → constant_expression_value checked e ≡ Some v → evaluate_expression active store e ≡ succeeds_with v

-- States that `P` holds for each listed name whose occurrence number is in `uses`. The names are consecutive
-- occurrences, and the first one has number `k`.
abbrev pub EachUseSatisfies : OccurrenceSet → (Name → Type 0) → ℕ → List Name → Type 0
EachUseSatisfies uses P k [] = Unit {0}
EachUseSatisfies uses P k (x ∷ xs) = (uses k ≡ true → P x) × EachUseSatisfies uses P (suc k) xs

-- States that replacing uses of a constant by a factor with the constant's value leaves an expression's evaluation
-- unchanged. `k` is the number of the first occurrence of a name in the expression. Occurrences are numbered from 0 in
-- text order.
abbrev pub InliningKeepsEvaluation : Type 0
InliningKeepsEvaluation =
    (meaning : Meanings Name Place (List ParameterMode)) (store : Store) (uses : OccurrenceSet) (v : Tree Name factor)
    (w : Value) (k : ℕ) (e : Tree Name expression)
    → evaluate_factor meaning store v ≡ succeeds_with w
    → EachUseSatisfies uses (λ x. meaning.object_for x ≡ Some (a_constant w)) k (occurrences e)
    → evaluate_expression meaning store (inline_in_tree uses v k e) ≡ evaluate_expression meaning store e

-- States that replacing uses of a constant by a factor with the constant's type leaves an expression's type unchanged.
-- `k` is the number of the first occurrence of a name in the expression. Occurrences are numbered from 0 in text order.
abbrev pub InliningKeepsTypes : Type 0
InliningKeepsTypes =
    (checked : TypeMeanings Name) (uses : OccurrenceSet) (v : Tree Name factor) (w : Value) (k : ℕ)
    (e : Tree Name expression)
    → type_of_factor checked v ≡ value_type w
    → EachUseSatisfies uses (λ x. checked.object_for x ≡ Some (a_constant w)) k (occurrences e)
    → type_of_expression checked (inline_in_tree uses v k e) ≡ type_of_expression checked e
