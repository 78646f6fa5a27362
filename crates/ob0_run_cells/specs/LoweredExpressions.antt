-- States when lowered places, numbers and truths are correct. They must have the same outcome as
-- the module's designators and expressions at each moment of a run. A moment (`Moment`) has the
-- store, the meanings of names, and the visible activations. Each fact about code, for example
-- `NumberHasOutcome`, relates the code to a function from moments to outcomes (`OutcomeByMoment`).
-- The fact doesn't mention the tree of an expression, so operators need no types. Only places and
-- variables need types. The value of an array or a record is in the cells at a place
-- (`PlaceHoldsValue`), even if its expression is in parentheses.
-- Rule: docs/LANGUAGE.md, Runs 2 to 4.
use Rattle.std.specs.Prelude.{◌≡◌, ℕ, zero, suc, ◌+◌, ◌^◌, ◌<◌, List, ◌++◌, slice_index_or, Some}
use Rattle.ob0_tree.specs.declared.tree.Relation.{Relation}
use Rattle.ob0_tree.specs.declared.tree.Relation.TheVariants as relation
use Rattle.ob0_tree.specs.Tree.{Tree, addend, expression, factor, items, multiplier, selector, simple, term}
use Rattle.ob0_language_types.specs.Expressions.{Meanings, a_variable, designated_place, evaluate_expression, evaluate_addends, evaluate_factor, evaluate_multipliers, evaluate_simple_expression, evaluate_term, evaluate_selectors}
use Rattle.ob0_language_types.specs.WellTyped.{ParameterMode, TypeMeanings}
use Rattle.ob0_language_values.specs.Values.{CallBound, Divisor, Done, End, Index, InputEnd, Outcome, Overflow, Place, Shape, PathStep, Store, TurnBound, Value, ends_run_with, succeeds_with, number, result_or_stuck, read_place, truth, ◌>>=◌}
use Rattle.ob0_language_runs.specs.TypeAgreement.{RunMeaningsAgreeWithCheckedMeanings, PlaceHasType, StoreHasTypes, StoreTyping}
use Rattle.ob0_run_machine.specs.Evaluation as machine
use Rattle.ob0_run_machine.specs.Evaluation.{Levels, level_at}
use Rattle.ob0_run_machine.specs.LoweredSyntax as lowered
use Rattle.ob0_run_cells.specs.Cells.{address_of_place, cells_of_store, store_cell_count}

-- The slot of a variable: where running code finds the variable. A variable is at an offset in the
-- cells of the module or of the activation `up` levels out. A VAR parameter is found by its index
-- among the VAR parameters of the activation `up` levels out.
pub data Slot : Type 0 where
  in_module_activation : (offset : ℕ) → Slot
  in_activation : (up offset : ℕ) → Slot
  by_reference : (up index : ℕ) → Slot

-- returns the address of the variable in a slot, as seen from the running activation
abbrev pub slot_address : Levels → Slot → ℕ
slot_address ls (in_module_activation offset) = offset
slot_address ls (in_activation up offset) = (level_at ls up).base + offset
slot_address ls (by_reference up index) = slice_index_or (level_at ls up).addresses index 0

-- returns the lowered place of the variable in a slot
abbrev pub slot_place : Slot → lowered.Place
slot_place (in_module_activation offset) = lowered.in_module offset
slot_place (in_activation zero offset) = lowered.in_own_activation offset
slot_place (in_activation (suc up) offset) = lowered.outside (suc up) offset
slot_place (by_reference up index) = lowered.passed up index 0

-- Returns the place that is `k` cells after the start of a place. The sum of the offsets wraps at
-- 64 bits.
abbrev pub place_at_offset : lowered.Place → ℕ → lowered.Place
place_at_offset (lowered.in_module at) k = lowered.in_module (machine.add_offset at k)
place_at_offset (lowered.in_own_activation at) k = lowered.in_own_activation (machine.add_offset at k)
place_at_offset (lowered.outside up at) k = lowered.outside up (machine.add_offset at k)
place_at_offset (lowered.passed up index at) k = lowered.passed up index (machine.add_offset at k)
place_at_offset (lowered.element q i n s at) k = lowered.element q i n s (machine.add_offset at k)

-- A moment of a run: the store and its types, the meanings of names, and the activations that
-- lowered code can see.
pub record Moment (N : Type 0) : Type 0 where
  pub typing : StoreTyping
  pub store : Store
  pub active : Meanings N Place (List ParameterMode)
  pub levels : Levels

-- States that a moment belongs to a run of the checked module. The values in its store have the
-- store's types, and its names have the meanings that the checker found. Each variable is in its
-- slot, and the store has fewer than 2^64 cells.
pub record IsMomentOfModule {N : Type 0} (checked : TypeMeanings N) (slots : N → Slot) (m : Moment N) : Type 0 where
  pub store_fits : StoreHasTypes m.typing m.store
  pub names_fit : RunMeaningsAgreeWithCheckedMeanings m.typing checked m.active
  pub variables_in_slots : (x : N) (p : Place)
      → m.active.object_for x ≡ Some (a_variable p)
      → slot_address m.levels (slots x) ≡ address_of_place m.typing p
  pub store_is_addressable : store_cell_count m.typing < 2 ^ 64

-- converts an end of the machine's run to an end of a module's run
abbrev pub end_of : machine.MachineEnd → End
end_of machine.Done = Done
end_of machine.Overflow = Overflow
end_of machine.Divisor = Divisor
end_of machine.Index = Index
end_of machine.InputEnd = InputEnd
end_of machine.CallBound = CallBound
end_of machine.TurnBound = TurnBound

-- Converts an outcome of the machine to an outcome of a module. `f` converts the value.
abbrev pub outcome_of : {A B : Type 0} → (A → B) → machine.StepResult A → Outcome B
outcome_of f (machine.gives a) = succeeds_with (f a)
outcome_of f (machine.ends e) = ends_run_with (end_of e)

-- The type of an evaluation: a function that returns the outcome at each moment of a run
-- (`Moment`).
abbrev pub OutcomeByMoment : Type 0 → Type 0 → Type 0
OutcomeByMoment N A = Moment N → Outcome A

-- States that the lowered number `n` and the evaluation `value` have the same outcome at each
-- moment of the checked module (`IsMomentOfModule`). A moment has the store, the meanings of names,
-- and the activations of a run.
abbrev pub NumberHasOutcome : {N : Type 0}
    → TypeMeanings N
    → (N → Slot)
    → lowered.Number
    → OutcomeByMoment N Value
    → Type 0
NumberHasOutcome {N} checked slots n value =
    (m : Moment N)
    → IsMomentOfModule checked slots m
    → outcome_of number (machine.number_value m.levels (cells_of_store m.store) n) ≡ value m

-- States that the lowered truth `t` and the evaluation `value` have the same outcome at each moment
-- of the checked module (`IsMomentOfModule`). A moment has the store, the meanings of names, and
-- the activations of a run.
abbrev pub TruthHasOutcome : {N : Type 0}
    → TypeMeanings N
    → (N → Slot)
    → lowered.Truth
    → OutcomeByMoment N Value
    → Type 0
TruthHasOutcome {N} checked slots t value =
    (m : Moment N)
    → IsMomentOfModule checked slots m
    → outcome_of truth (machine.truth_value m.levels (cells_of_store m.store) t) ≡ value m

-- States that an outcome is an end of the run, or a place whose values have the type `s`.
abbrev pub PlaceOutcomeHasType : StoreTyping → Shape → Outcome Place → Type 0
PlaceOutcomeHasType typing s (succeeds_with p) = PlaceHasType typing p s
PlaceOutcomeHasType typing s (ends_run_with e) = Unit {0}

-- States that the lowered place `q` and the evaluation `value` agree at each moment of the checked
-- module (`IsMomentOfModule`). Both lead to the same address, or both end the run in the same way.
-- Also states that the place that `value` returns has values of the type `s`.
abbrev pub PlaceHasOutcome : {N : Type 0}
    → TypeMeanings N
    → (N → Slot)
    → lowered.Place
    → Shape
    → OutcomeByMoment N Place
    → Type 0
PlaceHasOutcome {N} checked slots q s value =
    (m : Moment N) → IsMomentOfModule checked slots m
    → (outcome_of (λ a. a) (machine.place_address m.levels (cells_of_store m.store) q)
    ≡ (value m >>= (λ p. succeeds_with (address_of_place m.typing p))))
    × PlaceOutcomeHasType m.typing s (value m)

-- States that the lowered place `q` is correct code for an evaluation of a place with values of the
-- type `s` (`PlaceHasOutcome`). Also states that `value` returns the value stored at this place, at
-- each moment of the checked module (`IsMomentOfModule`).
abbrev pub PlaceHoldsValue : {N : Type 0}
    → TypeMeanings N
    → (N → Slot)
    → lowered.Place
    → Shape
    → OutcomeByMoment N Value
    → Type 0
PlaceHoldsValue {N} checked slots q s value =
    (place : OutcomeByMoment N Place)
    × PlaceHasOutcome checked slots q s place
    × ((m : Moment N)
    → IsMomentOfModule checked slots m
    → value m ≡ (place m >>= (λ p. result_or_stuck (read_place m.store p))))

-- Returns the value of an expression at the moment `m`, or the reason why its evaluation ends the
-- run.
abbrev pub value_of_expression : {N : Type 0} → Tree N expression → OutcomeByMoment N Value
value_of_expression e m = evaluate_expression m.active m.store e

-- Returns the value of a simple expression at the moment `m`, or the reason why its evaluation ends
-- the run.
abbrev pub value_of_simple_expression : {N : Type 0} → Tree N simple → OutcomeByMoment N Value
value_of_simple_expression e m = evaluate_simple_expression m.active m.store e

-- Returns the value of a term at the moment `m`, or the reason why its evaluation ends the run.
abbrev pub value_of_term : {N : Type 0} → Tree N term → OutcomeByMoment N Value
value_of_term e m = evaluate_term m.active m.store e

-- Returns the value of a factor at the moment `m`, or the reason why its evaluation ends the run.
abbrev pub value_of_factor : {N : Type 0} → Tree N factor → OutcomeByMoment N Value
value_of_factor e m = evaluate_factor m.active m.store e

-- Returns the place of a designator at the moment `m`, or the reason why its evaluation ends the
-- run.
abbrev pub place_of_designator : {N : Type 0} → N → Tree N (items selector) → OutcomeByMoment N Place
place_of_designator x path m = designated_place m.active m.store x path

-- The type of the remaining part of a chain of operators or selectors. It is a function that
-- returns the outcome of this part, given the moment and the value so far.
abbrev pub RestOfChain : Type 0 → Type 0 → Type 0
RestOfChain N A = Moment N → A → Outcome A

-- returns the outcome of the remaining addends at a moment, given the value so far
abbrev pub outcome_of_remaining_addends : {N : Type 0} → Tree N (items addend) → RestOfChain N Value
outcome_of_remaining_addends rest m v = evaluate_addends m.active m.store v rest

-- returns the outcome of the remaining factors at a moment, given the value so far
abbrev pub outcome_of_remaining_multipliers : {N : Type 0} → Tree N (items multiplier) → RestOfChain N Value
outcome_of_remaining_multipliers rest m v = evaluate_multipliers m.active m.store v rest

-- returns a place with more steps at the end of its path
abbrev pub extended_place : Place → List PathStep → Place
extended_place p steps = record { variable = p.variable; path = p.path ++ steps }

-- returns the outcome of the remaining selectors at a moment, given the place so far
abbrev pub outcome_of_remaining_selectors : {N : Type 0} → Tree N (items selector) → RestOfChain N Place
outcome_of_remaining_selectors rest m p =
    result_or_stuck (read_place m.store p) >>=
    (λ v. evaluate_selectors m.active m.store v rest >>= (λ steps. succeeds_with (extended_place p steps)))

-- States that `rest` completes a chain. There must be an evaluation `so_far` of the first part for
-- which `Means` holds. `so_far` followed by `rest` must have the outcome `whole` of the whole
-- chain.
abbrev pub RestCompletesChain : {N A : Type 0}
    → TypeMeanings N
    → (N → Slot)
    → (OutcomeByMoment N A → Type 0)
    → RestOfChain N A
    → OutcomeByMoment N A
    → Type 0
RestCompletesChain {N} {A} checked slots Means rest whole =
    (so_far : OutcomeByMoment N A)
    × Means so_far
    × ((m : Moment N) → IsMomentOfModule checked slots m → (so_far m >>= rest m) ≡ whole m)

-- States that the lowered place `q` is correct code for the first part of a designator. Starting at
-- the place of this part, the remaining selectors must lead to the place of the whole designator
-- (`RestCompletesChain`).
abbrev pub PlaceStartsChain : {N : Type 0}
    → TypeMeanings N
    → (N → Slot)
    → lowered.Place
    → Shape
    → Tree N (items selector)
    → OutcomeByMoment N Place
    → Type 0
PlaceStartsChain checked slots q s rest =
    RestCompletesChain checked slots (PlaceHasOutcome checked slots q s) (outcome_of_remaining_selectors rest)

-- States that the lowered number `n` is correct code for the first part of a chain. The rest of the
-- chain, given the value of this part, must have the outcome of the whole chain
-- (`RestCompletesChain`).
abbrev pub NumberStartsChain : {N : Type 0}
    → TypeMeanings N
    → (N → Slot)
    → lowered.Number
    → RestOfChain N Value
    → OutcomeByMoment N Value
    → Type 0
NumberStartsChain checked slots n = RestCompletesChain checked slots (NumberHasOutcome checked slots n)

-- States that the lowered truth `t` is correct code for the first part of a chain. The rest of the
-- chain, given the value of this part, must have the outcome of the whole chain
-- (`RestCompletesChain`).
abbrev pub TruthStartsChain : {N : Type 0}
    → TypeMeanings N
    → (N → Slot)
    → lowered.Truth
    → RestOfChain N Value
    → OutcomeByMoment N Value
    → Type 0
TruthStartsChain checked slots t = RestCompletesChain checked slots (TruthHasOutcome checked slots t)

-- converts a relation of the language to the machine's comparator
abbrev pub comparator_of_relation : Relation → lowered.Comparator
comparator_of_relation relation.Equal = lowered.equal
comparator_of_relation relation.NotEqual = lowered.not_equal
comparator_of_relation relation.Less = lowered.less
comparator_of_relation relation.LessEqual = lowered.less_equal
comparator_of_relation relation.Greater = lowered.greater
comparator_of_relation relation.GreaterEqual = lowered.greater_equal
