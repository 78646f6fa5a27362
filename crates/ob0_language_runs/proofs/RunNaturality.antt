-- A statement in which names are mapped does the same as the original statement, with the meanings of the new names.
use Rattle.std.proofs.Common.{◌≡◌, ℕ, ◌-◌, List, [], ◌∷◌, map, Some, None, Option, option_map, refl, ap, ◌∙◌}
use Rattle.ob0_tree.specs.Tree.{Tree, assigns, branches, calls, else_branch, else_part, elsif_branch, elsif_part, empty, end, expression, statement_after_semicolon, items, maybe, more, none, one, repeat_loop, runs, selector, sequence, statement, semicolon_then_statement, while_loop}
use Rattle.ob0_language_names.specs.MappedNames.{map_names}
use Rattle.ob0_language_types.specs.Arguments.{call_arguments}
use Rattle.ob0_language_types.specs.Expressions.{Meanings, designated_place}
use Rattle.ob0_language_types.specs.Typing.{lone_designator}
use Rattle.ob0_language_values.specs.Values.{Place, Store, succeeds_with, result_or_stuck, ◌>>=◌}
use Rattle.ob0_language_types.specs.WellTyped.{ParameterMode, by_place, by_value}
use Rattle.ob0_language_types.proofs.Naturality.{arguments-map, designated_place-map, lone_designator-map, evaluate-map, map_designator, through}
use Rattle.ob0_language_runs.specs.Runs.{CallFunction, Progress, State, choose_by_truth_value, evaluate_argument, evaluate_arguments, execute_statement, execute_sequence, execute_else, execute_elsifs, execute_further_statements, continue_if_running, argument_modes_of, perform_call, place_argument, store_value_at_place, execute_while, execute_repeat, continue_with_result, value_argument}

pub evaluate_argument-map : {N M P : Type 0} (f h : N → M) (meaning : Meanings M Place P) (store : Store) (m : ParameterMode) (e : Tree N expression) → evaluate_argument meaning store m (map_names f h e) ≡ evaluate_argument (through f h meaning) store m e
unfolding evaluate_argument
evaluate_argument-map {N} f h meaning store by_value e = λ i. evaluate-map f h meaning store e i >>= (λ v. succeeds_with (value_argument v))
evaluate_argument-map {N} f h meaning store by_place e =
    (λ i. result_or_stuck (lone_designator-map f h e i) >>= (λ d. designated_place meaning store d.0 d.1 >>= (λ p. succeeds_with (place_argument p))))
    ∙ place (lone_designator e)
  where
    place : (d : Option (N × Tree N (items selector))) → result_or_stuck (option_map (map_designator f h) d) >>= (λ d. designated_place meaning store d.0 d.1 >>= (λ p. succeeds_with (place_argument p))) ≡ result_or_stuck d >>= (λ d. designated_place (through f h meaning) store d.0 d.1 >>= (λ p. succeeds_with (place_argument p)))
    place None = refl
    place (Some d) = λ i. designated_place-map f h meaning store d.0 d.1 i >>= (λ p. succeeds_with (place_argument p))

pub evaluate_arguments-map : {N M P : Type 0} (f h : N → M) (meaning : Meanings M Place P) (store : Store) (ms : List ParameterMode) (es : List (Tree N expression)) → evaluate_arguments meaning store ms (map (map_names f h) es) ≡ evaluate_arguments (through f h meaning) store ms es
unfolding evaluate_arguments
evaluate_arguments-map f h meaning store [] [] = refl
evaluate_arguments-map f h meaning store (m ∷ ms) (e ∷ es) = λ i.
    evaluate_argument-map f h meaning store m e i >>= (λ a. evaluate_arguments-map f h meaning store ms es i >>= (λ rest. succeeds_with (a ∷ rest)))
evaluate_arguments-map f h meaning store _ _ = refl

mutual
  unfolding execute_statement

  pub execute-map : {N M : Type 0} (f h : N → M) (meaning : Meanings M Place (List ParameterMode)) (enter : CallFunction M) (t : ℕ) (a : Tree N statement) → execute_statement meaning enter t (map_names f h a) ≡ execute_statement (through f h meaning) (λ x. enter (f x)) t a
  execute-map f h meaning enter t empty = refl
  execute-map f h meaning enter t (assigns x path e) = λ i s.
      continue_with_result s (designated_place-map f h meaning s.store x path i) (λ p. continue_with_result s (evaluate-map f h meaning s.store e i) (store_value_at_place s p))
  execute-map f h meaning enter t (calls x es) = λ i s.
      continue_with_result s (argument_modes_of (meaning.object_for (f x)) >>= (λ modes. (ap (evaluate_arguments meaning s.store modes) (arguments-map f h es) ∙ evaluate_arguments-map f h meaning s.store modes (call_arguments es)) i))
      (λ args. perform_call (meaning.object_for (f x)) (enter (f x)) args s)
  execute-map f h meaning enter t (branches e statements rest last) = λ i s.
      continue_with_result s (evaluate-map f h meaning s.store e i)
      (λ v. choose_by_truth_value s v (execute_sequence-map f h meaning enter t statements i) (execute_elsifs-map f h meaning enter t rest (execute_else meaning enter t (map_names f h last)) (execute_else (through f h meaning) (λ x. enter (f x)) t last) (execute_else-map f h meaning enter t last) i))
  execute-map f h meaning enter t (while_loop e statements) = λ i s.
      execute_while t (λ s'. evaluate-map f h meaning s'.store e i) (execute_sequence-map f h meaning enter t statements i) s
  execute-map f h meaning enter t (repeat_loop statements e) = λ i s.
      execute_repeat (t - 1) (λ s'. evaluate-map f h meaning s'.store e i) (execute_sequence-map f h meaning enter t statements i) s

  pub execute_sequence-map : {N M : Type 0} (f h : N → M) (meaning : Meanings M Place (List ParameterMode)) (enter : CallFunction M) (t : ℕ) (a : Tree N sequence) → execute_sequence meaning enter t (map_names f h a) ≡ execute_sequence (through f h meaning) (λ x. enter (f x)) t a
  execute_sequence-map f h meaning enter t (runs a rest) = λ i s. continue_if_running (execute-map f h meaning enter t a i s) (execute_further_statements-map f h meaning enter t rest i)

  pub execute_further_statements-map : {N M : Type 0} (f h : N → M) (meaning : Meanings M Place (List ParameterMode)) (enter : CallFunction M) (t : ℕ) (a : Tree N (items statement_after_semicolon)) → execute_further_statements meaning enter t (map_names f h a) ≡ execute_further_statements (through f h meaning) (λ x. enter (f x)) t a
  execute_further_statements-map f h meaning enter t end = refl
  execute_further_statements-map f h meaning enter t (more (semicolon_then_statement a) rest) = λ i s. continue_if_running (execute-map f h meaning enter t a i s) (execute_further_statements-map f h meaning enter t rest i)

  pub execute_elsifs-map : {N M : Type 0} (f h : N → M) (meaning : Meanings M Place (List ParameterMode)) (enter : CallFunction M) (t : ℕ) (a : Tree N (items elsif_part)) (there here : State → Progress) → there ≡ here → execute_elsifs meaning enter t (map_names f h a) there ≡ execute_elsifs (through f h meaning) (λ x. enter (f x)) t a here
  execute_elsifs-map f h meaning enter t end there here e = λ i s. e i s
  execute_elsifs-map f h meaning enter t (more (elsif_branch c statements) rest) there here e = λ i s.
      continue_with_result s (evaluate-map f h meaning s.store c i) (λ v. choose_by_truth_value s v (execute_sequence-map f h meaning enter t statements i) (execute_elsifs-map f h meaning enter t rest there here e i))

  pub execute_else-map : {N M : Type 0} (f h : N → M) (meaning : Meanings M Place (List ParameterMode)) (enter : CallFunction M) (t : ℕ) (a : Tree N (maybe else_part)) → execute_else meaning enter t (map_names f h a) ≡ execute_else (through f h meaning) (λ x. enter (f x)) t a
  execute_else-map f h meaning enter t none = refl
  execute_else-map f h meaning enter t (one (else_branch statements)) = λ i s. execute_sequence-map f h meaning enter t statements i s
