-- Worked examples of runs. Each lemma is one run, which the prover computes.
use Rattle.std.proofs.Common.{◌≡◌, [], ◌∷◌, pos, negsuc, refl}
use Rattle.ob0_language_names.specs.Names.{naming_by_spelling}
use Rattle.ob0_language_names.proofs.WorkedTrees.{activations, aliases, captured_variable, divisions, least_constant, least_constant_gone, least_constant_inlined, negative_divisor, records, recursion, recursion_renamed, repeats, shadowed_variable, sign_overflows, store_of_calls, sum_overflows, turns_and_calls, visible_later, visible_later_renamed}
use Rattle.ob0_language_values.specs.Values.{CallBound, Divisor, Done, Index, InputEnd, Overflow, TurnBound}
use Rattle.ob0_language_runs.specs.FreedVariables.{run_freeing_variables}
use Rattle.ob0_language_runs.specs.Runs.{printed_line_end, printed_number, run}

pub shadowed_variable-run-1 : run shadowed_variable [] 64 9 ≡ record { output = printed_number (pos 1) ∷ []; ending = Done }
unfolding run
shadowed_variable-run-1 = refl

pub captured_variable-run-1 : run captured_variable [] 64 9 ≡ record { output = printed_number (pos 0) ∷ []; ending = Done }
unfolding run
captured_variable-run-1 = refl

pub visible_later-run-1 : run visible_later [] 64 9 ≡ record { output = printed_number (pos 2) ∷ printed_number (pos 7) ∷ []; ending = Done }
unfolding run
visible_later-run-1 = refl

pub visible_later_renamed-run-1 : run visible_later_renamed [] 64 9 ≡ record { output = printed_number (pos 2) ∷ printed_number (pos 7) ∷ []; ending = Done }
unfolding run
visible_later_renamed-run-1 = refl

pub recursion-run-1 : run recursion [] 3 9 ≡ record { output = printed_number (pos 2) ∷ printed_number (pos 1) ∷ []; ending = Done }
unfolding run
recursion-run-1 = refl

pub recursion-run-2 : run recursion [] 2 9 ≡ record { output = printed_number (pos 2) ∷ printed_number (pos 1) ∷ []; ending = CallBound }
unfolding run
recursion-run-2 = refl

pub recursion_renamed-run-1 : run recursion_renamed [] 3 9 ≡ record { output = printed_number (pos 2) ∷ printed_number (pos 1) ∷ []; ending = Done }
unfolding run
recursion_renamed-run-1 = refl

pub least_constant-run-1 : run least_constant [] 64 9 ≡ record { output = printed_number (negsuc 2147483647) ∷ []; ending = Done }
unfolding run
least_constant-run-1 = refl

pub least_constant_inlined-run-1 : run least_constant_inlined [] 64 9 ≡ record { output = printed_number (negsuc 2147483647) ∷ []; ending = Done }
unfolding run
least_constant_inlined-run-1 = refl

pub least_constant_gone-run-1 : run least_constant_gone [] 64 9 ≡ record { output = printed_number (negsuc 2147483647) ∷ []; ending = Done }
unfolding run
least_constant_gone-run-1 = refl

pub turns_and_calls-run-1 : run turns_and_calls [] 1 3 ≡ record { output = []; ending = InputEnd }
unfolding run
turns_and_calls-run-1 = refl

pub turns_and_calls-run-2 : run turns_and_calls (pos 7 ∷ []) 0 3 ≡ record { output = printed_line_end ∷ printed_line_end ∷ printed_line_end ∷ []; ending = TurnBound }
unfolding run
turns_and_calls-run-2 = refl

pub turns_and_calls-run-3 : run turns_and_calls (pos 2 ∷ []) 0 3 ≡ record { output = printed_line_end ∷ printed_line_end ∷ []; ending = CallBound }
unfolding run
turns_and_calls-run-3 = refl

pub turns_and_calls-run-4 : run turns_and_calls (pos 2 ∷ []) 1 3 ≡ record { output = printed_line_end ∷ printed_line_end ∷ printed_number (pos 0) ∷ []; ending = Done }
unfolding run
turns_and_calls-run-4 = refl

pub divisions-run-1 : run divisions [] 64 9 ≡ record { output = printed_number (negsuc 1) ∷ printed_number (negsuc 2) ∷ printed_number (pos 2) ∷ []; ending = Divisor }
unfolding run
divisions-run-1 = refl

pub aliases-run-1 : run aliases [] 1 9 ≡ record { output = printed_number (pos 0) ∷ printed_number (pos 10) ∷ printed_number (pos 0) ∷ printed_number (pos 1) ∷ printed_number (pos 20) ∷ []; ending = Index }
unfolding run
aliases-run-1 = refl

pub aliases-run-2 : run aliases [] 0 9 ≡ record { output = []; ending = CallBound }
unfolding run
aliases-run-2 = refl

pub activations-run-1 : run activations [] 4 9 ≡ record { output = printed_number (pos 0) ∷ printed_number (pos 2) ∷ printed_number (pos 4) ∷ []; ending = Done }
unfolding run
activations-run-1 = refl

pub activations-run-2 : run activations [] 3 9 ≡ record { output = []; ending = CallBound }
unfolding run
activations-run-2 = refl

pub records-run-1 : run records [] 1 9 ≡ record { output = printed_number (pos 3) ∷ []; ending = Done }
unfolding run
records-run-1 = refl

pub sum_overflows-run-1 : run sum_overflows [] 1 9 ≡ record { output = []; ending = Overflow }
unfolding run
sum_overflows-run-1 = refl

pub sign_overflows-run-1 : run sign_overflows [] 1 9 ≡ record { output = []; ending = Overflow }
unfolding run
sign_overflows-run-1 = refl

pub negative_divisor-run-1 : run negative_divisor [] 1 9 ≡ record { output = []; ending = Divisor }
unfolding run
negative_divisor-run-1 = refl

pub repeats-run-1 : run repeats (pos 0 ∷ []) 1 0 ≡ record { output = printed_number (pos 0) ∷ []; ending = Done }
unfolding run
repeats-run-1 = refl

pub repeats-run-2 : run repeats (pos 2 ∷ []) 1 0 ≡ record { output = printed_number (pos 2) ∷ []; ending = TurnBound }
unfolding run
repeats-run-2 = refl

pub repeats-run-3 : run repeats (pos 2 ∷ []) 1 1 ≡ record { output = printed_number (pos 2) ∷ []; ending = TurnBound }
unfolding run
repeats-run-3 = refl

pub repeats-run-4 : run repeats (pos 2 ∷ []) 1 2 ≡ record { output = printed_number (pos 2) ∷ printed_number (pos 1) ∷ []; ending = Done }
unfolding run
repeats-run-4 = refl

pub repeats-run-5 : run repeats [] 1 2 ≡ record { output = []; ending = InputEnd }
unfolding run
repeats-run-5 = refl

pub store_of_calls-run-1 : run store_of_calls [] 2 1 ≡ record { output = printed_number (pos 10) ∷ printed_number (pos 10) ∷ printed_number (pos 10) ∷ []; ending = Done }
unfolding run
store_of_calls-run-1 = refl

-- Each call gets new variables, and its VAR parameter refers to the same place. This doesn't depend on whether calls
-- drop their variables.
pub store_of_calls-freed-1 : run_freeing_variables naming_by_spelling store_of_calls [] 2 1 ≡ record { output = printed_number (pos 10) ∷ printed_number (pos 10) ∷ printed_number (pos 10) ∷ []; ending = Done }
unfolding run_freeing_variables
store_of_calls-freed-1 = refl
