-- Defines runs in which each call drops its variables when it returns. Then the store has only the
-- variables of the module and of open calls.
-- Rule: docs/LANGUAGE.md, Runs 6 (that no run can tell whether variables are freed).
use Rattle.std.specs.Prelude.{ℕ, zero, suc, length, take, List, ℤ}
use Rattle.ob0_tree.specs.Tree.{Tree, module_text}
use Rattle.ob0_language_names.specs.Names.{Naming}
use Rattle.ob0_language_types.specs.Environments.{suffix_from_newest_binding}
use Rattle.ob0_language_values.specs.Values.{CallBound}
use Rattle.ob0_language_runs.specs.Runs.{RunEnvironment, CallFunction, Progress, Run, execute_newest_procedure, run_with_call_function, running, stopped}

-- returns the progress of a run with only the first `n` variables in its store; a run that has
-- ended is left unchanged
abbrev pub keep_first_variables : ℕ → Progress → Progress
keep_first_variables n (running s) = running record s { store = take n s.store }
keep_first_variables n (stopped e out) = stopped e out

-- Performs the call of the procedure `x`. The first number is how many nested calls are still
-- allowed, including this call. If this number is 0, the run ends with CallBound. The second number
-- bounds the iterations of each loop. When the call returns, the store keeps only the variables
-- that it had before the call.
unfoldable pub call_freeing_variables : {N : Type 0} → Naming N → ℕ → ℕ → RunEnvironment N → CallFunction N
unfolding execute_newest_procedure
call_freeing_variables naming zero t env x args s = stopped CallBound s.output
call_freeing_variables naming (suc c) t env x args s =
    keep_first_variables (length s.store)
    (execute_newest_procedure naming (call_freeing_variables naming c t) t (suffix_from_newest_binding naming env x) args s)

-- returns the result of running a module if each call drops its variables when it returns; `c`
-- bounds the number of open calls, and `t` bounds the iterations of each loop
unfoldable pub run_freeing_variables : {N : Type 0} → Naming N → Tree N module_text → List ℤ → ℕ → ℕ → Run
unfolding run_with_call_function call_freeing_variables
run_freeing_variables naming m input c t = run_with_call_function naming (call_freeing_variables naming c t) t m input
