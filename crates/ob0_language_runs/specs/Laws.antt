-- Laws about runs: some changes to a module don't change the result of a run, and no run of a well-typed module gets
-- stuck. In a module's numbered tree (`numbered`), each bound name is replaced by the ordinal of its declaration.
-- Rule: none; states laws about runs.
use Rattle.std.specs.Prelude.{◌≡◌, ℕ, ◌≢◌, List, ℤ, Some}
use Rattle.ob0_tree.specs.Tree.{Tree, factor, module_text, occurrences, statement}
use Rattle.ob0_language_names.specs.Inlining.{OccurrenceSet, inline_in_tree}
use Rattle.ob0_language_names.specs.Names.{Label, Name, Naming}
use Rattle.ob0_language_names.specs.Occurrences.{IsFreeName}
use Rattle.ob0_language_names.specs.Scopes.{numbered, renamed}
use Rattle.ob0_language_types.specs.Expressions.{Meanings, a_constant, evaluate_factor}
use Rattle.ob0_language_types.specs.Laws.{EachUseSatisfies}
use Rattle.ob0_language_values.specs.Values.{Place, Store, Stuck, Value, succeeds_with}
use Rattle.ob0_language_types.specs.WellTyped.{ParameterMode, WellTyped}
use Rattle.ob0_language_runs.specs.FreedVariables.{run_freeing_variables}
use Rattle.ob0_language_runs.specs.Runs.{CallFunction, State, execute_statement, run, run_numbered, run_with_naming}

-- States that a module and its numbered tree have the same run for every input and all bounds on calls and loop
-- iterations. In the numbered tree, each bound name is replaced by the ordinal of its declaration.
abbrev pub NumberingKeepsRuns : Type 0
NumberingKeepsRuns =
    (m : Tree Name module_text) (input : List ℤ) (c t : ℕ)
    → run m input c t ≡ run_numbered (numbered m) input c t

-- States that two modules with the same numbered tree have the same run for every input and all bounds on calls and
-- loop iterations. In a numbered tree, each bound name is replaced by the ordinal of its declaration.
abbrev pub NumberedTreeDecidesRuns : Type 0
NumberedTreeDecidesRuns =
    (a b : Tree Name module_text)
    → numbered a ≡ numbered b
    → (input : List ℤ) (c t : ℕ)
    → run a input c t ≡ run b input c t

-- States that a module has the same runs if a declaration is renamed to a free name. A free name causes no name
-- conflict.
abbrev pub RenamingToFreeNameKeepsRuns : Type 0
RenamingToFreeNameKeepsRuns =
    (m : Tree Name module_text) (d : ℕ) (new : Name)
    → IsFreeName m d new
    → (input : List ℤ) (c t : ℕ)
    → run (renamed m d new) input c t ≡ run m input c t

-- States that dropping each call's variables from the store when the call returns doesn't change the result of a run.
-- The names of the tree may be spellings or labels.
abbrev pub DroppingVariablesKeepsRuns : Type 0
DroppingVariablesKeepsRuns =
    ((naming : Naming Name) (m : Tree Name module_text) (input : List ℤ) (c t : ℕ)
    → run_freeing_variables naming m input c t ≡ run_with_naming naming m input c t)
    × ((naming : Naming Label) (m : Tree Label module_text) (input : List ℤ) (c t : ℕ)
    → run_freeing_variables naming m input c t ≡ run_with_naming naming m input c t)

-- States that no run of a well-typed module gets stuck: each step of the run has a meaning.
abbrev pub RunsNeverGetStuck : Type 0
RunsNeverGetStuck =
    (m : Tree Name module_text)
    → WellTyped m
    → (input : List ℤ) (c t : ℕ)
    → (run m input c t).ending ≢ Stuck

-- States that replacing uses of a constant by a factor leaves the execution of a statement unchanged. The factor must
-- have the constant's value in every store. `k` is the number of the first occurrence of a name in the statement.
-- Occurrences are numbered from 0 in text order.
abbrev pub InliningKeepsExecution : Type 0
InliningKeepsExecution =
    (meaning : Meanings Name Place (List ParameterMode)) (enter : CallFunction Name) (t : ℕ) (uses : OccurrenceSet)
    (v : Tree Name factor) (w : Value) (k : ℕ) (a : Tree Name statement) (s : State)
    → ((store : Store) → evaluate_factor meaning store v ≡ succeeds_with w)
    → EachUseSatisfies uses (λ x. meaning.object_for x ≡ Some (a_constant w)) k (occurrences a)
    → execute_statement meaning enter t (inline_in_tree uses v k a) s ≡ execute_statement meaning enter t a s
