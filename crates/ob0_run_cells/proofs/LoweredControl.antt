-- Proves that lowered branches, loops and sequences are correct code.
use Rattle.std.proofs.Common.{◌-◌}
use Rattle.ob0_tree.specs.Tree.{Tree, branches, else_branch, else_part, elsif_branch, elsif_part, empty, end, expression, statement_after_semicolon, items, maybe, more, none, one, repeat_loop, runs, sequence, statement, semicolon_then_statement, while_loop}
use Rattle.ob0_language_types.specs.Expressions.{evaluate_expression}
use Rattle.ob0_language_types.specs.WellTyped.{TypeMeanings}
use Rattle.ob0_language_runs.specs.Runs.{execute_statement, execute_sequence, execute_else, execute_elsifs, execute_further_statements}
use Rattle.ob0_run_machine.specs.Evaluation as machine
use Rattle.ob0_run_machine.specs.Execution as execution
use Rattle.ob0_run_machine.specs.LoweredSyntax as lowered
use Rattle.ob0_run_cells.specs.LoweredStatements.{CodeMeansElse, CodeMeansElsifs, CodeMeansStatementsAfterFirst, CodeMeansSequence, CodeMeansStatement, Target}
use Rattle.ob0_run_cells.specs.LoweredExpressions.{Slot, TruthHasOutcome, value_of_expression}
use Rattle.ob0_run_cells.proofs.Represented.{choice-represents, going-on, truth-in, execute_while-represent, execute_repeat-represent}

module _ {N : Type 0} (checked : TypeMeanings N) (slots : N → Slot) (targets : N → Target) where
  pub branches-mean : (e : Tree N expression) (a : Tree N sequence) (rest : Tree N (items elsif_part)) (last : Tree N (maybe else_part)) (t : lowered.Truth) (body : lowered.InstructionList) (bs : lowered.Branches) (otherwise : lowered.InstructionList)
      → TruthHasOutcome checked slots t (value_of_expression e) → CodeMeansSequence checked slots targets body a → CodeMeansElsifs checked slots targets bs otherwise rest last → CodeMeansStatement checked slots targets (lowered.chooses_branch (lowered.branch t body bs) otherwise) (branches e a rest last)
  unfolding execution.execute execute_statement
  branches-mean e a rest last t body bs otherwise ht ha hr b shown n low s h =
      choice-represents b.typing low s (machine.truth_value b.levels low.cells t) (evaluate_expression b.active s.store e) (execution.execute_sequence b.lowered_call_effect n b.levels body) (execution.execute_branches b.lowered_call_effect n b.levels bs (execution.execute_sequence b.lowered_call_effect n b.levels otherwise))
      (execute_sequence b.active b.call_effect n a) (execute_elsifs b.active b.call_effect n rest (execute_else b.active b.call_effect n last)) h (truth-in checked slots targets b shown t (value_of_expression e) ht low s h) (ha b shown n low s h) (hr b shown n low s h)

  pub elsif-means : (e : Tree N expression) (a : Tree N sequence) (rest : Tree N (items elsif_part)) (last : Tree N (maybe else_part)) (t : lowered.Truth) (body : lowered.InstructionList) (bs : lowered.Branches) (otherwise : lowered.InstructionList)
      → TruthHasOutcome checked slots t (value_of_expression e) → CodeMeansSequence checked slots targets body a → CodeMeansElsifs checked slots targets bs otherwise rest last → CodeMeansElsifs checked slots targets (lowered.branch t body bs) otherwise (more (elsif_branch e a) rest) last
  unfolding execution.execute execute_statement
  elsif-means e a rest last t body bs otherwise ht ha hr b shown n low s h =
      choice-represents b.typing low s (machine.truth_value b.levels low.cells t) (evaluate_expression b.active s.store e) (execution.execute_sequence b.lowered_call_effect n b.levels body) (execution.execute_branches b.lowered_call_effect n b.levels bs (execution.execute_sequence b.lowered_call_effect n b.levels otherwise))
      (execute_sequence b.active b.call_effect n a) (execute_elsifs b.active b.call_effect n rest (execute_else b.active b.call_effect n last)) h (truth-in checked slots targets b shown t (value_of_expression e) ht low s h) (ha b shown n low s h) (hr b shown n low s h)

  pub no-elsif : (last : Tree N (maybe else_part)) (cs : lowered.InstructionList) → CodeMeansElse checked slots targets cs last → CodeMeansElsifs checked slots targets lowered.no_branch cs end last
  unfolding execution.execute execute_statement
  no-elsif last cs hc b shown n low s h = hc b shown n low s h

  pub else-means : (a : Tree N sequence) (cs : lowered.InstructionList) → CodeMeansSequence checked slots targets cs a → CodeMeansElse checked slots targets cs (one (else_branch a))
  unfolding execute_statement
  else-means a cs hc b shown n low s h = hc b shown n low s h

  pub no-else : CodeMeansElse checked slots targets lowered.no_statement none
  unfolding execution.execute execute_statement
  no-else b shown n low s h = h

  pub while-means : (e : Tree N expression) (a : Tree N sequence) (t : lowered.Truth) (body : lowered.InstructionList) → TruthHasOutcome checked slots t (value_of_expression e) → CodeMeansSequence checked slots targets body a → CodeMeansStatement checked slots targets (lowered.while_loop t body) (while_loop e a)
  unfolding execution.execute execute_statement
  while-means e a t body ht ha b shown n low s h =
      execute_while-represent n b.typing (λ s'. machine.truth_value b.levels s'.cells t) (λ s'. evaluate_expression b.active s'.store e) (execution.execute_sequence b.lowered_call_effect n b.levels body) (execute_sequence b.active b.call_effect n a)
      (λ low s h. truth-in checked slots targets b shown t (value_of_expression e) ht low s h) (λ low s h. ha b shown n low s h) low s h

  pub repeat-means : (e : Tree N expression) (a : Tree N sequence) (t : lowered.Truth) (body : lowered.InstructionList) → TruthHasOutcome checked slots t (value_of_expression e) → CodeMeansSequence checked slots targets body a → CodeMeansStatement checked slots targets (lowered.repeat_loop body t) (repeat_loop a e)
  unfolding execution.execute execute_statement
  repeat-means e a t body ht ha b shown n low s h =
      execute_repeat-represent (n - 1) b.typing (λ s'. machine.truth_value b.levels s'.cells t) (λ s'. evaluate_expression b.active s'.store e) (execution.execute_sequence b.lowered_call_effect n b.levels body) (execute_sequence b.active b.call_effect n a)
      (λ low s h. truth-in checked slots targets b shown t (value_of_expression e) ht low s h) (λ low s h. ha b shown n low s h) low s h

  pub further-means : (a : Tree N statement) (c : lowered.Instruction) (rest : Tree N (items statement_after_semicolon)) (cs : lowered.InstructionList) → CodeMeansStatement checked slots targets c a → CodeMeansStatementsAfterFirst checked slots targets cs rest → CodeMeansStatementsAfterFirst checked slots targets (lowered.next_statement c cs) (more (semicolon_then_statement a) rest)
  unfolding execution.execute execute_statement
  further-means a c rest cs hc hr b shown n low s h =
      going-on b.typing (execution.execute b.lowered_call_effect n b.levels c low) (execute_statement b.active b.call_effect n a s) (execution.execute_sequence b.lowered_call_effect n b.levels cs) (execute_further_statements b.active b.call_effect n rest) (hc b shown n low s h) (λ low s h. hr b shown n low s h)

  pub first-empty : (rest : Tree N (items statement_after_semicolon)) (cs : lowered.InstructionList) → CodeMeansStatementsAfterFirst checked slots targets cs rest → CodeMeansSequence checked slots targets cs (runs empty rest)
  unfolding execute_statement
  first-empty rest cs hr b shown n low s h = hr b shown n low s h

  pub further-empty : (rest : Tree N (items statement_after_semicolon)) (cs : lowered.InstructionList) → CodeMeansStatementsAfterFirst checked slots targets cs rest → CodeMeansStatementsAfterFirst checked slots targets cs (more (semicolon_then_statement empty) rest)
  unfolding execute_statement
  further-empty rest cs hr b shown n low s h = hr b shown n low s h

  pub sequence-ends : CodeMeansStatementsAfterFirst checked slots targets lowered.no_statement end
  unfolding execution.execute execute_statement
  sequence-ends b shown n low s h = h
