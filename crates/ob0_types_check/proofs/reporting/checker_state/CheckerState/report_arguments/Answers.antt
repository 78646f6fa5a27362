use Rattle.std.proofs.Common.{◌≡◌, ◌+◌, [], ◌∷◌, ◌++◌, false, length, length-append, map, min, rules, sym, ap, ◌∙◌, subst, arith}
use Rattle.std.proofs.lemmas.Slice.Zip.{zip_end, zip_turn}
use Rattle.std.proofs.lemmas.Result.{on_ok_weaker}
use Rattle.ob0_tree.specs.View.{expression_of}
use Rattle.ob0_types_check.specs.StatementFaults.{faults_of_arguments}
use Rattle.ob0_types_check.specs.CheckerViews.{facts_in, known_parameter_of}
use Rattle.ob0_types_check.proofs.Listed.{PairSoFar, pairs_end, pairs_go_on}
use Rattle.ob0_types_check.proofs.ReportedStatements.{argument_pairs, count_differs, count_is_right}
use Rattle.ob0_types_check.proofs.reporting.checker_state.CheckerState.report_arguments.Goals as goal

pub returns-then-formals-arguments : goal.returns-then-formals-arguments
returns-then-formals-arguments c =
    let facts = facts_in c.args.self.now false in
    let differs = count_differs facts c.args.procedure c.args.formals.now c.args.arguments.now c.if-formals-arguments.true in
    on_ok_weaker c.report_fault_at_token.result (λ h. h ∙ sym (ap (λ f. c.args.faults.now.items ++ f) differs)) c.report_fault_at_token.ensures

pub loop-formal-preserved : goal.loop-formal-preserved
loop-formal-preserved c =
    let facts = facts_in c.args.self.now false in
    let turn = zip_turn c.args.formals.now c.args.arguments.now c.loop-formal.yielded c.into_iter-formal-iterator.result c.loop-formal.formal-iterator c.next.new.self c.next.result (search rules) (search rules) c.loop-formal.yielded_by (c.in-Some.formal, c.in-Some.e) c.in-Some.is c.next.ensures.steps in
    let step = pairs_go_on c.in-Some.formal.now c.in-Some.e.now (argument_pairs facts) c.loop-formal.invariant turn.0 turn.1 (turn.2 c.in-Some.formal.now) (turn.3 c.in-Some.e.now) c.in_ok-report_argument.ensures in
    let size : length (c.loop-formal.yielded ++ (c.in-Some.formal, c.in-Some.e) ∷ []) ≡ length c.loop-formal.yielded + 1 = length-append c.loop-formal.yielded ((c.in-Some.formal, c.in-Some.e) ∷ []) in
    subst (λ n. PairSoFar (λ fs es. faults_of_arguments facts (map known_parameter_of fs) (map expression_of es)) c.args.faults.now.items c.args.formals.now c.args.arguments.now n c.report_argument.new.faults.items) (sym size) step

pub returns : goal.returns
returns c =
    let facts = facts_in c.args.self.now false in
    let count : length c.loop-formal.yielded ≡ min (length c.args.formals.now) (length c.args.arguments.now) = zip_end c.args.formals.now c.args.arguments.now c.loop-formal.yielded c.into_iter-formal-iterator.result c.loop-formal.formal-iterator c.next.new.self c.next.result (search rules) (search rules) c.loop-formal.yielded_by c.in-None.is c.next.ensures.steps in
    let alike : length c.args.formals.now ≡ length c.args.arguments.now = c.if-formals-arguments.false in
    pairs_end (argument_pairs facts) c.loop-formal.invariant (omega arith) (omega arith)
    ∙ sym (ap (λ f. c.args.faults.now.items ++ f) (count_is_right facts c.args.procedure c.args.formals.now c.args.arguments.now alike))
