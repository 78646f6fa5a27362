use Rattle.std.proofs.Common.{◌≡◌, suc, [], ◌∷◌, ◌++◌, length, length-append, string_bytes, rules, ◌∙◌, subst, sym, arith}
use Rattle.std.proofs.lemmas.Slice.Zip.{zip_end, zip_turn}
use Rattle.ob0_analysis.specs.ReportedErrors.{reported_diagnosis_of}
use Rattle.ob0_commands.proofs.Lines.{Gathered, gathered_all, gathered_further}
use Rattle.ob0_commands.specs.PrintedTexts.{diagnosis_line_at}
use Rattle.ob0_commands.proofs.check_command.diagnosis_lines_at_positions.Goals as goal

pub loop-diagnosis-preserved : goal.loop-diagnosis-preserved
loop-diagnosis-preserved c =
    let turn = zip_turn c.args.reported.now c.args.positions.now c.loop-diagnosis.yielded c.into_iter-diagnosis-iterator.result c.loop-diagnosis.diagnosis-iterator c.next.new.self c.next.result (search rules) (search rules) c.loop-diagnosis.yielded_by (c.in-Some.diagnosis, c.in-Some.position) c.in-Some.is c.next.ensures.steps in
    let step = gathered_further c.args.reported.now c.args.positions.now (length c.loop-diagnosis.yielded) (string_bytes c.loop-diagnosis.lines) c.in-Some.diagnosis.now c.in-Some.position.now c.loop-diagnosis.invariant turn.0 turn.1 turn.2 turn.3 in
    let grown : string_bytes c.push_str.new.self ≡ string_bytes c.loop-diagnosis.lines ++ diagnosis_line_at c.in-Some.position.now (reported_diagnosis_of c.in-Some.diagnosis.now) = search rules in
    let size : length (c.loop-diagnosis.yielded ++ (c.in-Some.diagnosis, c.in-Some.position) ∷ []) ≡ suc (length c.loop-diagnosis.yielded) = length-append c.loop-diagnosis.yielded ((c.in-Some.diagnosis, c.in-Some.position) ∷ []) ∙ omega arith in
    subst (λ n. Gathered c.args.reported.now c.args.positions.now n (string_bytes c.push_str.new.self)) (sym size) (subst (Gathered c.args.reported.now c.args.positions.now (suc (length c.loop-diagnosis.yielded))) (sym grown) step)

pub returns : goal.returns
returns c =
    gathered_all c.args.reported.now c.args.positions.now (length c.loop-diagnosis.yielded) (string_bytes c.loop-diagnosis.lines) c.loop-diagnosis.invariant
    (zip_end c.args.reported.now c.args.positions.now c.loop-diagnosis.yielded c.into_iter-diagnosis-iterator.result c.loop-diagnosis.diagnosis-iterator c.next.new.self c.next.result (search rules) (search rules) c.loop-diagnosis.yielded_by c.in-None.is c.next.ensures.steps)
