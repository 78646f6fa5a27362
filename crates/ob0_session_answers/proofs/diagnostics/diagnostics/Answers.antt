use Rattle.std.proofs.Common.{map, sym}
use Rattle.std.proofs.lemmas.Result.{IfOk-weaker}
use Rattle.ob0_analysis.specs.ReportedErrors.{reported_diagnosis_of}
use Rattle.ob0_session_answers.proofs.Lists.{diagnostics_of_all}
use Rattle.ob0_session_answers.proofs.Diagnosing.{diagnosed}
use Rattle.ob0_session_answers.proofs.diagnostics.diagnostics.Goals as goal

pub returns : goal.returns
returns g c =
    let text = g.T.TextStore.content c.args.store.now in
    IfOk-weaker c.convert_diagnoses.result _ _ (λ list h. (
      _,
      diagnosed (g.T.TextStore.unit_of c.args.store.now) c.args.analysis.now text (map reported_diagnosis_of c.in_ok-reported.reported.items) c.in_ok-reported.ensures.utf8 (sym c.requires) c.in_ok-reported.ensures.reported,
      diagnostics_of_all _ _ _ h,
    )) c.convert_diagnoses.ensures
