use Rattle.std.proofs.Common.{List, ℕ, map, subst}
use Rattle.ob0_analysis.specs.ReportedErrors.{IsWellTypedModule, ReportsErrorsOf, reported_diagnosis_of}
use Rattle.ob0_commands.proofs.Wrong.{not_well_typed}
use Rattle.ob0_commands.proofs.run_command.lower_or_print_diagnoses.Goals as goal

pub returns-clause-found : goal.returns-clause-found
returns-clause-found g c =
    let reported = c.in_ok-reported-in-None.reported.items in
    not_well_typed c.args.text.now reported c.as_slice.result.now (g.O.Write.contents c.args.out.now) (g.O.Write.contents c.print_diagnoses.new.out) c.as_slice.ensures.value
    (subst (λ (t : List ℕ). IsWellTypedModule t → ⊥) c.in_ok-analysis.ensures (rw c.in-None.is at c.in_ok-program.ensures.found))
    (subst (λ (t : List ℕ). ReportsErrorsOf t (map reported_diagnosis_of reported)) c.in_ok-analysis.ensures c.in_ok-reported-in-None.ensures.reported)
    c.in_ok-print_diagnoses-in-None.ensures.printed
