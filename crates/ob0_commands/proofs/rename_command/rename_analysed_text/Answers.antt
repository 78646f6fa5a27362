use Rattle.std.proofs.Common.{ℕ, List, ap, inl, inr, map, refl, subst, arith}
use Rattle.std.proofs.lemmas.Result.{IfOk-weaker}
use Rattle.ob0_analysis.specs.ReportedErrors.{ReportsErrorsOf, reported_diagnosis_of}
use Rattle.ob0_commands.specs.StderrLines.{PrintsOptionalLine}
use Rattle.ob0_commands.proofs.RenameEndsWithoutFault.{edited_in_text, found_in_text, prints_renamed, refuses_name}
use Rattle.ob0_commands.proofs.Wrong.{ill_typed}
use Rattle.ob0_commands.proofs.rename_command.rename_analysed_text.Goals as goal

pub returns-in-Some-clause-ends : goal.returns-in-Some-clause-ends
returns-in-Some-clause-ends g c =
    let found = found_in_text _ _ c.args.text.now c.args.position c.args.new.now c.in_ok-outcome.field-0 c.in-Some.outcome c.in_ok-store.ensures.unit c.in_ok-store.ensures.content c.in-Some.is c.in_ok-outcome.ensures in
    IfOk-weaker c.print_rename_outcome.result _ _ (λ status h. record {
      status_at_most_one = h.status_at_most_one;
      good = λ zero. (
        prints_renamed c.args.text.now c.args.position c.args.new.now c.in-Some.outcome _ _ c.utf8.text found
            (edited_in_text _ _ c.args.text.now c.in-Some.outcome _ _ c.in_ok-store.ensures.unit c.in_ok-store.ensures.content (h.good zero).0),
        (h.good zero).1,
        (h.good zero).2,
      );
      other = λ one. (
        inr (refuses_name c.args.text.now c.args.position c.args.new.now c.in-Some.outcome _ _ c.utf8.text found (PrintsOptionalLine g.E.Write.contents g.E.TrackedOutput.is_flushed g.E.TrackedOutput.has_failed c.args.err.now c.print_rename_outcome.new.err) (h.other one).0 (ap g.O.Write.contents (h.other one).1)),
        inr (h.other one).1,
      );
      both = h.both;
    }) c.print_rename_outcome.ensures.ends

pub returns-clause-ends : goal.returns-clause-ends
returns-clause-ends g c = record {
  status_at_most_one = omega arith;
  good = λ no. absurd (omega (arith, no));
  other = λ one. (
    inl (
      ill_typed _ c.args.text.now c.in_ok-reported-in-None.reported.items c.as_slice.result.now (g.O.Write.contents c.args.out.now) (g.O.Write.contents c.print_diagnoses.new.out)
          c.in_ok-store.ensures.content c.utf8.text c.as_slice.ensures.value (rw c.in-None.is at c.in_ok-outcome.ensures) (subst (λ (t : List ℕ). ReportsErrorsOf t (map reported_diagnosis_of c.in_ok-reported-in-None.reported.items)) c.requires c.in_ok-reported-in-None.ensures.reported) c.in_ok-print_diagnoses-in-None.ensures.printed,
      refl,
    ),
    inl c.in_ok-print_diagnoses-in-None.ensures.flushed,
  );
  both = c.in_ok-print_diagnoses-in-None.ensures.unfailed;
}
