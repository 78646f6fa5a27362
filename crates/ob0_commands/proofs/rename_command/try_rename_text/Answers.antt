use Rattle.std.proofs.Common.{◌∙◌, ℕ, List, Option, inl, refl, ap, subst, arith}
use Rattle.std.proofs.lemmas.Result.{IfOk-weaker}
use Rattle.ob0_commands.specs.OutputWriters.{IsFlushedOrUnchanged}
use Rattle.ob0_commands.specs.RenameOutput.{PrintsErrorsOrRefusal, PrintsRenamedText}
use Rattle.ob0_commands.specs.StderrLines.{PrintsOptionalLine}
use Rattle.ob0_commands.proofs.rename_command.try_rename_text.Goals as goal

pub returns-in_default-clause-ends : goal.returns-in_default-clause-ends
returns-in_default-clause-ends g c = record {
  status_at_most_one = omega arith;
  good = λ no. absurd (omega (arith, no));
  other = λ one. ((inl (inl (rw c.in_default.is at c.in_ok-text.ensures.found), refl)), inl (rw c.in_default.is at c.in_ok-text.ensures.flushed));
  both = (c.in_ok-text.ensures.readable, c.in_ok-text.ensures.unfailed);
}

pub returns-clause-ends : goal.returns-clause-ends
returns-clause-ends g c =
    let here = rw c.in-Some.is at c.in_ok-text.ensures.found in
    let before = g.O.Write.contents c.args.out.now in
    let after = c.rename_analysed_text-renamed.new.out in
    let said = PrintsOptionalLine g.E.Write.contents g.E.TrackedOutput.is_flushed g.E.TrackedOutput.has_failed c.args.err.now c.rename_analysed_text-renamed.new.err in
    IfOk-weaker c.rename_analysed_text-renamed.result _ _ (λ status h. record {
      status_at_most_one = h.status_at_most_one;
      good = λ zero. (
        subst (λ (t : List ℕ). PrintsRenamedText t c.args.position c.args.new.now before (g.O.Write.contents after)) here.0
            (subst (λ (b : Option (List ℕ)). PrintsRenamedText c.in-Some.text.now c.args.position c.args.new.now b (g.O.Write.contents after)) (ap g.O.Write.contents here.1) (h.good zero).0),
        (h.good zero).1,
        (h.good zero).2,
      );
      other = λ one. (
        subst (λ (t : List ℕ). PrintsErrorsOrRefusal t c.args.position c.args.new.now before (g.O.Write.contents after) said) here.0
            (subst (λ (b : Option (List ℕ)). PrintsErrorsOrRefusal c.in-Some.text.now c.args.position c.args.new.now b (g.O.Write.contents after) said) (ap g.O.Write.contents here.1) (h.other one).0),
        subst (λ out. IsFlushedOrUnchanged (g.O.TrackedOutput.is_flushed after) out after) here.1 (h.other one).1,
      );
      both = (c.in_ok-text.ensures.readable, h.both ∙ c.in_ok-text.ensures.unfailed);
    }) c.rename_analysed_text-renamed.ensures.ends
