use Rattle.std.proofs.Common.{◌∙◌, ap, refl, inl, arith}
use Rattle.std.proofs.lemmas.Result.{err_from_is_err_and}
use Rattle.ob0_commands.specs.StderrLines.{PrintsOptionalLine}
use Rattle.ob0_commands.proofs.RunsPrinted.{from_all, prints_done, prints_other, prints_run, prints_wrong, stops_reading}
use Rattle.ob0_commands.proofs.run_command.try_run_text.Goals as goal

pub returns-in_default-clause-ends : goal.returns-in_default-clause-ends
returns-in_default-clause-ends g c = record {
  status_at_most_one = omega arith;
  good = λ no. absurd (omega (arith, no));
  other = λ one. (inl (inl (rw c.in_default.is at c.in_ok-text.ensures.found), refl), rw c.in_default.is at c.in_ok-text.ensures.flushed);
  both = (c.in_ok-text.ensures.readable, c.in_ok-text.ensures.unfailed, refl);
}

pub returns-in_default-2-clause-ends : goal.returns-in_default-2-clause-ends
returns-in_default-2-clause-ends g c =
    let here = rw c.in-Some.is at c.in_ok-text.ensures.found in
    let wrong = rw c.in_default-2.is at c.in_ok-program.ensures.found in
    record {
      status_at_most_one = omega arith;
      good = λ no. absurd (omega (arith, no));
      other = λ one. (
        prints_wrong c.args.file.now c.in-Some.text.now (g.R.Read.remaining c.args.input.now) c.args.calls c.args.turns (g.O.Write.contents c.args.out.now) (g.O.Write.contents c.decode_or_print_too_long_line.new.out) (g.O.Write.contents c.lower_or_print_diagnoses.new.out)
            here.0 (ap g.O.Write.contents here.1) wrong (PrintsOptionalLine g.E.Write.contents g.E.TrackedOutput.is_flushed g.E.TrackedOutput.has_failed c.args.err.now c.args.err.now) refl,
        rw c.in_default-2.is at c.in_ok-program.ensures.flushed,
      );
      both = (c.in_ok-text.ensures.readable, c.in_ok-program.ensures.unfailed ∙ c.in_ok-text.ensures.unfailed, refl);
    }

pub returns-in_err-numbers-clause-fault : goal.returns-in_err-numbers-clause-fault
returns-in_err-numbers-clause-fault g c =
    let here = rw c.in-Some.is at c.in_ok-text.ensures.found in
    let lowered = rw c.in-Some-2.is at c.in_ok-program.ensures.found in
    let p = err_from_is_err_and c.from_residual-in_err-numbers.result c.from_residual-in_err-numbers.ensures.1 in
    rw (p.1, p.2) (stops_reading _ _ _ _ _ _ _ here.0 lowered.0 c.in_ok-text.ensures.readable c.in_err-numbers.ensures.fault)

pub returns-clause-ends : goal.returns-clause-ends
returns-clause-ends g c =
    let here = rw c.in-Some.is at c.in_ok-text.ensures.found in
    let lowered = rw c.in-Some-2.is at c.in_ok-program.ensures.found in
    let given = g.R.Read.remaining c.args.input.now in
    let before = g.O.Write.contents c.args.out.now in
    let mid = g.O.Write.contents c.lower_or_print_diagnoses.new.out in
    let after = g.O.Write.contents c.print_run_outcome.new.out in
    let o = c.in_ok-outcome.outcome in
    let run = prints_run c.args.file.now c.in-Some.text.now given c.args.calls c.args.turns before mid after c.in_ok-numbers.numbers.items c.as_slice.result.now o c.as_slice-2.result.now
    here.0 (ap g.O.Write.contents (lowered.1 ∙ here.1)) c.as_slice.ensures.value c.in_ok-numbers.ensures.numbers c.in_ok-outcome.ensures c.as_slice-2.ensures.value in
    from_all c.print_run_outcome.result (λ status is status_at_most_one silent printed flushed same says. record {
      status_at_most_one = status_at_most_one;
      good = λ zero. (prints_done c.args.file.now given c.args.calls c.args.turns status before after o (run printed) is zero, flushed, silent zero);
      other = λ one. (prints_other c.args.file.now given c.args.calls c.args.turns status before after o (run printed) is one (PrintsOptionalLine g.E.Write.contents g.E.TrackedOutput.is_flushed g.E.TrackedOutput.has_failed c.args.err.now c.print_run_outcome.new.err) says, flushed);
      both = (c.in_ok-text.ensures.readable, same ∙ c.in_ok-program.ensures.unfailed ∙ c.in_ok-text.ensures.unfailed, c.in_ok-numbers.ensures.unfailed);
    })
    c.print_run_outcome.ensures.status c.print_run_outcome.ensures.ends c.print_run_outcome.ensures.silent c.print_run_outcome.ensures.printed c.print_run_outcome.ensures.flushed c.print_run_outcome.ensures.unfailed c.print_run_outcome.ensures.said
