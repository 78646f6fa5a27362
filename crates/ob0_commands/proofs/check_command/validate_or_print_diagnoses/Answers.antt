use Rattle.std.proofs.Common.{◌≡◌, ◌∙◌, false, nat_eq, length, rules, ap}
use Rattle.ob0_commands.proofs.Wrong.{reports_wrong}
use Rattle.ob0_commands.proofs.check_command.validate_or_print_diagnoses.Goals as goal

pub returns : goal.returns
returns g c =
    let here = rw c.in-Some.is at c.in_ok-text.ensures.found in
    let some : nat_eq (length c.in_ok-reported.reported.items) 0 ≡ false = search rules in
    record {
      found = reports_wrong c.in-Some.text.now c.args.file.now c.in_ok-reported.reported.items c.as_slice.result.now (g.O.Write.contents c.args.out.now) _ (g.O.Write.contents c.print_diagnoses.new.out)
          here.0 (ap g.O.Write.contents here.1) c.as_slice.ensures.value c.in_ok-reported.ensures some c.in_ok-print_diagnoses.ensures.printed;
      flushed = c.in_ok-print_diagnoses.ensures.flushed;
      readable = c.in_ok-text.ensures.readable;
      unfailed = c.in_ok-print_diagnoses.ensures.unfailed ∙ c.in_ok-text.ensures.unfailed;
      fault = tt;
      failed = tt;
      memory = tt;
      kept = tt;
    }
