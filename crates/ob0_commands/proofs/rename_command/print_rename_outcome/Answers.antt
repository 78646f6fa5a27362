use Rattle.std.proofs.Common.{Result, Vec, Global, refl, sym, subst, arith, rules}
use Rattle.ob0_text.specs.declared.edits.Edit.{Edit}
use Rattle.ob0_text.specs.declared.refusals.EditRefusal.{EditRefusal}
use Rattle.ob0_commands.specs.StderrLines.{PrintsOptionalLine}
use Rattle.ob0_commands.specs.RenameOutput.{IsErrAndPrintsRefusal}
use Rattle.ob0_commands.proofs.rename_command.print_rename_outcome.Goals as goal

pub returns : goal.returns
returns g c =
    record {
      ends = record {
        status_at_most_one = omega arith;
        good = λ no. absurd (omega (arith, no));
        other = λ one. (subst (λ (r : Result (Vec Edit Global) EditRefusal). IsErrAndPrintsRefusal r (PrintsOptionalLine g.E.Write.contents g.E.TrackedOutput.is_flushed g.E.TrackedOutput.has_failed c.args.err.now c.write_and_flush-in-Err.new.out)) (sym c.in-Err.is) (search rules), refl);
        both = refl;
      };
      fault = tt;
      failed = tt;
      kept = tt;
      unsaid = tt;
    }
