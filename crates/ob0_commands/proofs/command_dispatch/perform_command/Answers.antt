use Rattle.std.proofs.Common.{refl, subst, sym}
use Rattle.ob0_commands.specs.CommandEffects.{PerformsCommandOnFile}
use Rattle.ob0_commands.specs.StderrLines.{PrintsOptionalLine}
use Rattle.ob0_commands.proofs.command_dispatch.perform_command.Goals as goal

pub returns-in-Run : goal.returns-in-Run
returns-in-Run g c =
    subst (λ line. PerformsCommandOnFile g.O.Write.contents g.O.TrackedOutput.is_flushed g.O.TrackedOutput.has_failed c.args.out.now c.run_text.new.out (PrintsOptionalLine g.E.Write.contents g.E.TrackedOutput.is_flushed g.E.TrackedOutput.has_failed c.args.err.now c.run_text.new.err) c.args.file.now g.R.Read.remaining g.R.TrackedInput.has_failed c.args.input.now c.run_text.new.input line c.run_text.result) (sym c.in-Run.is) (c.run_text.ensures.ends, c.run_text.ensures.limit, c.run_text.ensures.unread)

pub returns-in-Rename : goal.returns-in-Rename
returns-in-Rename g c =
    subst (λ line. PerformsCommandOnFile g.O.Write.contents g.O.TrackedOutput.is_flushed g.O.TrackedOutput.has_failed c.args.out.now c.rename_keeping_analysis.new.out (PrintsOptionalLine g.E.Write.contents g.E.TrackedOutput.is_flushed g.E.TrackedOutput.has_failed c.args.err.now c.rename_keeping_analysis.new.err) c.args.file.now g.R.Read.remaining g.R.TrackedInput.has_failed c.args.input.now c.args.input.now line c.rename_keeping_analysis.result) (sym c.in-Rename.is) (c.rename_keeping_analysis.ensures, refl)
