use Rattle.std.proofs.Common.{Some, inl, inr, subst}
use Rattle.ob0_commands.specs.PrintedTexts.{fault_line}
use Rattle.ob0_commands.specs.StderrLines.{PrintsOptionalLine}
use Rattle.ob0_commands.proofs.rename_command.rename_keeping_analysis.Goals as goal

pub returns-in-Ok : goal.returns-in-Ok
returns-in-Ok g c = inl c.in-Ok.ensures.ends

pub returns-in-Err : goal.returns-in-Err
returns-in-Err g c = inr (record {
  ending_fault = c.in-Err.fault;
  is = c.print_fault.ensures.status;
  stops = c.in-Err.ensures.fault;
  failed = c.in-Err.ensures.failed;
  kept = c.in-Err.ensures.kept;
  memory = c.in-Err.ensures.memory;
  said =
      subst (λ before. PrintsOptionalLine g.E.Write.contents g.E.TrackedOutput.is_flushed g.E.TrackedOutput.has_failed before c.print_fault.new.err (Some (fault_line c.in-Err.fault))) c.in-Err.ensures.unsaid c.print_fault.ensures.said;
})
