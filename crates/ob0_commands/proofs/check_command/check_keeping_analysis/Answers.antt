use Rattle.std.proofs.Common.{inl, inr, refl, arith, rules}
use Rattle.ob0_commands.proofs.check_command.check_keeping_analysis.Goals as goal

pub returns-in-Ok-Some : goal.returns-in-Ok-Some
returns-in-Ok-Some g c = inl (record {
  status_at_most_one = omega arith;
  good = λ zero. (search rules, search rules);
  other = λ no. absurd (omega (arith, no));
  both = (c.in-Ok-Some.ensures.readable, c.in-Ok-Some.ensures.unfailed, refl);
})

pub returns-in-Err : goal.returns-in-Err
returns-in-Err g c = inr (record {
  ending_fault = c.in-Err.fault;
  is = c.print_fault.ensures.status;
  stops = c.in-Err.ensures.fault;
  failed = c.in-Err.ensures.failed;
  kept = c.in-Err.ensures.kept;
  memory = c.in-Err.ensures.memory;
  said = c.print_fault.ensures.said;
})
