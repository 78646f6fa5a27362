use Rattle.std.proofs.Common.{◌≤◌, length, arith, rules}
use Rattle.ob0_commands.proofs.Taken.{more_taken}
use Rattle.ob0_commands.proofs.tracked_input.read_up_to_limit.Goals as goal

pub returns-in_err-extend_from_slice-clause-limit : goal.returns-in_err-extend_from_slice-clause-limit
returns-in_err-extend_from_slice-clause-limit g c =
    let at_most_n : length c.read_noting_failure.new.buf ≤ c.min-wanted.result = search rules in
    more_taken _ _ _ _ _ _ c.loop-fault.invariant.taken c.in-Ok.ensures.bytes.0 (omega (arith, at_most_n, c.in-Ok.ensures.bound.0, c.in-Ok.ensures.bound.1))
