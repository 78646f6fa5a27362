use Rattle.std.proofs.Common.{arith, rules}
use Rattle.std.proofs.lemmas.Fmt.{length-decimal-le}
use Rattle.ob0_rpc.proofs.ranges.write_digits_ending_at.Goals as goal

pub write_digits-requires : goal.write_digits-requires
write_digits-requires c = (omega (arith, length-decimal-le 20 c.args.count (omega arith) (omega arith) (omega arith)), search rules)

pub returns-clause-within : goal.returns-clause-within
returns-clause-within c = omega (arith, c.write_digits.ensures.start, length-decimal-le 20 c.args.count (omega arith) (omega arith) (omega arith))
