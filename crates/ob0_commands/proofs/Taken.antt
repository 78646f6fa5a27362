-- Proves an upper bound for the number of bytes that two reads, one after the other, consume.
use Rattle.std.proofs.Common.{◌≤◌, ℕ, ◌+◌, List, ◌++◌, Option, length, length-append, arith}
use Rattle.std.specs.Io.KnownBytes.{Consumes}
use Rattle.std.proofs.KnownBytes.{Consumes-trans}
use Rattle.ob0_commands.specs.InputReaders.{ConsumesAtMost}

pub more_taken : (n : ℕ) (a b c : Option (List ℕ)) (bs cs : List ℕ) → Consumes a b bs → Consumes b c cs → length bs + length cs ≤ n → ConsumesAtMost n a c
more_taken n a b c bs cs first second at_most_n =
    record { bytes = bs ++ cs; taken = Consumes-trans a b c bs cs first second; at_most_n = omega (arith, length-append bs cs) }
