-- Defines whether an allocation of a run has failed (`has_failed`).
-- Rule: docs/PROTOCOL.md, The program 6: `Memory` is reported if an allocation fails.
use Rattle.std.specs.Prelude.{Bool}
use Rattle.ob0_run_machine.specs.declared.memory.Memory.{Memory}

-- returns whether `Memory::record_failed_allocation` was called, which records a failed allocation
abbrev pub has_failed : Memory → Bool
has_failed memory = memory.has_failed
