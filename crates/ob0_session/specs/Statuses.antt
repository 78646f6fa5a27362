-- Defines the program's exit status after each fault of `serve`.
-- Rule: docs/PROTOCOL.md, The program 8.
use Rattle.std.specs.Prelude.{ℕ}
use Rattle.ob0_session.specs.declared.serve_loop.ServeFault.{ServeFault}
use Rattle.ob0_session.specs.declared.serve_loop.ServeFault.TheVariants as fault

-- Returns the exit status after a fault. The status is 3 if the bytes aren't framed messages, and 5
-- if an allocation failed. It is 4 if a device can't be read or written, or if there were too many
-- reads.
abbrev pub status_of : ServeFault → ℕ
status_of fault.BadHead = 3
status_of fault.Truncated = 3
status_of fault.Read = 4
status_of fault.Write = 4
status_of fault.TooManyReads = 4
status_of fault.Memory = 5
