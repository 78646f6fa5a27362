use Rattle.std.proofs.Common.{rules}
use Rattle.ob0_commands.proofs.Lines.{too_long_text}
use Rattle.ob0_commands.proofs.check_command.decode_or_print_too_long_line.Goals as goal

pub returns-then-file-ge-MAX_FILE_BYTES_READ-clause-found : goal.returns-then-file-ge-MAX_FILE_BYTES_READ-clause-found
returns-then-file-ge-MAX_FILE_BYTES_READ-clause-found g c = (search rules, rw too_long_text c.in_ok-write_and_flush.ensures.printed)
