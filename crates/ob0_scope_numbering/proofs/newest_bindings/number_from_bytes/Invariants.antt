use Rattle.ob0_scope_numbering.specs.NameKeys.{append_bytes}
use Rattle.ob0_scope_numbering.proofs.Going.{Going}
use Rattle.ob0_scope_numbering.proofs.newest_bindings.number_from_bytes.Given as goal

abbrev pub invariant-loop-byte : goal.invariant-loop-byte
invariant-loop-byte l = Going append_bytes l.bytes 0 l.byte-index l.number
