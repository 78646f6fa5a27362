use Rattle.std.proofs.Common.{◌≡◌, ◌+◌, ◌∷◌, ◌++◌, drop}
use Rattle.ob0_text.specs.LineStarts.{line_starts_after_bytes}
use Rattle.ob0_text.proofs.line_starts.add_line_starts.Given as goal

abbrev pub invariant-loop-byte : goal.invariant-loop-byte
invariant-loop-byte l = record {
  here : l.at ≡ l.fn.from + l.byte-index;
  found : l.starts.items ++ line_starts_after_bytes l.at (l.last ∷ drop l.byte-index l.bytes) l.following ≡ l.initial.starts.items ++ line_starts_after_bytes l.fn.from (l.fn.before ∷ l.bytes) l.following;
}
