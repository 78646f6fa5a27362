use Rattle.std.proofs.Common.{◌≡◌, take}
use Rattle.ob0_edits_tokens.specs.Ranges.{span_bounds}
use Rattle.ob0_edits_tokens.proofs.spans_and_ranges.span_bounds.Given as goal

abbrev pub invariant-loop-span : goal.invariant-loop-span
invariant-loop-span l = l.offsets.items ≡ span_bounds (take l.span-index l.spans)
