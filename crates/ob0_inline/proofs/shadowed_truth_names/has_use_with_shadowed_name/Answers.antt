use Rattle.std.proofs.Common.{arith, length, ap, sym, ◌∙◌, ◌<◌}
use Rattle.ob0_inline.proofs.AtConstants.{passes_further}
use Rattle.ob0_inline.proofs.shadowed_truth_names.has_use_with_shadowed_name.Invariants.{elsewhere}
use Rattle.ob0_inline.proofs.shadowed_truth_names.has_use_with_shadowed_name.Goals as goal

pub loop-occurrence-preserved : goal.loop-occurrence-preserved
loop-occurrence-preserved c =
    let n = length c.args.names.now.uses in
    let test = c.loop-occurrence-test.true in
    let end = ap length c.occurrences-occurrence-end.ensures in
    let below : c.loop-occurrence.occurrence < n = omega (arith, test, end) in
    passes_further (elsewhere c.args.names.now c.args.bound.now c.args.constant c.args.ordinal) c.loop-occurrence.occurrence n below (sym c.is_use_with_shadowed_name.ensures ∙ c.if-is_use_with_shadowed_name.false)
    ∙ c.loop-occurrence.invariant
