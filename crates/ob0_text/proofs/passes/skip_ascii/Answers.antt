use Rattle.std.proofs.Common.{get_or, ap, ◌∙◌, sym, arith}
use Rattle.ob0_text.proofs.AsciiSteps.{counted_past_lf, counted_past_ascii}
use Rattle.ob0_text.proofs.passes.skip_ascii.Goals as goal

pub loop-reached-preserved-then-byte-eq10 : goal.loop-reached-preserved-then-byte-eq10
loop-reached-preserved-then-byte-eq10 c =
    let byte = ap (λ bs. get_or bs c.loop-reached.reached 0) c.as_bytes-bytes.ensures.value in record {
      counted = counted_past_lf c.args.unit c.args.text.now _ _ _ c.loop-reached.invariant.counted (omega arith) (omega (arith, byte, c.if-byte-eq10.true)) (sym byte ∙ c.if-byte-eq10.true);
      within = omega arith;
      onward = omega arith;
    }

pub loop-reached-preserved : goal.loop-reached-preserved
loop-reached-preserved c =
    let byte = ap (λ bs. get_or bs c.loop-reached.reached 0) c.as_bytes-bytes.ensures.value in record {
      counted = counted_past_ascii c.args.unit c.args.text.now _ _ _ c.loop-reached.invariant.counted (omega arith) (omega (arith, byte, c.if-byte-ge128.false)) (λ e. c.if-byte-eq10.false (byte ∙ e)) (λ e. c.if-byte-eq13.false (byte ∙ e));
      within = omega arith;
      onward = omega arith;
    }

pub loop-reached-preserved-then-byte-lt128 : goal.loop-reached-preserved-then-byte-lt128
loop-reached-preserved-then-byte-lt128 c =
    let byte = ap (λ bs. get_or bs c.loop-reached.reached 0) c.as_bytes-bytes.ensures.value in
    let above = c.if-byte-gt13.true in record {
      counted = counted_past_ascii c.args.unit c.args.text.now _ _ _ c.loop-reached.invariant.counted (omega arith) (omega (arith, byte, c.if-byte-lt128.true)) (λ e. omega (arith, byte, e, above)) (λ e. omega (arith, byte, e, above));
      within = omega arith;
      onward = omega arith;
    }
