use Rattle.std.proofs.Common.{refl, arith}
use Rattle.ob0_text.specs.Units.{width_of}
use Rattle.ob0_text.proofs.Widths.{narrow}
use Rattle.ob0_text.proofs.CountedPieces.{as_piece, piece_joined}
use Rattle.ob0_text.proofs.StretchSteps.{units_fit}
use Rattle.ob0_text.proofs.counted_pieces.extend_piece_within_units.Goals as goal

pub overflow_add-counted : goal.overflow_add-counted
overflow_add-counted c =
    let width = width_of c.args.unit in
    let few = units_fit width (narrow c.args.unit) c.args.text.now c.loop-next.counted.end c.in-Some.next (as_piece width c.args.text.now c.loop-next.counted.end c.in-Some.next c.in-Some.ensures.is) in
    omega (arith, few, c.in-Some.ensures.fits, c.ranges.units.fits)

pub loop-next-preserved : goal.loop-next-preserved
loop-next-preserved c =
    let width = width_of c.args.unit in
    let few = units_fit width (narrow c.args.unit) c.args.text.now c.loop-next.counted.end c.in-Some.next (as_piece width c.args.text.now c.loop-next.counted.end c.in-Some.next c.in-Some.ensures.is) in
    record {
      is = piece_joined width c.args.text.now c.args.start c.loop-next.counted c.in-Some.next _ c.loop-next.invariant.is c.in-Some.ensures.is refl refl;
      few = omega (arith, few, c.in-Some.ensures.fits);
    }
