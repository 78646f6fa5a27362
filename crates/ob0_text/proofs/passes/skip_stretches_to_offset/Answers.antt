use Rattle.std.proofs.Common.{arith}
use Rattle.ob0_text.specs.Units.{width_of}
use Rattle.ob0_text.proofs.Widths.{narrow}
use Rattle.ob0_text.proofs.PositionSteps.{rest_border}
use Rattle.ob0_text.proofs.CountedPieces.{as_piece}
use Rattle.ob0_text.proofs.StretchSteps.{counted_past_stretch}
use Rattle.ob0_text.proofs.passes.skip_stretches_to_offset.Goals as goal

pub next_stretch-requires : goal.next_stretch-requires
next_stretch-requires c = rest_border c.args.text.now _ c.loop-stretch.place.offset c.loop-stretch.invariant.place.rest_is

pub overflow_add-place : goal.overflow_add-place
overflow_add-place c =
    let after = counted_past_stretch (width_of c.args.unit) c.args.text.now (narrow c.args.unit) c.loop-stretch.place c.in-Some.stretch c.loop-stretch.invariant.place (as_piece (width_of c.args.unit) c.args.text.now c.loop-stretch.place.offset c.in-Some.stretch c.in-Some.ensures.is) in
    omega (arith, after.characters_fit)

pub loop-stretch-preserved : goal.loop-stretch-preserved
loop-stretch-preserved c = record {
  place = counted_past_stretch (width_of c.args.unit) c.args.text.now (narrow c.args.unit) c.loop-stretch.place c.in-Some.stretch c.loop-stretch.invariant.place (as_piece (width_of c.args.unit) c.args.text.now c.loop-stretch.place.offset c.in-Some.stretch c.in-Some.ensures.is);
  within = omega (arith, c.in-Some.ensures.fits, c.loop-stretch.invariant.within);
}
