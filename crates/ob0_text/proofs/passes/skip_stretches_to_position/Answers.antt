use Rattle.std.proofs.Common.{arith}
use Rattle.ob0_text.specs.Units.{width_of}
use Rattle.ob0_text.proofs.Widths.{narrow}
use Rattle.ob0_text.proofs.PositionSteps.{rest_border}
use Rattle.ob0_text.proofs.CountedPieces.{as_piece}
use Rattle.ob0_text.proofs.StretchSteps.{sought_past_stretch, units_fit}
use Rattle.ob0_text.proofs.passes.skip_stretches_to_position.Goals as goal

pub next_stretch_before_position-requires : goal.next_stretch_before_position-requires
next_stretch_before_position-requires c = rest_border c.args.text.now _ c.loop-stretch.place.offset c.loop-stretch.invariant.rest_is

pub overflow_add-place : goal.overflow_add-place
overflow_add-place c =
    let few = units_fit (width_of c.args.unit) (narrow c.args.unit) c.args.text.now c.loop-stretch.place.offset c.in-Some.stretch (as_piece (width_of c.args.unit) c.args.text.now c.loop-stretch.place.offset c.in-Some.stretch c.in-Some.ensures.is) in
    omega (arith, few, c.in-Some.ensures.fits)

pub loop-stretch-preserved : goal.loop-stretch-preserved
loop-stretch-preserved c =
    let few = units_fit (width_of c.args.unit) (narrow c.args.unit) c.args.text.now c.loop-stretch.place.offset c.in-Some.stretch (as_piece (width_of c.args.unit) c.args.text.now c.loop-stretch.place.offset c.in-Some.stretch c.in-Some.ensures.is) in
    sought_past_stretch (width_of c.args.unit) c.args.text.now c.args.position c.loop-stretch.place c.in-Some.stretch c.loop-stretch.invariant (as_piece (width_of c.args.unit) c.args.text.now c.loop-stretch.place.offset c.in-Some.stretch c.in-Some.ensures.is) c.in-Some.ensures.line (omega (arith, few, c.in-Some.ensures.fits))
