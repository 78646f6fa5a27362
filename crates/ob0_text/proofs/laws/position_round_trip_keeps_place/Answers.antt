use Rattle.ob0_text.specs.Units.{width_of}
use Rattle.ob0_text.proofs.RoundTrip.{places_go_back}
use Rattle.ob0_text.proofs.Widths.{wide}
use Rattle.ob0_text.proofs.laws.position_round_trip_keeps_place.Goals as goal

pub returns : goal.returns
returns c = λ unit. places_go_back (width_of unit) (wide unit)
