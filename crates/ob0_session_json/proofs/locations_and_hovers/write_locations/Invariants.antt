use Rattle.std.proofs.Common.{◌≡◌, false, map, nat_lt, take}
use Rattle.ob0_rpc.specs.AppendedJson.{AppendsEachValue}
use Rattle.ob0_session_json.specs.LocationBuffer.{EndsWithUriMember}
use Rattle.ob0_session_json.specs.JsonShapes.{location_value_of_range}
use Rattle.ob0_session_json.proofs.locations_and_hovers.write_locations.Given as goal

abbrev pub invariant-loop-range : goal.invariant-loop-range
invariant-loop-range l = AppendsEachValue false (map (location_value_of_range l.uri) (take l.range-index l.ranges)) l.initial.out.items l.out.items × (l.needs_comma ≡ nat_lt 0 l.range-index) × EndsWithUriMember l.uri l.buffer
