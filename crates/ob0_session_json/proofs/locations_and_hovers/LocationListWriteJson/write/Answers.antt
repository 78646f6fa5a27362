use Rattle.std.proofs.Common.{map}
use Rattle.std.proofs.lemmas.Result.{on_ok_weaker}
use Rattle.ob0_rpc.proofs.AppendedJson.{array_of}
use Rattle.ob0_session_json.specs.JsonShapes.{location_value_of_range}
use Rattle.ob0_session_json.proofs.locations_and_hovers.LocationListWriteJson.write.Goals as goal

pub returns : goal.returns
returns c = on_ok_weaker c.end_list.result (λ is. array_of (map (location_value_of_range c.args.self.now.uri.now) c.args.self.now.ranges.now) _ _ _ _ c.in_ok-begin_list.ensures c.in_ok-write_locations.ensures is) c.end_list.ensures
