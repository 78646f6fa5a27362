use Rattle.std.proofs.Common.{◌≡◌, ◌∙◌, ◌++◌, ◌+◌, ◌-◌, if◌then◌else◌, ap, arith, drop, false, length, map, refl, subst, sym}
use Rattle.std.proofs.lemmas.Bool.{lt-ltb}
use Rattle.std.proofs.lemmas.List.{length-drop, take_all}
use Rattle.ob0_rpc.specs.AppendedJson.{AppendsEachValue}
use Rattle.ob0_rpc.proofs.AppendedJson.{each_done, each_next, each_none}
use Rattle.ob0_session_json.specs.LocationBuffer.{EndsWithUriMember}
use Rattle.ob0_session_json.specs.JsonShapes.{location_value_of_range}
use Rattle.ob0_session_json.proofs.Placed.{location_put, still_ends}
use Rattle.ob0_session_json.proofs.locations_and_hovers.write_locations.Goals as goal
use Rattle.ob0_session_json.proofs.locations_and_hovers.write_locations.Goals.{then-needs_comma, else-needs_comma}

pub write_location_start-at-requires : goal.write_location_start-at-requires
write_location_start-at-requires c = c.loop-range.invariant.2.long_enough

pub loop-range-init : goal.loop-range-init
loop-range-init c = (each_none false _, refl, subst (EndsWithUriMember c.args.uri.now) (sym c.as_mut_slice-buffer.ensures.value) c.in_ok-text.ensures)

pub loop-range-preserved : goal.loop-range-preserved
loop-range-preserved c =
    let put = c.write_location_start-at in
    let buffer = put.new.buffer in
    let from = c.if-needs_comma.from in
    let chosen : from ≡ (if c.loop-range.needs_comma then put.result else put.result + 1) =
    elim c.if-needs_comma.branch [
      | then-needs_comma w ↦ rw w.if-needs_comma.true w.from-is
      | else-needs_comma w ↦ rw w.if-needs_comma.false w.from-is
    ] in
    let rest = take_all (length buffer - from) (drop from buffer) (omega (arith, length-drop from buffer)) in
    let is = c.in_ok-extend_from_slice.ensures.items ∙ ap (λ t. c.loop-range.out.items ++ t) (rest ∙ ap (λ n. drop n buffer) chosen) in
    let item = location_put c.args.uri.now _ put.result c.loop-range.buffer buffer c.loop-range.invariant.2 put.ensures.text c.loop-range.needs_comma _ _ put.ensures.reads is in (
      each_next (location_value_of_range c.args.uri.now) c.args.ranges.now c.loop-range.range-index _ _ _ _ _ (omega arith) c.loop-range.invariant.0 c.loop-range.invariant.1 item,
      sym (lt-ltb 0 _ (omega arith)),
      still_ends c.args.uri.now c.loop-range.buffer buffer (omega arith) put.ensures.kept c.loop-range.invariant.2,
    )

pub returns : goal.returns
returns c =
    let each = each_done (location_value_of_range c.args.uri.now) c.args.ranges.now c.loop-range.range-index _ _ (omega arith) c.loop-range.invariant.0 in
    subst (λ t. AppendsEachValue false (map (location_value_of_range c.args.uri.now) c.args.ranges.now) t c.loop-range.out.items) c.reserve.ensures.items each
