use Rattle.std.proofs.Common.{◌∙◌, ◌++◌, ap, append_assoc, arith, codes, drop, sym}
use Rattle.serde_json.specs.Written.{compact_text}
use Rattle.ob0_rpc.specs.JsonShapes.{range_value}
use Rattle.ob0_session_json.proofs.Placed.{kept}
use Rattle.ob0_session_json.proofs.locations_and_hovers.write_location_start.Goals as goal

pub returns-clause-kept : goal.returns-clause-kept
returns-clause-kept c =
    let head = codes ",{\"range\":" in
    let range = compact_text (range_value c.args.range.start c.args.range.end) in
    let is = c.write_verbatim_ending_at.ensures.text ∙ ap (λ t. head ++ t) c.write_range_ending_at-at.ensures.text ∙ sym (append_assoc head range (drop 192 c.args.buffer.now)) in
    kept c.args.buffer.now c.write_verbatim_ending_at.new.buffer (head ++ range) c.write_verbatim_ending_at.result (omega arith) (omega arith) (omega arith) is
