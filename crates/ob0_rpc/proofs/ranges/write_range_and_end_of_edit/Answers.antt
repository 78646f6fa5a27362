use Rattle.std.proofs.Common.{◌∙◌, ◌++◌, ◌-◌, ap, arith, codes, drop}
use Rattle.std.proofs.lemmas.List.{length-drop, take_all}
use Rattle.std.proofs.lemmas.Result.{on_ok_weaker}
use Rattle.serde_json.specs.Written.{compact_text}
use Rattle.ob0_rpc.specs.JsonShapes.{range_value}
use Rattle.ob0_rpc.proofs.ranges.write_range_and_end_of_edit.Goals as goal

pub returns-clause-text : goal.returns-clause-text
returns-clause-text c =
    let buffer = c.write_verbatim_ending_at-at.new.buffer in
    let at = c.write_verbatim_ending_at-at.result in
    let whole = take_all (176 - at) (drop at buffer) (omega (arith, length-drop at buffer)) in
    let range = c.write_range_ending_at-at_range.ensures.text ∙ ap (λ t. compact_text (range_value c.args.start c.args.end) ++ t) c.write_verbatim_ending_at-following.ensures.text in
    on_ok_weaker c.write_verbatim.result (λ is. is ∙ ap (λ t. c.args.out.now.items ++ t) (whole ∙ c.write_verbatim_ending_at-at.ensures.text ∙ ap (λ t. codes "\",\"range\":" ++ t) range)) c.write_verbatim.ensures
