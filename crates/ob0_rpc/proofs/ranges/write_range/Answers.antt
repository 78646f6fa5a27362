use Rattle.std.proofs.Common.{◌∙◌, ◌++◌, ◌-◌, ap, arith, drop, refl}
use Rattle.std.proofs.lemmas.List.{length-drop, take_all}
use Rattle.std.proofs.lemmas.Result.{on_ok_weaker}
use Rattle.ob0_rpc.proofs.AppendedJson.{put_down}
use Rattle.ob0_rpc.proofs.ranges.write_range.Goals as goal

pub returns : goal.returns
returns c =
    let buffer = c.write_range_ending_at-at.new.buffer in
    let at = c.write_range_ending_at-at.result in
    let whole = take_all (176 - at) (drop at buffer) (omega (arith, length-drop at buffer)) in
    on_ok_weaker c.write_verbatim.result (λ is.
    put_down _ _ _ _ _ refl c.write_range_ending_at-at.ensures.text (is ∙ ap (λ t. c.args.out.now.items ++ t) whole) c.write_range_ending_at-at.ensures.reads) c.write_verbatim.ensures
