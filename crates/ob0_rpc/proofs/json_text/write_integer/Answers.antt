use Rattle.std.proofs.Common.{◌∙◌, ◌++◌, ap, subst}
use Rattle.std.proofs.Math.Facts.{to_z-of_z}
use Rattle.std.specs.Fmt.{signed_decimal}
use Rattle.std.specs.Str.{IsUtf8}
use Rattle.std.proofs.lemmas.Result.{on_ok_weaker}
use Rattle.ob0_rpc.proofs.AppendedJson.{integer_written}
use Rattle.ob0_rpc.proofs.json_text.write_integer.Goals as goal

pub returns : goal.returns
returns c =
    let is = c.as_bytes.ensures.value ∙ c.format.ensures.text ∙ ap signed_decimal (to_z-of_z c.ranges.whole) in
    on_ok_weaker c.write_verbatim.result (λ put. integer_written c.args.whole _ _ c.ranges.whole (subst IsUtf8 is c.as_bytes.ensures.utf8) (put ∙ ap (λ b. c.args.out.now.items ++ b) is)) c.write_verbatim.ensures
