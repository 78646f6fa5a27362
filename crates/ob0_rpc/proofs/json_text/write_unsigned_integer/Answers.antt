use Rattle.std.proofs.Common.{◌∙◌, ◌++◌, ap, arith, subst}
use Rattle.std.specs.Str.{IsUtf8}
use Rattle.std.proofs.lemmas.Result.{on_ok_weaker}
use Rattle.ob0_rpc.proofs.AppendedJson.{count_written}
use Rattle.ob0_rpc.proofs.json_text.write_unsigned_integer.Goals as goal

pub returns : goal.returns
returns c =
    let is = c.as_bytes.ensures.value ∙ c.format.ensures.text in
    on_ok_weaker c.write_verbatim.result (λ put. count_written c.args.count _ _ (omega arith) (subst IsUtf8 is c.as_bytes.ensures.utf8) (put ∙ ap (λ b. c.args.out.now.items ++ b) is)) c.write_verbatim.ensures
