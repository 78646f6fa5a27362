use Rattle.std.proofs.Common.{◌∙◌, ◌++◌, ap, subst}
use Rattle.json.specs.Print.{escape}
use Rattle.std.specs.Str.{IsUtf8}
use Rattle.std.proofs.lemmas.Result.{on_ok_weaker}
use Rattle.ob0_rpc.proofs.AppendedJson.{text_written}
use Rattle.ob0_rpc.proofs.json_text.write_json_string.Goals as goal

pub returns : goal.returns
returns c = on_ok_weaker c.write_verbatim-2.result (λ is. text_written c.args.text.now _ _ _ _ (subst IsUtf8 c.as_bytes.ensures.value c.as_bytes.ensures.utf8) c.in_ok-write_verbatim.ensures (c.in_ok-write_escaped_text.ensures ∙ ap (λ t. c.write_verbatim.new.out.items ++ escape t) c.as_bytes.ensures.value) is) c.write_verbatim-2.ensures
