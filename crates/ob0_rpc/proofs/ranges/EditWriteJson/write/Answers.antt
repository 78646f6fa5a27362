use Rattle.std.proofs.Common.{◌∙◌, ◌++◌, ap, subst}
use Rattle.std.specs.Str.{IsUtf8}
use Rattle.std.proofs.lemmas.Result.{on_ok_weaker}
use Rattle.json.specs.Print.{escape}
use Rattle.ob0_rpc.proofs.AppendedJson.{edit_put_down}
use Rattle.ob0_rpc.proofs.ranges.EditWriteJson.write.Goals as goal

pub returns : goal.returns
returns c =
    let said = c.as_bytes.ensures.value ∙ c.as_str.ensures.value in
    let utf8 = subst IsUtf8 said c.as_bytes.ensures.utf8 in
    on_ok_weaker c.write_range_and_end_of_edit.result (λ is.
    edit_put_down _ c.args.self.now.range.start c.args.self.now.range.end _ _ _ _ utf8 c.in_ok-write_verbatim.ensures (c.in_ok-write_escaped_text.ensures ∙ ap (λ t. c.write_verbatim.new.out.items ++ escape t) said) is c.write_range_and_end_of_edit.ensures.reads)
    c.write_range_and_end_of_edit.ensures.text
