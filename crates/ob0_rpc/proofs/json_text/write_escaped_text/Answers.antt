use Rattle.std.proofs.Common.{◌∙◌, ◌++◌, ap, sym}
use Rattle.std.proofs.lemmas.Result.{on_ok_weaker}
use Rattle.ob0_rpc.proofs.json_text.write_escaped_text.Goals as goal

pub returns-then-needs_no_escape : goal.returns-then-needs_no_escape
returns-then-needs_no_escape c = on_ok_weaker c.write_verbatim.result (λ is. is ∙ ap (λ t. c.args.out.now.items ++ t) (sym (c.needs_no_escape.ensures.plain c.if-needs_no_escape.true))) c.write_verbatim.ensures
