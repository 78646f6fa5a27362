use Rattle.std.proofs.Common.{sym, ◌∙◌}
use Rattle.ob0_text.proofs.StartLaws.{table}
use Rattle.ob0_text.proofs.line_starts.line_starts_of.Goals as goal

pub returns : goal.returns
returns c = c.in_ok-add_line_starts.ensures ∙ rw (c.new-starts.ensures.items, c.as_bytes.ensures.value) (sym (table c.args.text.now c.utf8.text))
