use Rattle.std.proofs.Common.{sym, subst, string_bytes}
use Rattle.ob0_text.specs.LineStarts.{IsLineTableOf}
use Rattle.ob0_text.specs.Units.{width_of}
use Rattle.ob0_text.proofs.line_store.LinesTextStore.from_str_in.Goals as goal

pub invariant_of-result : goal.invariant_of-result
invariant_of-result c = record {
  lines = subst (λ bs. IsLineTableOf bs c.in_ok-table.table) (sym c.in_ok-text.ensures.ok) c.in_ok-table.ensures;
  piece = c.empty_counted_piece.ensures (width_of c.args.unit) (string_bytes c.in_ok-text.text);
}
