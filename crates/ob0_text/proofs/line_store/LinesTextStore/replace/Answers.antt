use Rattle.std.proofs.Common.{◌≡◌, ◌++◌, ◌∙◌, append_assoc, take, drop, subst, sym, ap, string_bytes}
use Rattle.ob0_text.specs.Texts.{offset_of}
use Rattle.ob0_text.specs.Stretches.{IsPieceOfLine}
use Rattle.std.specs.Str.{chars}
use Rattle.std.proofs.lemmas.Str.{IsUtf8-string_bytes}
use Rattle.ob0_text.specs.Units.{width_of}
use Rattle.ob0_text.specs.LineStarts.{TextWithUnit}
use Rattle.ob0_text.proofs.Replacing.{from_border, to_border, replaced_is}
use Rattle.ob0_text.proofs.line_store.LinesTextStore.replace.Goals as goal

pub replace-requires-clause-start : goal.replace-requires-clause-start
replace-requires-clause-start c =
    from_border (width_of c.args.self.now.unit) c.args.self.now.text (string_bytes c.self.inside.text) (IsUtf8-string_bytes c.self.inside.text) (ap (λ (v : TextWithUnit). v.text) c.self.view_is) c.args.range c.range_offsets-found.result.start c.range_offsets-found.result.end c.min-from.result c.max-to.result (c.range_offsets-found.ensures.start ∙ ap (λ bs. offset_of (width_of c.self.inside.unit) (chars bs) c.args.range.start) c.as_str.ensures.value ∙ ap (λ (v : TextWithUnit). offset_of (width_of v.unit) v.text c.args.range.start) c.self.view_is) (c.range_offsets-found.ensures.end ∙ ap (λ bs. offset_of (width_of c.self.inside.unit) (chars bs) c.args.range.end) c.as_str.ensures.value ∙ ap (λ (v : TextWithUnit). offset_of (width_of v.unit) v.text c.args.range.end) c.self.view_is) c.min-from.ensures c.max-to.ensures

pub replace-requires-clause-end : goal.replace-requires-clause-end
replace-requires-clause-end c =
    to_border (width_of c.args.self.now.unit) c.args.self.now.text (string_bytes c.self.inside.text) (IsUtf8-string_bytes c.self.inside.text) (ap (λ (v : TextWithUnit). v.text) c.self.view_is) c.args.range c.range_offsets-found.result.start c.range_offsets-found.result.end c.min-from.result c.max-to.result (c.range_offsets-found.ensures.start ∙ ap (λ bs. offset_of (width_of c.self.inside.unit) (chars bs) c.args.range.start) c.as_str.ensures.value ∙ ap (λ (v : TextWithUnit). offset_of (width_of v.unit) v.text c.args.range.start) c.self.view_is) (c.range_offsets-found.ensures.end ∙ ap (λ bs. offset_of (width_of c.self.inside.unit) (chars bs) c.args.range.end) c.as_str.ensures.value ∙ ap (λ (v : TextWithUnit). offset_of (width_of v.unit) v.text c.args.range.end) c.self.view_is) c.min-from.ensures c.max-to.ensures

pub returns-clause-ok : goal.returns-clause-ok
returns-clause-ok c =
    replaced_is (width_of c.args.self.now.unit) c.args.self.now.text (string_bytes c.self.inside.text) (IsUtf8-string_bytes c.self.inside.text) (ap (λ (v : TextWithUnit). v.text) c.self.view_is) c.args.range c.range_offsets-found.result.start c.range_offsets-found.result.end c.min-from.result c.max-to.result (c.range_offsets-found.ensures.start ∙ ap (λ bs. offset_of (width_of c.self.inside.unit) (chars bs) c.args.range.start) c.as_str.ensures.value ∙ ap (λ (v : TextWithUnit). offset_of (width_of v.unit) v.text c.args.range.start) c.self.view_is) (c.range_offsets-found.ensures.end ∙ ap (λ bs. offset_of (width_of c.self.inside.unit) (chars bs) c.args.range.end) c.as_str.ensures.value ∙ ap (λ (v : TextWithUnit). offset_of (width_of v.unit) v.text c.args.range.end) c.self.view_is) c.min-from.ensures c.max-to.ensures c.args.text.now (string_bytes c.replace.new.text) c.utf8.text c.in_ok-replace.ensures.ok

pub invariant_of-self : goal.invariant_of-self
invariant_of-self c = record {
  lines = c.replace.ensures.table;
  piece = subst (λ bs. IsPieceOfLine (width_of c.self.inside.unit) bs c.self.inside.counted_piece.start c.self.inside.counted_piece.end_and_units) (sym c.in_err-replace.ensures.err) c.self.invariant.piece;
}

pub invariant_of-self-2 : goal.invariant_of-self-2
invariant_of-self-2 c =
    let bytes = string_bytes c.self.inside.text in
    let from = c.min-from.result in
    let kept = c.piece_or_empty_if_beyond-self-inside.result in
    let border = from_border (width_of c.args.self.now.unit) c.args.self.now.text bytes (IsUtf8-string_bytes c.self.inside.text) (ap (λ (v : TextWithUnit). v.text) c.self.view_is) c.args.range c.range_offsets-found.result.start c.range_offsets-found.result.end from c.max-to.result (c.range_offsets-found.ensures.start ∙ ap (λ bs. offset_of (width_of c.self.inside.unit) (chars bs) c.args.range.start) c.as_str.ensures.value ∙ ap (λ (v : TextWithUnit). offset_of (width_of v.unit) v.text c.args.range.start) c.self.view_is) (c.range_offsets-found.ensures.end ∙ ap (λ bs. offset_of (width_of c.self.inside.unit) (chars bs) c.args.range.end) c.as_str.ensures.value ∙ ap (λ (v : TextWithUnit). offset_of (width_of v.unit) v.text c.args.range.end) c.self.view_is) c.min-from.ensures c.max-to.ensures in
    let width = width_of c.self.inside.unit in
    let found = c.range_offsets-found.result.counted_piece in
    let counted = subst (λ bs. IsPieceOfLine width bs found.start found.end_and_units) c.as_str.ensures.value c.range_offsets-found.ensures.counted in
    let left : string_bytes c.replace.new.text ≡ take from bytes ++ (c.args.text.now ++ drop c.max-to.result bytes) = c.in_ok-replace.ensures.ok ∙ append_assoc (take from bytes) c.args.text.now (drop c.max-to.result bytes) in
    record {
      lines = c.replace.ensures.table;
      piece = subst (λ bs. IsPieceOfLine (width_of c.self.inside.unit) bs kept.start kept.end_and_units) (sym left)
          (c.piece_or_empty_if_beyond-self-inside.ensures width bytes (c.args.text.now ++ drop c.max-to.result bytes) counted border.0);
    }
