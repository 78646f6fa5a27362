use Rattle.std.proofs.Common.{◌+◌, suc, ◌++◌, [], map, ◌≤◌, ◌-◌, get_or, drop, take, length, sym, ap, ◌∙◌, subst, arith, string_bytes, Some}
use Rattle.std.specs.Prelude.{encode_utf8_all}
use Rattle.std.specs.Str.{chars, IsCharBoundary}
use Rattle.std.proofs.Math.Utf8.{scalars}
use Rattle.std.proofs.lemmas.Str.{chars-append, encodes-chars, scalars-chars, chars-nil, IsUtf8-string_bytes}
use Rattle.std.proofs.lemmas.List.{drop_all, length-map}
use Rattle.ob0_text.specs.Units.{width_of}
use Rattle.ob0_text.specs.Patches.{cuts_of_edits, cuts_in_text_order}
use Rattle.ob0_text.specs.StoredCuts.{cut_of_byte_edit, cut_with_byte_offsets}
use Rattle.ob0_text.proofs.CutOrder.{cuts_inside, inside_order}
use Rattle.ob0_text.proofs.Pieces.{IsPieced, pieced_start, patched_text-none, patched_text-some, last_chars}
use Rattle.ob0_text.proofs.PatchSteps.{find_cut, overlap_at, next_at, chars_pushed, border_of, pieced_moved}
use Rattle.ob0_text.proofs.byte_edits.patch.Goals as goal

pub loop-cut-init : goal.loop-cut-init
loop-cut-init g c =
    let text = g.T.TextStore.content c.args.store.now in
    let cs = cuts_in_text_order (cuts_of_edits (width_of (g.T.TextStore.unit_of c.args.store.now)) text c.args.edits.now) in (
      ap (map cut_of_byte_edit) c.deref-cut-items.ensures.value ∙ c.in_ok-cuts.ensures,
      c.as_str-text.ensures,
      subst (λ d. IsPieced text cs d 0 cs) (sym (ap chars c.new-patched_text.ensures.bytes ∙ chars-nil)) (pieced_start text cs),
    )

pub returns-then-cut-kept-clause-overlap : goal.returns-then-cut-kept-clause-overlap
returns-then-cut-kept-clause-overlap g c =
    let text = g.T.TextStore.content c.args.store.now in
    let cuts = cuts_of_edits (width_of (g.T.TextStore.unit_of c.args.store.now)) text c.args.edits.now in
    let inside = cuts_inside text (width_of (g.T.TextStore.unit_of c.args.store.now)) c.args.edits.now in
    let inv = c.loop-cut.invariant in
    let good = ap scalars (sym inv.1) ∙ scalars-chars c.as_str-text.result.now c.as_str-text.utf8 in
    let found = find_cut text c.deref-cut-items.result.now (cuts_in_text_order cuts) inv.0 c.loop-cut.cut-index c.loop-cut-test.true (record { start = 0; end = 0; text = record { ref_ptr = (0, 0); now = [] } }) in
    λ _. patched_text-none text cuts inside (overlap_at text good (cuts_in_text_order cuts) (inside_order text cuts inside) _ c.loop-cut.cut-index found _ c.loop-cut.kept inv.2 c.if-cut-kept.true)

pub range-requires-clause-start_boundary : goal.range-requires-clause-start_boundary
range-requires-clause-start_boundary g c =
    let text = g.T.TextStore.content c.args.store.now in
    let inv = c.loop-cut.invariant in
    let good = ap scalars (sym inv.1) ∙ scalars-chars c.as_str-text.result.now c.as_str-text.utf8 in
    let whole = ap encode_utf8_all (sym inv.1) ∙ encodes-chars c.as_str-text.result.now c.as_str-text.utf8 in
    λ _. subst (λ b. IsCharBoundary b c.loop-cut.kept) whole (border_of text good inv.2.at c.loop-cut.kept inv.2.here)

pub range-requires-clause-end_boundary : goal.range-requires-clause-end_boundary
range-requires-clause-end_boundary g c =
    let text = g.T.TextStore.content c.args.store.now in
    let cuts = cuts_of_edits (width_of (g.T.TextStore.unit_of c.args.store.now)) text c.args.edits.now in
    let inv = c.loop-cut.invariant in
    let good = ap scalars (sym inv.1) ∙ scalars-chars c.as_str-text.result.now c.as_str-text.utf8 in
    let whole = ap encode_utf8_all (sym inv.1) ∙ encodes-chars c.as_str-text.result.now c.as_str-text.utf8 in
    let found = find_cut text c.deref-cut-items.result.now (cuts_in_text_order cuts) inv.0 c.loop-cut.cut-index c.loop-cut-test.true (record { start = 0; end = 0; text = record { ref_ptr = (0, 0); now = [] } }) in
    let x = get_or c.deref-cut-items.result.now c.loop-cut.cut-index (record { start = 0; end = 0; text = record { ref_ptr = (0, 0); now = [] } }) in
    subst (λ b. IsCharBoundary b x.start) whole (border_of text good found.cut.from x.start (ap (λ k. k.from) found.is))

pub range_from-requires : goal.range_from-requires
range_from-requires g c =
    let text = g.T.TextStore.content c.args.store.now in
    let inv = c.loop-cut.invariant in
    let good = ap scalars (sym inv.1) ∙ scalars-chars c.as_str-text.result.now c.as_str-text.utf8 in
    let whole = ap encode_utf8_all (sym inv.1) ∙ encodes-chars c.as_str-text.result.now c.as_str-text.utf8 in
    λ _. subst (λ b. IsCharBoundary b c.loop-cut.kept) whole (border_of text good inv.2.at c.loop-cut.kept inv.2.here)

pub loop-cut-preserved : goal.loop-cut-preserved
loop-cut-preserved g c =
    let text = g.T.TextStore.content c.args.store.now in
    let cuts = cuts_of_edits (width_of (g.T.TextStore.unit_of c.args.store.now)) text c.args.edits.now in
    let inside = cuts_inside text (width_of (g.T.TextStore.unit_of c.args.store.now)) c.args.edits.now in
    let inv = c.loop-cut.invariant in
    let good = ap scalars (sym inv.1) ∙ scalars-chars c.as_str-text.result.now c.as_str-text.utf8 in
    let whole = ap encode_utf8_all (sym inv.1) ∙ encodes-chars c.as_str-text.result.now c.as_str-text.utf8 in
    let found = find_cut text c.deref-cut-items.result.now (cuts_in_text_order cuts) inv.0 c.loop-cut.cut-index c.loop-cut-test.true (record { start = 0; end = 0; text = record { ref_ptr = (0, 0); now = [] } }) in
    let next = next_at text good (cuts_in_text_order cuts) (inside_order text cuts inside) _ c.loop-cut.cut-index found _ c.loop-cut.kept inv.2 c.if-cut-kept.false in
    let x = get_or c.deref-cut-items.result.now c.loop-cut.cut-index (record { start = 0; end = 0; text = record { ref_ptr = (0, 0); now = [] } }) in
    let piece = c.range.ensures.value ∙ ap (λ b. take (x.start - c.loop-cut.kept) (drop c.loop-cut.kept b)) (sym whole) in
    let pushed = ap chars (c.in_ok-push_str-2.ensures.bytes ∙ ap (λ t. t ++ x.text.now) c.in_ok-push_str.ensures.bytes)
    ∙ chars_pushed (string_bytes c.loop-cut.patched_text) c.range.result.now x.text.now (IsUtf8-string_bytes c.loop-cut.patched_text) c.range.utf8
    ∙ ap (λ t. chars (string_bytes c.loop-cut.patched_text) ++ (chars t ++ chars x.text.now)) piece in (
      inv.0,
      inv.1,
      pieced_moved text (cuts_in_text_order cuts) _ _ x.end (suc c.loop-cut.cut-index) (c.loop-cut.cut-index + 1) next (omega arith) pushed,
    )

pub returns-clause-ok : goal.returns-clause-ok
returns-clause-ok g c =
    let text = g.T.TextStore.content c.args.store.now in
    let cuts = cuts_of_edits (width_of (g.T.TextStore.unit_of c.args.store.now)) text c.args.edits.now in
    let inside = cuts_inside text (width_of (g.T.TextStore.unit_of c.args.store.now)) c.args.edits.now in
    let inv = c.loop-cut.invariant in
    let good = ap scalars (sym inv.1) ∙ scalars-chars c.as_str-text.result.now c.as_str-text.utf8 in
    let whole = ap encode_utf8_all (sym inv.1) ∙ encodes-chars c.as_str-text.result.now c.as_str-text.utf8 in
    let as_many = sym (length-map c.deref-cut-items.result.now cut_of_byte_edit) ∙ ap length inv.0 ∙ length-map (cuts_in_text_order cuts) (cut_with_byte_offsets text) in
    let empty = drop_all c.loop-cut.cut-index (cuts_in_text_order cuts) (subst (λ n. n ≤ c.loop-cut.cut-index) as_many c.loop-cut-test.false) in
    let done = chars (string_bytes c.loop-cut.patched_text) in
    let last = subst (IsPieced text (cuts_in_text_order cuts) done c.loop-cut.kept) empty inv.2 in
    let rest = ap chars (c.range_from.ensures.value ∙ ap (drop c.loop-cut.kept) (sym whole) ∙ ap (λ n. drop n (encode_utf8_all text)) last.here) ∙ last_chars text good last.at in
    patched_text-some text cuts inside done c.loop-cut.kept last
    ∙ ap Some (sym (ap chars c.in_ok-push_str-3.ensures.bytes
    ∙ chars-append (string_bytes c.loop-cut.patched_text) c.range_from.result.now (IsUtf8-string_bytes c.loop-cut.patched_text) ∙ ap (λ t. done ++ t) rest))
