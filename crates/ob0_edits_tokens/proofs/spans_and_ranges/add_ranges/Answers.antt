use Rattle.std.proofs.Common.{map, ap, arith, ◌∙◌}
use Rattle.ob0_scan.specs.declared.lexeme.Span.{Span}
use Rattle.ob0_text.specs.Texts.{position_of}
use Rattle.ob0_text.specs.Units.{width_of}
use Rattle.ob0_edits_tokens.proofs.Ranged.{ends_there, positions_long, range_added, starts_there}
use Rattle.ob0_edits_tokens.proofs.spans_and_ranges.add_ranges.Goals as goal

pub index-requires : goal.index-requires
index-requires g c =
    let content = g.T.TextStore.content c.args.store.now in
    let unit = g.T.TextStore.unit_of c.args.store.now in
    let all = c.in_ok-positions.ensures ∙ ap (map (position_of (width_of unit) content)) c.deref.ensures.value in
    omega (arith, c.loop-i-test.true, positions_long unit content c.args.spans.now c.in_ok-span_bounds.span_bounds.items c.in_ok-positions.positions.items all c.in_ok-span_bounds.ensures)

pub index-requires-in-loop-i : goal.index-requires-in-loop-i
index-requires-in-loop-i g c =
    let content = g.T.TextStore.content c.args.store.now in
    let unit = g.T.TextStore.unit_of c.args.store.now in
    let all = c.in_ok-positions.ensures ∙ ap (map (position_of (width_of unit) content)) c.deref.ensures.value in
    omega (arith, c.loop-i-test.true, positions_long unit content c.args.spans.now c.in_ok-span_bounds.span_bounds.items c.in_ok-positions.positions.items all c.in_ok-span_bounds.ensures)

pub loop-i-preserved : goal.loop-i-preserved
loop-i-preserved g c =
    let content = g.T.TextStore.content c.args.store.now in
    let unit = g.T.TextStore.unit_of c.args.store.now in
    let spans = c.args.spans.now in
    let none : Span = record { start = 0; end = 0 } in
    let positions = c.in_ok-positions.positions.items in
    let all = c.in_ok-positions.ensures ∙ ap (map (position_of (width_of unit) content)) c.deref.ensures.value in
    let a = c.index.ensures ∙ starts_there unit content spans c.loop-i.i c.loop-i-test.true none c.in_ok-span_bounds.span_bounds.items positions all c.in_ok-span_bounds.ensures c.index.result.now in
    let b = c.index-in-loop-i.ensures ∙ ends_there unit content spans c.loop-i.i c.loop-i-test.true none c.in_ok-span_bounds.span_bounds.items positions all c.in_ok-span_bounds.ensures c.index-in-loop-i.result.now in
    c.in_ok-push.ensures.items ∙ range_added unit content spans c.loop-i.i c.loop-i-test.true none c.args.ranges.now.items c.loop-i.ranges.items _ c.loop-i.invariant (λ j. record { start = a j; end = b j })
