use Rattle.std.proofs.Common.{◌≡◌, ◌++◌, ◌∙◌, List, map, take, ap, arith}
use Rattle.std.proofs.lemmas.List.{take_all}
use Rattle.ob0_scan.specs.declared.lexeme.Token.{Token}
use Rattle.ob0_text.specs.declared.position_types.Range.{Range}
use Rattle.ob0_edits_tokens.specs.Replacements.{range_and_text, token_span_or_empty}
use Rattle.ob0_text.specs.Units.{width_of}
use Rattle.ob0_edits_tokens.specs.Ranges.{range_of}
use Rattle.ob0_edits_tokens.proofs.Ranged.{edits_at_places}
use Rattle.ob0_edits_tokens.proofs.token_edits.add_replacement_edits.Goals as goal

pub returns-clause-added : goal.returns-clause-added
returns-clause-added g c =
    let content = g.T.TextStore.content c.args.store.now in
    let unit = g.T.TextStore.unit_of c.args.store.now in
    let tokens = c.args.tokens.now.tokens in
    let ranges = c.deref-range-items.result.now in
    let spans : c.in_ok-spans.spans.items ≡ map (token_span_or_empty tokens) c.args.token_indexes.now = c.in_ok-spans.ensures ∙ ap (λ (ts : List Token). map (token_span_or_empty ts) c.args.token_indexes.now) c.tokens.ensures in
    let found : ranges ≡ map (range_of (width_of unit) content) c.in_ok-spans.spans.items =
    c.deref-range-items.ensures.value ∙ c.in_ok-ranges.ensures ∙ ap (map (range_of (width_of unit) content)) c.deref.ensures.value in
    let all : take c.loop-range.range-index ranges ≡ ranges = take_all c.loop-range.range-index ranges (omega (arith, c.loop-range-test.false)) in
    c.loop-range.invariant ∙ ap (λ (xs : List Range). map range_and_text c.args.edits.now.items ++ map (λ (r : Range). (r, c.args.new.now)) xs) all
    ∙ ap (λ xs. map range_and_text c.args.edits.now.items ++ xs) (edits_at_places unit content tokens c.args.new.now c.args.token_indexes.now c.in_ok-spans.spans.items ranges spans found)
