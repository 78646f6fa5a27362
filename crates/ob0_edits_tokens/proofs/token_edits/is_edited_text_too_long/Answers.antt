use Rattle.std.proofs.Common.{◌≡◌, ◌+◌, ◌∙◌, ap, arith, drop, get_or, length, map}
use Rattle.std.specs.Prelude.{List}
use Rattle.std.proofs.lemmas.List.{drop_more}
use Rattle.ob0_scan.specs.declared.lexeme.Span.{Span}
use Rattle.ob0_scan.specs.declared.lexeme.Token.{Token}
use Rattle.ob0_edits_tokens.specs.ByteCuts.{length_after_cuts_from_offset}
use Rattle.ob0_edits_tokens.specs.Replacements.{replacement_cut, token_span_or_empty}
use Rattle.ob0_edits_tokens.proofs.token_edits.is_edited_text_too_long.Goals as goal

pub loop-token_index-preserved : goal.loop-token_index-preserved
loop-token_index-preserved c =
    let s = c.args.tokens.now in
    let i = c.loop-token_index.token_index-index in
    let p = get_or c.args.token_indexes.now i 0 in
    let cuts = map (replacement_cut s.tokens c.args.new.now) (drop (i + 1) c.args.token_indexes.now) in
    let span : c.token_span_or_empty-span.result ≡ token_span_or_empty s.tokens p = c.token_span_or_empty-span.ensures ∙ ap (λ (ts : List Token). token_span_or_empty ts p) c.tokens.ensures in
    let here = ap (λ ps. length_after_cuts_from_offset (length s.text) c.loop-token_index.end (map (replacement_cut s.tokens c.args.new.now) ps)) (drop_more c.args.token_indexes.now i 0 c.loop-token_index-test.true) in
    record {
      short = omega (arith, c.if-length-gt-MAX_TEXT_LENGTH.false);
      counted = omega (arith, c.loop-token_index.invariant.counted, here, ap (λ (x : Span). x.start) span, ap (λ (x : Span). length_after_cuts_from_offset (length s.text) x.end cuts) span, c.saturating_sub.ensures);
    }
