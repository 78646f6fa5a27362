use Rattle.std.proofs.Common.{◌≡◌, ◌+◌, ◌++◌, ◌∷◌, [], ◌<◌, ◌≤◌, ◌∙◌, List, map, length, subst, sym, ap}
use Rattle.std.proofs.lemmas.Bool.{ltb-false, ltb-true}
use Rattle.ob0_scan.specs.TextWithTokens.{max_text_length}
use Rattle.ob0_scan.specs.declared.lexeme.Span.{Span}
use Rattle.ob0_scan.specs.declared.lexeme.Token.{Token}
use Rattle.ob0_text.specs.Units.{width_of}
use Rattle.ob0_edits_tokens.specs.ByteCuts.{length_after_cuts_from_offset}
use Rattle.ob0_edits_tokens.specs.WordReplacements.{words_of_text, changed_words, changes_at_indexes}
use Rattle.ob0_edits_tokens.specs.Ranges.{range_of}
use Rattle.ob0_edits_tokens.specs.Removals.{changes_with_removal, span_of_tokens}
use Rattle.ob0_edits_tokens.specs.Replacements.{token_span_or_empty, replacement_cut, range_and_text, replacement_at_token, EditedTextHasWords}
use Rattle.ob0_edits_tokens.proofs.Made.{leaves_words_without, length_after_removal}
use Rattle.ob0_edits_tokens.proofs.token_edits.removal_and_replacement_edits.Goals as goal

abbrev make_span : Span → Span → Span
make_span first last = record { start = first.start; end = last.end }

pub returns-then-is_edited_text_too_long-clause-too_long : goal.returns-then-is_edited_text_too_long-clause-too_long
returns-then-is_edited_text_too_long-clause-too_long g c = λ _.
    let s = c.args.tokens.now in
    let first = c.token_span_or_empty-start.ensures ∙ ap (λ (ts : List Token). token_span_or_empty ts c.args.first) c.tokens.ensures in
    let last = c.token_span_or_empty-end.ensures ∙ ap (λ (ts : List Token). token_span_or_empty ts c.args.last) c.tokens-2.ensures in
    subst (λ n. max_text_length < n)
    ((λ i. (first i).start + length_after_cuts_from_offset (length s.text) (last i).end (map (replacement_cut s.tokens c.args.new.now) c.args.token_indexes.now))
    ∙ length_after_removal s c.text-text.ensures.scan c.args.new.now c.utf8.new c.args.first c.args.last c.args.token_indexes.now c.requires.declaration c.requires.names)
    (ltb-true max_text_length _ (sym c.is_edited_text_too_long.ensures ∙ c.if-is_edited_text_too_long.true))

pub returns-clause-edits : goal.returns-clause-edits
returns-clause-edits g c =
    let s = c.args.tokens.now in
    let content = g.T.TextStore.content c.args.store.now in
    let unit = g.T.TextStore.unit_of c.args.store.now in
    let first = c.token_span_or_empty-start.ensures ∙ ap (λ (ts : List Token). token_span_or_empty ts c.args.first) c.tokens.ensures in
    let last = c.token_span_or_empty-end.ensures ∙ ap (λ (ts : List Token). token_span_or_empty ts c.args.last) c.tokens-2.ensures in
    let range : c.range_of.result ≡ range_of (width_of unit) content (span_of_tokens s.tokens c.args.first c.args.last) =
    c.range_of.ensures ∙ (λ i. range_of (width_of unit) content (make_span (first i) (last i))) in
    let pushed : map range_and_text c.push.new.self.items ≡ (range_of (width_of unit) content (span_of_tokens s.tokens c.args.first c.args.last), []) ∷ [] =
    ap (map range_and_text) (c.in_ok-push.ensures.items ∙ ap (λ xs. xs ++ (record { range = c.range_of.result; text = c.new.result } ∷ [])) c.new-edits.ensures.items)
    ∙ (λ i. (range i, c.new.ensures.bytes i) ∷ []) in
    c.in_ok-add_replacement_edits.ensures.added ∙ ap (λ xs. xs ++ map (replacement_at_token unit content s.tokens c.args.new.now) c.args.token_indexes.now) pushed

pub returns-clause-short : goal.returns-clause-short
returns-clause-short g c =
    let s = c.args.tokens.now in
    let first = c.token_span_or_empty-start.ensures ∙ ap (λ (ts : List Token). token_span_or_empty ts c.args.first) c.tokens.ensures in
    let last = c.token_span_or_empty-end.ensures ∙ ap (λ (ts : List Token). token_span_or_empty ts c.args.last) c.tokens-2.ensures in
    subst (λ n. n ≤ max_text_length)
    ((λ i. (first i).start + length_after_cuts_from_offset (length s.text) (last i).end (map (replacement_cut s.tokens c.args.new.now) c.args.token_indexes.now))
    ∙ length_after_removal s c.text-text.ensures.scan c.args.new.now c.utf8.new c.args.first c.args.last c.args.token_indexes.now c.requires.declaration c.requires.names)
    (ltb-false max_text_length _ (sym c.is_edited_text_too_long.ensures ∙ c.if-is_edited_text_too_long.false))

pub returns-clause-words : goal.returns-clause-words
returns-clause-words g c = λ ws may.
    let s = c.args.tokens.now in
    let unit = g.T.TextStore.unit_of c.args.store.now in
    let edits = c.add_replacement_edits.new.edits.items in
    subst (λ t. EditedTextHasWords unit t edits (changed_words (changes_with_removal c.args.first c.args.last (changes_at_indexes c.args.token_indexes.now ws)) 0 (words_of_text s))) (sym c.requires.content)
    (leaves_words_without s c.text-text.ensures.scan c.args.new.now c.utf8.new unit ws may c.args.first c.args.last c.args.token_indexes.now c.requires.declaration c.requires.names edits
    (subst (λ t. map range_and_text edits ≡ (range_of (width_of unit) t (span_of_tokens s.tokens c.args.first c.args.last), []) ∷ map (replacement_at_token unit t s.tokens c.args.new.now) c.args.token_indexes.now) c.requires.content (returns-clause-edits g c)) (returns-clause-short g c))
