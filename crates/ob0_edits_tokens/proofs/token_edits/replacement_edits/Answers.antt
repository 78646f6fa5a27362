use Rattle.std.proofs.Common.{◌≡◌, ◌++◌, ◌<◌, ◌≤◌, ◌∙◌, map, subst, sym, ap}
use Rattle.std.proofs.lemmas.Bool.{ltb-false, ltb-true}
use Rattle.ob0_scan.specs.TextWithTokens.{max_text_length}
use Rattle.ob0_edits_tokens.specs.WordReplacements.{words_of_text, changed_words, changes_at_indexes}
use Rattle.ob0_edits_tokens.specs.Replacements.{range_and_text, replacement_at_token, EditedTextHasWords}
use Rattle.ob0_edits_tokens.proofs.Made.{leaves_words, length_after_replacement}
use Rattle.ob0_edits_tokens.proofs.token_edits.replacement_edits.Goals as goal

pub returns-then-is_edited_text_too_long-clause-too_long : goal.returns-then-is_edited_text_too_long-clause-too_long
returns-then-is_edited_text_too_long-clause-too_long g c = λ _.
    subst (λ n. max_text_length < n) (length_after_replacement c.args.tokens.now c.text-text.ensures.scan c.args.new.now c.utf8.new c.args.token_indexes.now c.requires.names) (ltb-true max_text_length _ (sym c.is_edited_text_too_long.ensures ∙ c.if-is_edited_text_too_long.true))

pub returns-clause-edits : goal.returns-clause-edits
returns-clause-edits g c =
    let content = g.T.TextStore.content c.args.store.now in
    let unit = g.T.TextStore.unit_of c.args.store.now in
    c.in_ok-add_replacement_edits.ensures.added ∙ ap (λ xs. map range_and_text xs ++ map (replacement_at_token unit content c.args.tokens.now.tokens c.args.new.now) c.args.token_indexes.now) c.new-edits.ensures.items

pub returns-clause-short : goal.returns-clause-short
returns-clause-short g c =
    subst (λ n. n ≤ max_text_length) (length_after_replacement c.args.tokens.now c.text-text.ensures.scan c.args.new.now c.utf8.new c.args.token_indexes.now c.requires.names) (ltb-false max_text_length _ (sym c.is_edited_text_too_long.ensures ∙ c.if-is_edited_text_too_long.false))

pub returns-clause-words : goal.returns-clause-words
returns-clause-words g c = λ ws may.
    let s = c.args.tokens.now in
    let unit = g.T.TextStore.unit_of c.args.store.now in
    let edits = c.add_replacement_edits.new.edits.items in
    subst (λ t. EditedTextHasWords unit t edits (changed_words (changes_at_indexes c.args.token_indexes.now ws) 0 (words_of_text s))) (sym c.requires.content)
    (leaves_words s c.text-text.ensures.scan c.args.new.now c.utf8.new unit ws may c.args.token_indexes.now c.requires.names edits
    (subst (λ t. map range_and_text edits ≡ map (replacement_at_token unit t s.tokens c.args.new.now) c.args.token_indexes.now) c.requires.content (returns-clause-edits g c)) (returns-clause-short g c))
