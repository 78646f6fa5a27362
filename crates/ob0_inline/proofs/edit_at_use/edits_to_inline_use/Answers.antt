use Rattle.std.proofs.Common.{◌+◌, ◌≤◌, List, [], ◌∷◌, sym, ◌∙◌, subst}
use Rattle.std.proofs.lemmas.Bool.{ltb-true, ltb-false}
use Rattle.ob0_scan.specs.TextWithTokens.{TextWithTokens, Word}
use Rattle.ob0_text.specs.declared.edits.Edit.{Edit}
use Rattle.ob0_tree.specs.ParsedModule.{ParsedModule, tree_of}
use Rattle.ob0_tree.specs.Module.{max_nesting}
use Rattle.ob0_tree.specs.Tree.{nesting}
use Rattle.ob0_edits_tokens.specs.WordReplacements.{changes_at_indexes, changed_words, words_of_text}
use Rattle.ob0_edits_tokens.specs.Replacements.{AreIdentifierIndexes, EditedTextHasWords, MayReplaceIdentifier}
use Rattle.ob0_language_names.specs.Inlining.{set_of_one_occurrence}
use Rattle.ob0_inline.specs.Uses.{tree_with_inlined_use}
use Rattle.ob0_inline.specs.Values.{value_factor, value_words}
use Rattle.ob0_inline.proofs.AtUses.{are_names, here_spelled}
use Rattle.ob0_inline.proofs.ModuleTexts.{leaves_module}
use Rattle.ob0_inline.proofs.Shallower.{inlined_shallow, module_shallow}
use Rattle.ob0_inline.proofs.edit_at_use.edits_to_inline_use.Goals as goal

pub replacement_edits-requires-clause-names : goal.replacement_edits-requires-clause-names
replacement_edits-requires-clause-names g c =
    let u = c.args.found in
    subst (λ (s : TextWithTokens). AreIdentifierIndexes s.tokens 0 (u.token ∷ [])) (sym c.tokens.ensures) (are_names c.args.names.now c.module-read.ensures.resolved u c.requires.is_use)

pub is_edited_text_nested_too_deeply-requires : goal.is_edited_text_nested_too_deeply-requires
is_edited_text_nested_too_deeply-requires g c =
    record { shallow = subst (λ (p : ParsedModule). nesting (tree_of p) ≤ max_nesting) (sym c.module-read.ensures.value) (module_shallow c.args.names.now.module_read c.module-read.ensures.resolved.parsed) }

pub returns-then-branch-clause-too_deep : goal.returns-then-branch-clause-too_deep
returns-then-branch-clause-too_deep g c = λ alone _.
    let u = c.args.found in
    let m = c.args.names.now.module_read in
    let unit = g.T.TextStore.unit_of c.args.store.now in
    let content = g.T.TextStore.content c.args.store.now in
    let items = c.in_ok-edits.edits.items in
    let vs = value_words u.value in
    let ws : List Word = changed_words (changes_at_indexes (u.token ∷ []) vs) 0 (words_of_text m.source) in
    let spelled = here_spelled c.args.names.now c.module-read.ensures.resolved u c.requires.is_use alone in
    let can_replace = subst (λ n. MayReplaceIdentifier n vs) (sym (c.deref.ensures ∙ c.in_ok-text.ensures.text)) c.value_text.ensures.can_replace in
    let leaves : EditedTextHasWords unit content items ws =
    subst (λ (s : TextWithTokens). EditedTextHasWords unit content items (changed_words (changes_at_indexes (u.token ∷ []) vs) 0 (words_of_text s))) c.tokens.ensures (c.in_ok-edits.ensures.words vs can_replace) in
    let shallow = subst (λ (p : ParsedModule). nesting (tree_with_inlined_use m u) ≤ nesting (tree_of p) + nesting (value_factor u.value)) (sym c.module-read.ensures.value) (inlined_shallow m (set_of_one_occurrence u.occurrence) u.value) in
    let passed = subst (λ (es : List Edit). EditedTextHasWords unit content es ws) (sym c.deref-2.ensures.value) leaves in
    ltb-true 100 (nesting (tree_with_inlined_use m u)) (sym (c.in_ok-is_edited_text_nested_too_deeply.ensures.deep ws (tree_with_inlined_use m u) passed spelled shallow) ∙ c.if-branch.true)

pub returns-clause-inlined : goal.returns-clause-inlined
returns-clause-inlined g c = λ alone.
    let u = c.args.found in
    let m = c.args.names.now.module_read in
    let unit = g.T.TextStore.unit_of c.args.store.now in
    let content = g.T.TextStore.content c.args.store.now in
    let items = c.in_ok-edits.edits.items in
    let vs = value_words u.value in
    let ws : List Word = changed_words (changes_at_indexes (u.token ∷ []) vs) 0 (words_of_text m.source) in
    let spelled = here_spelled c.args.names.now c.module-read.ensures.resolved u c.requires.is_use alone in
    let can_replace = subst (λ n. MayReplaceIdentifier n vs) (sym (c.deref.ensures ∙ c.in_ok-text.ensures.text)) c.value_text.ensures.can_replace in
    let leaves : EditedTextHasWords unit content items ws =
    subst (λ (s : TextWithTokens). EditedTextHasWords unit content items (changed_words (changes_at_indexes (u.token ∷ []) vs) 0 (words_of_text s))) c.tokens.ensures (c.in_ok-edits.ensures.words vs can_replace) in
    let shallow = subst (λ (p : ParsedModule). nesting (tree_with_inlined_use m u) ≤ nesting (tree_of p) + nesting (value_factor u.value)) (sym c.module-read.ensures.value) (inlined_shallow m (set_of_one_occurrence u.occurrence) u.value) in
    let passed = subst (λ (es : List Edit). EditedTextHasWords unit content es ws) (sym c.deref-2.ensures.value) leaves in
    let low = ltb-false 100 (nesting (tree_with_inlined_use m u)) (sym (c.in_ok-is_edited_text_nested_too_deeply.ensures.deep ws (tree_with_inlined_use m u) passed spelled shallow) ∙ c.if-branch.false) in
    leaves_module unit content items ws (tree_with_inlined_use m u) leaves spelled low
