use Rattle.std.proofs.Common.{◌+◌, ◌≤◌, ℕ, suc, List, sym, ◌∙◌, subst}
use Rattle.std.proofs.lemmas.Bool.{ltb-true, ltb-false}
use Rattle.ob0_scan.specs.TextWithTokens.{TextWithTokens, Word}
use Rattle.ob0_text.specs.declared.edits.Edit.{Edit}
use Rattle.ob0_tree.specs.ParsedModule.{ParsedModule, tree_of}
use Rattle.ob0_tree.specs.Module.{max_nesting}
use Rattle.ob0_tree.specs.Tree.{nesting}
use Rattle.ob0_edits_tokens.specs.WordReplacements.{changes_at_indexes, changed_words, words_of_text}
use Rattle.ob0_edits_tokens.specs.Removals.{MayBeConstantDeclaration, changes_with_removal}
use Rattle.ob0_edits_tokens.specs.Replacements.{AreIdentifierIndexes, EditedTextHasWords, MayReplaceIdentifier}
use Rattle.ob0_inline.specs.Everywhere.{tree_inlined_everywhere, tokens_of_uses}
use Rattle.ob0_inline.specs.Values.{value_factor, value_words}
use Rattle.ob0_inline.proofs.Ended.{are_uses, is_taken, left_spelled}
use Rattle.ob0_inline.proofs.Shallower.{everywhere_shallow, module_shallow}
use Rattle.ob0_inline.proofs.ModuleTexts.{leaves_module}
use Rattle.ob0_inline.proofs.inlining_everywhere.edits_to_inline_everywhere.Goals as goal

pub removal_and_replacement_edits-requires-clause-declaration : goal.removal_and_replacement_edits-requires-clause-declaration
removal_and_replacement_edits-requires-clause-declaration g c =
    subst (λ (s : TextWithTokens). MayBeConstantDeclaration s.tokens c.args.constant.first c.args.constant.last) (sym c.tokens.ensures)
    (is_taken c.args.names.now c.module-read.ensures.resolved c.args.constant c.requires.is_constant)

pub removal_and_replacement_edits-requires-clause-names : goal.removal_and_replacement_edits-requires-clause-names
removal_and_replacement_edits-requires-clause-names g c =
    let uses = c.deref.ensures.value ∙ c.in_ok-uses.ensures in
    subst (λ (s : TextWithTokens). AreIdentifierIndexes s.tokens (suc c.args.constant.last) c.deref.result.now) (sym c.tokens.ensures)
    (subst (AreIdentifierIndexes c.args.names.now.module_read.source.tokens (suc c.args.constant.last)) (sym uses)
    (are_uses c.args.names.now c.module-read.ensures.resolved c.args.constant c.requires.is_constant))

pub is_edited_text_nested_too_deeply-requires : goal.is_edited_text_nested_too_deeply-requires
is_edited_text_nested_too_deeply-requires g c =
    record { shallow = subst (λ (p : ParsedModule). nesting (tree_of p) ≤ max_nesting) (sym c.module-read.ensures.value) (module_shallow c.args.names.now.module_read c.module-read.ensures.resolved.parsed) }

pub returns-then-branch-clause-too_deep : goal.returns-then-branch-clause-too_deep
returns-then-branch-clause-too_deep g c = λ alone _.
    let m = c.args.names.now.module_read in
    let k = c.args.constant in
    let vs = value_words k.value in
    let unit = g.T.TextStore.unit_of c.args.store.now in
    let content = g.T.TextStore.content c.args.store.now in
    let items = c.in_ok-edits.edits.items in
    let ws : List Word = changed_words (changes_with_removal k.first k.last (changes_at_indexes (tokens_of_uses m k.ordinal) vs)) 0 (words_of_text m.source) in
    let spelled = left_spelled c.args.names.now c.module-read.ensures.resolved k c.requires.is_constant alone in
    let can_replace = subst (λ n. MayReplaceIdentifier n vs) (sym (c.deref-2.ensures ∙ c.in_ok-text.ensures.text)) c.value_text.ensures.can_replace in
    let uses = c.deref.ensures.value ∙ c.in_ok-uses.ensures in
    let leaves : EditedTextHasWords unit content items ws =
    subst (λ (ps : List ℕ). EditedTextHasWords unit content items (changed_words (changes_with_removal k.first k.last (changes_at_indexes ps vs)) 0 (words_of_text m.source))) uses
    (subst (λ (s : TextWithTokens). EditedTextHasWords unit content items (changed_words (changes_with_removal k.first k.last (changes_at_indexes c.deref.result.now vs)) 0 (words_of_text s))) c.tokens.ensures (c.in_ok-edits.ensures.words vs can_replace)) in
    let shallow = subst (λ (p : ParsedModule). nesting (tree_inlined_everywhere m k) ≤ nesting (tree_of p) + nesting (value_factor k.value)) (sym c.module-read.ensures.value) (everywhere_shallow m k) in
    let passed = subst (λ (es : List Edit). EditedTextHasWords unit content es ws) (sym c.deref-3.ensures.value) leaves in
    ltb-true 100 (nesting (tree_inlined_everywhere m k)) (sym (c.in_ok-is_edited_text_nested_too_deeply.ensures.deep ws (tree_inlined_everywhere m k) passed spelled shallow) ∙ c.if-branch.true)

pub returns-clause-inlined : goal.returns-clause-inlined
returns-clause-inlined g c = λ alone.
    let m = c.args.names.now.module_read in
    let k = c.args.constant in
    let vs = value_words k.value in
    let unit = g.T.TextStore.unit_of c.args.store.now in
    let content = g.T.TextStore.content c.args.store.now in
    let items = c.in_ok-edits.edits.items in
    let ws : List Word = changed_words (changes_with_removal k.first k.last (changes_at_indexes (tokens_of_uses m k.ordinal) vs)) 0 (words_of_text m.source) in
    let spelled = left_spelled c.args.names.now c.module-read.ensures.resolved k c.requires.is_constant alone in
    let can_replace = subst (λ n. MayReplaceIdentifier n vs) (sym (c.deref-2.ensures ∙ c.in_ok-text.ensures.text)) c.value_text.ensures.can_replace in
    let uses = c.deref.ensures.value ∙ c.in_ok-uses.ensures in
    let leaves : EditedTextHasWords unit content items ws =
    subst (λ (ps : List ℕ). EditedTextHasWords unit content items (changed_words (changes_with_removal k.first k.last (changes_at_indexes ps vs)) 0 (words_of_text m.source))) uses
    (subst (λ (s : TextWithTokens). EditedTextHasWords unit content items (changed_words (changes_with_removal k.first k.last (changes_at_indexes c.deref.result.now vs)) 0 (words_of_text s))) c.tokens.ensures (c.in_ok-edits.ensures.words vs can_replace)) in
    let shallow = subst (λ (p : ParsedModule). nesting (tree_inlined_everywhere m k) ≤ nesting (tree_of p) + nesting (value_factor k.value)) (sym c.module-read.ensures.value) (everywhere_shallow m k) in
    let passed = subst (λ (es : List Edit). EditedTextHasWords unit content es ws) (sym c.deref-3.ensures.value) leaves in
    let low = ltb-false 100 (nesting (tree_inlined_everywhere m k)) (sym (c.in_ok-is_edited_text_nested_too_deeply.ensures.deep ws (tree_inlined_everywhere m k) passed spelled shallow) ∙ c.if-branch.false) in
    leaves_module unit content items ws (tree_inlined_everywhere m k) leaves spelled low
