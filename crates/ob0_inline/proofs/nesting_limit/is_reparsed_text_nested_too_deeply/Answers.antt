use Rattle.std.proofs.Common.{sym, ap, ◌∙◌, subst, not, map}
use Rattle.std.specs.Str.{IsUtf8}
use Rattle.ob0_edits_tokens.specs.WordTerminals.{terminal_of_word}
use Rattle.ob0_tree.specs.Tree.{nesting}
use Rattle.ob0_inline.proofs.Depths.{not_shallow_is, same_bytes, lexemes_of_words}
use Rattle.ob0_inline.proofs.nesting_limit.is_reparsed_text_nested_too_deeply.Goals as goal

pub returns-in_ok-module-in-Ok-clause-deep : goal.returns-in_ok-module-in-Ok-clause-deep
returns-in_ok-module-in-Ok-clause-deep g c = λ ws t leaves spelled.
    let utf8 = subst IsUtf8 c.as_str.ensures.value c.as_str.utf8 in
    let text = same_bytes leaves.after.text c.in-Ok.text.bytes.items _ leaves.scan.utf8 utf8 leaves.made c.in-Ok.ensures.ok in
    let found = c.in_ok-module-in-Ok.ensures.shallow leaves.after t leaves.scan (text ∙ sym c.as_str.ensures.value) (lexemes_of_words leaves.after ∙ (ap (map terminal_of_word) leaves.words_are ∙ spelled)) in
    ap not found ∙ not_shallow_is (nesting t)
