-- Proves that if a value replaces identifiers of a text, the words of the new text are the words of
-- the inlined module.
use Rattle.std.specs.Prelude.{negsuc}
use Rattle.std.proofs.Common.{◌≡◌, ℕ, suc, ◌+◌, ◌≤◌, Bool, true, false, if◌then◌else◌, nat_lt, List, [], ◌∷◌, ◌++◌, map, refl, ap, ◌∙◌, arith}
use Rattle.std.proofs.lemmas.List.{append_cancel_right}
use Rattle.ob0_scan.specs.declared.lexeme.Token.{Token}
use Rattle.ob0_scan.specs.TextWithTokens.{Word, word_of_token}
use Rattle.ob0_text.specs.declared.edits.Edit.{Edit}
use Rattle.ob0_text.specs.declared.position_types.Unit as counting
use Rattle.ob0_tree.specs.Terminals.{EndOfText}
use Rattle.ob0_tree.specs.ParsedModule.{ParsedModule, TreeMatchesText, tree_of}
use Rattle.ob0_tree.specs.TokenIndexLeaves.{indexed_terminal, indexed_terminals_from}
use Rattle.ob0_tree.specs.Tree.{Tree, factor, module_text, nesting, spell}
use Rattle.ob0_edits_tokens.specs.WordReplacements.{words_of_text}
use Rattle.ob0_edits_tokens.specs.WordsOfTrees.{indexed_terminals_of_words}
use Rattle.ob0_edits_tokens.specs.Replacements.{EditedTextHasWords}
use Rattle.ob0_edits_tokens.specs.WordTerminals.{terminal_of_word}
use Rattle.ob0_language_values.specs.declared.scalar.Scalar.{Scalar}
use Rattle.ob0_language_values.specs.declared.scalar.Scalar.TheVariants as scalar
use Rattle.ob0_inline.specs.EditedModuleTexts.{EditedTextHasTree}
use Rattle.ob0_inline.specs.Values.{value_factor, value_words}
use Rattle.ob0_inline.proofs.Depths.{lexemes_of_words}

lexemes_placed : (text : List ℕ) (i : ℕ) (ts : List Token) → indexed_terminals_from i ts ≡ indexed_terminals_of_words i (map (word_of_token text) ts) ++ (EndOfText ∷ [])
lexemes_placed text i [] = refl
lexemes_placed text i (t ∷ ts) =
    let next : i + 1 ≡ suc i = omega arith in
    let rest = ap (λ n. indexed_terminals_from n ts) next ∙ lexemes_placed text (suc i) ts in
    λ j. indexed_terminal i t.kind ∷ rest j

-- The words with their indexes spell the tree over the tokens' indexes.
pub spelled_by_words : (m : ParsedModule) → TreeMatchesText m → spell (tree_of m) ≡ indexed_terminals_of_words 0 (words_of_text m.source)
spelled_by_words m parsed = append_cancel_right (spell (tree_of m)) (indexed_terminals_of_words 0 (words_of_text m.source)) (EndOfText ∷ []) (parsed.places ∙ lexemes_placed m.source.text 0 m.source.tokens)

-- A conditional spells its tree if both of its cases spell theirs.
either_spelled : (b : Bool) (vs ws : List Word) (v w : Tree (List ℕ) factor) → map terminal_of_word vs ≡ spell v → map terminal_of_word ws ≡ spell w → map terminal_of_word (if b then vs else ws) ≡ spell (if b then v else w)
either_spelled true vs ws v w e f = e
either_spelled false vs ws v w e f = f

pub value_spelled : (value : Scalar) → map terminal_of_word (value_words value) ≡ spell (value_factor value)
value_spelled (scalar.Number (negsuc n)) = either_spelled (nat_lt n 2147483647) _ _ _ _ refl refl
value_spelled _ = refl

-- If the tree isn't too deep, edits that leave words that spell it leave its text.
pub leaves_module : (unit : counting.Unit) (text : List ℕ) (edits : List Edit) (ws : List Word) (t : Tree (List ℕ) module_text)
    → EditedTextHasWords unit text edits ws → map terminal_of_word ws ≡ spell t → nesting t ≤ 100 → EditedTextHasTree unit text edits t
leaves_module unit text edits ws t leaves spelled low = record {
  after = leaves.after;
  scan = leaves.scan;
  made = leaves.made;
  module_of = record { spelled = lexemes_of_words leaves.after ∙ (ap (map terminal_of_word) leaves.words_are ∙ spelled); short = leaves.scan.short; shallow = low };
}
