-- Proves facts about two texts whose tokens have the same kinds in the same order. If one text is a
-- module, the other has the same tree of token indexes. If a refusal is right for one text, it is
-- right for the other.
use Rattle.std.proofs.Common.{◌≡◌, ℕ, ◌+◌, ◌≤◌, List, [], ◌∷◌, ◌++◌, map, take, length, sym, ap, ◌∙◌, subst}
use Rattle.std.proofs.lemmas.List.{map-append, length-map, take-map}
use Rattle.ob0_scan.specs.declared.lexeme.Token.{Token}
use Rattle.ob0_scan.specs.TextWithTokens.{TextWithTokens, max_text_length}
use Rattle.ob0_scan.specs.ReusedLexemes.{kind_without_value, token_kinds_without_values}
use Rattle.ob0_tree.specs.Terminals.{Terminal, EndOfText, mapped_terminal}
use Rattle.ob0_tree.specs.Tree.{Tree, module_text, nesting, spell, mapped_tree}
use Rattle.ob0_tree.specs.Module.{max_nesting, terminals_of_text}
use Rattle.ob0_tree.specs.ParsedModule.{ParsedModule, TreeMatchesText, tree_of}
use Rattle.ob0_tree.specs.TokenIndexLeaves.{indexed_terminals, token_text_at, token_value_at}
use Rattle.ob0_tree.proofs.Mapped.{nesting_mapped, spell_mapped}
use Rattle.ob0_tree.proofs.Indexed.{reindexed, reindexed-append, indexed, spell_indexed, nesting_indexed}
use Rattle.ob0_parse_descent.specs.Descent.{TextDescentEndsWith, Expects, TooDeepAt}
use Rattle.ob0_parse.specs.IsRightParseRefusal.{NoModuleBeginsWithTokens, IsRightParseRefusal}
use Rattle.ob0_parse_descent.specs.declared.refusal.ParseRefusal.{ParseRefusal}
use Rattle.ob0_parse_descent.specs.declared.refusal.ParseRefusal.TheVariants.{Syntax, TooDeep, Memory}
use Rattle.ob0_parse.specs.KeptTreeTokens.{indexed_terminals_of_kinds}
use Rattle.ob0_parse.proofs.TerminalsOfKinds.{terminals_of_tokens}
use Rattle.ob0_parse.proofs.Whole.{module_spelled, texts, indexes_again, reindexed-take}

same_lexemes : (a b : List Token) → token_kinds_without_values a ≡ token_kinds_without_values b → indexed_terminals a ≡ indexed_terminals b
same_lexemes a b same = terminals_of_tokens 0 a ∙ ap (λ ks. indexed_terminals_of_kinds 0 ks ++ (EndOfText ∷ [])) same ∙ sym (terminals_of_tokens 0 b)

pub tree_stays : (old new : ParsedModule) → TreeMatchesText old → tree_of new ≡ tree_of old → length new.source.text ≤ max_text_length → token_kinds_without_values new.source.tokens ≡ token_kinds_without_values old.source.tokens → TreeMatchesText new
tree_stays old new parsed tree short same =
    let places = ap (λ (t : Tree ℕ module_text). spell t ++ (EndOfText ∷ [])) tree ∙ parsed.places ∙ sym (same_lexemes _ _ same) in
    record {
      module_of = module_spelled new.source (tree_of new) short
          (subst (λ (t : Tree ℕ module_text). nesting t ≤ max_nesting) (sym tree)
          (subst (λ n. n ≤ max_nesting) (nesting_mapped (token_text_at old.source) (token_value_at old.source) (tree_of old)) parsed.module_of.shallow))
          places;
      places = places;
    }

-- Replacing the names and numbers of a text's tokens by indexes gives the tokens by their indexes.
indexed_again : (s : TextWithTokens) → reindexed 0 (terminals_of_text s ++ (EndOfText ∷ [])) ≡ indexed_terminals s.tokens
indexed_again s = ap (reindexed 0) (sym (texts s)) ∙ indexes_again (token_text_at s) (token_value_at s) s.tokens 0

-- If no module begins with the first tokens of a text, none begins with the first tokens of another
-- text whose tokens have the same kinds.
none_begins : (old new : TextWithTokens) (i : ℕ) → token_kinds_without_values new.tokens ≡ token_kinds_without_values old.tokens → NoModuleBeginsWithTokens old i → NoModuleBeginsWithTokens new i
none_begins old new i same none t more shallow begins =
    let r = mapped_terminal (token_text_at old) (token_value_at old) in
    let front = take (i + 1) (terminals_of_text new ++ (EndOfText ∷ [])) in
    let unseen : List (Terminal ℕ) = reindexed (0 + length front) more in
    let seen : reindexed 0 front ≡ take (i + 1) (indexed_terminals old.tokens) =
    reindexed-take (i + 1) 0 (terminals_of_text new ++ (EndOfText ∷ [])) ∙ ap (take (i + 1)) (indexed_again new ∙ same_lexemes _ _ same) in
    let left : reindexed 0 (spell t ++ (EndOfText ∷ [])) ≡ spell (indexed 0 t) ++ (EndOfText ∷ []) =
    reindexed-append 0 (spell t) (EndOfText ∷ []) ∙ ap (λ z. z ++ (EndOfText ∷ [])) (sym (spell_indexed 0 t)) in
    let whole : spell (indexed 0 t) ++ (EndOfText ∷ []) ≡ take (i + 1) (indexed_terminals old.tokens) ++ unseen =
    sym left ∙ (ap (reindexed 0) begins ∙ (reindexed-append 0 front more ∙ ap (λ z. z ++ unseen) seen)) in
    let cut : map r (take (i + 1) (indexed_terminals old.tokens)) ≡ take (i + 1) (terminals_of_text old ++ (EndOfText ∷ [])) =
    sym (take-map r (i + 1) (indexed_terminals old.tokens)) ∙ ap (take (i + 1)) (texts old) in
    let under : spell (mapped_tree (token_text_at old) (token_value_at old) (indexed 0 t)) ++ (EndOfText ∷ []) ≡ map r (spell (indexed 0 t) ++ (EndOfText ∷ [])) =
    ap (λ z. z ++ (EndOfText ∷ [])) (spell_mapped (token_text_at old) (token_value_at old) (indexed 0 t)) ∙ sym (map-append r (spell (indexed 0 t)) (EndOfText ∷ [])) in
    none (mapped_tree (token_text_at old) (token_value_at old) (indexed 0 t)) (map r unseen)
    (subst (λ n. n ≤ max_nesting) (sym (nesting_mapped (token_text_at old) (token_value_at old) (indexed 0 t))) (subst (λ n. n ≤ max_nesting) (sym (nesting_indexed 0 t)) shallow))
    (under ∙ (ap (map r) whole ∙ (map-append r (take (i + 1) (indexed_terminals old.tokens)) unseen ∙ ap (λ z. z ++ map r unseen) cut)))

as_many : (a b : List Token) → token_kinds_without_values a ≡ token_kinds_without_values b → length a ≡ length b
as_many a b same = sym (length-map a (λ (t : Token). kind_without_value t.kind)) ∙ (ap length same ∙ length-map b (λ (t : Token). kind_without_value t.kind))

pub refusal_stays : (old new : TextWithTokens) (e : ParseRefusal) → token_kinds_without_values new.tokens ≡ token_kinds_without_values old.tokens → IsRightParseRefusal old e → IsRightParseRefusal new e
refusal_stays old new (Syntax i expected) same by = (
  subst (λ n. i ≤ n) (sym (as_many _ _ same)) by.0,
  none_begins old new i same by.1,
  subst (λ w. TextDescentEndsWith w (Expects i expected)) (sym (same_lexemes _ _ same)) by.2,
)
refusal_stays old new (TooDeep i) same by = (
  subst (λ n. i ≤ n) (sym (as_many _ _ same)) by.0,
  none_begins old new i same by.1,
  subst (λ w. TextDescentEndsWith w (TooDeepAt i)) (sym (same_lexemes _ _ same)) by.2,
)
refusal_stays old new Memory same by = tt
