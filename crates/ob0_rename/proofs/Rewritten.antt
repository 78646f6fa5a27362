-- Proves that a text with the words of a module, but with a new name for a declaration, is a text
-- of the renamed module.
use Rattle.std.proofs.Common.{◌≡◌, ℕ, zero, suc, ◌≤◌, Bool, true, false, if◌then◌else◌, List, [], ◌∷◌, ◌++◌, map, refl, sym, ap, ◌∙◌, subst, arith}
use Rattle.std.specs.Prelude.{slice_get}
use Rattle.std.proofs.lemmas.List.{append_cancel_right}
use Rattle.ob0_scan.specs.declared.lexeme.Token.{Token}
use Rattle.ob0_scan.specs.TextWithTokens.{IsScan, TextWithTokens, word_of_token}
use Rattle.ob0_tree.proofs.Mapped.{nesting_mapped}
use Rattle.ob0_tree.specs.Terminals.{EndOfText}
use Rattle.ob0_tree.specs.Module.{IsModuleWithTree, terminal_of_token}
use Rattle.ob0_tree.specs.ParsedModule.{TreeMatchesText, ParsedModule, named_tree_of, tree_of}
use Rattle.ob0_tree.specs.TokenIndexLeaves as place
use Rattle.ob0_tree.specs.Tree.{Tree, mapped_tree, module_text, nesting, spell}
use Rattle.ob0_language_names.specs.ConsistentNames.{has_consistent_names}
use Rattle.ob0_language_names.specs.Names.{Name}
use Rattle.ob0_language_names.specs.Scopes.{renamed}
use Rattle.ob0_edits_tokens.specs.WordReplacements.{changes_at_indexes, changed_words, words_of_text}
use Rattle.ob0_edits_tokens.specs.WordsOfTrees.{RenamedTreeSpellsRenamedWords, integer_value_at, indexed_terminals_of_words, renamed_word_text, word_text_at}
use Rattle.ob0_edits_tokens.specs.Replacements.{AreIdentifierIndexes}
use Rattle.ob0_edits_tokens.specs.WordTerminals.{terminal_of_word}
use Rattle.ob0_edits_tokens.specs.Written.{name_word}
use Rattle.ob0_scope.specs.NamesAtPlaces as names_at
use Rattle.ob0_scope.specs.NamesAtPlaces.{RenamingChangesExactlyTokens, tokens_bound_to_declaration}
use Rattle.ob0_rename.specs.Renaming.{declaration_has_name, tokens_to_rename}
use Rattle.ob0_rename.proofs.Named.{among_same}
use Rattle.ob0_rename.proofs.Owned.{own_module}

-- words by their indexes, and tokens by theirs

pub text_same : (s : TextWithTokens) (k : ℕ) → word_text_at (words_of_text s) k ≡ place.token_text_at s k
text_same s k = of_list s.tokens k
  where
    of_list : (ts : List Token) (k : ℕ) → word_text_at (map (word_of_token s.text) ts) k ≡ place.token_text_or_empty s.text (slice_get ts k)
    of_list [] k = refl
    of_list (t ∷ ts) zero = refl
    of_list (t ∷ ts) (suc k) = of_list ts k

pub number_same : (s : TextWithTokens) (k : ℕ) → integer_value_at (words_of_text s) k ≡ place.token_value_at s k
number_same s k = of_list s.tokens k
  where
    of_list : (ts : List Token) (k : ℕ) → integer_value_at (map (word_of_token s.text) ts) k ≡ place.token_value_or_zero (slice_get ts k)
    of_list [] k = refl
    of_list (t ∷ ts) zero = refl
    of_list (t ∷ ts) (suc k) = of_list ts k

placed_from : (text : List ℕ) (k : ℕ) (ts : List Token) → indexed_terminals_of_words k (map (word_of_token text) ts) ++ (EndOfText ∷ []) ≡ place.indexed_terminals_from k ts
placed_from text k [] = refl
placed_from text k (t ∷ ts) =
    ap (λ xs. place.indexed_terminal k t.kind ∷ xs) (placed_from text (suc k) ts ∙ ap (λ n. place.indexed_terminals_from n ts) (omega arith))

spelled_places : (m : ParsedModule) → TreeMatchesText m → spell (tree_of m) ≡ indexed_terminals_of_words 0 (words_of_text m.source)
spelled_places m is = append_cancel_right (spell (tree_of m)) (indexed_terminals_of_words 0 (words_of_text m.source)) (EndOfText ∷ []) (is.places ∙ sym (placed_from m.source.text 0 m.source.tokens))

lexemes_same : (text : List ℕ) (ts : List Token) → map (terminal_of_token text) ts ≡ map terminal_of_word (map (word_of_token text) ts)
lexemes_same text [] = refl
lexemes_same text (t ∷ ts) = ap (λ xs. terminal_of_token text t ∷ xs) (lexemes_same text ts)

-- the module with the new name at these tokens

pub at_places : (m : ParsedModule) (new : Name) (places : List ℕ) (k : ℕ)
    → renamed_word_text (words_of_text m.source) places new k ≡ (if names_at.is_among k places then new else place.token_text_at m.source k)
at_places m new places k = λ i. if among_same k places i then new else text_same m.source k i

renamed_there : (m : ParsedModule) (d : ℕ) (new : Name) (own : Bool) → declaration_has_name m d new ≡ own → has_consistent_names (named_tree_of m) ≡ true → RenamingChangesExactlyTokens m d (tokens_bound_to_declaration m d true)
    → mapped_tree (renamed_word_text (words_of_text m.source) (if own then [] else tokens_bound_to_declaration m d true) new) (integer_value_at (words_of_text m.source)) (tree_of m) ≡ renamed (named_tree_of m) d new
renamed_there m d new true e once there =
    (λ i. mapped_tree (λ k. text_same m.source k i) (λ k. number_same m.source k i) (tree_of m)) ∙ sym (own_module m d new e once)
renamed_there m d new false e once there =
    (λ i. mapped_tree (λ k. at_places m new (tokens_bound_to_declaration m d true) k i) (λ k. number_same m.source k i) (tree_of m)) ∙ sym (there new)

pub renamed_module : (m : ParsedModule) (d : ℕ) (new : Name) → has_consistent_names (named_tree_of m) ≡ true → RenamingChangesExactlyTokens m d (tokens_bound_to_declaration m d true)
    → mapped_tree (renamed_word_text (words_of_text m.source) (tokens_to_rename m d new) new) (integer_value_at (words_of_text m.source)) (tree_of m) ≡ renamed (named_tree_of m) d new
renamed_module m d new once there = renamed_there m d new (declaration_has_name m d new) refl once there

-- A text with a module's words, but a new name at some places, is a text of the tree with that name
-- there.
pub of_rewritten : (m : ParsedModule) (t : Tree Name module_text) (places : List ℕ) (new : Name) → TreeMatchesText m → RenamedTreeSpellsRenamedWords → AreIdentifierIndexes m.source.tokens 0 places
    → mapped_tree (renamed_word_text (words_of_text m.source) places new) (integer_value_at (words_of_text m.source)) (tree_of m) ≡ t
    → (after : TextWithTokens) → IsScan after → words_of_text after ≡ changed_words (changes_at_indexes places (name_word new ∷ [])) 0 (words_of_text m.source) → IsModuleWithTree after t
of_rewritten m t places new is spells names there after scan words =
    record {
      spelled =
          lexemes_same after.text after.tokens
          ∙ (ap (map terminal_of_word) words ∙ (spells m.source module_text (tree_of m) places new names (spelled_places m is) ∙ ap spell there));
      short = scan.short;
      shallow =
          subst (λ n. n ≤ 100)
          (nesting_mapped (place.token_text_at m.source) (place.token_value_at m.source) (tree_of m)
          ∙ (sym (nesting_mapped (renamed_word_text (words_of_text m.source) places new) (integer_value_at (words_of_text m.source)) (tree_of m)) ∙ ap nesting there))
          is.module_of.shallow;
    }

pub of_renamed : (m : ParsedModule) (d : ℕ) (new : Name) → TreeMatchesText m → has_consistent_names (named_tree_of m) ≡ true → RenamedTreeSpellsRenamedWords → RenamingChangesExactlyTokens m d (tokens_bound_to_declaration m d true)
    → AreIdentifierIndexes m.source.tokens 0 (tokens_to_rename m d new)
    → (after : TextWithTokens) → IsScan after → words_of_text after ≡ changed_words (changes_at_indexes (tokens_to_rename m d new) (name_word new ∷ [])) 0 (words_of_text m.source)
    → IsModuleWithTree after (renamed (named_tree_of m) d new)
of_renamed m d new is once spells there names =
    of_rewritten m (renamed (named_tree_of m) d new) (tokens_to_rename m d new) new is spells names (renamed_module m d new once there)
