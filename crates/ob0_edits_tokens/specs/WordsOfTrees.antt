-- Relates the words of a text (the kinds and spellings of its tokens) to a tree. In the tree, each
-- name and each integer is replaced by the index of its word.
-- Rule: none; used in contracts about making edits.
use Rattle.std.specs.Prelude.{◌≡◌, ℕ, suc, if◌then◌else◌, List, [], ◌∷◌, map, slice_index_or}
use Rattle.ob0_scan.specs.TextWithTokens.{Word, TextWithTokens}
use Rattle.ob0_tree.specs.Terminals.{Terminal}
use Rattle.ob0_tree.specs.TokenIndexLeaves.{indexed_terminal, integer_value_or_zero}
use Rattle.ob0_edits_tokens.specs.WordTerminals.{terminal_of_word}
use Rattle.ob0_tree.specs.Tree.{Tree, Sort, spell, mapped_tree}
use Rattle.ob0_edits_tokens.specs.WordReplacements.{words_of_text, changed_words, changes_at_indexes, is_in_list}
use Rattle.ob0_edits_tokens.specs.Replacements.{AreIdentifierIndexes}
use Rattle.ob0_edits_tokens.specs.Written.{name_word}

-- Returns the terminal of each given word: the token as a tree spells it. The terminal of a name or
-- integer has the index of its word instead of the name or value. `k` is the index of the first
-- given word in the text.
abbrev pub indexed_terminals_of_words : ℕ → List Word → List (Terminal ℕ)
indexed_terminals_of_words k [] = []
indexed_terminals_of_words k (w ∷ ws) = indexed_terminal k w.kind ∷ indexed_terminals_of_words (suc k) ws

-- Returns the word with this index, or a name without text if there is no such word.
abbrev pub word_at_or_empty : List Word → ℕ → Word
word_at_or_empty ws k = slice_index_or ws k (name_word [])

-- Returns the text of the word with this index, or the empty text if there is no such word.
abbrev pub word_text_at : List Word → ℕ → List ℕ
word_text_at ws k = (word_at_or_empty ws k).text

-- Returns the value of the integer that is the word with this index. Returns 0 if there is no such
-- word or the word isn't an integer.
abbrev pub integer_value_at : List Word → ℕ → ℕ
integer_value_at ws k = integer_value_or_zero (word_at_or_empty ws k).kind

-- Returns the name `new` if the word index `k` is in `token_indexes`, otherwise the text of the
-- word with the index `k`.
abbrev pub renamed_word_text : List Word → List ℕ → List ℕ → ℕ → List ℕ
renamed_word_text ws token_indexes new k = if is_in_list k token_indexes then new else word_text_at ws k

-- States that a renamed tree spells the renamed words. Before the renaming, the tree spells the
-- words of a text, and has the index of a word instead of each name. The identifiers with the
-- indexes `token_indexes` get the name `new`, both in the tree and in the words.
abbrev pub RenamedTreeSpellsRenamedWords : Type 0
RenamedTreeSpellsRenamedWords =
    (s : TextWithTokens) (sort : Sort) (t : Tree ℕ sort) (token_indexes new : List ℕ)
    → AreIdentifierIndexes s.tokens 0 token_indexes
    → spell t ≡ indexed_terminals_of_words 0 (words_of_text s)
    → map terminal_of_word (changed_words (changes_at_indexes token_indexes (name_word new ∷ [])) 0 (words_of_text s))
    ≡ spell (mapped_tree (renamed_word_text (words_of_text s) token_indexes new) (integer_value_at (words_of_text s)) t)
