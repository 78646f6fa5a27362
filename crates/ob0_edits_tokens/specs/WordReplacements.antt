-- Defines the replacement of words of a text by other words. A word is a token's kind and spelling.
-- Rule: none; used in contracts about making edits.
use Rattle.std.specs.Prelude.{ℕ, suc, ◌==◌, Bool, false, ◌||◌, if◌then◌else◌, List, [], ◌∷◌, ◌++◌, map, Option, Some, None}
use Rattle.ob0_scan.specs.TextWithTokens.{TextWithTokens, Word, word_of_token}

-- Returns the words of a scanned text: the kinds and spellings of its tokens.
abbrev pub words_of_text : TextWithTokens → List Word
words_of_text s = map (word_of_token s.text) s.tokens

-- A change of a text's words: a function from the index of each word to the words that replace it.
-- For a word that doesn't change, the function returns None.
abbrev pub WordChanges : Type 0
WordChanges = ℕ → Option (List Word)

-- Returns the words that replace the word `w`. If the change is None, returns only `w` itself.
abbrev pub replacement_or_word : Word → Option (List Word) → List Word
replacement_or_word w None = w ∷ []
replacement_or_word w (Some others) = others

-- Returns the given words with these changes applied. `k` is the index of the first given word in
-- the text.
abbrev pub changed_words : WordChanges → ℕ → List Word → List Word
changed_words changes k [] = []
changed_words changes k (w ∷ ws) = replacement_or_word w (changes k) ++ changed_words changes (suc k) ws

-- Returns whether a number is in a list.
abbrev pub is_in_list : ℕ → List ℕ → Bool
is_in_list k [] = false
is_in_list k (p ∷ ps) = (k == p) || is_in_list k ps

-- Returns the change that replaces each word whose index is in `token_indexes` by the words `ws`.
abbrev pub changes_at_indexes : List ℕ → List Word → WordChanges
changes_at_indexes token_indexes ws k = if is_in_list k token_indexes then Some ws else None
