-- Proves that if words of a text change, the changed words are the tokens of the text's tree with
-- the names changed. If names are replaced only by names, the changed tree spells these words.
use Rattle.std.proofs.Common.{◌≡◌, ℕ, zero, suc, ◌==◌, Bool, true, false, ◌||◌, List, [], ◌∷◌, ◌++◌, length, map, refl, sym, ap, ap₂, ◌∙◌, arith, length-append, append_assoc, eqb-true, Some, None, append-nil}
use Rattle.std.specs.Prelude.{if◌then◌else◌}
use Rattle.std.proofs.Math.Seq.{get_or-append_seam}
use Rattle.std.proofs.lemmas.List.{map-append}
use Rattle.std.specs.List.{flat_map}
use Rattle.ob0_scan.specs.declared.lexeme.TokenKind.{TokenKind}
use Rattle.ob0_scan.specs.declared.lexeme.TokenKind.TheVariants as token
use Rattle.ob0_scan.specs.declared.lexeme.Token.{Token}
use Rattle.ob0_scan.specs.TextWithTokens.{Word, TextWithTokens, word_of_token}
use Rattle.ob0_tree.specs.Terminals.{Terminal, Name, Number, WordOrSymbol, EndOfText, terminal_of_kind, mapped_terminal}
use Rattle.ob0_tree.specs.TokenIndexLeaves.{indexed_terminal, integer_value_or_zero}
use Rattle.ob0_edits_tokens.specs.WordTerminals.{terminal_of_word}
use Rattle.ob0_tree.specs.Tree.{spell}
use Rattle.ob0_tree.proofs.Mapped.{spell_mapped}
use Rattle.ob0_edits_tokens.specs.WordReplacements.{WordChanges, words_of_text, changed_words, changes_at_indexes, is_in_list, replacement_or_word}
use Rattle.ob0_edits_tokens.specs.Replacements as place
use Rattle.ob0_edits_tokens.specs.Replacements.{AreIdentifierIndexes}
use Rattle.ob0_edits_tokens.specs.Written.{name_word}
use Rattle.ob0_edits_tokens.specs.WordsOfTrees.{indexed_terminals_of_words, word_at_or_empty, word_text_at, integer_value_at, renamed_word_text, RenamedTreeSpellsRenamedWords}

-- A property of each word with its index also holds of words between others.
module _ (all : List Word) (ch : WordChanges) (f : Terminal ℕ → List (Terminal (List ℕ))) (each : (j : ℕ) → f (indexed_terminal j (word_at_or_empty all j).kind) ≡ map terminal_of_word (replacement_or_word (word_at_or_empty all j) (ch j))) where
  pub of_each : (k : ℕ) (done ws rest : List Word) → all ≡ done ++ (ws ++ rest) → length done ≡ k → flat_map f (indexed_terminals_of_words k ws) ≡ map terminal_of_word (changed_words ch k ws)
  of_each k done [] rest e count = refl
  of_each k done (w ∷ ws) rest e count =
      let here : word_at_or_empty all k ≡ w = (λ i. word_at_or_empty (e i) (sym count i)) ∙ get_or-append_seam done w (ws ++ rest) _ in
      let this : f (indexed_terminal k w.kind) ≡ map terminal_of_word (replacement_or_word w (ch k)) =
      ap (λ (v : Word). f (indexed_terminal k v.kind)) (sym here) ∙ each k ∙ ap (λ v. map terminal_of_word (replacement_or_word v (ch k))) here in
      let more : length (done ++ (w ∷ [])) ≡ suc k = length-append done (w ∷ []) ∙ omega (arith, count) in
      ap₂ (λ xs ys. xs ++ ys) this (of_each (suc k) (done ++ (w ∷ [])) ws rest (e ∙ sym (append_assoc done (w ∷ []) (ws ++ rest))) more)
      ∙ sym (map-append terminal_of_word (replacement_or_word w (ch k)) (changed_words ch (suc k) ws))

  pub of_all : flat_map f (indexed_terminals_of_words 0 all) ≡ map terminal_of_word (changed_words ch 0 all)
  of_all = of_each 0 [] all [] (sym (append-nil all)) refl

-- The tokens at the places are identifiers.
names_at : (tokens : List Token) (least : ℕ) (places : List ℕ) (k : ℕ) → AreIdentifierIndexes tokens least places → is_in_list k places ≡ true → (place.token_at_or_empty tokens k).kind ≡ token.Identifier
names_at tokens least [] k names e = absurd (cc)
names_at tokens least (p ∷ ps) k names e = by_test (k == p) refl e (names_at tokens (suc p) ps k names.3)
  where
    by_test : (b : Bool) → (k == p) ≡ b → (b || is_in_list k ps) ≡ true → (is_in_list k ps ≡ true → (place.token_at_or_empty tokens k).kind ≡ token.Identifier) → (place.token_at_or_empty tokens k).kind ≡ token.Identifier
    by_test true h e later = ap (λ q. (place.token_at_or_empty tokens q).kind) (eqb-true k p h) ∙ names.2
    by_test false h e later = later e

pub word_kind : (s : TextWithTokens) (k : ℕ) → (word_at_or_empty (words_of_text s) k).kind ≡ (place.token_at_or_empty s.tokens k).kind
word_kind s k = of_list s.tokens k
  where
    of_list : (ts : List Token) (k : ℕ) → (word_at_or_empty (map (word_of_token s.text) ts) k).kind ≡ (place.token_at_or_empty ts k).kind
    of_list [] k = refl
    of_list (t ∷ ts) zero = refl
    of_list (t ∷ ts) (suc k) = of_list ts k

-- returns the tokens that replace a token of the tree: other tokens if it is a name that is
-- replaced
abbrev pub replaced : (ℕ → Bool) → List (Terminal (List ℕ)) → (ℕ → List ℕ) → (ℕ → ℕ) → Terminal ℕ → List (Terminal (List ℕ))
replaced gives others f g (Name i) = if gives i then others else Name (f i) ∷ []
replaced gives others f g (Number i) = Number (g i) ∷ []
replaced gives others f g (WordOrSymbol k) = WordOrSymbol k ∷ []
replaced gives others f g EndOfText = EndOfText ∷ []

-- A token that isn't replaced is its word's token.
stays : (w : Word) (gives : ℕ → Bool) (others : List (Terminal (List ℕ))) (f : ℕ → List ℕ) (g : ℕ → ℕ) (j : ℕ) → gives j ≡ false → f j ≡ w.text → g j ≡ integer_value_or_zero w.kind
    → replaced gives others f g (indexed_terminal j w.kind) ≡ terminal_of_word w ∷ []
stays w gives others f g j left e h = by_kind w.kind h
  where
    by_kind : (kind : TokenKind) → g j ≡ integer_value_or_zero kind → replaced gives others f g (indexed_terminal j kind) ≡ terminal_of_kind w.text kind ∷ []
    by_kind token.Identifier h = ap (λ b. if b then others else Name (f j) ∷ []) left ∙ ap (λ n. Name n ∷ []) e
    by_kind (token.ReservedWord r) h = refl
    by_kind (token.Integer n) h = ap (λ m. Number m ∷ []) h
    by_kind (token.Symbol s) h = refl

-- the words of a text, with others at some places
module _ (s : TextWithTokens) (places : List ℕ) (vs : List Word) where
  abbrev pub put : Terminal ℕ → List (Terminal (List ℕ))
  put = replaced (λ k. is_in_list k places) (map terminal_of_word vs) (word_text_at (words_of_text s)) (integer_value_at (words_of_text s))

  pub each_put : (least : ℕ) → AreIdentifierIndexes s.tokens least places → (j : ℕ) → put (indexed_terminal j (word_at_or_empty (words_of_text s) j).kind) ≡ map terminal_of_word (replacement_or_word (word_at_or_empty (words_of_text s) j) (changes_at_indexes places vs j))
  each_put least names j = by_test (is_in_list j places) refl
    where
      by_test : (b : Bool) → is_in_list j places ≡ b
          → put (indexed_terminal j (word_at_or_empty (words_of_text s) j).kind)
          ≡ map terminal_of_word (replacement_or_word (word_at_or_empty (words_of_text s) j) (if is_in_list j places then Some vs else None))
      by_test true e =
          ap (λ k. put (indexed_terminal j k)) (word_kind s j ∙ names_at s.tokens least places j names e)
          ∙ ap (λ b. if b then map terminal_of_word vs else Name (word_text_at (words_of_text s) j) ∷ []) e
          ∙ ap (λ b. map terminal_of_word (replacement_or_word (word_at_or_empty (words_of_text s) j) (if b then Some vs else None))) (sym e)
      by_test false e =
          stays (word_at_or_empty (words_of_text s) j) (λ k. is_in_list k places) (map terminal_of_word vs) (word_text_at (words_of_text s)) (integer_value_at (words_of_text s)) j e refl refl
          ∙ ap (λ b. map terminal_of_word (replacement_or_word (word_at_or_empty (words_of_text s) j) (if b then Some vs else None))) (sym e)

  pub all_put : AreIdentifierIndexes s.tokens 0 places → flat_map put (indexed_terminals_of_words 0 (words_of_text s)) ≡ map terminal_of_word (changed_words (changes_at_indexes places vs) 0 (words_of_text s))
  all_put names = of_all (words_of_text s) (changes_at_indexes places vs) put (each_put 0 names)

-- Renaming the tokens is replacing the names by the new name.
all_renamed : (ws : List Word) (places new : List ℕ) (xs : List (Terminal ℕ))
    → map (mapped_terminal (renamed_word_text ws places new) (integer_value_at ws)) xs ≡ flat_map (replaced (λ k. is_in_list k places) (Name new ∷ []) (word_text_at ws) (integer_value_at ws)) xs
all_renamed ws places new [] = refl
all_renamed ws places new (Name i ∷ xs) =
    ap₂ (λ x ys. x ++ ys)
    (elim (is_in_list i places) as (λ b. Name (if b then new else word_text_at ws i) ∷ [] ≡ (if b then Name new ∷ [] else Name (word_text_at ws i) ∷ [])) [ true ↦ refl | false ↦ refl ])
    (all_renamed ws places new xs)
all_renamed ws places new (Number i ∷ xs) = ap (λ ys. Number (integer_value_at ws i) ∷ ys) (all_renamed ws places new xs)
all_renamed ws places new (WordOrSymbol k ∷ xs) = ap (λ ys. WordOrSymbol k ∷ ys) (all_renamed ws places new xs)
all_renamed ws places new (EndOfText ∷ xs) = ap (λ ys. EndOfText ∷ ys) (all_renamed ws places new xs)

pub renamed_tree_spells_renamed_words : RenamedTreeSpellsRenamedWords
renamed_tree_spells_renamed_words s sort t places new names e =
    sym (spell_mapped (renamed_word_text (words_of_text s) places new) (integer_value_at (words_of_text s)) t
    ∙ all_renamed (words_of_text s) places new (spell t) ∙ ap (flat_map (put s places (name_word new ∷ []))) e
    ∙ all_put s places (name_word new ∷ []) names)
