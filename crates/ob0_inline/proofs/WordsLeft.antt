-- Proves that after a declaration is removed and identifiers are replaced, the remaining words are
-- the remaining tokens with the same replacements.
use Rattle.std.proofs.Common.{◌≡◌, inl, inr, ℕ, suc, ◌+◌, ◌<◌, List, [], ◌∷◌, ◌++◌, map, length, refl, sym, ap, ◌∙◌, arith, append_assoc, append-nil, length-append}
use Rattle.std.proofs.lemmas.Grind.{flat_map-append}
use Rattle.std.proofs.lemmas.List.{map-append}
use Rattle.ob0_language_names.proofs.OccurrenceNames.{length-map}
use Rattle.std.specs.List.{flat_map}
use Rattle.ob0_scan.specs.declared.lexeme.Symbol.TheVariants as symbol
use Rattle.ob0_scan.specs.declared.lexeme.TokenKind.{TokenKind}
use Rattle.ob0_scan.specs.declared.lexeme.TokenKind.TheVariants as kind
use Rattle.ob0_scan.specs.TextWithTokens.{TextWithTokens, Word, word_of_token}
use Rattle.ob0_tree.specs.Terminals.{Terminal, WordOrSymbol}
use Rattle.ob0_tree.specs.Terminals as lexeme
use Rattle.ob0_tree.specs.TokenIndexLeaves.{indexed_terminal}
use Rattle.ob0_edits_tokens.specs.WordReplacements.{WordChanges, changes_at_indexes, changed_words, words_of_text}
use Rattle.ob0_edits_tokens.specs.WordsOfTrees.{indexed_terminals_of_words, word_at_or_empty}
use Rattle.ob0_edits_tokens.specs.Removals.{MayBeConstantDeclaration, changes_with_removal}
use Rattle.ob0_edits_tokens.specs.Replacements as place
use Rattle.ob0_edits_tokens.specs.Replacements.{AreIdentifierIndexes}
use Rattle.ob0_edits_tokens.specs.WordTerminals.{terminal_of_word}
use Rattle.ob0_edits_tokens.proofs.WordsOfTrees.{each_put, of_each, put, word_kind}
use Rattle.ob0_edits_tokens.proofs.ChangedWords.{part_removed}
use Rattle.ob0_language_names.proofs.Peeling.{heads}
use Rattle.ob0_inline.proofs.TakenOut.{Taken}

-- states that words are split where their tokens are split
pub record Cut (k : ℕ) (ws : List Word) (front following : List (Terminal ℕ)) : Type 0 where
  pub first : List Word
  pub rest : List Word
  pub joined : ws ≡ first ++ rest
  pub front_is : indexed_terminals_of_words k first ≡ front
  pub following_is : indexed_terminals_of_words (k + length first) rest ≡ following
  pub count : length first ≡ length front

pub cut_words : (k : ℕ) (ws : List Word) (front following : List (Terminal ℕ)) → indexed_terminals_of_words k ws ≡ front ++ following → Cut k ws front following
cut_words k ws [] following e = record { first = []; rest = ws; joined = refl; front_is = refl; following_is = ap (λ n. indexed_terminals_of_words n ws) (let z : k + 0 ≡ k = omega arith in z) ∙ e; count = refl }
cut_words k [] (l ∷ front) following e = absurd (cc)
cut_words k (w ∷ ws) (l ∷ front) following e =
    let h = heads e in
    let r = cut_words (suc k) ws front following h.1 in
    record {
      first = w ∷ r.first;
      rest = r.rest;
      joined = ap (λ l. w ∷ l) r.joined;
      front_is = (λ i. h.0 i ∷ r.front_is i);
      following_is = ap (λ n. indexed_terminals_of_words n r.rest) (let z : k + suc (length r.first) ≡ suc k + length r.first = omega arith in z) ∙ r.following_is;
      count = ap suc r.count;
    }

-- The word at the index of a token is that token's word.
pub terminal_or_end : (k : ℕ) (ws : List Word) (xs : List (Terminal ℕ)) (l : Terminal ℕ) (ys : List (Terminal ℕ)) → indexed_terminals_of_words k ws ≡ xs ++ (l ∷ ys) → (length xs < length ws) × (indexed_terminal (k + length xs) (word_at_or_empty ws (length xs)).kind ≡ l)
terminal_or_end k [] [] l ys e = absurd (cc)
terminal_or_end k [] (x ∷ xs) l ys e = absurd (cc)
terminal_or_end k (w ∷ ws) [] l ys e = (omega arith, ap (λ n. indexed_terminal n w.kind) (let z : k + 0 ≡ k = omega arith in z) ∙ (heads e).0)
terminal_or_end k (w ∷ ws) (x ∷ xs) l ys e =
    let r = terminal_or_end (suc k) ws xs l ys (heads e).1 in
    (omega (arith, r.0), ap (λ n. indexed_terminal n (word_at_or_empty ws (length xs)).kind) (let z : k + suc (length xs) ≡ suc k + length xs = omega arith in z) ∙ r.1)

pub name_kind : (i n : ℕ) (k : TokenKind) → indexed_terminal i k ≡ lexeme.Name n → (k ≡ kind.Identifier) × (n ≡ i)
name_kind i n kind.Identifier e = (refl, cc)
name_kind i n _ e = absurd (cc)

pub mark_kind : (i : ℕ) (k l : TokenKind) → indexed_terminal i k ≡ WordOrSymbol l → k ≡ l
mark_kind i (kind.ReservedWord r) l e = cc
mark_kind i (kind.Symbol s) l e = cc
mark_kind i _ l e = absurd (cc)

-- returns the first token of a declaration
abbrev pub first_bound_token : {d k : ℕ} {labels : List ℕ} {whole left : List (Terminal ℕ)} → Taken d k labels whole left → ℕ
first_bound_token t = length (t.before ++ (WordOrSymbol t.border ∷ []))

abbrev pub last_token : {d k : ℕ} {labels : List ℕ} {whole left : List (Terminal ℕ)} → Taken d k labels whole left → ℕ
last_token t = length (t.before ++ (WordOrSymbol t.border ∷ [])) + (2 + length t.right)

module _ (s : TextWithTokens) (d k : ℕ) (labels : List ℕ) (left : List (Terminal ℕ)) (t : Taken d k labels (indexed_terminals_of_words 0 (words_of_text s)) left) where
  abbrev front : List (Terminal ℕ)
  front = t.before ++ (WordOrSymbol t.border ∷ [])

  abbrev inner : List (Terminal ℕ)
  inner = lexeme.Name t.name ∷ WordOrSymbol (kind.Symbol symbol.Equal) ∷ t.right

  abbrev declaration : List (Terminal ℕ)
  declaration = lexeme.Name t.name ∷ WordOrSymbol (kind.Symbol symbol.Equal) ∷ (t.right ++ (WordOrSymbol (kind.Symbol symbol.Semicolon) ∷ []))

  words_count : length (words_of_text s) ≡ length s.tokens
  words_count = length-map (word_of_token s.text) s.tokens

  at_border : (length t.before < length (words_of_text s)) × (indexed_terminal (0 + length t.before) (word_at_or_empty (words_of_text s) (length t.before)).kind ≡ WordOrSymbol t.border)
  at_border = terminal_or_end 0 (words_of_text s) t.before (WordOrSymbol t.border) (declaration ++ t.after) (t.whole_is ∙ append_assoc t.before (WordOrSymbol t.border ∷ []) (declaration ++ t.after))

  at_name : (length front < length (words_of_text s)) × (indexed_terminal (0 + length front) (word_at_or_empty (words_of_text s) (length front)).kind ≡ lexeme.Name t.name)
  at_name = terminal_or_end 0 (words_of_text s) front (lexeme.Name t.name) (WordOrSymbol (kind.Symbol symbol.Equal) ∷ ((t.right ++ (WordOrSymbol (kind.Symbol symbol.Semicolon) ∷ [])) ++ t.after)) t.whole_is

  at_end : (length (front ++ inner) < length (words_of_text s)) × (indexed_terminal (0 + length (front ++ inner)) (word_at_or_empty (words_of_text s) (length (front ++ inner))).kind ≡ WordOrSymbol (kind.Symbol symbol.Semicolon))
  at_end =
      terminal_or_end 0 (words_of_text s) (front ++ inner) (WordOrSymbol (kind.Symbol symbol.Semicolon)) t.after
      (t.whole_is ∙ (ap (λ l. front ++ (lexeme.Name t.name ∷ WordOrSymbol (kind.Symbol symbol.Equal) ∷ l)) (append_assoc t.right (WordOrSymbol (kind.Symbol symbol.Semicolon) ∷ []) t.after)
      ∙ sym (append_assoc front inner (WordOrSymbol (kind.Symbol symbol.Semicolon) ∷ t.after))))

  pub name_is_first : t.name ≡ first_bound_token t
  unfolding at_name
  name_is_first = (name_kind (0 + length front) t.name (word_at_or_empty (words_of_text s) (length front)).kind at_name.1).1 ∙ (let z : 0 + length front ≡ length front = omega arith in z)

  pub is_declaration : MayBeConstantDeclaration s.tokens (first_bound_token t) (last_token t)
  is_declaration =
      let count = words_count in
      let a = at_end in
      let same : length (front ++ inner) ≡ last_token t = length-append front inner ∙ omega arith in
      record {
        order = omega arith;
        inside = omega (arith, a.0, same, count);
        name = sym (word_kind s (first_bound_token t)) ∙ (name_kind (0 + length front) t.name (word_at_or_empty (words_of_text s) (length front)).kind at_name.1).0;
        end = sym (word_kind s (last_token t))
            ∙ (ap (λ n. (word_at_or_empty (words_of_text s) n).kind) (sym same) ∙ mark_kind (0 + length (front ++ inner)) (word_at_or_empty (words_of_text s) (length (front ++ inner))).kind (kind.Symbol symbol.Semicolon) a.1);
        preceded = λ j e.
            let there : j ≡ length t.before = omega (arith, e, length-append t.before (WordOrSymbol t.border ∷ [])) in
            let kind_is : (place.token_at_or_empty s.tokens j).kind ≡ t.border =
            sym (word_kind s j) ∙ (ap (λ n. (word_at_or_empty (words_of_text s) n).kind) there ∙ mark_kind (0 + length t.before) (word_at_or_empty (words_of_text s) (length t.before)).kind t.border at_border.1) in
            elim t.opens [ inl o ↦ inl (kind_is ∙ o) | inr o ↦ inr (kind_is ∙ o) ];
      }

module _ (s : TextWithTokens) (least : ℕ) (places : List ℕ) (names : AreIdentifierIndexes s.tokens least places) (vs : List Word) where
  -- The words without the declaration, with other words at the places, are the remaining tokens
  -- with the replacements.
  pub words_left : (d k : ℕ) (labels : List ℕ) (left : List (Terminal ℕ)) (t : Taken d k labels (indexed_terminals_of_words 0 (words_of_text s)) left)
      → map terminal_of_word (changed_words (changes_with_removal (first_bound_token t) (last_token t) (changes_at_indexes places vs)) 0 (words_of_text s)) ≡ flat_map (put s places vs) left
  words_left d k labels left t =
      let front : List (Terminal ℕ) = t.before ++ (WordOrSymbol t.border ∷ []) in
      let declaration : List (Terminal ℕ) = lexeme.Name t.name ∷ WordOrSymbol (kind.Symbol symbol.Equal) ∷ (t.right ++ (WordOrSymbol (kind.Symbol symbol.Semicolon) ∷ [])) in
      let first = first_bound_token t in
      let last = last_token t in
      let ch : WordChanges = changes_at_indexes places vs in
      let put_so = put s places vs in
      let part_put = of_each (words_of_text s) ch put_so (each_put s places vs least names) in
      let a = cut_words 0 (words_of_text s) front (declaration ++ t.after) t.whole_is in
      let b = cut_words (0 + length a.first) a.rest declaration t.after a.following_is in
      let all : words_of_text s ≡ a.first ++ (b.first ++ b.rest) = a.joined ∙ ap (λ l. a.first ++ l) b.joined in
      let n1 : length a.first ≡ first = a.count in
      let n2 : length b.first ≡ 3 + length t.right = b.count ∙ (let z = length-append t.right (WordOrSymbol (kind.Symbol symbol.Semicolon) ∷ []) in omega (arith, z)) in
      let next : 0 + length a.first + length b.first ≡ suc last = omega (arith, n1, n2) in
      let split : changed_words (changes_with_removal first last ch) 0 (words_of_text s) ≡ changed_words ch 0 a.first ++ changed_words ch (suc last) b.rest =
      ap (changed_words (changes_with_removal first last ch) 0) all ∙ part_removed first last ch a.first b.first b.rest n1 (omega (arith, n1, next)) in
      let p1 : flat_map put_so front ≡ map terminal_of_word (changed_words ch 0 a.first) = ap (flat_map put_so) (sym a.front_is) ∙ part_put 0 [] a.first (b.first ++ b.rest) all refl in
      let done : length (a.first ++ b.first) ≡ suc last = length-append a.first b.first ∙ omega (arith, n1, n2) in
      let ends : words_of_text s ≡ (a.first ++ b.first) ++ (b.rest ++ []) = all ∙ (sym (append_assoc a.first b.first b.rest) ∙ ap (λ l. (a.first ++ b.first) ++ l) (sym (append-nil b.rest))) in
      let p2 : flat_map put_so t.after ≡ map terminal_of_word (changed_words ch (suc last) b.rest) =
      ap (flat_map put_so) (sym b.following_is ∙ ap (λ n. indexed_terminals_of_words n b.rest) next) ∙ part_put (suc last) (a.first ++ b.first) b.rest [] ends done in
      ap (map terminal_of_word) split
      ∙ (map-append terminal_of_word (changed_words ch 0 a.first) (changed_words ch (suc last) b.rest)
      ∙ ((λ i. sym p1 i ++ sym p2 i)
      ∙ (sym (flat_map-append put_so front t.after) ∙ ap (flat_map put_so) (sym t.left_is))))
