-- Proves that each use of a constant follows its declaration.
use Rattle.std.proofs.Common.{◌≡◌, ℕ, zero, suc, ◌+◌, ◌<◌, ◌≤◌, ◌==◌, ◌||◌, Bool, true, false, Option, Some, None, List, [], ◌∷◌, ◌++◌, map, length, refl, sym, ap, ◌∙◌, subst, arith, append_assoc, length-append, eqb-true, slice_get, true≢false}
use Rattle.ob0_scan.specs.declared.lexeme.Symbol.TheVariants as symbol
use Rattle.ob0_scan.specs.declared.lexeme.TokenKind.{TokenKind}
use Rattle.ob0_scan.specs.declared.lexeme.TokenKind.TheVariants as kind
use Rattle.ob0_scan.specs.TextWithTokens.{Word}
use Rattle.ob0_tree.specs.Terminals.{Terminal, WordOrSymbol}
use Rattle.ob0_tree.specs.Terminals as lexeme
use Rattle.ob0_tree.specs.ParsedModule.{named_tree_of, tree_of}
use Rattle.ob0_tree.specs.TokenIndexLeaves as leaf
use Rattle.ob0_tree.specs.TokenIndexLeaves.{indexed_terminal}
use Rattle.ob0_tree.specs.Tree.{mapped_tree, occurrences, spell}
use Rattle.ob0_tree.proofs.Leaves.{lexeme_names}
use Rattle.ob0_edits_tokens.specs.WordReplacements.{is_in_list, words_of_text}
use Rattle.ob0_edits_tokens.specs.WordsOfTrees.{indexed_terminals_of_words}
use Rattle.ob0_language_names.specs.Names.{Name, naming_by_spelling}
use Rattle.ob0_language_names.specs.BlockParts.{module_block}
use Rattle.ob0_scope_table.specs.Resolution.{IsResolution, Resolution, ordinal_and_spelling_at_token, ordinal_in, ordinal_and_spelling}
use Rattle.ob0_language_names.specs.Scopes.{relabel_module}
use Rattle.ob0_scope.proofs.Fused.{relabel_module-mapped_tree}
use Rattle.ob0_tree.proofs.Mapped.{mapped_twice}
use Rattle.ob0_language_names.proofs.OccurrenceNames.{length-map}
use Rattle.ob0_language_names.proofs.OccurrencesMapped.{occurrences-mapped}
use Rattle.ob0_language_types.specs.ConstantValues.{constant_value_in_module}
use Rattle.ob0_language_values.specs.Values.{Value}
use Rattle.ob0_inline.proofs.Earlier.{AllLow, IsLow, forget}
use Rattle.ob0_inline.proofs.Late.{AllIn, Late, late_module, late_move}
use Rattle.ob0_scope_table.proofs.Declared.{names_in}
use Rattle.ob0_inline.proofs.TakenOut.{Taken, gone_module}
use Rattle.ob0_inline.proofs.WordsLeft.{cut_words, last_token}

-- The bindings of the occurrences are the entries of the table.
bound_by_table : (r : Resolution) → IsResolution r → occurrences (relabel_module naming_by_spelling forget (named_tree_of r.module_read)) ≡ map (ordinal_in r.ordinals) (occurrences (tree_of r.module_read))
bound_by_table r is =
    let m = r.module_read in
    let first : Option ℕ × Name → Option ℕ = λ p. p.0 in
    ap occurrences (relabel_module-mapped_tree naming_by_spelling first ordinal_and_spelling (named_tree_of m) ∙ (ap (mapped_tree first (λ n. n)) is.binding ∙ mapped_twice first first (λ n. n) (ordinal_and_spelling_at_token m.source r.ordinals) (ordinal_and_spelling_at_token m.source r.ordinals) (leaf.token_value_at m.source) (tree_of m)))
    ∙ occurrences-mapped (ordinal_in r.ordinals) (ordinal_in r.ordinals) (leaf.token_value_at m.source) (tree_of m)

-- If the constant has a value, the module's tokens are split by its declaration.
pub late_of : (r : Resolution) → IsResolution r → (d : ℕ) (w : Value) → constant_value_in_module (named_tree_of r.module_read) d ≡ Some w → spell (tree_of r.module_read) ≡ indexed_terminals_of_words 0 (words_of_text r.module_read.source)
    → Late d 7 (names_in (module_block (tree_of r.module_read))) (indexed_terminals_of_words 0 (words_of_text r.module_read.source)) (spell (gone_module d (tree_of r.module_read))) (occurrences (tree_of r.module_read))
    (map (ordinal_in r.ordinals) (occurrences (tree_of r.module_read)))
late_of r is d w has_value spelled =
    let m = r.module_read in
    let f = leaf.token_text_at m.source in
    let g = leaf.token_value_at m.source in
    let t = tree_of m in
    let labels = names_in (module_block t) in
    let h = late_module f g d w t has_value in
    let named = subst (λ (l : List (Option ℕ)). Late d 7 labels (spell t) (spell (gone_module d t)) (occurrences t) l) (bound_by_table r is) h in
    late_move d 7 labels (spell t) (indexed_terminals_of_words 0 (words_of_text m.source)) (spell (gone_module d t)) (spell (gone_module d t)) (occurrences t) (map (ordinal_in r.ordinals) (occurrences t)) (sym spelled) refl named

-- The names of words whose first index is k have no smaller indexes.
names_above : (i k : ℕ) (ws : List Word) → is_in_list i (lexeme_names (indexed_terminals_of_words k ws)) ≡ true → k ≤ i
names_above i k [] e = absurd (true≢false (sym e))
names_above i k (w ∷ ws) e = by_kind w.kind e (names_above i (suc k) ws)
  where
    by_test : (b : Bool) → (i == k) ≡ b → (b || is_in_list i (lexeme_names (indexed_terminals_of_words (suc k) ws))) ≡ true → (is_in_list i (lexeme_names (indexed_terminals_of_words (suc k) ws)) ≡ true → suc k ≤ i) → k ≤ i
    by_test true q e later = let here = eqb-true i k q in omega (arith, here)
    by_test false q e later = let more = later e in omega (arith, more)

    by_kind : (x : TokenKind) → is_in_list i (lexeme_names (indexed_terminal k x ∷ indexed_terminals_of_words (suc k) ws)) ≡ true → (is_in_list i (lexeme_names (indexed_terminals_of_words (suc k) ws)) ≡ true → suc k ≤ i) → k ≤ i
    by_kind kind.Identifier e later = by_test (i == k) refl e later
    by_kind (kind.ReservedWord r) e later = let more = later e in omega (arith, more)
    by_kind (kind.Integer n) e later = let more = later e in omega (arith, more)
    by_kind (kind.Symbol s) e later = let more = later e in omega (arith, more)

-- If two joined lists are equal and their first parts have the same length, the first parts are
-- equal.
first_same : (a b c d : List (Option ℕ)) → a ++ b ≡ c ++ d → length a ≡ length c → a ≡ c
first_same [] b [] d e n = refl
first_same (x ∷ a) b (z ∷ c) d e n =
    let head : x ≡ z = ap (λ (l : List (Option ℕ)). elim l [ [] ↦ x | y ∷ ys ↦ y ]) e in
    let tail : a ++ b ≡ c ++ d = ap (λ (l : List (Option ℕ)). elim l [ [] ↦ a ++ b | y ∷ ys ↦ ys ]) e in
    λ i. head i ∷ first_same a b c d tail (omega (arith, n)) i
first_same _ b _ d e n = absurd (omega (arith, n))

map_joined : (ordinals : List (Option ℕ)) (xs ys : List ℕ) → map (ordinal_in ordinals) (xs ++ ys) ≡ map (ordinal_in ordinals) xs ++ map (ordinal_in ordinals) ys
map_joined ordinals [] ys = refl
map_joined ordinals (x ∷ xs) ys = λ i. ordinal_in ordinals x ∷ map_joined ordinals xs ys i

-- A token that is bound to d isn't among tokens that are bound to earlier declarations.
not_in_front : (ordinals : List (Option ℕ)) (d j i : ℕ) (front following names : List ℕ) → AllLow d (map (ordinal_in ordinals) front) → AllIn following names → slice_get (front ++ following) j ≡ Some i → ordinal_in ordinals i ≡ Some d → is_in_list i names ≡ true
not_in_front ordinals d j i [] [] names low among e o = absurd (cc)
not_in_front ordinals d zero i [] (x ∷ following) names low among e o = ap (λ n. is_in_list n names) (sym (ap (λ (z : Option ℕ). elim z [ Some n ↦ n | None ↦ x ]) e)) ∙ among.0
not_in_front ordinals d (suc j) i [] (x ∷ following) names low among e o = not_in_front ordinals d j i [] following names low among.1 e o
not_in_front ordinals d zero i (x ∷ front) following names low among e o =
    let here : x ≡ i = ap (λ (z : Option ℕ). elim z [ Some n ↦ n | None ↦ x ]) e in
    let less : d < d = subst (IsLow d) (ap (ordinal_in ordinals) here ∙ o) low.0 in
    absurd (omega (arith, less))
not_in_front ordinals d (suc j) i (x ∷ front) following names low among e o = not_in_front ordinals d j i front following names low.1 among e o

-- A name after the last token of a declaration has a greater index.
names_after : (d k : ℕ) (labels : List ℕ) (left : List (Terminal ℕ)) (ws : List Word) (t : Taken d k labels (indexed_terminals_of_words 0 ws) left) (i : ℕ) → is_in_list i (lexeme_names t.after) ≡ true → last_token t < i
names_after d k labels left ws t i e =
    let front : List (Terminal ℕ) = t.before ++ (WordOrSymbol t.border ∷ []) in
    let whole : List (Terminal ℕ) = lexeme.Name t.name ∷ WordOrSymbol (kind.Symbol symbol.Equal) ∷ (t.right ++ (WordOrSymbol (kind.Symbol symbol.Semicolon) ∷ [])) in
    let a = cut_words 0 ws (front ++ whole) t.after (t.whole_is ∙ sym (append_assoc front whole t.after)) in
    let n : length (front ++ whole) ≡ suc (last_token t) = length-append front whole ∙ (let z = length-append t.right (WordOrSymbol (kind.Symbol symbol.Semicolon) ∷ []) in omega (arith, z)) in
    let there = names_above i (0 + length a.first) a.rest (subst (λ (l : List (Terminal ℕ)). is_in_list i (lexeme_names l) ≡ true) (sym a.following_is) e) in
    let count = a.count in
    omega (arith, there, count, n)

-- Each occurrence that is bound to the constant follows its declaration.
pub uses_following : (r : Resolution) → (d : ℕ) (labels : List ℕ) (left : List (Terminal ℕ))
    → (h : Late d 7 labels (indexed_terminals_of_words 0 (words_of_text r.module_read.source)) left (occurrences (tree_of r.module_read)) (map (ordinal_in r.ordinals) (occurrences (tree_of r.module_read))))
    → (j i : ℕ) → slice_get (occurrences (tree_of r.module_read)) j ≡ Some i → ordinal_in r.ordinals i ≡ Some d → last_token h.taken < i
uses_following r d labels left h j i e o =
    let joined : map (ordinal_in r.ordinals) h.front ++ map (ordinal_in r.ordinals) h.following ≡ h.front_bound ++ h.following_bound =
    sym (map_joined r.ordinals h.front h.following) ∙ (ap (map (ordinal_in r.ordinals)) (sym h.occ_is) ∙ h.bound_is) in
    let firsts : map (ordinal_in r.ordinals) h.front ≡ h.front_bound =
    first_same (map (ordinal_in r.ordinals) h.front) (map (ordinal_in r.ordinals) h.following) h.front_bound h.following_bound joined (length-map (ordinal_in r.ordinals) h.front ∙ sym h.count) in
    names_after d 7 labels left (words_of_text r.module_read.source) h.taken i
    (not_in_front r.ordinals d j i h.front h.following (lexeme_names h.taken.after) (subst (AllLow d) (sym firsts) h.low) h.among (ap (λ l. slice_get l j) (sym h.occ_is) ∙ e) o)
