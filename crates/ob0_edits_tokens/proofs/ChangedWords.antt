-- Proves which words result if the words at given indexes change.
use Rattle.std.proofs.Common.{◌≡◌, ℕ, suc, ◌+◌, ◌<◌, ◌≤◌, ◌==◌, false, ◌&&◌, ◌||◌, List, [], ◌∷◌, ◌++◌, length, refl, sym, ap, ap₂, ◌∙◌, arith, append_assoc, eqb-true, eq-eqb, le-leb}
use Rattle.std.specs.Prelude.{nat_le, if◌then◌else◌, Some, None}
use Rattle.std.proofs.Math.Bool.{and-false}
use Rattle.std.proofs.lemmas.Bool.{false_from_ne_true, lt-leb}
use Rattle.ob0_scan.specs.declared.lexeme.Token.{Token}
use Rattle.ob0_scan.specs.TextWithTokens.{Word}
use Rattle.ob0_edits_tokens.specs.WordReplacements.{WordChanges, changed_words, changes_at_indexes, is_in_list, replacement_or_word}
use Rattle.ob0_edits_tokens.specs.Replacements.{AreIdentifierIndexes}
use Rattle.ob0_edits_tokens.specs.Removals.{changes_with_removal}

-- Changing joined lists of words changes each part.
changed_append : (ch : WordChanges) (k : ℕ) (xs ys : List Word) → changed_words ch k (xs ++ ys) ≡ changed_words ch k xs ++ changed_words ch (k + length xs) ys
changed_append ch k [] ys = let none : k ≡ k + 0 = omega arith in ap (λ n. changed_words ch n ys) none
changed_append ch k (x ∷ xs) ys =
    let next : suc k + length xs ≡ k + suc (length xs) = omega arith in
    ap (λ l. replacement_or_word x (ch k) ++ l) (changed_append ch (suc k) xs ys ∙ ap (λ n. changed_words ch (suc k) xs ++ changed_words ch n ys) next)
    ∙ sym (append_assoc (replacement_or_word x (ch k)) (changed_words ch (suc k) xs) (changed_words ch (k + suc (length xs)) ys))

-- Only the changes at the words' own indexes matter.
same_changes : (ch other : WordChanges) (k : ℕ) (ws : List Word) → ((j : ℕ) → k ≤ j → j < k + length ws → ch j ≡ other j) → changed_words ch k ws ≡ changed_words other k ws
same_changes ch other k [] same = refl
same_changes ch other k (w ∷ ws) same =
    λ i. replacement_or_word w (same k (omega arith) (omega arith) i) ++ same_changes ch other (suc k) ws (λ j low high. same j (omega (arith, low)) (omega (arith, high))) i

-- Words whose change is None stay.
pub unchanged : (k : ℕ) (ws : List Word) → changed_words (λ _. None) k ws ≡ ws
unchanged k [] = refl
unchanged k (w ∷ ws) = ap (λ t. w ∷ t) (unchanged (suc k) ws)

-- Words whose change is the empty list go.
emptied : (k : ℕ) (ws : List Word) → changed_words (λ _. Some []) k ws ≡ []
emptied k [] = refl
emptied k (w ∷ ws) = emptied (suc k) ws

-- No index below the least is in the list.
not_in_list : (tokens : List Token) (least k : ℕ) (indexes : List ℕ) → AreIdentifierIndexes tokens least indexes → k < least → is_in_list k indexes ≡ false
not_in_list tokens least k [] names below = refl
not_in_list tokens least k (p ∷ ps) names below =
    let other : (k == p) ≡ false = false_from_ne_true (k == p) (λ e. absurd (omega (arith, eqb-true k p e, names.0))) in
    rw (other) (not_in_list tokens (suc p) k ps names.3 (omega (arith, names.0)))

-- The words before the first index stay.
pub words_before : (tokens : List Token) (least : ℕ) (indexes : List ℕ) → AreIdentifierIndexes tokens least indexes → (ws : List Word) (k : ℕ) (xs : List Word) → k + length xs ≤ least → changed_words (changes_at_indexes indexes ws) k xs ≡ xs
words_before tokens least indexes names ws k xs low =
    same_changes (changes_at_indexes indexes ws) (λ _. None) k xs (λ j up less. ap (λ b. if b then Some ws else None) (not_in_list tokens least j indexes names (omega (arith, less, low)))) ∙ unchanged k xs

-- The word at the first index changes, and the words before it stay.
pub first_changed : (tokens : List Token) (p : ℕ) (ps : List ℕ) → AreIdentifierIndexes tokens p (p ∷ ps) → (ws : List Word) (k : ℕ) (xs : List Word) (w : Word) (ys : List Word) → k + length xs ≡ p
    → changed_words (changes_at_indexes (p ∷ ps) ws) k (xs ++ (w ∷ ys)) ≡ xs ++ (ws ++ changed_words (changes_at_indexes ps ws) (suc p) ys)
first_changed tokens p ps names ws k xs w ys count =
    let ch : WordChanges = changes_at_indexes (p ∷ ps) ws in
    let after : changed_words ch (suc p) ys ≡ changed_words (changes_at_indexes ps ws) (suc p) ys =
    same_changes ch (changes_at_indexes ps ws) (suc p) ys (λ j low high. ap (λ b. if b || is_in_list j ps then Some ws else None) (false_from_ne_true (j == p) (λ e. absurd (omega (arith, eqb-true j p e, low))))) in
    changed_append ch k xs (w ∷ ys)
    ∙ ap₂ (λ a b. a ++ b) (words_before tokens p (p ∷ ps) names ws k xs (omega (arith, count)))
    (ap (λ n. changed_words ch n (w ∷ ys)) count
    ∙ ap₂ (λ b t. replacement_or_word w (if b || is_in_list p ps then Some ws else None) ++ t) (eq-eqb p p refl) after)

removed : (first last k : ℕ) (ch : WordChanges) → first ≤ k → k ≤ last → changes_with_removal first last ch k ≡ Some []
removed first last k ch low high = rw (le-leb first k low, le-leb k last high) refl

before_removal : (first last k : ℕ) (ch : WordChanges) → k < first → changes_with_removal first last ch k ≡ ch k
before_removal first last k ch less = rw (lt-leb first k less) refl

after_removal : (first last k : ℕ) (ch : WordChanges) → last < k → changes_with_removal first last ch k ≡ ch k
after_removal first last k ch less = ap (λ b. if b then Some [] else ch k) (ap (λ b. nat_le first k && b) (lt-leb k last less) ∙ and-false (nat_le first k))

-- The words of a removed part go, and the words around it have the other changes.
pub part_removed : (first last : ℕ) (ch : WordChanges) (xs gone ys : List Word) → length xs ≡ first → first + length gone ≡ suc last
    → changed_words (changes_with_removal first last ch) 0 (xs ++ (gone ++ ys)) ≡ changed_words ch 0 xs ++ changed_words ch (suc last) ys
part_removed first last ch xs gone ys low high =
    let all : WordChanges = changes_with_removal first last ch in
    let start : ℕ = 0 + length xs in
    let end : start + length gone ≡ suc last = omega (arith, low, high) in
    changed_append all 0 xs (gone ++ ys)
    ∙ ap₂ (λ a b. a ++ b)
    (same_changes all ch 0 xs (λ j up less. before_removal first last j ch (omega (arith, less, low))))
    (changed_append all start gone ys
    ∙ ap₂ (λ a b. a ++ b)
    (same_changes all (λ _. Some []) start gone (λ j up less. removed first last j ch (omega (arith, up, low)) (omega (arith, less, end))) ∙ emptied start gone)
    (ap (λ n. changed_words all n ys) end ∙ same_changes all ch (suc last) ys (λ j up less. after_removal first last j ch (omega (arith, up)))))
