-- Proves when a text that has the tokens of a tree is a module: exactly if the tree isn't nested
-- deeper than a module may be.
use Rattle.std.proofs.Common.{◌≡◌, ℕ, ◌+◌, ◌≤◌, true, false, not, nat_le, nat_lt, encode_utf8_all, Option, Some, None, map, List, [], ◌∷◌, ◌++◌, drop, refl, sym, ap, ◌∙◌, subst, append-nil, arith}
use Rattle.std.specs.Str.{IsUtf8, chars}
use Rattle.std.proofs.lemmas.Bool.{leb-true, leb-false, le-ltb, lt-ltb}
use Rattle.std.proofs.lemmas.List.{take-append-drop}
use Rattle.std.proofs.lemmas.Simd.{map-map}
use Rattle.std.proofs.lemmas.Str.{encodes-chars}
use Rattle.ob0_edits_tokens.specs.WordReplacements.{words_of_text}
use Rattle.ob0_edits_tokens.specs.WordTerminals.{terminal_of_word}
use Rattle.ob0_tree.specs.Terminals.{Terminal, EndOfText}
use Rattle.ob0_scan.specs.TextWithTokens.{TextWithTokens, word_of_token}
use Rattle.ob0_tree.specs.Module.{terminals_of_text}
use Rattle.ob0_tree.specs.ParsedModule.{ParsedModule, TreeMatchesText, named_tree_of}
use Rattle.ob0_tree.specs.Tree.{Tree, module_text, nesting, spell}
use Rattle.ob0_parse.specs.IsRightParseRefusal.{NoModuleBeginsWithTokens}
use Rattle.ob0_parse_descent.proofs.Unique.{same}

-- A module with the tokens of a tree has that tree, so the tree is nested at most 100 deep.
pub shallow_where_parsed : (s : TextWithTokens) (t : Tree (List ℕ) module_text) → terminals_of_text s ≡ spell t → (m : ParsedModule) → m.source ≡ s → TreeMatchesText m → nesting t ≤ 100
shallow_where_parsed s t spelled m source parsed =
    let there : terminals_of_text s ≡ spell (named_tree_of m) = ap terminals_of_text (sym source) ∙ parsed.module_of.spelled in
    let one : named_tree_of m ≡ t = (same (named_tree_of m) t [] [] tt tt (append-nil (spell (named_tree_of m)) ∙ (sym there ∙ (spelled ∙ sym (append-nil (spell t)))))).0 in
    subst (λ (u : Tree (List ℕ) module_text). nesting u ≤ 100) one parsed.module_of.shallow

-- If no module begins with the tree's tokens up to some token, the tree is nested deeper than 100.
pub deep_where_refused : (s : TextWithTokens) (t : Tree (List ℕ) module_text) → terminals_of_text s ≡ spell t → (i : ℕ) → NoModuleBeginsWithTokens s i → nesting t ≤ 100 → ⊥
deep_where_refused s t spelled i none low =
    let all : List (Terminal (List ℕ)) = terminals_of_text s ++ (EndOfText ∷ []) in
    none t (drop (i + 1) all) low (ap (λ xs. xs ++ (EndOfText ∷ [])) (sym spelled) ∙ sym (take-append-drop (i + 1) all))

pub shallow_is : (n : ℕ) → n ≤ 100 → true ≡ nat_le n 100
shallow_is n low = elim (nat_le n 100) as (λ b. nat_le n 100 ≡ b → true ≡ b) [ true ↦ (λ e. refl) | false ↦ (λ e. absurd (omega (arith, leb-false n 100 e, low))) ] refl

pub deep_is : (n : ℕ) → (n ≤ 100 → ⊥) → false ≡ nat_le n 100
deep_is n high = elim (nat_le n 100) as (λ b. nat_le n 100 ≡ b → false ≡ b) [ true ↦ (λ e. absurd (high (leb-true n 100 e))) | false ↦ (λ e. refl) ] refl

pub not_shallow_is : (n : ℕ) → not (nat_le n 100) ≡ nat_lt 100 n
not_shallow_is n = elim (nat_le n 100) as (λ b. nat_le n 100 ≡ b → not b ≡ nat_lt 100 n) [
  | true ↦ (λ e. sym (le-ltb 100 n (leb-true n 100 e)))
  | false ↦ (λ e. sym (lt-ltb 100 n (omega (arith, leb-false n 100 e))))
] refl

-- returns the text that edits leave, or an empty text if there is none
abbrev held : Option (List ℕ) → List ℕ
held None = []
held (Some xs) = xs

pub same_bytes : (a b : List ℕ) (made : Option (List ℕ)) → IsUtf8 a → IsUtf8 b → made ≡ Some (chars a) → made ≡ Some (chars b) → a ≡ b
same_bytes a b made u v e f = sym (encodes-chars a u) ∙ (ap encode_utf8_all (ap held (sym e ∙ f)) ∙ encodes-chars b v)

pub lexemes_of_words : (s : TextWithTokens) → terminals_of_text s ≡ map terminal_of_word (words_of_text s)
lexemes_of_words s = sym (map-map terminal_of_word (word_of_token s.text) s.tokens)
