-- Proves that a token is an identifier of a parsed module exactly if its word is a name.
use Rattle.std.proofs.Common.{◌≡◌, ◌==◌, ◌||◌, ◌≤◌, ℕ, zero, suc, ◌+◌, Bool, true, false, Option, Some, None, List, [], ◌∷◌, ◌++◌, slice_get, refl, ap, ◌∙◌, arith, eq-eqb, eqb-true, ne_eqb}
use Rattle.std.specs.List.{list_any}
use Rattle.ob0_scan.specs.ReusedLexemes.{words_of_tokens}
use Rattle.ob0_scan.specs.TextWithTokens.{Word}
use Rattle.ob0_scan.specs.declared.lexeme.Token.{Token}
use Rattle.ob0_scan.specs.declared.lexeme.TokenKind.{TokenKind}
use Rattle.ob0_scan.specs.declared.lexeme.TokenKind.TheVariants as kind
use Rattle.ob0_tree.specs.IdentifierIndexes.{identifier_indexes_from, identifier_names, index_if_identifier}
use Rattle.ob0_tree.specs.ParsedModule.{ParsedModule, TreeMatchesText, tree_of}
use Rattle.ob0_tree.proofs.AscendingNumbers.{AllBelow, AllFrom, from_less}
use Rattle.ob0_tree.proofs.Leaves.{leaves_parsed}

abbrev is_name_kind : TokenKind → Bool
is_name_kind kind.Identifier = true
is_name_kind _ = false

-- returns whether a token's word is a name; false if there is no such token
abbrev pub is_name_word : Option Word → Bool
is_name_word None = false
is_name_word (Some w) = is_name_kind w.kind

apart : (x y : ℕ) → x + 1 ≤ y → (y == x) ≡ false
apart x y less = one (y == x) refl
  where
    one : (b : Bool) → (y == x) ≡ b → b ≡ false
    one true e = absurd (omega (arith, less, eqb-true y x e))
    one false e = refl

pub no_larger : (x : ℕ) (xs : List ℕ) → AllFrom (x + 1) xs → list_any (λ j. j == x) xs ≡ false
no_larger x [] h = refl
no_larger x (y ∷ ys) h = ap (λ b. b || list_any (λ j. j == x) ys) (apart x y h.0) ∙ no_larger x ys h.1

pub no_smaller : (n x : ℕ) (xs : List ℕ) → n ≤ x → AllBelow n xs → list_any (λ j. j == x) xs ≡ false
no_smaller n x [] le h = refl
no_smaller n x (y ∷ ys) le h = ap (λ b. b || list_any (λ j. j == x) ys) (ne_eqb y x (λ e. omega (arith, e, le, h.0))) ∙ no_smaller n x ys le h.1

indexes_from : (ts : List Token) (n : ℕ) → AllFrom n (identifier_indexes_from n ts)
indexes_from [] n = tt
indexes_from (t ∷ ts) n = one t.kind (identifier_indexes_from (n + 1) ts) (from_less n (n + 1) (identifier_indexes_from (n + 1) ts) (omega arith) (indexes_from ts (n + 1)))
  where
    one : (k : TokenKind) (xs : List ℕ) → AllFrom n xs → AllFrom n (index_if_identifier n k ++ xs)
    one kind.Identifier xs h = (omega arith, h)
    one (kind.Integer v) xs h = h
    one _ xs h = h

first_listed : (k : TokenKind) (n : ℕ) (xs : List ℕ) → AllFrom (n + 1) xs → list_any (λ j. j == n) (index_if_identifier n k ++ xs) ≡ is_name_kind k
first_listed kind.Identifier n xs h = ap (λ b. b || list_any (λ j. j == n) xs) (eq-eqb n n refl)
first_listed (kind.Integer v) n xs h = no_larger n xs h
first_listed _ n xs h = no_larger n xs h

later_listed : (k : TokenKind) (n i : ℕ) (xs : List ℕ) → list_any (λ j. j == n + suc i) (index_if_identifier n k ++ xs) ≡ list_any (λ j. j == n + suc i) xs
later_listed kind.Identifier n i xs = ap (λ b. b || list_any (λ j. j == n + suc i) xs) (one (n == n + suc i) refl)
  where
    one : (b : Bool) → (n == n + suc i) ≡ b → b ≡ false
    one true e = absurd (omega (arith, eqb-true n (n + suc i) e))
    one false e = refl
later_listed (kind.Integer v) n i xs = refl
later_listed _ n i xs = refl

listed : (text : List ℕ) (ts : List Token) (n i : ℕ) → list_any (λ j. j == n + i) (identifier_indexes_from n ts) ≡ is_name_word (slice_get (words_of_tokens text ts) i)
listed text [] n i = refl
listed text (t ∷ ts) n zero =
    let here : n + zero ≡ n = omega arith in
    ap (λ m. list_any (λ j. j == m) (identifier_indexes_from n (t ∷ ts))) here ∙ first_listed t.kind n (identifier_indexes_from (n + 1) ts) (indexes_from ts (n + 1))
listed text (t ∷ ts) n (suc i) =
    let next : n + suc i ≡ n + 1 + i = omega arith in
    later_listed t.kind n i (identifier_indexes_from (n + 1) ts) ∙ (ap (λ m. list_any (λ j. j == m) (identifier_indexes_from (n + 1) ts)) next ∙ listed text ts (n + 1) i)

pub identifier_by_word : (m : ParsedModule) → TreeMatchesText m → (i : ℕ) → list_any (λ j. j == i) (identifier_names (tree_of m)) ≡ is_name_word (slice_get (words_of_tokens m.source.text m.source.tokens) i)
identifier_by_word m parsed i =
    let here : i ≡ 0 + i = omega arith in
    ap (list_any (λ j. j == i)) (leaves_parsed m parsed)
    ∙ (ap (λ n. list_any (λ j. j == n) (identifier_indexes_from 0 m.source.tokens)) here ∙ listed m.source.text m.source.tokens 0 i)
