-- Proves facts about tokens that are given by their kinds and indexes.
use Rattle.std.proofs.Common.{◌≡◌, ℕ, zero, suc, ◌+◌, ◌<◌, List, [], ◌∷◌, ◌++◌, map, take, drop, length, refl, sym, ◌∙◌, ap, arith, add-zero}
use Rattle.std.proofs.lemmas.List.{drop_at}
use Rattle.ob0_scan.specs.declared.lexeme.TokenKind.{TokenKind}
use Rattle.ob0_scan.specs.declared.lexeme.TokenKind.TheVariants as kind
use Rattle.ob0_scan.specs.declared.lexeme.Token.{Token}
use Rattle.ob0_scan.specs.ReusedLexemes.{kind_without_value, token_kinds_without_values}
use Rattle.ob0_tree.specs.Terminals.{Terminal, Name, Number, EndOfText, mapped_terminal}
use Rattle.ob0_tree.specs.TokenIndexLeaves.{indexed_terminal, indexed_terminals_from}
use Rattle.ob0_parse_descent.proofs.Unique.{head_of}
use Rattle.ob0_parse.specs.KeptTreeTokens.{indexed_terminals_of_kinds}

-- An integer's terminal at an index has the index in place of the value, so the value doesn't
-- matter.
by_kind : (i : ℕ) (k : TokenKind) → indexed_terminal i k ≡ indexed_terminal i (kind_without_value k)
by_kind i kind.Identifier = refl
by_kind i (kind.ReservedWord word) = refl
by_kind i (kind.Integer value) = refl
by_kind i (kind.Symbol symbol) = refl

pub terminals_of_tokens : (i : ℕ) (ts : List Token) → indexed_terminals_from i ts ≡ indexed_terminals_of_kinds i (token_kinds_without_values ts) ++ (EndOfText ∷ [])
terminals_of_tokens i [] = refl
terminals_of_tokens i (t ∷ ts) =
    ap (λ x. x ∷ indexed_terminals_from (i + 1) ts) (by_kind i t.kind)
    ∙ ap (λ xs. indexed_terminal i (kind_without_value t.kind) ∷ xs) (terminals_of_tokens (i + 1) ts)

pub length_terminals : (i : ℕ) (ks : List TokenKind) → length (indexed_terminals_of_kinds i ks) ≡ length ks
length_terminals i [] = refl
length_terminals i (k ∷ ks) = ap suc (length_terminals (i + 1) ks)

pub take_terminals : (n i : ℕ) (ks : List TokenKind) → take n (indexed_terminals_of_kinds i ks) ≡ indexed_terminals_of_kinds i (take n ks)
take_terminals zero i ks = refl
take_terminals (suc n) i [] = refl
take_terminals (suc n) i (k ∷ ks) = ap (λ xs. indexed_terminal i k ∷ xs) (take_terminals n (i + 1) ks)

pub drop_terminals : (n i j : ℕ) (ks : List TokenKind) → i + n ≡ j → drop n (indexed_terminals_of_kinds i ks) ≡ indexed_terminals_of_kinds j (drop n ks)
drop_terminals zero i j ks e = let same : i ≡ j = omega (arith, e) in ap (λ n. indexed_terminals_of_kinds n ks) same
drop_terminals (suc n) i j [] e = refl
drop_terminals (suc n) i j (k ∷ ks) e = drop_terminals n (i + 1) j ks (omega (arith, e))

-- ---- names, which are the indexes of their tokens

named_here : (i n : ℕ) (k : TokenKind) → indexed_terminal i k ≡ Name n → n ≡ i
named_here i n kind.Identifier e = cc
named_here i n (kind.ReservedWord word) e = absurd (cc (e))
named_here i n (kind.Integer value) e = absurd (cc (e))
named_here i n (kind.Symbol symbol) e = absurd (cc (e))

pub first_name : (i n : ℕ) (ks : List TokenKind) (z : List (Terminal ℕ)) → indexed_terminals_of_kinds i ks ++ (EndOfText ∷ []) ≡ Name n ∷ z → n ≡ i
first_name i n [] z e = absurd (cc (e))
first_name i n (k ∷ ks) z e = named_here i n k (head_of e)

pub name_index : (i n : ℕ) (ks : List TokenKind) (xs ys : List (Terminal ℕ)) → indexed_terminals_of_kinds i ks ≡ xs ++ (Name n ∷ ys) → n ≡ i + length xs
name_index i n ks xs ys e =
    let here : indexed_terminals_of_kinds (i + length xs) (drop (length xs) ks) ≡ Name n ∷ ys =
    sym (drop_terminals (length xs) i (i + length xs) ks refl) ∙ ap (drop (length xs)) e ∙ drop_at xs (Name n ∷ ys) (length xs) refl in
    first_name (i + length xs) n (drop (length xs) ks) (ys ++ (EndOfText ∷ [])) (ap (λ l. l ++ (EndOfText ∷ [])) here)

-- ---- tokens that are moved

moved_terminal : (f : ℕ → ℕ) (i j : ℕ) (k : TokenKind) → f i ≡ j → mapped_terminal f f (indexed_terminal i k) ≡ indexed_terminal j k
moved_terminal f i j kind.Identifier e = ap Name e
moved_terminal f i j (kind.ReservedWord word) e = refl
moved_terminal f i j (kind.Integer value) e = ap Number e
moved_terminal f i j (kind.Symbol symbol) e = refl

-- If `f` maps the indexes starting at `i` to the indexes starting at `j`, it maps the tokens of
-- these kinds at `i` to the tokens at `j`.
pub moved_terminals : (f : ℕ → ℕ) (i j : ℕ) (ks : List TokenKind) → ((d : ℕ) → d < length ks → f (i + d) ≡ j + d) → map (mapped_terminal f f) (indexed_terminals_of_kinds i ks) ≡ indexed_terminals_of_kinds j ks
moved_terminals f i j [] h = refl
moved_terminals f i j (k ∷ ks) h =
    let first : f i ≡ j = ap f (sym (add-zero i)) ∙ (h 0 (omega arith) ∙ add-zero j) in
    ap (λ x. x ∷ map (mapped_terminal f f) (indexed_terminals_of_kinds (i + 1) ks)) (moved_terminal f i j k first)
    ∙ ap (λ xs. indexed_terminal j k ∷ xs) (moved_terminals f (i + 1) (j + 1) ks (λ d less. next d less))
  where
    next : (d : ℕ) → d < length ks → f (i + 1 + d) ≡ j + 1 + d
    next d less =
        let a : i + 1 + d ≡ i + (d + 1) = omega arith in
        let b : j + (d + 1) ≡ j + 1 + d = omega arith in
        ap f a ∙ (h (d + 1) (omega (arith, less)) ∙ b)
