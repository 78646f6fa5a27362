-- Proves that the remaining tokens at an index are the token at this index, followed by the
-- remaining tokens at the next index.
use Rattle.std.proofs.Common.{◌≡◌, ℕ, zero, suc, ◌+◌, ◌<◌, List, [], ◌∷◌, length, get_or, drop, refl, arith, add-one, add-zero}
use Rattle.ob0_scan.specs.declared.lexeme.Token.{Token}
use Rattle.ob0_tree.specs.Terminals.{EndOfText}
use Rattle.ob0_tree.specs.TokenIndexLeaves.{indexed_terminal, indexed_terminals_from}
use Rattle.ob0_parse_descent.specs.ParserPromises.{remaining_terminals}

drop-lexemes : (ts : List Token) (i j : ℕ) (d : Token) → i < length ts → drop i (indexed_terminals_from j ts) ≡ indexed_terminal (j + i) (get_or ts i d).kind ∷ drop (suc i) (indexed_terminals_from j ts)
drop-lexemes [] i j d l = absurd (omega arith)
drop-lexemes (t ∷ ts) zero j d l = rw add-zero refl
drop-lexemes (t ∷ ts) (suc i) j d l =
    let h = drop-lexemes ts i (j + 1) d (omega arith) in
    let e : j + 1 + i ≡ j + suc i = omega arith in
    rw e at h

drop-end : (ts : List Token) (j : ℕ) → drop (length ts) (indexed_terminals_from j ts) ≡ EndOfText ∷ drop (suc (length ts)) (indexed_terminals_from j ts)
drop-end [] j = refl
drop-end (t ∷ ts) j = drop-end ts (j + 1)

pub rest_more : (ts : List Token) (i : ℕ) (d : Token) → i < length ts → remaining_terminals ts i ≡ indexed_terminal i (get_or ts i d).kind ∷ remaining_terminals ts (i + 1)
unfolding remaining_terminals
rest_more ts i d l = rw add-one (let h = drop-lexemes ts i 0 d l in let e : 0 + i ≡ i = omega arith in rw e at h)

pub rest_end : (ts : List Token) (i : ℕ) → i ≡ length ts → remaining_terminals ts i ≡ EndOfText ∷ remaining_terminals ts (i + 1)
unfolding remaining_terminals
rest_end ts i e = rw (e, add-one) (drop-end ts 0)
