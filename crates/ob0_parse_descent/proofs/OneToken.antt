-- Proves that the kind and the index of a token determine how a tree spells the token, and that the
-- spelled token determines the kind.
use Rattle.std.proofs.Common.{◌≡◌, ℕ, Option, Some, None, List, [], ◌∷◌, refl}
use Rattle.ob0_scan.specs.declared.lexeme.TokenKind.{TokenKind}
use Rattle.ob0_scan.specs.declared.lexeme.TokenKind.TheVariants as kind
use Rattle.ob0_tree.specs.Terminals.{Terminal, Name, Number, WordOrSymbol}
use Rattle.ob0_tree.specs.TokenIndexLeaves.{indexed_terminal}
use Rattle.ob0_parse_descent.specs.ParserPromises.{terminal_or_end, token, name, CantBeginWithParts}
use Rattle.ob0_parse_descent.specs.TokenRanks.{terminal_rank, kind_rank}
use Rattle.ob0_parse_descent.proofs.Refusals.{at_once}

pub mark_is : (f : Option TokenKind) (i : ℕ) (k : TokenKind) → terminal_or_end i f ≡ WordOrSymbol k → f ≡ Some k
mark_is None i k e = cc
mark_is (Some kind.Identifier) i k e = cc
mark_is (Some (kind.Integer _)) i k e = cc
mark_is (Some _) i k e = cc

pub name_is : (f : Option TokenKind) (i n : ℕ) → terminal_or_end i f ≡ Name n → f ≡ Some kind.Identifier
name_is None i n e = cc
name_is (Some kind.Identifier) i n e = refl
name_is (Some (kind.Integer _)) i n e = cc
name_is (Some _) i n e = cc

pub number_is : (f : Option TokenKind) (i n : ℕ) → terminal_or_end i f ≡ Number n → (v : ℕ) × (f ≡ Some (kind.Integer v))
number_is None i n e = cc
number_is (Some kind.Identifier) i n e = cc
number_is (Some (kind.Integer v)) i n e = (v, refl)
number_is (Some _) i n e = cc

pub no_token : (f : Option TokenKind) (i : ℕ) (k : TokenKind) {xs after : List (Terminal ℕ)} → xs ≡ terminal_or_end i f ∷ after → (f ≡ Some k → ⊥) → CantBeginWithParts (token k ∷ []) xs after
no_token f i k e h = at_once e (λ u b. h (mark_is f i k (cc (b.1))))

pub no_name : (f : Option TokenKind) (i : ℕ) {xs after : List (Terminal ℕ)} → xs ≡ terminal_or_end i f ∷ after → (f ≡ Some kind.Identifier → ⊥) → CantBeginWithParts (name ∷ []) xs after
no_name f i e h = at_once e (λ u b. h (name_is f i b.0 (cc (b.2))))

pub rank_of : (i : ℕ) (k : TokenKind) → terminal_rank (indexed_terminal i k) ≡ kind_rank k
rank_of i kind.Identifier = refl
rank_of i (kind.Integer _) = refl
rank_of i _ = refl
