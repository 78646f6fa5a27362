-- Proves that lists that begin with different tokens aren't equal. Proofs cite these lemmas because
-- they cost the prover little time, even if many facts are in scope.
use Rattle.std.proofs.Common.{◌≡◌, ℕ, List, ◌∷◌}
use Rattle.ob0_scan.specs.declared.lexeme.TokenKind.{TokenKind}
use Rattle.ob0_scan.specs.declared.lexeme.TokenKind.TheVariants as kind
use Rattle.ob0_scan.specs.declared.lexeme.ReservedWord.TheVariants as reserved
use Rattle.ob0_scan.specs.declared.lexeme.Symbol.TheVariants as symbol
use Rattle.ob0_tree.specs.Terminals.{Terminal, Name, Number, WordOrSymbol}

pub name_not_mark : {N : Type 0} {n : N} {k : TokenKind} {x y : List (Terminal N)} → Name n ∷ x ≡ WordOrSymbol k ∷ y → ⊥
name_not_mark e = cc

pub name_not_number : {N : Type 0} {n : N} {i : ℕ} {x y : List (Terminal N)} → Name n ∷ x ≡ Number i ∷ y → ⊥
name_not_number e = cc

pub number_not_mark : {N : Type 0} {i : ℕ} {k : TokenKind} {x y : List (Terminal N)} → Number i ∷ x ≡ WordOrSymbol k ∷ y → ⊥
number_not_mark e = cc

pub paren_not_tilde : {N : Type 0} {x y : List (Terminal N)} → WordOrSymbol (kind.Symbol symbol.LeftParen) ∷ x ≡ WordOrSymbol (kind.Symbol symbol.Not) ∷ y → ⊥
paren_not_tilde e = cc

pub dot_not_bracket : {N : Type 0} {x y : List (Terminal N)} → WordOrSymbol (kind.Symbol symbol.Dot) ∷ x ≡ WordOrSymbol (kind.Symbol symbol.LeftBracket) ∷ y → ⊥
dot_not_bracket e = cc

pub dot_not_paren : {N : Type 0} {x y : List (Terminal N)} → WordOrSymbol (kind.Symbol symbol.Dot) ∷ x ≡ WordOrSymbol (kind.Symbol symbol.LeftParen) ∷ y → ⊥
dot_not_paren e = cc

pub bracket_not_paren : {N : Type 0} {x y : List (Terminal N)} → WordOrSymbol (kind.Symbol symbol.LeftBracket) ∷ x ≡ WordOrSymbol (kind.Symbol symbol.LeftParen) ∷ y → ⊥
bracket_not_paren e = cc

pub becomes_not_paren : {N : Type 0} {x y : List (Terminal N)} → WordOrSymbol (kind.Symbol symbol.Becomes) ∷ x ≡ WordOrSymbol (kind.Symbol symbol.LeftParen) ∷ y → ⊥
becomes_not_paren e = cc

pub array_not_record : {N : Type 0} {x y : List (Terminal N)} → WordOrSymbol (kind.ReservedWord reserved.Array) ∷ x ≡ WordOrSymbol (kind.ReservedWord reserved.Record) ∷ y → ⊥
array_not_record e = cc

-- If two lists that begin with numbers are equal, the numbers are equal.
pub number_of : {N : Type 0} {i j : ℕ} {x y : List (Terminal N)} → Number i ∷ x ≡ Number j ∷ y → i ≡ j
number_of e = cc
