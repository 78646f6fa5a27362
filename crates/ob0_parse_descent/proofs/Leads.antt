-- Proves that, if only one kind of token has the rank of an item, the item begins exactly if a
-- token of this kind comes next.
use Rattle.std.proofs.Common.{◌≡◌, ℕ, ◌+◌, ◌≤◌, ◌<◌, ◌++◌, ◌==◌, Option, Some, None, option_map, List, [], ◌∷◌, length, refl, sym, ◌∙◌, ap, subst, arith, if◌then◌else◌}
use Rattle.ob0_scan.specs.declared.lexeme.TokenKind.{TokenKind}
use Rattle.ob0_scan.specs.declared.lexeme.TokenKind.TheVariants as kind
use Rattle.ob0_scan.specs.declared.lexeme.ReservedWord.TheVariants as reserved
use Rattle.ob0_scan.specs.declared.lexeme.Symbol.TheVariants as symbol
use Rattle.ob0_scan.specs.declared.lexeme.Token.{Token}
use Rattle.ob0_tree.specs.Terminals.{Terminal, Name, Number, WordOrSymbol, EndOfText}
use Rattle.ob0_parse_descent.specs.declared.refusal.ExpectedSyntax.{ExpectedSyntax}
use Rattle.ob0_parse_descent.specs.declared.refusal.ParseRefusal.{ParseRefusal}
use Rattle.ob0_parse_descent.specs.declared.refusal.ParseRefusal.TheVariants.{Syntax}
use Rattle.ob0_tree.specs.Tree.{Sort, Tree, spell}
use Rattle.ob0_parse_descent.specs.TokenRanks.{terminal_rank, kind_rank, max_continuing_rank, NextTokenHasRank, NextTokenEndsConstruct}
use Rattle.ob0_parse_descent.proofs.Unique.{same}
use Rattle.ob0_parse_descent.specs.ParserPromises.{remaining_terminals, ProductionPart, token, name, BeginsWithParts, DescentEndsWith, FailsToRead, IsTokenOtherThan, IsNotIdentifier}
use Rattle.ob0_parse_descent.specs.Descent.{MatchesPart, syntax_expected_for_part, syntax_expected_for_kind, Expects, Descends, other}
use Rattle.ob0_parse_descent.specs.declared.refusal.ExpectedSyntax.TheVariants as expected
use Rattle.ob0_parse_descent.proofs.Refusals.{at_once, fails_by, in_name, in_token}

-- Returns the only token of a rank, or None if several tokens or none have the rank.
abbrev pub leader : ℕ → Option TokenKind
leader r =
    if r == 5 then Some (kind.Symbol symbol.Comma) else
    if r == 6 then Some (kind.Symbol symbol.LeftParen) else
    if r == 9 then Some (kind.Symbol symbol.Semicolon) else
    if r == 10 then Some (kind.ReservedWord reserved.Elsif) else
    if r == 11 then Some (kind.ReservedWord reserved.Else) else
    if r == 12 then Some (kind.ReservedWord reserved.Const) else
    if r == 13 then Some (kind.ReservedWord reserved.Type) else
    if r == 14 then Some (kind.ReservedWord reserved.Var) else
    if r == 15 then Some (kind.ReservedWord reserved.Procedure) else
    if r == 16 then Some (kind.ReservedWord reserved.Begin) else None

leads : (k j : TokenKind) → leader (kind_rank k) ≡ Some j → k ≡ j
leads kind.Identifier j e = cc
leads (kind.Integer _) j e = cc
leads (kind.ReservedWord reserved.Module) j e = cc
leads (kind.ReservedWord reserved.Begin) j e = cc
leads (kind.ReservedWord reserved.End) j e = cc
leads (kind.ReservedWord reserved.Const) j e = cc
leads (kind.ReservedWord reserved.Type) j e = cc
leads (kind.ReservedWord reserved.Var) j e = cc
leads (kind.ReservedWord reserved.Procedure) j e = cc
leads (kind.ReservedWord reserved.If) j e = cc
leads (kind.ReservedWord reserved.Then) j e = cc
leads (kind.ReservedWord reserved.Elsif) j e = cc
leads (kind.ReservedWord reserved.Else) j e = cc
leads (kind.ReservedWord reserved.While) j e = cc
leads (kind.ReservedWord reserved.Do) j e = cc
leads (kind.ReservedWord reserved.Array) j e = cc
leads (kind.ReservedWord reserved.Of) j e = cc
leads (kind.ReservedWord reserved.Record) j e = cc
leads (kind.ReservedWord reserved.Div) j e = cc
leads (kind.ReservedWord reserved.Mod) j e = cc
leads (kind.ReservedWord reserved.Or) j e = cc
leads (kind.ReservedWord reserved.Repeat) j e = cc
leads (kind.ReservedWord reserved.Until) j e = cc
leads (kind.Symbol symbol.And) j e = cc
leads (kind.Symbol symbol.Times) j e = cc
leads (kind.Symbol symbol.Plus) j e = cc
leads (kind.Symbol symbol.Minus) j e = cc
leads (kind.Symbol symbol.Equal) j e = cc
leads (kind.Symbol symbol.NotEqual) j e = cc
leads (kind.Symbol symbol.Less) j e = cc
leads (kind.Symbol symbol.LessEqual) j e = cc
leads (kind.Symbol symbol.Greater) j e = cc
leads (kind.Symbol symbol.GreaterEqual) j e = cc
leads (kind.Symbol symbol.Not) j e = cc
leads (kind.Symbol symbol.Dot) j e = cc
leads (kind.Symbol symbol.Comma) j e = cc
leads (kind.Symbol symbol.Semicolon) j e = cc
leads (kind.Symbol symbol.Colon) j e = cc
leads (kind.Symbol symbol.Becomes) j e = cc
leads (kind.Symbol symbol.LeftParen) j e = cc
leads (kind.Symbol symbol.RightParen) j e = cc
leads (kind.Symbol symbol.LeftBracket) j e = cc
leads (kind.Symbol symbol.RightBracket) j e = cc

led : (x : Terminal ℕ) (j : TokenKind) → leader (terminal_rank x) ≡ Some j → x ≡ WordOrSymbol j
led (Name n) j e = cc
led (Number n) j e = cc
led (WordOrSymbol k) j e = ap WordOrSymbol (leads k j e)
led EndOfText j e = cc

-- If the only token with an item's rank isn't here, no such item begins here.
pub no_item : {k : TokenKind} {ts : List Token} {at : ℕ} (r : ℕ) → leader r ≡ Some k → IsTokenOtherThan (WordOrSymbol k) ts at → ¬ NextTokenHasRank r (remaining_terminals ts at)
no_item {k = k} {ts = ts} {at = at} r is o s =
    let t : terminal_rank o.fault ≡ r = subst (λ y. NextTokenHasRank r y) o.here s in
    o.differs (led o.fault k (ap leader t ∙ is))

pub no_named_item : {ts : List Token} {at : ℕ} → IsNotIdentifier ts at → ¬ NextTokenHasRank 7 (remaining_terminals ts at)
no_named_item {ts = ts} {at = at} o s = o.ranked (subst (λ y. NextTokenHasRank 7 y) o.here s)

-- If parts can't begin with the next token, and the descent over them stops there, they are refused
-- at that token.
pub fails_here : {ps : List ProductionPart} {ts : List Token} {at : ℕ} {e : ExpectedSyntax} (x : Terminal ℕ) → at ≤ length ts → remaining_terminals ts at ≡ x ∷ remaining_terminals ts (at + 1) → DescentEndsWith ps ts at (Expects at e) → ((u : List (Terminal ℕ)) → BeginsWithParts ps (x ∷ u) → ⊥) → FailsToRead ps ts at (Syntax at e)
fails_here x l here reads never = record { why = (l, at_once here never); reads = reads }

-- If the next token isn't this part, the descent stops there and expects the part.
pub stops_here : {p : ProductionPart} {x : Terminal ℕ} {e : ExpectedSyntax} (ts : List Token) (at : ℕ) → remaining_terminals ts at ≡ x ∷ remaining_terminals ts (at + 1) → ¬ MatchesPart p x → syntax_expected_for_part p ≡ Some e → DescentEndsWith (p ∷ []) ts at (Expects at e)
stops_here {p = p} {e = e} ts at here differs is more = subst (λ w. Descends (p ∷ more) at w (Expects at e)) (sym here) (other differs is)

pub fails_token : {k : TokenKind} {ts : List Token} {at : ℕ} {x : ExpectedSyntax} → syntax_expected_for_kind k ≡ Some x → IsTokenOtherThan (WordOrSymbol k) ts at → FailsToRead (token k ∷ []) ts at (Syntax at x)
fails_token is o = fails_here o.fault o.within o.here (stops_here _ _ o.here o.differs is) (λ u b. o.differs (cc (b.1)))

pub fails_name : {ts : List Token} {at : ℕ} → IsNotIdentifier ts at → FailsToRead (name ∷ []) ts at (Syntax at expected.Identifier)
fails_name o = fails_here o.fault o.within o.here (stops_here _ _ o.here (λ p. o.ranked (ap terminal_rank p.1)) refl) (λ u b. let is : o.fault ≡ Name b.0 = cc (b.2) in o.ranked (ap terminal_rank is))

some_none : {e : ParseRefusal} → ◌≡◌ {A = Option ParseRefusal} (Some e) None → ⊥
some_none q = cc

inside : {a b : ParseRefusal} → Some a ≡ Some b → a ≡ b
inside q = cc

-- If a token is missing, all parts that begin with that token are refused.
pub fails_in_token : {k : TokenKind} {ps : List ProductionPart} {ts : List Token} {at : ℕ} {e : ParseRefusal} → IsTokenOtherThan (WordOrSymbol k) ts at × (Some e ≡ option_map (Syntax at) (syntax_expected_for_kind k)) → FailsToRead (token k ∷ ps) ts at e
fails_in_token {k = k} {ps = ps} {ts = ts} {at = at} {e = e} q = go (syntax_expected_for_kind k) refl q.1
  where
    go : (x : Option ExpectedSyntax) → syntax_expected_for_kind k ≡ x → Some e ≡ option_map (Syntax at) x → FailsToRead (token k ∷ ps) ts at e
    go None is same = absurd (some_none same)
    go (Some x) is same = subst (λ e. FailsToRead (token k ∷ ps) ts at e) (sym (inside same)) (fails_by (λ o r more. r (ps ++ more)) (λ after r. in_token r) (fails_token is q.0))

pub fails_in_name : {ps : List ProductionPart} {ts : List Token} {at : ℕ} {e : ParseRefusal} → IsNotIdentifier ts at × (e ≡ Syntax at expected.Identifier) → FailsToRead (name ∷ ps) ts at e
fails_in_name {ps = ps} {ts = ts} {at = at} q = subst (λ e. FailsToRead (name ∷ ps) ts at e) (sym q.1) (fails_by (λ o r more. r (ps ++ more)) (λ after r. in_name r) (fails_name q.0))

positive : (x : Terminal ℕ) → 0 < terminal_rank x
positive (Name n) = omega arith
positive (Number n) = omega arith
positive EndOfText = omega arith
positive (WordOrSymbol kind.Identifier) = omega arith
positive (WordOrSymbol (kind.Integer _)) = omega arith
positive (WordOrSymbol (kind.ReservedWord reserved.Module)) = omega arith
positive (WordOrSymbol (kind.ReservedWord reserved.Begin)) = omega arith
positive (WordOrSymbol (kind.ReservedWord reserved.End)) = omega arith
positive (WordOrSymbol (kind.ReservedWord reserved.Const)) = omega arith
positive (WordOrSymbol (kind.ReservedWord reserved.Type)) = omega arith
positive (WordOrSymbol (kind.ReservedWord reserved.Var)) = omega arith
positive (WordOrSymbol (kind.ReservedWord reserved.Procedure)) = omega arith
positive (WordOrSymbol (kind.ReservedWord reserved.If)) = omega arith
positive (WordOrSymbol (kind.ReservedWord reserved.Then)) = omega arith
positive (WordOrSymbol (kind.ReservedWord reserved.Elsif)) = omega arith
positive (WordOrSymbol (kind.ReservedWord reserved.Else)) = omega arith
positive (WordOrSymbol (kind.ReservedWord reserved.While)) = omega arith
positive (WordOrSymbol (kind.ReservedWord reserved.Do)) = omega arith
positive (WordOrSymbol (kind.ReservedWord reserved.Array)) = omega arith
positive (WordOrSymbol (kind.ReservedWord reserved.Of)) = omega arith
positive (WordOrSymbol (kind.ReservedWord reserved.Record)) = omega arith
positive (WordOrSymbol (kind.ReservedWord reserved.Div)) = omega arith
positive (WordOrSymbol (kind.ReservedWord reserved.Mod)) = omega arith
positive (WordOrSymbol (kind.ReservedWord reserved.Or)) = omega arith
positive (WordOrSymbol (kind.ReservedWord reserved.Repeat)) = omega arith
positive (WordOrSymbol (kind.ReservedWord reserved.Until)) = omega arith
positive (WordOrSymbol (kind.Symbol symbol.And)) = omega arith
positive (WordOrSymbol (kind.Symbol symbol.Times)) = omega arith
positive (WordOrSymbol (kind.Symbol symbol.Plus)) = omega arith
positive (WordOrSymbol (kind.Symbol symbol.Minus)) = omega arith
positive (WordOrSymbol (kind.Symbol symbol.Equal)) = omega arith
positive (WordOrSymbol (kind.Symbol symbol.NotEqual)) = omega arith
positive (WordOrSymbol (kind.Symbol symbol.Less)) = omega arith
positive (WordOrSymbol (kind.Symbol symbol.LessEqual)) = omega arith
positive (WordOrSymbol (kind.Symbol symbol.Greater)) = omega arith
positive (WordOrSymbol (kind.Symbol symbol.GreaterEqual)) = omega arith
positive (WordOrSymbol (kind.Symbol symbol.Not)) = omega arith
positive (WordOrSymbol (kind.Symbol symbol.Dot)) = omega arith
positive (WordOrSymbol (kind.Symbol symbol.Comma)) = omega arith
positive (WordOrSymbol (kind.Symbol symbol.Semicolon)) = omega arith
positive (WordOrSymbol (kind.Symbol symbol.Colon)) = omega arith
positive (WordOrSymbol (kind.Symbol symbol.Becomes)) = omega arith
positive (WordOrSymbol (kind.Symbol symbol.LeftParen)) = omega arith
positive (WordOrSymbol (kind.Symbol symbol.RightParen)) = omega arith
positive (WordOrSymbol (kind.Symbol symbol.LeftBracket)) = omega arith
positive (WordOrSymbol (kind.Symbol symbol.RightBracket)) = omega arith

-- A construct of level 0 is never continued.
pub stops_zero : (x : List (Terminal ℕ)) → NextTokenEndsConstruct 0 x
stops_zero [] = tt
stops_zero (c ∷ x) = positive c

pub only_zero : {s : Sort} (t u : Tree ℕ s) (z w : List (Terminal ℕ)) → max_continuing_rank s ≡ 0 → NextTokenEndsConstruct (max_continuing_rank s) z → spell u ++ z ≡ spell t ++ w → (u ≡ t) × (z ≡ w)
only_zero t u z w is p e = same u t z w p (subst (λ n. NextTokenEndsConstruct n w) (sym is) (stops_zero w)) e
