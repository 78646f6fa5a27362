-- Computes the end of a descent in at most a given number of steps (`stop_of`). Proves that a
-- computed end is the end that `Descends` defines.
use Rattle.std.proofs.Common.{◌≡◌, ◌==◌, ℕ, zero, suc, ◌+◌, Bool, true, false, Option, Some, None, List, [], ◌∷◌, ◌++◌, refl, sym, ◌∙◌, ap, subst, eqb-true, eq-eqb, true≢false, if◌then◌else◌}
use Rattle.ob0_scan.specs.declared.lexeme.TokenKind.TheVariants as kind
use Rattle.ob0_scan.specs.declared.lexeme.ReservedWord.{ReservedWord}
use Rattle.ob0_scan.specs.declared.lexeme.ReservedWord.TheVariants as reserved
use Rattle.ob0_scan.specs.declared.lexeme.Symbol.{Symbol}
use Rattle.ob0_scan.specs.declared.lexeme.Symbol.TheVariants as symbol
use Rattle.ob0_tree.specs.Terminals.{Terminal, Name, Number, WordOrSymbol, EndOfText}
use Rattle.ob0_tree.specs.Tree.{Sort}
use Rattle.ob0_parse_descent.specs.Descent.{ProductionPart, token, name, number, nonterminal, text_end, ProductionChoice, parts, missing, too_deep, chosen_production, DescentEnd, Done, Expects, TooDeepAt, Descends, done, taken, other, made, absent, deep}
use Rattle.ob0_parse_descent.specs.declared.refusal.ExpectedSyntax.TheVariants as expected

-- Numbers the reserved words and symbols, so that they can be compared.

abbrev pub word_code : ReservedWord → ℕ
word_code reserved.Module = 0
word_code reserved.Begin = 1
word_code reserved.End = 2
word_code reserved.Const = 3
word_code reserved.Type = 4
word_code reserved.Var = 5
word_code reserved.Procedure = 6
word_code reserved.If = 7
word_code reserved.Then = 8
word_code reserved.Elsif = 9
word_code reserved.Else = 10
word_code reserved.While = 11
word_code reserved.Do = 12
word_code reserved.Array = 13
word_code reserved.Of = 14
word_code reserved.Record = 15
word_code reserved.Div = 16
word_code reserved.Mod = 17
word_code reserved.Or = 18
word_code reserved.Repeat = 19
word_code reserved.Until = 20

abbrev word_at : ℕ → ReservedWord
word_at n =
    if n == 0 then reserved.Module else
    if n == 1 then reserved.Begin else
    if n == 2 then reserved.End else
    if n == 3 then reserved.Const else
    if n == 4 then reserved.Type else
    if n == 5 then reserved.Var else
    if n == 6 then reserved.Procedure else
    if n == 7 then reserved.If else
    if n == 8 then reserved.Then else
    if n == 9 then reserved.Elsif else
    if n == 10 then reserved.Else else
    if n == 11 then reserved.While else
    if n == 12 then reserved.Do else
    if n == 13 then reserved.Array else
    if n == 14 then reserved.Of else
    if n == 15 then reserved.Record else
    if n == 16 then reserved.Div else
    if n == 17 then reserved.Mod else
    if n == 18 then reserved.Or else
    if n == 19 then reserved.Repeat else
    reserved.Until

word_back : (w : ReservedWord) → word_at (word_code w) ≡ w
word_back reserved.Module = refl
word_back reserved.Begin = refl
word_back reserved.End = refl
word_back reserved.Const = refl
word_back reserved.Type = refl
word_back reserved.Var = refl
word_back reserved.Procedure = refl
word_back reserved.If = refl
word_back reserved.Then = refl
word_back reserved.Elsif = refl
word_back reserved.Else = refl
word_back reserved.While = refl
word_back reserved.Do = refl
word_back reserved.Array = refl
word_back reserved.Of = refl
word_back reserved.Record = refl
word_back reserved.Div = refl
word_back reserved.Mod = refl
word_back reserved.Or = refl
word_back reserved.Repeat = refl
word_back reserved.Until = refl

abbrev pub sign_code : Symbol → ℕ
sign_code symbol.And = 0
sign_code symbol.Times = 1
sign_code symbol.Plus = 2
sign_code symbol.Minus = 3
sign_code symbol.Equal = 4
sign_code symbol.NotEqual = 5
sign_code symbol.Less = 6
sign_code symbol.LessEqual = 7
sign_code symbol.Greater = 8
sign_code symbol.GreaterEqual = 9
sign_code symbol.Not = 10
sign_code symbol.Dot = 11
sign_code symbol.Comma = 12
sign_code symbol.Semicolon = 13
sign_code symbol.Colon = 14
sign_code symbol.Becomes = 15
sign_code symbol.LeftParen = 16
sign_code symbol.RightParen = 17
sign_code symbol.LeftBracket = 18
sign_code symbol.RightBracket = 19

abbrev sign_at : ℕ → Symbol
sign_at n =
    if n == 0 then symbol.And else
    if n == 1 then symbol.Times else
    if n == 2 then symbol.Plus else
    if n == 3 then symbol.Minus else
    if n == 4 then symbol.Equal else
    if n == 5 then symbol.NotEqual else
    if n == 6 then symbol.Less else
    if n == 7 then symbol.LessEqual else
    if n == 8 then symbol.Greater else
    if n == 9 then symbol.GreaterEqual else
    if n == 10 then symbol.Not else
    if n == 11 then symbol.Dot else
    if n == 12 then symbol.Comma else
    if n == 13 then symbol.Semicolon else
    if n == 14 then symbol.Colon else
    if n == 15 then symbol.Becomes else
    if n == 16 then symbol.LeftParen else
    if n == 17 then symbol.RightParen else
    if n == 18 then symbol.LeftBracket else
    symbol.RightBracket

sign_back : (w : Symbol) → sign_at (sign_code w) ≡ w
sign_back symbol.And = refl
sign_back symbol.Times = refl
sign_back symbol.Plus = refl
sign_back symbol.Minus = refl
sign_back symbol.Equal = refl
sign_back symbol.NotEqual = refl
sign_back symbol.Less = refl
sign_back symbol.LessEqual = refl
sign_back symbol.Greater = refl
sign_back symbol.GreaterEqual = refl
sign_back symbol.Not = refl
sign_back symbol.Dot = refl
sign_back symbol.Comma = refl
sign_back symbol.Semicolon = refl
sign_back symbol.Colon = refl
sign_back symbol.Becomes = refl
sign_back symbol.LeftParen = refl
sign_back symbol.RightParen = refl
sign_back symbol.LeftBracket = refl
sign_back symbol.RightBracket = refl

-- Returns true if the token is this reserved word.
abbrev pub is_word : ReservedWord → Terminal ℕ → Bool
is_word w (WordOrSymbol (kind.ReservedWord v)) = word_code w == word_code v
is_word w x = false

abbrev pub is_sign : Symbol → Terminal ℕ → Bool
is_sign w (WordOrSymbol (kind.Symbol v)) = sign_code w == sign_code v
is_sign w x = false

abbrev pub stop_of : ℕ → List ProductionPart → ℕ → List (Terminal ℕ) → Option DescentEnd
stop_of zero ps i tokens = None
stop_of (suc n) [] i tokens = Some Done
stop_of (suc n) (nonterminal s room ∷ ps) i tokens =
    elim (chosen_production s room tokens) as (λ c. Option DescentEnd) [ parts qs ↦ stop_of n (qs ++ ps) i tokens | missing e ↦ Some (Expects i e) | too_deep ↦ Some (TooDeepAt i) ]
stop_of (suc n) (token (kind.ReservedWord w) ∷ ps) i (x ∷ tokens) =
    elim (is_word w x) as (λ b. Option DescentEnd) [ true ↦ stop_of n ps (i + 1) tokens | false ↦ Some (Expects i (expected.Word w)) ]
stop_of (suc n) (token (kind.Symbol w) ∷ ps) i (x ∷ tokens) =
    elim (is_sign w x) as (λ b. Option DescentEnd) [ true ↦ stop_of n ps (i + 1) tokens | false ↦ Some (Expects i (expected.Symbol w)) ]
stop_of (suc n) (name ∷ ps) i (Name m ∷ tokens) = stop_of n ps (i + 1) tokens
stop_of (suc n) (name ∷ ps) i (Number m ∷ tokens) = Some (Expects i expected.Identifier)
stop_of (suc n) (name ∷ ps) i (WordOrSymbol k ∷ tokens) = Some (Expects i expected.Identifier)
stop_of (suc n) (name ∷ ps) i (EndOfText ∷ tokens) = Some (Expects i expected.Identifier)
stop_of (suc n) (number ∷ ps) i (Number m ∷ tokens) = stop_of n ps (i + 1) tokens
stop_of (suc n) (text_end ∷ ps) i (EndOfText ∷ tokens) = stop_of n ps (i + 1) tokens
stop_of (suc n) (text_end ∷ ps) i (Name m ∷ tokens) = Some (Expects i expected.EndOfText)
stop_of (suc n) (text_end ∷ ps) i (Number m ∷ tokens) = Some (Expects i expected.EndOfText)
stop_of (suc n) (text_end ∷ ps) i (WordOrSymbol k ∷ tokens) = Some (Expects i expected.EndOfText)
stop_of (suc n) (p ∷ ps) i tokens = None

none_some : {o : DescentEnd} → ◌≡◌ {A = Option DescentEnd} None (Some o) → ⊥
none_some e = cc

same_stop : {a b : DescentEnd} → Some a ≡ Some b → a ≡ b
same_stop e = cc

word_is : (w : ReservedWord) (x : Terminal ℕ) → is_word w x ≡ true → x ≡ WordOrSymbol (kind.ReservedWord w)
word_is w (WordOrSymbol (kind.ReservedWord v)) e = ap (λ u. WordOrSymbol (kind.ReservedWord u)) (sym (word_back v) ∙ (ap word_at (sym (eqb-true (word_code w) (word_code v) e)) ∙ word_back w))
word_is w x e = absurd (true≢false (sym e))

word_isnt : (w : ReservedWord) (x : Terminal ℕ) → is_word w x ≡ false → x ≡ WordOrSymbol (kind.ReservedWord w) → ⊥
word_isnt w x e is = true≢false (sym (eq-eqb (word_code w) (word_code w) refl) ∙ (ap (is_word w) (sym is) ∙ e))

sign_is : (w : Symbol) (x : Terminal ℕ) → is_sign w x ≡ true → x ≡ WordOrSymbol (kind.Symbol w)
sign_is w (WordOrSymbol (kind.Symbol v)) e = ap (λ u. WordOrSymbol (kind.Symbol u)) (sym (sign_back v) ∙ (ap sign_at (sym (eqb-true (sign_code w) (sign_code v) e)) ∙ sign_back w))
sign_is w x e = absurd (true≢false (sym e))

sign_isnt : (w : Symbol) (x : Terminal ℕ) → is_sign w x ≡ false → x ≡ WordOrSymbol (kind.Symbol w) → ⊥
sign_isnt w x e is = true≢false (sym (eq-eqb (sign_code w) (sign_code w) refl) ∙ (ap (is_sign w) (sym is) ∙ e))

module _ (n : ℕ) (further : (ps : List ProductionPart) (i : ℕ) (tokens : List (Terminal ℕ)) (o : DescentEnd) → stop_of n ps i tokens ≡ Some o → Descends ps i tokens o) where
  by_choice : (s : Sort) (room : ℕ) (ps : List ProductionPart) (i : ℕ) (tokens : List (Terminal ℕ)) (o : DescentEnd) (c : ProductionChoice) → chosen_production s room tokens ≡ c
      → elim c as (λ c. Option DescentEnd) [ parts qs ↦ stop_of n (qs ++ ps) i tokens | missing e ↦ Some (Expects i e) | too_deep ↦ Some (TooDeepAt i) ] ≡ Some o → Descends (nonterminal s room ∷ ps) i tokens o
  by_choice s room ps i tokens o (parts qs) c e = made qs c (further (qs ++ ps) i tokens o e)
  by_choice s room ps i tokens o (missing x) c e = subst (λ y. Descends (nonterminal s room ∷ ps) i tokens y) (same_stop e) (absent c)
  by_choice s room ps i tokens o too_deep c e = subst (λ y. Descends (nonterminal s room ∷ ps) i tokens y) (same_stop e) (deep c)

  by_word : (w : ReservedWord) (ps : List ProductionPart) (i : ℕ) (x : Terminal ℕ) (tokens : List (Terminal ℕ)) (o : DescentEnd) (b : Bool) → is_word w x ≡ b
      → elim b as (λ b. Option DescentEnd) [ true ↦ stop_of n ps (i + 1) tokens | false ↦ Some (Expects i (expected.Word w)) ] ≡ Some o → Descends (token (kind.ReservedWord w) ∷ ps) i (x ∷ tokens) o
  by_word w ps i x tokens o true is e = taken (word_is w x is) (further ps (i + 1) tokens o e)
  by_word w ps i x tokens o false is e = subst (λ y. Descends (token (kind.ReservedWord w) ∷ ps) i (x ∷ tokens) y) (same_stop e) (other (word_isnt w x is) refl)

  by_sign : (w : Symbol) (ps : List ProductionPart) (i : ℕ) (x : Terminal ℕ) (tokens : List (Terminal ℕ)) (o : DescentEnd) (b : Bool) → is_sign w x ≡ b
      → elim b as (λ b. Option DescentEnd) [ true ↦ stop_of n ps (i + 1) tokens | false ↦ Some (Expects i (expected.Symbol w)) ] ≡ Some o → Descends (token (kind.Symbol w) ∷ ps) i (x ∷ tokens) o
  by_sign w ps i x tokens o true is e = taken (sign_is w x is) (further ps (i + 1) tokens o e)
  by_sign w ps i x tokens o false is e = subst (λ y. Descends (token (kind.Symbol w) ∷ ps) i (x ∷ tokens) y) (same_stop e) (other (sign_isnt w x is) refl)

  by_name : (ps : List ProductionPart) (i : ℕ) (tokens : List (Terminal ℕ)) (o : DescentEnd) → stop_of (suc n) (name ∷ ps) i tokens ≡ Some o → Descends (name ∷ ps) i tokens o
  by_name ps i [] o e = absurd (none_some e)
  by_name ps i (Name m ∷ tokens) o e = taken (m, refl) (further ps (i + 1) tokens o e)
  by_name ps i (x ∷ tokens) o e = subst (λ y. Descends (name ∷ ps) i (x ∷ tokens) y) (same_stop e) (other (λ p. cc (p.1)) refl)

  by_number : (ps : List ProductionPart) (i : ℕ) (tokens : List (Terminal ℕ)) (o : DescentEnd) → stop_of (suc n) (number ∷ ps) i tokens ≡ Some o → Descends (number ∷ ps) i tokens o
  by_number ps i (Number m ∷ tokens) o e = taken (m, refl) (further ps (i + 1) tokens o e)
  by_number ps i tokens o e = absurd (none_some e)

  by_finish : (ps : List ProductionPart) (i : ℕ) (tokens : List (Terminal ℕ)) (o : DescentEnd) → stop_of (suc n) (text_end ∷ ps) i tokens ≡ Some o → Descends (text_end ∷ ps) i tokens o
  by_finish ps i [] o e = absurd (none_some e)
  by_finish ps i (EndOfText ∷ tokens) o e = taken refl (further ps (i + 1) tokens o e)
  by_finish ps i (x ∷ tokens) o e = subst (λ y. Descends (text_end ∷ ps) i (x ∷ tokens) y) (same_stop e) (other (λ p. cc p) refl)

pub computed : (n : ℕ) (ps : List ProductionPart) (i : ℕ) (tokens : List (Terminal ℕ)) (o : DescentEnd) → stop_of n ps i tokens ≡ Some o → Descends ps i tokens o
computed zero ps i tokens o e = absurd (none_some e)
computed (suc n) [] i tokens o e = subst (λ y. Descends [] i tokens y) (same_stop e) done
computed (suc n) (nonterminal s room ∷ ps) i tokens o e = by_choice n (computed n) s room ps i tokens o (chosen_production s room tokens) refl e
computed (suc n) (token (kind.ReservedWord w) ∷ ps) i (x ∷ tokens) o e = by_word n (computed n) w ps i x tokens o (is_word w x) refl e
computed (suc n) (token (kind.Symbol w) ∷ ps) i (x ∷ tokens) o e = by_sign n (computed n) w ps i x tokens o (is_sign w x) refl e
computed (suc n) (name ∷ ps) i tokens o e = by_name n (computed n) ps i tokens o e
computed (suc n) (number ∷ ps) i tokens o e = by_number n (computed n) ps i tokens o e
computed (suc n) (text_end ∷ ps) i tokens o e = by_finish n (computed n) ps i tokens o e
computed (suc n) (p ∷ ps) i tokens o e = absurd (none_some e)
