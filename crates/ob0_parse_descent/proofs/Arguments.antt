-- Proves that the arguments of a call are read and refused correctly.
use Rattle.std.proofs.Common.{◌≡◌, ℕ, ◌+◌, ◌<◌, Option, Some, None, Bool, true, false, List, [], ◌∷◌, ◌++◌, length, refl, sym, ◌∙◌, ap, subst, arith, append_assoc, if◌then◌else◌}
use Rattle.ob0_scan.specs.declared.lexeme.TokenKind.{TokenKind}
use Rattle.ob0_scan.specs.declared.lexeme.TokenKind.TheVariants as kind
use Rattle.ob0_scan.specs.declared.lexeme.Symbol.TheVariants as symbol
use Rattle.ob0_scan.specs.declared.lexeme.Token.{Token}
use Rattle.ob0_tree.specs.Terminals.{Terminal, Name, Number, WordOrSymbol, EndOfText}
use Rattle.ob0_tree.specs.Tree.{arguments, argument_after_comma, expression, simple, term, factor, compares, sum, product, designator, integer, parenthesised, negation, no_arguments, some_arguments, item, items, Tree, spell, single_token_list}
use Rattle.ob0_parse_descent.specs.TokenRanks.{NextTokenHasRank, may_begin_expression}
use Rattle.ob0_parse_descent.specs.ParserPromises.{remaining_terminals, terminal_or_end, ProductionPart, token, nonterminal, BeginsWithParts, HaveSameFirstToken, DescentsHaveSameEnd, IsReadTree, FailsToRead, ItemBeginsButCantBeRead, IsReadList}
use Rattle.ob0_parse_descent.specs.Descent.{parts, symbol_part, is_expression_next}
use Rattle.ob0_parse_descent.proofs.Descent.{both, by, read_mark, read_led}
use Rattle.ob0_parse_descent.specs.declared.refusal.ParseRefusal.{ParseRefusal}
use Rattle.ob0_parse_descent.proofs.Unique.{stops_closed, tail_of, head_of}
use Rattle.ob0_parse_descent.proofs.Refusals.{fails_following_alike}
use Rattle.ob0_parse_descent.proofs.Expressions.{joined}
use Rattle.ob0_parse_descent.proofs.Leads.{only_zero}
use Rattle.ob0_tree.specs.declared.tree.Expression.{Expression}
use Rattle.ob0_tree.specs.declared.tree.Sign.TheVariants as signs
use Rattle.ob0_tree.specs.View.{expression_of, argument_after_comma_of, arguments_of_list, items_of}
use Rattle.ob0_parse_descent.proofs.OneToken.{mark_is}

-- Returns true if an expression may begin with this token.
abbrev opening : Terminal ℕ → Bool
opening (Name n) = true
opening (Number n) = true
opening (WordOrSymbol k) = may_begin_expression (Some k)
opening EndOfText = false

opening_at : (i : ℕ) (f : Option TokenKind) → opening (terminal_or_end i f) ≡ may_begin_expression f
opening_at i None = refl
opening_at i (Some kind.Identifier) = refl
opening_at i (Some (kind.Integer _)) = refl
opening_at i (Some _) = refl

next_opening : (x : Terminal ℕ) (w : List (Terminal ℕ)) → is_expression_next (x ∷ w) ≡ opening x
next_opening (Name n) w = refl
next_opening (Number n) w = refl
next_opening (WordOrSymbol k) w = refl
next_opening EndOfText w = refl

-- If the tokens begin with a factor, an expression may begin with them.
factor_next : (f : Tree ℕ factor) (x : List (Terminal ℕ)) → is_expression_next (spell f ++ x) ≡ true
factor_next (designator n ss) x = refl
factor_next (integer n) x = refl
factor_next (parenthesised t) x = refl
factor_next (negation f) x = refl

term_next : (t : Tree ℕ term) (x : List (Terminal ℕ)) → is_expression_next (spell t ++ x) ≡ true
term_next (product f fs) x = ap is_expression_next (append_assoc (spell f) (spell fs) x) ∙ factor_next f (spell fs ++ x)

simple_next : (t : Tree ℕ simple) (x : List (Terminal ℕ)) → is_expression_next (spell t ++ x) ≡ true
simple_next (sum None t ts) x = ap is_expression_next (append_assoc (spell t) (spell ts) x) ∙ term_next t (spell ts ++ x)
simple_next (sum (Some signs.Plus) t ts) x = refl
simple_next (sum (Some signs.Minus) t ts) x = refl

pub tree_next : (t : Tree ℕ expression) (x : List (Terminal ℕ)) → is_expression_next (spell t ++ x) ≡ true
tree_next (compares a c) x = ap is_expression_next (append_assoc (spell a) (spell c) x) ∙ simple_next a (spell c ++ x)

opens : (t : Tree ℕ expression) (y : Terminal ℕ) (x z : List (Terminal ℕ)) → spell t ++ x ≡ y ∷ z → opening y ≡ true
opens t y x z e = sym (next_opening y z) ∙ (ap is_expression_next (sym e) ∙ tree_next t x)

true_false : {b : Bool} → b ≡ true → b ≡ false → ⊥
true_false p q = let e = sym p ∙ q in cc

-- The token after `(` determines the production of the arguments.
arguments_read : {room : ℕ} {ts : List Token} {at : ℕ} {b : Bool} → is_expression_next (remaining_terminals ts (at + 1)) ≡ b → remaining_terminals ts at ≡ WordOrSymbol (kind.Symbol symbol.LeftParen) ∷ remaining_terminals ts (at + 1)
    → DescentsHaveSameEnd (nonterminal (item arguments) room ∷ []) (if b then nonterminal expression room ∷ nonterminal (items argument_after_comma) room ∷ token (kind.Symbol symbol.RightParen) ∷ [] else token (kind.Symbol symbol.RightParen) ∷ []) ts at (at + 1)
arguments_read {room = room} {ts = ts} {at = at} {b = true} e here = read_led (nonterminal expression room ∷ nonterminal (items argument_after_comma) room ∷ token (kind.Symbol symbol.RightParen) ∷ [])
    (ap (λ b. if b then parts (symbol_part symbol.LeftParen ∷ nonterminal expression room ∷ nonterminal (items argument_after_comma) room ∷ symbol_part symbol.RightParen ∷ []) else parts (symbol_part symbol.LeftParen ∷ symbol_part symbol.RightParen ∷ [])) e) here
arguments_read {room = room} {ts = ts} {at = at} {b = false} e here = read_led (token (kind.Symbol symbol.RightParen) ∷ [])
    (ap (λ b. if b then parts (symbol_part symbol.LeftParen ∷ nonterminal expression room ∷ nonterminal (items argument_after_comma) room ∷ symbol_part symbol.RightParen ∷ []) else parts (symbol_part symbol.LeftParen ∷ symbol_part symbol.RightParen ∷ [])) e) here

expression_next : (ts : List Token) (at : ℕ) {b : Bool} (f : Option TokenKind) → may_begin_expression f ≡ b → remaining_terminals ts at ≡ terminal_or_end at f ∷ remaining_terminals ts (at + 1) → is_expression_next (remaining_terminals ts at) ≡ b
expression_next ts at f opened first = ap is_expression_next first ∙ (next_opening (terminal_or_end at f) (remaining_terminals ts (at + 1)) ∙ (opening_at at f ∙ opened))

abbrev pub arguments_following : ℕ → List ProductionPart
arguments_following room = nonterminal expression room ∷ nonterminal (items argument_after_comma) room ∷ token (kind.Symbol symbol.RightParen) ∷ []

-- If no expression can begin after `(`, `)` must come next.
none_parts : (room i : ℕ) (f : Option TokenKind) (xs z w : List (Terminal ℕ)) → may_begin_expression f ≡ false → xs ≡ terminal_or_end i f ∷ z → HaveSameFirstToken xs w → BeginsWithParts (nonterminal (item arguments) room ∷ []) (WordOrSymbol (kind.Symbol symbol.LeftParen) ∷ w) → BeginsWithParts (token (kind.Symbol symbol.RightParen) ∷ []) w
none_parts room i f xs y w closed here h (no_arguments, z, e, n, s, b) = (z, tail_of e, tt)
none_parts room i f xs y w closed here h (some_arguments a es, z, e, n, s, b) =
    let first : terminal_or_end i f ≡ h.head = head_of (sym here ∙ h.is) in
    absurd (true_false (opens a h.head _ h.other (sym (append_assoc (spell a) _ z) ∙ (sym (tail_of e) ∙ h.alike))) (ap opening (sym first) ∙ (opening_at i f ∙ closed)))

pub arguments_fail_none : {room : ℕ} {ts : List Token} {at : ℕ} {e : ParseRefusal} (f : Option TokenKind) → may_begin_expression f ≡ false → remaining_terminals ts (at + 1) ≡ terminal_or_end (at + 1) f ∷ remaining_terminals ts (at + 1 + 1) → remaining_terminals ts at ≡ WordOrSymbol (kind.Symbol symbol.LeftParen) ∷ remaining_terminals ts (at + 1) → FailsToRead (token (kind.Symbol symbol.RightParen) ∷ []) ts (at + 1) e → ItemBeginsButCantBeRead arguments room ts at e
arguments_fail_none {room = room} {ts = ts} {at = at} f closed first here q = record {
  is_here = subst (λ y. NextTokenHasRank 6 y) (sym here) refl;
  fails = fails_following_alike {qs = token (kind.Symbol symbol.RightParen) ∷ []} (arguments_read (expression_next ts (at + 1) f closed first) here) here (λ w h b. none_parts room (at + 1) f (remaining_terminals ts (at + 1)) _ w closed first h b) q;
}

some_parts : (room i : ℕ) (f : Option TokenKind) (xs z w : List (Terminal ℕ)) → may_begin_expression f ≡ true → xs ≡ terminal_or_end i f ∷ z → HaveSameFirstToken xs w → BeginsWithParts (nonterminal (item arguments) room ∷ []) (WordOrSymbol (kind.Symbol symbol.LeftParen) ∷ w) → BeginsWithParts (arguments_following room) w
some_parts room i f xs y w opened here h (no_arguments, z, e, n, s, b) =
    let first : terminal_or_end i f ≡ h.head = head_of (sym here ∙ h.is) in
    let close : h.head ≡ WordOrSymbol (kind.Symbol symbol.RightParen) = head_of (sym h.alike ∙ tail_of e) in
    absurd (true_false opened (ap may_begin_expression (mark_is f i (kind.Symbol symbol.RightParen) (first ∙ close))))
some_parts room i f xs y w opened here h (some_arguments a es, z, e, n, s, b) = (
  a,
  _,
  tail_of e ∙ append_assoc (spell a) _ z,
  omega arith,
  stops_closed es (kind.Symbol symbol.RightParen) z 4 (omega arith) (omega arith),
  (es, WordOrSymbol (kind.Symbol symbol.RightParen) ∷ z, append_assoc (spell es) (single_token_list (kind.Symbol symbol.RightParen)) z, omega arith, omega arith, (z, refl, tt)),
)

pub arguments_fail : {room : ℕ} {ts : List Token} {at : ℕ} {e : ParseRefusal} (f : Option TokenKind) → may_begin_expression f ≡ true → remaining_terminals ts (at + 1) ≡ terminal_or_end (at + 1) f ∷ remaining_terminals ts (at + 1 + 1) → remaining_terminals ts at ≡ WordOrSymbol (kind.Symbol symbol.LeftParen) ∷ remaining_terminals ts (at + 1) → FailsToRead (arguments_following room) ts (at + 1) e → ItemBeginsButCantBeRead arguments room ts at e
arguments_fail {room = room} {ts = ts} {at = at} f opened first here q = record {
  is_here = subst (λ y. NextTokenHasRank 6 y) (sym here) refl;
  fails = fails_following_alike {qs = arguments_following room} (arguments_read (expression_next ts (at + 1) f opened first) here) here (λ w h b. some_parts room (at + 1) f (remaining_terminals ts (at + 1)) _ w opened first h b) q;
}

pub taken_no_arguments : {room : ℕ} {ts : List Token} {at n : ℕ} → remaining_terminals ts at ≡ WordOrSymbol (kind.Symbol symbol.LeftParen) ∷ remaining_terminals ts (at + 1) → (remaining_terminals ts (at + 1) ≡ WordOrSymbol (kind.Symbol symbol.RightParen) ∷ remaining_terminals ts n) × (at + 1 < length ts) × (n ≡ at + 1 + 1) → IsReadTree no_arguments room ts at n
taken_no_arguments here close = record {
  spelled = here ∙ ap (λ y. WordOrSymbol (kind.Symbol symbol.LeftParen) ∷ y) close.0;
  shallow = omega arith;
  only = λ u z w h s e. only_zero no_arguments u z w refl s e;
  reads = by (arguments_read (ap is_expression_next close.0) here) (read_mark close);
  within = omega (arith, close.1, close.2);
  forward = omega (arith, close.2);
}

pub taken_arguments : {room : ℕ} {ts : List Token} {at m n : ℕ} (xs : List Expression) → remaining_terminals ts at ≡ WordOrSymbol (kind.Symbol symbol.LeftParen) ∷ remaining_terminals ts (at + 1) → IsReadList expression_of argument_after_comma_of xs room ts (at + 1) m → (remaining_terminals ts m ≡ WordOrSymbol (kind.Symbol symbol.RightParen) ∷ remaining_terminals ts n) × (m < length ts) × (n ≡ m + 1) → IsReadTree (arguments_of_list xs) room ts at n
taken_arguments {room = room} {ts = ts} {at = at} {n = n} xs here p close =
    let a = expression_of p.first in
    let es = items_of argument_after_comma_of p.others in
    subst (λ l. IsReadTree (arguments_of_list l) room ts at n) (sym p.is) record {
      spelled = here ∙ ap (λ y. WordOrSymbol (kind.Symbol symbol.LeftParen) ∷ y) (joined _ (spell a) _ p.head.spelled (joined _ (spell es) (single_token_list (kind.Symbol symbol.RightParen)) p.tail.spelled close.0));
      shallow = omega (arith, p.head.shallow, p.tail.shallow);
      only = λ u z w h s e. only_zero (some_arguments a es) u z w refl s e;
      reads = by (arguments_read (ap is_expression_next p.head.spelled ∙ tree_next a (remaining_terminals ts p.middle)) here) (both p.head.reads (both p.tail.reads (read_mark close)));
      within = omega (arith, close.1, close.2);
      forward = omega (arith, p.head.forward, p.tail.forward, close.2);
    }
