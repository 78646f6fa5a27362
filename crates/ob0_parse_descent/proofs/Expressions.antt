-- Proves that the productions of expressions are read and refused correctly.
use Rattle.std.proofs.Common.{◌≡◌, ℕ, ◌+◌, ◌<◌, ◌≤◌, Option, Some, None, List, [], ◌∷◌, ◌++◌, length, refl, sym, ◌∙◌, ap, subst, arith, append_assoc}
use Rattle.ob0_scan.specs.declared.lexeme.TokenKind.{TokenKind}
use Rattle.ob0_scan.specs.declared.lexeme.TokenKind.TheVariants as kind
use Rattle.ob0_scan.specs.declared.lexeme.Symbol.TheVariants as symbol
use Rattle.ob0_scan.specs.declared.lexeme.ReservedWord.TheVariants as reserved
use Rattle.ob0_scan.specs.declared.lexeme.Token.{Token}
use Rattle.ob0_tree.specs.declared.tree.Relation.{Relation}
use Rattle.ob0_tree.specs.declared.tree.Sign.{Sign}
use Rattle.ob0_tree.specs.declared.tree.Sign.TheVariants as sign
use Rattle.ob0_tree.specs.declared.tree.AddOperator.{AddOperator}
use Rattle.ob0_tree.specs.declared.tree.AddOperator.TheVariants as add_operator
use Rattle.ob0_tree.specs.declared.tree.MultiplyOperator.TheVariants as multiply_operator
use Rattle.ob0_tree.specs.declared.tree.Relation.TheVariants as relation
use Rattle.ob0_tree.specs.declared.tree.MultiplyOperator.{MultiplyOperator}
use Rattle.ob0_tree.specs.Terminals.{Terminal, Name, Number, WordOrSymbol, EndOfText, relation_token_kind, sign_token_kind, sign_tokens, add_operator_token_kind, multiply_operator_token_kind}
use Rattle.ob0_tree.specs.Tree.{GrammarItem, selector, multiplier, addend, comparison, Sort, item, items, maybe, expression, simple, term, factor, Tree, none, one, compares, relates, sum, adds, product, multiplies, designator, integer, parenthesised, negation, field, index, spell, single_token_list}
use Rattle.ob0_tree.specs.TokenIndexLeaves.{indexed_terminal}
use Rattle.ob0_parse_descent.specs.TokenRanks.{terminal_rank, kind_rank, item_start_rank, item_max_continuing_rank, NextTokenEndsConstruct, NextTokenHasRank}
use Rattle.ob0_parse_descent.specs.ParserPromises.{remaining_terminals, terminal_or_end, ProductionPart, token, name, nonterminal, BeginsWithParts, HaveSameFirstToken, CantBeginWithParts, DescentsHaveSameEnd, IsReadTree, DescentEndsWith, FailsToRead, IsSignAt, ItemBeginsButCantBeRead, BeginsWithoutSign, IsTokenOtherThan}
use Rattle.ob0_parse_descent.specs.declared.refusal.ParseRefusal.{ParseRefusal}
use Rattle.ob0_parse_descent.specs.declared.refusal.ParseRefusal.TheVariants.{Syntax, TooDeep}
use Rattle.ob0_parse_descent.proofs.Unique.{not_here, starts_item, stops_items, stops_maybe, stops_less, below, regroup, unsigned_term, tail_of, head_of, relation_rank, add_rank, multiply_rank, same_signs, same_relation, same_add, same_multiply, mark_of, name_of}
use Rattle.ob0_parse_descent.proofs.Unique as unique
use Rattle.ob0_parse_descent.proofs.Leads.{fails_here}
use Rattle.ob0_parse_descent.proofs.Refusals.{head_following, starts_back, fails_by, fails_weaken, fails_in, fails_pass, fails_following, fails_maybe, fails_pass_name, at_once, select}
use Rattle.ob0_parse_descent.proofs.Items.{Taking, taking_fails}
use Rattle.ob0_parse_descent.specs.Descent.{parts, missing, chosen_production, TooDeepAt, absent, deep, production_of_operator_and_operand}
use Rattle.ob0_parse_descent.specs.declared.refusal.ExpectedSyntax.TheVariants as expected
use Rattle.ob0_parse_descent.proofs.Descent.{as_is, both, by, read_token, read_name, read_number, read_mark, read_made, read_led, read_opened, read_one, read_none}
use Rattle.ob0_parse_descent.proofs.OneToken.{mark_is, name_is, number_is, rank_of}
use Rattle.ob0_parse_descent.proofs.Apart.{name_not_mark, name_not_number, number_not_mark, paren_not_tilde, dot_not_bracket, number_of}

-- If a list begins with a and its rest begins with b, the list begins with a followed by b.
pub joined : {A : Type 0} {x y : List A} (z a b : List A) → x ≡ a ++ y → y ≡ b ++ z → x ≡ (a ++ b) ++ z
joined z a b p q = p ∙ (ap (λ w. a ++ w) q ∙ sym (append_assoc a b z))

-- If the next token has the rank of an item, that item begins here.
starts_at : (at : ℕ) (k : TokenKind) {r : ℕ} {xs : List (Terminal ℕ)} (z : List (Terminal ℕ)) → xs ≡ indexed_terminal at k ∷ z → kind_rank k ≡ r → NextTokenHasRank r xs
starts_at at k {r = r} z here is = subst (λ y. NextTokenHasRank r y) (sym here) (rank_of at k ∙ is)

-- The token of a relation is the same whatever its index.
relation_mark_lexeme : (o : Relation) (i : ℕ) (z : List (Terminal ℕ)) → indexed_terminal i (relation_token_kind o) ∷ z ≡ WordOrSymbol (relation_token_kind o) ∷ z
relation_mark_lexeme relation.Equal i z = refl
relation_mark_lexeme relation.NotEqual i z = refl
relation_mark_lexeme relation.Less i z = refl
relation_mark_lexeme relation.LessEqual i z = refl
relation_mark_lexeme relation.Greater i z = refl
relation_mark_lexeme relation.GreaterEqual i z = refl

add_mark_lexeme : (o : AddOperator) (i : ℕ) (z : List (Terminal ℕ)) → indexed_terminal i (add_operator_token_kind o) ∷ z ≡ WordOrSymbol (add_operator_token_kind o) ∷ z
add_mark_lexeme add_operator.Add i z = refl
add_mark_lexeme add_operator.Subtract i z = refl
add_mark_lexeme add_operator.Or i z = refl

multiply_mark_lexeme : (o : MultiplyOperator) (i : ℕ) (z : List (Terminal ℕ)) → indexed_terminal i (multiply_operator_token_kind o) ∷ z ≡ WordOrSymbol (multiply_operator_token_kind o) ∷ z
multiply_mark_lexeme multiply_operator.Multiply i z = refl
multiply_mark_lexeme multiply_operator.Divide i z = refl
multiply_mark_lexeme multiply_operator.Modulo i z = refl
multiply_mark_lexeme multiply_operator.And i z = refl

-- The descent reads an item that is an operator and its right side.
read_operator : {i : GrammarItem} {s : Sort} {room : ℕ} {ts : List Token} {at : ℕ} (j k : TokenKind) → j ≡ k → ((z : List (Terminal ℕ)) → indexed_terminal at k ∷ z ≡ WordOrSymbol k ∷ z) → chosen_production (item i) room (WordOrSymbol k ∷ remaining_terminals ts (at + 1)) ≡ production_of_operator_and_operand s room (WordOrSymbol k ∷ remaining_terminals ts (at + 1)) → remaining_terminals ts at ≡ indexed_terminal at j ∷ remaining_terminals ts (at + 1) → DescentsHaveSameEnd (nonterminal (item i) room ∷ []) (nonterminal s room ∷ []) ts at (at + 1)
read_operator {s = s} {room = room} {ts = ts} {at = at} j k is single_token_list c here = read_led (nonterminal s room ∷ []) c (subst (λ y. remaining_terminals ts at ≡ indexed_terminal at y ∷ remaining_terminals ts (at + 1)) is here ∙ single_token_list (remaining_terminals ts (at + 1)))

-- Lemmas on expressions: `simple [relation simple]`.

-- If a tree was read, its tokens begin with the same token as before, even if other tokens follow
-- the next token.
pub head_at : {s : Sort} {room : ℕ} {ts : List Token} {m n : ℕ} (c : Tree ℕ s) → IsReadTree c room ts m n → (w : List (Terminal ℕ)) → HaveSameFirstToken (remaining_terminals ts n) w → HaveSameFirstToken (remaining_terminals ts m) (spell c ++ w)
head_at {ts = ts} {n = n} c q w h = subst (λ y. HaveSameFirstToken y (spell c ++ w)) (sym q.spelled) (head_following (spell c) (remaining_terminals ts n) w h)

no_item_only : {i : GrammarItem} (xs : List (Terminal ℕ)) → ¬ NextTokenHasRank (item_start_rank i) xs → (u : Tree ℕ (maybe i)) (z w : List (Terminal ℕ)) → HaveSameFirstToken xs w → NextTokenEndsConstruct (item_start_rank i) z → spell u ++ z ≡ w → (u ≡ none) × (z ≡ w)
no_item_only xs lacks none z w h s e = (refl, e)
no_item_only {i = i} xs lacks (one t) z w h s e = absurd (lacks (starts_back xs w (item_start_rank i) h (subst (λ y. NextTokenHasRank (item_start_rank i) y) e (starts_item t z))))

pub taken_no_item : (i : GrammarItem) (room : ℕ) (ts : List Token) (at : ℕ) → at ≤ length ts → ¬ NextTokenHasRank (item_start_rank i) (remaining_terminals ts at) → IsReadTree (none {i = i}) room ts at at
taken_no_item i room ts at p lacks = record { spelled = refl; shallow = omega arith; only = no_item_only (remaining_terminals ts at) lacks; reads = read_none lacks; within = p; forward = omega arith }

item_only : {i : GrammarItem} {room : ℕ} {ts : List Token} {at n : ℕ} (t : Tree ℕ (item i)) → IsReadTree t room ts at n → (u : Tree ℕ (maybe i)) (z w : List (Terminal ℕ)) → HaveSameFirstToken (remaining_terminals ts n) w → NextTokenEndsConstruct (item_start_rank i) z → spell u ++ z ≡ spell t ++ w → (u ≡ one t) × (z ≡ w)
item_only t p none z w h s e = absurd (not_here t z w s e)
item_only {i = i} t p (one u) z w h s e = let r = p.only u z w h (stops_less z (item_max_continuing_rank i) (item_start_rank i) (omega (arith, below i)) s) e in (ap one r.0, r.1)

pub taken_item : {i : GrammarItem} {room : ℕ} {ts : List Token} {at n : ℕ} (t : Tree ℕ (item i)) → IsReadTree t room ts at n → IsReadTree (one t) room ts at n
taken_item {i = i} {ts = ts} {n = n} t p = record { spelled = p.spelled; shallow = p.shallow; only = item_only t p; reads = by (read_one (subst (λ y. NextTokenHasRank (item_start_rank i) y) (sym p.spelled) (starts_item t (remaining_terminals ts n)))) p.reads; within = p.within; forward = p.forward }

compares_only : {room : ℕ} {ts : List Token} {m n : ℕ} {at : ℕ} (a : Tree ℕ simple) (c : Tree ℕ (maybe comparison)) → IsReadTree a room ts at m → IsReadTree c room ts m n → (u : Tree ℕ expression) (z w : List (Terminal ℕ)) → HaveSameFirstToken (remaining_terminals ts n) w → NextTokenEndsConstruct 4 z → spell u ++ z ≡ (spell a ++ spell c) ++ w → (u ≡ compares a c) × (z ≡ w)
compares_only a c p q (compares b d) z w h s e =
    let r = p.only b (spell d ++ z) (spell c ++ w) (head_at c q w h) (stops_maybe d z 3 (omega arith) s) (regroup (spell b) (spell d) z (spell a) (spell c) w e) in
    let rs = q.only d z w h s r.1 in
    (cc (r.0, rs.0), rs.1)

pub taken_compares : {room : ℕ} {ts : List Token} {at m n : ℕ} (a : Tree ℕ simple) (c : Tree ℕ (maybe comparison)) → IsReadTree a room ts at m → IsReadTree c room ts m n → IsReadTree (compares a c) room ts at n
taken_compares a c p q = record { spelled = joined _ (spell a) (spell c) p.spelled q.spelled; shallow = omega (arith, p.shallow, q.shallow); only = compares_only a c p q; reads = by (read_made refl) (both p.reads q.reads); within = q.within; forward = omega (arith, p.forward, q.forward) }

expression_parts : (room : ℕ) (w : List (Terminal ℕ)) → BeginsWithParts (nonterminal expression room ∷ []) w → BeginsWithParts (nonterminal simple room ∷ nonterminal (maybe comparison) room ∷ []) w
expression_parts room w (compares a c, z, e, n, p, b) = (a, spell c ++ z, e ∙ append_assoc (spell a) (spell c) z, omega arith, stops_maybe c z 3 (omega arith) p, (c, z, refl, omega arith, p, tt))

pub expression_fails_left : {room : ℕ} {ts : List Token} {at : ℕ} {e : ParseRefusal} → FailsToRead (nonterminal simple room ∷ []) ts at e → FailsToRead (nonterminal expression room ∷ []) ts at e
expression_fails_left {room = room} q = fails_weaken {qs = nonterminal simple room ∷ nonterminal (maybe comparison) room ∷ []} (read_made refl) (λ w h b. expression_parts room w b) (fails_in q)

pub expression_fails_comparison : {room : ℕ} {ts : List Token} {at m : ℕ} {e : ParseRefusal} (a : Tree ℕ simple) → IsReadTree a room ts at m → ItemBeginsButCantBeRead comparison room ts m e → FailsToRead (nonterminal expression room ∷ []) ts at e
expression_fails_comparison {room = room} a p q = fails_weaken {qs = nonterminal simple room ∷ nonterminal (maybe comparison) room ∷ []} (read_made refl) (λ w h b. expression_parts room w b) (fails_pass a p (fails_maybe q))

comparison_right : (room : ℕ) (x : Terminal ℕ) (w : List (Terminal ℕ)) → BeginsWithParts (nonterminal (item comparison) room ∷ []) (x ∷ w) → BeginsWithParts (nonterminal simple room ∷ []) w
comparison_right room x w (relates o a, z, e, n, p, b) = (a, z, tail_of e, n, p, tt)

pub comparison_fails_right : {room : ℕ} {ts : List Token} {at : ℕ} {e : ParseRefusal} (k : TokenKind) (o : Relation) → k ≡ relation_token_kind o → remaining_terminals ts at ≡ indexed_terminal at k ∷ remaining_terminals ts (at + 1) → FailsToRead (nonterminal simple room ∷ []) ts (at + 1) e → ItemBeginsButCantBeRead comparison room ts at e
comparison_fails_right {room = room} {ts = ts} {at = at} k o is here q = record {
  is_here = starts_at at k _ here (ap kind_rank is ∙ relation_rank o);
  fails = fails_following {qs = nonterminal simple room ∷ []} (read_operator k (relation_token_kind o) is (relation_mark_lexeme o at) refl here) here (comparison_right room (indexed_terminal at k)) q;
}

-- Lemmas on simple expressions: `[sign] term {operator term}`.

-- If the tokens don't begin with a sign, the production of a simple expression begins with a term.
pub chosen_unsigned : (room : ℕ) (w : List (Terminal ℕ)) → BeginsWithoutSign w → chosen_production simple room w ≡ parts (nonterminal term room ∷ nonterminal (items addend) room ∷ [])
chosen_unsigned room (WordOrSymbol (kind.Symbol symbol.Plus) ∷ w) u = absurd (u.plus w refl)
chosen_unsigned room (WordOrSymbol (kind.Symbol symbol.Minus) ∷ w) u = absurd (u.minus w refl)
chosen_unsigned room w u = refl

simple_read : {room : ℕ} {ts : List Token} {at start : ℕ} (g : Option Sign) → IsSignAt ts at g start → DescentsHaveSameEnd (nonterminal simple room ∷ []) (nonterminal term room ∷ nonterminal (items addend) room ∷ []) ts at start
simple_read {room = room} {ts = ts} {at = at} {start = start} None s =
    let none : start ≡ at = omega (arith, s.next_index) in
    subst (λ j. DescentsHaveSameEnd (nonterminal simple room ∷ []) (nonterminal term room ∷ nonterminal (items addend) room ∷ []) ts at j) (sym none) (read_made (chosen_unsigned room (remaining_terminals ts at) s.unsigned))
simple_read {room = room} (Some sign.Plus) s = by (read_made (ap (λ w. chosen_production simple room w) s.spelled)) (both (read_token s.spelled s.next_index) as_is)
simple_read {room = room} (Some sign.Minus) s = by (read_made (ap (λ w. chosen_production simple room w) s.spelled)) (both (read_token s.spelled s.next_index) as_is)

sum_only : {room : ℕ} {ts : List Token} {start m n : ℕ} (g : Option Sign) (a : Tree ℕ term) (c : Tree ℕ (items addend)) → IsReadTree a room ts start m → IsReadTree c room ts m n → (u : Tree ℕ simple) (z w : List (Terminal ℕ)) → HaveSameFirstToken (remaining_terminals ts n) w → NextTokenEndsConstruct 3 z → spell u ++ z ≡ (sign_tokens g ++ (spell a ++ spell c)) ++ w → (u ≡ sum g a c) × (z ≡ w)
sum_only g a c p q (sum k b d) z w h s e =
    let signs = same_signs k g ((spell b ++ spell d) ++ z) ((spell a ++ spell c) ++ w)
    (subst unique.BeginsWithoutSign (sym (append_assoc (spell b) (spell d) z)) (unsigned_term b (spell d ++ z)))
    (subst unique.BeginsWithoutSign (sym (append_assoc (spell a) (spell c) w)) (unsigned_term a (spell c ++ w)))
    (regroup (sign_tokens k) (spell b ++ spell d) z (sign_tokens g) (spell a ++ spell c) w e) in
    let r = p.only b (spell d ++ z) (spell c ++ w) (head_at c q w h) (stops_items d z 2 (omega arith) s) (regroup (spell b) (spell d) z (spell a) (spell c) w signs.1) in
    let rs = q.only d z w h s r.1 in
    (cc (signs.0, r.0, rs.0), rs.1)

pub taken_sum : {room : ℕ} {ts : List Token} {at start m n : ℕ} (g : Option Sign) (a : Tree ℕ term) (c : Tree ℕ (items addend)) → IsSignAt ts at g start → IsReadTree a room ts start m → IsReadTree c room ts m n → IsReadTree (sum g a c) room ts at n
taken_sum g a c s p q = record { spelled = joined _ (sign_tokens g) (spell a ++ spell c) s.spelled (joined _ (spell a) (spell c) p.spelled q.spelled); shallow = omega (arith, p.shallow, q.shallow); only = sum_only g a c p q; reads = by (simple_read g s) (both p.reads q.reads); within = q.within; forward = omega (arith, s.forward, p.forward, q.forward) }

unsigned_parts : (room : ℕ) (xs w : List (Terminal ℕ)) → BeginsWithoutSign xs → HaveSameFirstToken xs w → BeginsWithParts (nonterminal simple room ∷ []) w → BeginsWithParts (nonterminal term room ∷ nonterminal (items addend) room ∷ []) w
unsigned_parts room xs w u h (sum None a c, z, e, n, p, b) = (a, spell c ++ z, e ∙ append_assoc (spell a) (spell c) z, omega arith, stops_items c z 2 (omega arith) p, (c, z, refl, omega arith, p, tt))
unsigned_parts room xs w u h (sum (Some sign.Plus) a c, z, e, n, p, b) = absurd (u.plus h.following (h.is ∙ ap (λ y. y ∷ h.following) (head_of (sym h.alike ∙ e))))
unsigned_parts room xs w u h (sum (Some sign.Minus) a c, z, e, n, p, b) = absurd (u.minus h.following (h.is ∙ ap (λ y. y ∷ h.following) (head_of (sym h.alike ∙ e))))

signed_parts : (room : ℕ) (g : Sign) (w : List (Terminal ℕ)) → BeginsWithParts (nonterminal simple room ∷ []) (WordOrSymbol (sign_token_kind g) ∷ w) → BeginsWithParts (nonterminal term room ∷ nonterminal (items addend) room ∷ []) w
signed_parts room sign.Plus w (sum None a c, z, e, n, p, b) = absurd ((unsigned_term a (spell c ++ z)).plus w (sym (append_assoc (spell a) (spell c) z) ∙ sym e))
signed_parts room sign.Minus w (sum None a c, z, e, n, p, b) = absurd ((unsigned_term a (spell c ++ z)).minus w (sym (append_assoc (spell a) (spell c) z) ∙ sym e))
signed_parts room g w (sum (Some k) a c, z, e, n, p, b) = (a, spell c ++ z, tail_of e ∙ append_assoc (spell a) (spell c) z, omega arith, stops_items c z 2 (omega arith) p, (c, z, refl, omega arith, p, tt))

simple_fails : {room : ℕ} {ts : List Token} {at start : ℕ} {e : ParseRefusal} (g : Option Sign) → IsSignAt ts at g start → FailsToRead (nonterminal term room ∷ nonterminal (items addend) room ∷ []) ts start e → FailsToRead (nonterminal simple room ∷ []) ts at e
simple_fails {room = room} {ts = ts} {at = at} None s q =
    fails_by (λ o r more. (simple_read None s).stops_as_following o more (r more)) (λ after r. select (λ w h b. unsigned_parts room (remaining_terminals ts at) w s.unsigned h b) (subst (λ z. CantBeginWithParts (nonterminal term room ∷ nonterminal (items addend) room ∷ []) z after) (sym s.spelled) r)) q
simple_fails {room = room} (Some g) s q = fails_following (simple_read (Some g) s) s.spelled (signed_parts room g) q

pub simple_fails_first : {room : ℕ} {ts : List Token} {at start : ℕ} {e : ParseRefusal} (g : Option Sign) → IsSignAt ts at g start → FailsToRead (nonterminal term room ∷ []) ts start e → FailsToRead (nonterminal simple room ∷ []) ts at e
simple_fails_first g s q = simple_fails g s (fails_in q)

pub simple_fails_addend : {room : ℕ} {ts : List Token} {at start m n : ℕ} {e : ParseRefusal} (g : Option Sign) (a : Tree ℕ term) (c : Tree ℕ (items addend)) → IsSignAt ts at g start → IsReadTree a room ts start m → Taking c room ts m n → ItemBeginsButCantBeRead addend room ts n e → FailsToRead (nonterminal simple room ∷ []) ts at e
simple_fails_addend g a c s p q r = simple_fails g s (fails_pass a p (taking_fails c q r))

addend_term : (room : ℕ) (x : Terminal ℕ) (w : List (Terminal ℕ)) → BeginsWithParts (nonterminal (item addend) room ∷ []) (x ∷ w) → BeginsWithParts (nonterminal term room ∷ []) w
addend_term room x w (adds o a, z, e, n, p, b) = (a, z, tail_of e, n, p, tt)

pub addend_fails_term : {room : ℕ} {ts : List Token} {at : ℕ} {e : ParseRefusal} (k : TokenKind) (o : AddOperator) → k ≡ add_operator_token_kind o → remaining_terminals ts at ≡ indexed_terminal at k ∷ remaining_terminals ts (at + 1) → FailsToRead (nonterminal term room ∷ []) ts (at + 1) e → ItemBeginsButCantBeRead addend room ts at e
addend_fails_term {room = room} {ts = ts} {at = at} k o is here q = record {
  is_here = starts_at at k _ here (ap kind_rank is ∙ add_rank o);
  fails = fails_following {qs = nonterminal term room ∷ []} (read_operator k (add_operator_token_kind o) is (add_mark_lexeme o at) refl here) here (addend_term room (indexed_terminal at k)) q;
}

-- Lemmas on terms: `factor {operator factor}`.

product_only : {room : ℕ} {ts : List Token} {m n : ℕ} {at : ℕ} (a : Tree ℕ factor) (c : Tree ℕ (items multiplier)) → IsReadTree a room ts at m → IsReadTree c room ts m n → (u : Tree ℕ term) (z w : List (Terminal ℕ)) → HaveSameFirstToken (remaining_terminals ts n) w → NextTokenEndsConstruct 2 z → spell u ++ z ≡ (spell a ++ spell c) ++ w → (u ≡ product a c) × (z ≡ w)
product_only a c p q (product b d) z w h s e =
    let r = p.only b (spell d ++ z) (spell c ++ w) (head_at c q w h) (stops_items d z 1 (omega arith) s) (regroup (spell b) (spell d) z (spell a) (spell c) w e) in
    let rs = q.only d z w h s r.1 in
    (cc (r.0, rs.0), rs.1)

pub taken_product : {room : ℕ} {ts : List Token} {at m n : ℕ} (a : Tree ℕ factor) (c : Tree ℕ (items multiplier)) → IsReadTree a room ts at m → IsReadTree c room ts m n → IsReadTree (product a c) room ts at n
taken_product a c p q = record { spelled = joined _ (spell a) (spell c) p.spelled q.spelled; shallow = omega (arith, p.shallow, q.shallow); only = product_only a c p q; reads = by (read_made refl) (both p.reads q.reads); within = q.within; forward = omega (arith, p.forward, q.forward) }

term_parts : (room : ℕ) (w : List (Terminal ℕ)) → BeginsWithParts (nonterminal term room ∷ []) w → BeginsWithParts (nonterminal factor room ∷ nonterminal (items multiplier) room ∷ []) w
term_parts room w (product f c, z, e, n, p, b) = (f, spell c ++ z, e ∙ append_assoc (spell f) (spell c) z, omega arith, stops_items c z 1 (omega arith) p, (c, z, refl, omega arith, p, tt))

pub term_fails_first : {room : ℕ} {ts : List Token} {at : ℕ} {e : ParseRefusal} → FailsToRead (nonterminal factor room ∷ []) ts at e → FailsToRead (nonterminal term room ∷ []) ts at e
term_fails_first {room = room} q = fails_weaken {qs = nonterminal factor room ∷ nonterminal (items multiplier) room ∷ []} (read_made refl) (λ w h b. term_parts room w b) (fails_in q)

pub term_fails_multiplier : {room : ℕ} {ts : List Token} {at m n : ℕ} {e : ParseRefusal} (f : Tree ℕ factor) (c : Tree ℕ (items multiplier)) → IsReadTree f room ts at m → Taking c room ts m n → ItemBeginsButCantBeRead multiplier room ts n e → FailsToRead (nonterminal term room ∷ []) ts at e
term_fails_multiplier {room = room} f c p q r = fails_weaken {qs = nonterminal factor room ∷ nonterminal (items multiplier) room ∷ []} (read_made refl) (λ w h b. term_parts room w b) (fails_pass f p (taking_fails c q r))

multiplier_factor : (room : ℕ) (x : Terminal ℕ) (w : List (Terminal ℕ)) → BeginsWithParts (nonterminal (item multiplier) room ∷ []) (x ∷ w) → BeginsWithParts (nonterminal factor room ∷ []) w
multiplier_factor room x w (multiplies o a, z, e, n, p, b) = (a, z, tail_of e, n, p, tt)

pub multiplier_fails_factor : {room : ℕ} {ts : List Token} {at : ℕ} {e : ParseRefusal} (k : TokenKind) (o : MultiplyOperator) → k ≡ multiply_operator_token_kind o → remaining_terminals ts at ≡ indexed_terminal at k ∷ remaining_terminals ts (at + 1) → FailsToRead (nonterminal factor room ∷ []) ts (at + 1) e → ItemBeginsButCantBeRead multiplier room ts at e
multiplier_fails_factor {room = room} {ts = ts} {at = at} k o is here q = record {
  is_here = starts_at at k _ here (ap kind_rank is ∙ multiply_rank o);
  fails = fails_following {qs = nonterminal factor room ∷ []} (read_operator k (multiply_operator_token_kind o) is (multiply_mark_lexeme o at) refl here) here (multiplier_factor room (indexed_terminal at k)) q;
}

relates_only : {room : ℕ} {ts : List Token} {m n : ℕ} (o : Relation) (a : Tree ℕ simple) → IsReadTree a room ts m n → (u : Tree ℕ (item comparison)) (z w : List (Terminal ℕ)) → HaveSameFirstToken (remaining_terminals ts n) w → NextTokenEndsConstruct 3 z → spell u ++ z ≡ WordOrSymbol (relation_token_kind o) ∷ (spell a ++ w) → (u ≡ relates o a) × (z ≡ w)
relates_only o a p (relates k b) z w h s e =
    let r = p.only b z w h s (tail_of e) in
    (cc (r.0, same_relation k o (mark_of e)), r.1)

pub taken_relates : {room : ℕ} {ts : List Token} {at n : ℕ} (k : TokenKind) (o : Relation) (a : Tree ℕ simple) → k ≡ relation_token_kind o → remaining_terminals ts at ≡ indexed_terminal at k ∷ remaining_terminals ts (at + 1) → IsReadTree a room ts (at + 1) n → IsReadTree (relates o a) room ts at n
taken_relates {ts = ts} {at = at} {n = n} k o a is here p = record {
  spelled = subst (λ j. remaining_terminals ts at ≡ indexed_terminal at j ∷ remaining_terminals ts (at + 1)) is here ∙ (relation_mark_lexeme o at (remaining_terminals ts (at + 1)) ∙ ap (λ y. WordOrSymbol (relation_token_kind o) ∷ y) p.spelled);
  shallow = p.shallow;
  only = relates_only o a p;
  reads = by (read_operator k (relation_token_kind o) is (relation_mark_lexeme o at) refl here) p.reads;
  within = p.within;
  forward = omega (arith, p.forward);
}

adds_only : {room : ℕ} {ts : List Token} {m n : ℕ} (o : AddOperator) (a : Tree ℕ term) → IsReadTree a room ts m n → (u : Tree ℕ (item addend)) (z w : List (Terminal ℕ)) → HaveSameFirstToken (remaining_terminals ts n) w → NextTokenEndsConstruct 2 z → spell u ++ z ≡ WordOrSymbol (add_operator_token_kind o) ∷ (spell a ++ w) → (u ≡ adds o a) × (z ≡ w)
adds_only o a p (adds k b) z w h s e =
    let r = p.only b z w h s (tail_of e) in
    (cc (r.0, same_add k o (mark_of e)), r.1)

pub taken_adds : {room : ℕ} {ts : List Token} {at n : ℕ} (k : TokenKind) (o : AddOperator) (a : Tree ℕ term) → k ≡ add_operator_token_kind o → remaining_terminals ts at ≡ indexed_terminal at k ∷ remaining_terminals ts (at + 1) → IsReadTree a room ts (at + 1) n → IsReadTree (adds o a) room ts at n
taken_adds {ts = ts} {at = at} {n = n} k o a is here p = record {
  spelled = subst (λ j. remaining_terminals ts at ≡ indexed_terminal at j ∷ remaining_terminals ts (at + 1)) is here ∙ (add_mark_lexeme o at (remaining_terminals ts (at + 1)) ∙ ap (λ y. WordOrSymbol (add_operator_token_kind o) ∷ y) p.spelled);
  shallow = p.shallow;
  only = adds_only o a p;
  reads = by (read_operator k (add_operator_token_kind o) is (add_mark_lexeme o at) refl here) p.reads;
  within = p.within;
  forward = omega (arith, p.forward);
}

multiplies_only : {room : ℕ} {ts : List Token} {m n : ℕ} (o : MultiplyOperator) (a : Tree ℕ factor) → IsReadTree a room ts m n → (u : Tree ℕ (item multiplier)) (z w : List (Terminal ℕ)) → HaveSameFirstToken (remaining_terminals ts n) w → NextTokenEndsConstruct 1 z → spell u ++ z ≡ WordOrSymbol (multiply_operator_token_kind o) ∷ (spell a ++ w) → (u ≡ multiplies o a) × (z ≡ w)
multiplies_only o a p (multiplies k b) z w h s e =
    let r = p.only b z w h s (tail_of e) in
    (cc (r.0, same_multiply k o (mark_of e)), r.1)

pub taken_multiplies : {room : ℕ} {ts : List Token} {at n : ℕ} (k : TokenKind) (o : MultiplyOperator) (a : Tree ℕ factor) → k ≡ multiply_operator_token_kind o → remaining_terminals ts at ≡ indexed_terminal at k ∷ remaining_terminals ts (at + 1) → IsReadTree a room ts (at + 1) n → IsReadTree (multiplies o a) room ts at n
taken_multiplies {ts = ts} {at = at} {n = n} k o a is here p = record {
  spelled = subst (λ j. remaining_terminals ts at ≡ indexed_terminal at j ∷ remaining_terminals ts (at + 1)) is here ∙ (multiply_mark_lexeme o at (remaining_terminals ts (at + 1)) ∙ ap (λ y. WordOrSymbol (multiply_operator_token_kind o) ∷ y) p.spelled);
  shallow = p.shallow;
  only = multiplies_only o a p;
  reads = by (read_operator k (multiply_operator_token_kind o) is (multiply_mark_lexeme o at) refl here) p.reads;
  within = p.within;
  forward = omega (arith, p.forward);
}

-- Lemmas on factors: `ident selector | integer | "(" expression ")" | "~" factor`.

integer_only : (i : ℕ) (u : Tree ℕ factor) (z w : List (Terminal ℕ)) → spell u ++ z ≡ Number i ∷ w → (u ≡ integer i) × (z ≡ w)
integer_only i (designator n ss) z w e = absurd (name_not_number e)
integer_only i (integer n) z w e = (ap integer (number_of e), tail_of e)
integer_only i (parenthesised t) z w e = absurd (number_not_mark (sym e))
integer_only i (negation f) z w e = absurd (number_not_mark (sym e))

pub taken_integer : (room : ℕ) (ts : List Token) (at : ℕ) → remaining_terminals ts at ≡ Number at ∷ remaining_terminals ts (at + 1) → at < length ts → IsReadTree (integer at) room ts at (at + 1)
taken_integer room ts at here l = record { spelled = here; shallow = omega arith; only = λ u z w h s e. integer_only at u z w e; reads = by (read_made (ap (λ w. chosen_production factor room w) here)) (read_number here refl); within = omega arith; forward = omega arith }

designator_only : {room : ℕ} {ts : List Token} {m n : ℕ} (i : ℕ) (ss : Tree ℕ (items selector)) → IsReadTree ss room ts m n → (u : Tree ℕ factor) (z w : List (Terminal ℕ)) → HaveSameFirstToken (remaining_terminals ts n) w → NextTokenEndsConstruct 1 z → spell u ++ z ≡ Name i ∷ (spell ss ++ w) → (u ≡ designator i ss) × (z ≡ w)
designator_only i ss p (designator k rs) z w h s e =
    let r = p.only rs z w h s (tail_of e) in
    let same : k ≡ i = name_of e in
    (cc (same, r.0), r.1)
designator_only i ss p (integer n) z w h s e = absurd (name_not_number (sym e))
designator_only i ss p (parenthesised t) z w h s e = absurd (name_not_mark (sym e))
designator_only i ss p (negation f) z w h s e = absurd (name_not_mark (sym e))

pub taken_designator : {room : ℕ} {ts : List Token} {at m n : ℕ} (ss : Tree ℕ (items selector)) → remaining_terminals ts at ≡ Name at ∷ remaining_terminals ts m → m ≡ at + 1 → IsReadTree ss room ts m n → IsReadTree (designator at ss) room ts at n
taken_designator {room = room} {at = at} ss here l p = record { spelled = here ∙ ap (λ y. Name at ∷ y) p.spelled; shallow = p.shallow; only = designator_only at ss p; reads = by (read_made (ap (λ w. chosen_production factor room w) here)) (both (read_name here l) p.reads); within = p.within; forward = omega (arith, p.forward) }

parenthesis_read : {room inner : ℕ} {ts : List Token} {at : ℕ} → room ≡ inner + 1 → remaining_terminals ts at ≡ WordOrSymbol (kind.Symbol symbol.LeftParen) ∷ remaining_terminals ts (at + 1) → DescentsHaveSameEnd (nonterminal factor room ∷ []) (nonterminal expression inner ∷ token (kind.Symbol symbol.RightParen) ∷ []) ts at (at + 1)
parenthesis_read {inner = inner} d here = read_opened inner (λ n. nonterminal expression n ∷ token (kind.Symbol symbol.RightParen) ∷ []) refl d here

parenthesised_only : {room : ℕ} {ts : List Token} {m n : ℕ} (a : Tree ℕ expression) → IsReadTree a room ts m n → (last : List (Terminal ℕ)) → remaining_terminals ts n ≡ WordOrSymbol (kind.Symbol symbol.RightParen) ∷ last → (u : Tree ℕ factor) (z w : List (Terminal ℕ)) → spell u ++ z ≡ WordOrSymbol (kind.Symbol symbol.LeftParen) ∷ ((spell a ++ single_token_list (kind.Symbol symbol.RightParen)) ++ w) → (u ≡ parenthesised a) × (z ≡ w)
parenthesised_only {ts = ts} {n = n} a p last close (parenthesised b) z w e =
    let h : HaveSameFirstToken (remaining_terminals ts n) (WordOrSymbol (kind.Symbol symbol.RightParen) ∷ w) = record { head = WordOrSymbol (kind.Symbol symbol.RightParen); following = last; other = w; is = close; alike = refl } in
    let r = p.only b (WordOrSymbol (kind.Symbol symbol.RightParen) ∷ z) (WordOrSymbol (kind.Symbol symbol.RightParen) ∷ w) h (omega arith) (regroup (spell b) (single_token_list (kind.Symbol symbol.RightParen)) z (spell a) (single_token_list (kind.Symbol symbol.RightParen)) w (tail_of e)) in
    (ap parenthesised r.0, tail_of r.1)
parenthesised_only a p last close (designator k rs) z w e = absurd (name_not_mark e)
parenthesised_only a p last close (integer n) z w e = absurd (number_not_mark e)
parenthesised_only a p last close (negation f) z w e = absurd (paren_not_tilde (sym e))

pub taken_parenthesised : {room inner : ℕ} {ts : List Token} {at m n : ℕ} (a : Tree ℕ expression) → room ≡ inner + 1 → remaining_terminals ts at ≡ WordOrSymbol (kind.Symbol symbol.LeftParen) ∷ remaining_terminals ts (at + 1) → IsReadTree a inner ts (at + 1) m → (remaining_terminals ts m ≡ WordOrSymbol (kind.Symbol symbol.RightParen) ∷ remaining_terminals ts n) × (m < length ts) × (n ≡ m + 1) → IsReadTree (parenthesised a) room ts at n
taken_parenthesised {ts = ts} {n = n} a level here p close = record {
  spelled = here ∙ ap (λ y. WordOrSymbol (kind.Symbol symbol.LeftParen) ∷ y) (joined _ (spell a) (single_token_list (kind.Symbol symbol.RightParen)) p.spelled close.0);
  shallow = omega (arith, p.shallow);
  only = λ u z w h s e. parenthesised_only a p (remaining_terminals ts n) close.0 u z w e;
  reads = by (parenthesis_read level here) (both p.reads (read_mark close));
  within = omega (arith, close.1, close.2);
  forward = omega (arith, p.forward, close.2);
}

negation_read : {room inner : ℕ} {ts : List Token} {at : ℕ} → room ≡ inner + 1 → remaining_terminals ts at ≡ WordOrSymbol (kind.Symbol symbol.Not) ∷ remaining_terminals ts (at + 1) → DescentsHaveSameEnd (nonterminal factor room ∷ []) (nonterminal factor inner ∷ []) ts at (at + 1)
negation_read {inner = inner} d here = read_opened inner (λ n. nonterminal factor n ∷ []) refl d here

negation_only : {room : ℕ} {ts : List Token} {m n : ℕ} (a : Tree ℕ factor) → IsReadTree a room ts m n → (u : Tree ℕ factor) (z w : List (Terminal ℕ)) → HaveSameFirstToken (remaining_terminals ts n) w → NextTokenEndsConstruct 1 z → spell u ++ z ≡ WordOrSymbol (kind.Symbol symbol.Not) ∷ (spell a ++ w) → (u ≡ negation a) × (z ≡ w)
negation_only a p (negation b) z w h s e = let r = p.only b z w h s (tail_of e) in (ap negation r.0, r.1)
negation_only a p (designator k rs) z w h s e = absurd (name_not_mark e)
negation_only a p (integer n) z w h s e = absurd (number_not_mark e)
negation_only a p (parenthesised t) z w h s e = absurd (paren_not_tilde e)

pub taken_negation : {room inner : ℕ} {ts : List Token} {at n : ℕ} (a : Tree ℕ factor) → room ≡ inner + 1 → remaining_terminals ts at ≡ WordOrSymbol (kind.Symbol symbol.Not) ∷ remaining_terminals ts (at + 1) → IsReadTree a inner ts (at + 1) n → IsReadTree (negation a) room ts at n
taken_negation a level here p = record { spelled = here ∙ ap (λ y. WordOrSymbol (kind.Symbol symbol.Not) ∷ y) p.spelled; shallow = omega (arith, p.shallow); only = negation_only a p; reads = by (negation_read level here) p.reads; within = p.within; forward = omega (arith, p.forward) }

-- If the next token can't begin a factor, no factor begins here.
no_factor : (f : Option TokenKind) (i : ℕ) (room : ℕ) (w : List (Terminal ℕ)) → (f ≡ Some kind.Identifier → ⊥) → ((v : ℕ) → f ≡ Some (kind.Integer v) → ⊥) → (f ≡ Some (kind.Symbol symbol.LeftParen) → ⊥) → (f ≡ Some (kind.Symbol symbol.Not) → ⊥) → BeginsWithParts (nonterminal factor room ∷ []) (terminal_or_end i f ∷ w) → ⊥
no_factor f i room w n m p q (designator k ss, z, e, l, s, b) = n (name_is f i k (head_of e))
no_factor f i room w n m p q (integer k, z, e, l, s, b) = let v = number_is f i k (head_of e) in m v.0 v.1
no_factor f i room w n m p q (parenthesised t, z, e, l, s, b) = p (mark_is f i (kind.Symbol symbol.LeftParen) (head_of e))
no_factor f i room w n m p q (negation t, z, e, l, s, b) = q (mark_is f i (kind.Symbol symbol.Not) (head_of e))

-- A token that differs from this reserved word or symbol has another kind.
pub other_kind : {k j : TokenKind} {ts : List Token} {at : ℕ} → IsTokenOtherThan (WordOrSymbol k) ts at → remaining_terminals ts at ≡ indexed_terminal at j ∷ remaining_terminals ts (at + 1) → Some j ≡ Some k → indexed_terminal at k ≡ WordOrSymbol k → ⊥
other_kind {k = k} {j = j} {at = at} o here e is = o.differs (head_of (sym o.here ∙ here) ∙ (ap (terminal_or_end at) e ∙ is))

chosen_no_factor : (f : Option TokenKind) (i room : ℕ) (w : List (Terminal ℕ)) → (f ≡ Some kind.Identifier → ⊥) → ((v : ℕ) → f ≡ Some (kind.Integer v) → ⊥) → (f ≡ Some (kind.Symbol symbol.LeftParen) → ⊥) → (f ≡ Some (kind.Symbol symbol.Not) → ⊥) → chosen_production factor room (terminal_or_end i f ∷ w) ≡ missing expected.Expression
chosen_no_factor None i room w n m p q = refl
chosen_no_factor (Some kind.Identifier) i room w n m p q = absurd (n refl)
chosen_no_factor (Some (kind.Integer v)) i room w n m p q = absurd (m v refl)
chosen_no_factor (Some (kind.Symbol symbol.LeftParen)) i room w n m p q = absurd (p refl)
chosen_no_factor (Some (kind.Symbol symbol.Not)) i room w n m p q = absurd (q refl)
chosen_no_factor (Some _) i room w n m p q = refl

pub factor_missing : (f : Option TokenKind) (i : ℕ) (room : ℕ) {ts : List Token} → i ≤ length ts → remaining_terminals ts i ≡ terminal_or_end i f ∷ remaining_terminals ts (i + 1) → (f ≡ Some kind.Identifier → ⊥) → ((v : ℕ) → f ≡ Some (kind.Integer v) → ⊥) → (f ≡ Some (kind.Symbol symbol.LeftParen) → ⊥) → (f ≡ Some (kind.Symbol symbol.Not) → ⊥) → FailsToRead (nonterminal factor room ∷ []) ts i (Syntax i expected.Expression)
factor_missing f i room {ts} l here n m p q = fails_here (terminal_or_end i f) l here (λ more. absent (ap (λ w. chosen_production factor room w) here ∙ chosen_no_factor f i room (remaining_terminals ts (i + 1)) n m p q)) (λ u b. no_factor f i room u n m p q b)

-- Without a level left, no factor begins with `(`.
pub factor_too_deep_open : (w : List (Terminal ℕ)) → BeginsWithParts (nonterminal factor 0 ∷ []) (WordOrSymbol (kind.Symbol symbol.LeftParen) ∷ w) → ⊥
factor_too_deep_open w (designator k ss, z, e, l, s, b) = name_not_mark (sym e)
factor_too_deep_open w (integer k, z, e, l, s, b) = number_not_mark (sym e)
factor_too_deep_open w (parenthesised t, z, e, l, s, b) = omega arith
factor_too_deep_open w (negation t, z, e, l, s, b) = omega arith

pub factor_too_deep_not : (w : List (Terminal ℕ)) → BeginsWithParts (nonterminal factor 0 ∷ []) (WordOrSymbol (kind.Symbol symbol.Not) ∷ w) → ⊥
factor_too_deep_not w (designator k ss, z, e, l, s, b) = name_not_mark (sym e)
factor_too_deep_not w (integer k, z, e, l, s, b) = number_not_mark (sym e)
factor_too_deep_not w (parenthesised t, z, e, l, s, b) = omega arith
factor_too_deep_not w (negation t, z, e, l, s, b) = omega arith

-- If no level is left for the construct that the next token opens, the refusal `TooDeep` is right.
pub too_deep_at_once : {ps : List ProductionPart} {ts : List Token} {at : ℕ} {x : Terminal ℕ} {e : ParseRefusal} → at < length ts → e ≡ TooDeep at → remaining_terminals ts at ≡ x ∷ remaining_terminals ts (at + 1) → DescentEndsWith ps ts at (TooDeepAt at) → ((w : List (Terminal ℕ)) → BeginsWithParts ps (x ∷ w) → ⊥) → FailsToRead ps ts at e
too_deep_at_once {ps = ps} {ts = ts} {at = at} l is here reads f = subst (λ y. FailsToRead ps ts at y) (sym is) record { why = (omega arith, at_once here f); reads = reads }

pub factor_fails_open : {room : ℕ} {ts : List Token} {at : ℕ} {e : ParseRefusal} → at < length ts → (room ≡ 0) × (e ≡ TooDeep at) → remaining_terminals ts at ≡ WordOrSymbol (kind.Symbol symbol.LeftParen) ∷ remaining_terminals ts (at + 1) → FailsToRead (nonterminal factor room ∷ []) ts at e
factor_fails_open {ts = ts} {at = at} {e = e} l o here = subst (λ r. FailsToRead (nonterminal factor r ∷ []) ts at e) (sym o.0) (too_deep_at_once l o.1 here (λ more. deep (ap (λ w. chosen_production factor 0 w) here)) factor_too_deep_open)

pub factor_fails_not : {room : ℕ} {ts : List Token} {at : ℕ} {e : ParseRefusal} → at < length ts → (room ≡ 0) × (e ≡ TooDeep at) → remaining_terminals ts at ≡ WordOrSymbol (kind.Symbol symbol.Not) ∷ remaining_terminals ts (at + 1) → FailsToRead (nonterminal factor room ∷ []) ts at e
factor_fails_not {ts = ts} {at = at} {e = e} l o here = subst (λ r. FailsToRead (nonterminal factor r ∷ []) ts at e) (sym o.0) (too_deep_at_once l o.1 here (λ more. deep (ap (λ w. chosen_production factor 0 w) here)) factor_too_deep_not)

parenthesised_parts : (room inner : ℕ) → room ≡ inner + 1 → (w : List (Terminal ℕ)) → BeginsWithParts (nonterminal factor room ∷ []) (WordOrSymbol (kind.Symbol symbol.LeftParen) ∷ w) → BeginsWithParts (nonterminal expression inner ∷ token (kind.Symbol symbol.RightParen) ∷ []) w
parenthesised_parts room inner d w (designator k ss, z, e, l, s, b) = absurd (name_not_mark (sym e))
parenthesised_parts room inner d w (integer k, z, e, l, s, b) = absurd (number_not_mark (sym e))
parenthesised_parts room inner d w (negation t, z, e, l, s, b) = absurd (paren_not_tilde e)
parenthesised_parts room inner d w (parenthesised t, z, e, l, s, b) =
    (t, WordOrSymbol (kind.Symbol symbol.RightParen) ∷ z, tail_of e ∙ append_assoc (spell t) (single_token_list (kind.Symbol symbol.RightParen)) z, omega arith, omega arith, (z, refl, tt))

pub factor_fails_inner : {room inner : ℕ} {ts : List Token} {at : ℕ} {e : ParseRefusal} → room ≡ inner + 1 → remaining_terminals ts at ≡ WordOrSymbol (kind.Symbol symbol.LeftParen) ∷ remaining_terminals ts (at + 1) → FailsToRead (nonterminal expression inner ∷ []) ts (at + 1) e → FailsToRead (nonterminal factor room ∷ []) ts at e
factor_fails_inner {room = room} {inner = inner} d here q =
    fails_following {qs = nonterminal expression inner ∷ token (kind.Symbol symbol.RightParen) ∷ []} (parenthesis_read d here) here (parenthesised_parts room inner d) (fails_in q)

pub factor_fails_close : {room inner : ℕ} {ts : List Token} {at m : ℕ} {e : ParseRefusal} (a : Tree ℕ expression) → room ≡ inner + 1 → remaining_terminals ts at ≡ WordOrSymbol (kind.Symbol symbol.LeftParen) ∷ remaining_terminals ts (at + 1) → IsReadTree a inner ts (at + 1) m → FailsToRead (token (kind.Symbol symbol.RightParen) ∷ []) ts m e → FailsToRead (nonterminal factor room ∷ []) ts at e
factor_fails_close {room = room} {inner = inner} a d here p q =
    fails_following {qs = nonterminal expression inner ∷ token (kind.Symbol symbol.RightParen) ∷ []} (parenthesis_read d here) here (parenthesised_parts room inner d) (fails_pass a p q)

negation_parts : (room inner : ℕ) → room ≡ inner + 1 → (w : List (Terminal ℕ)) → BeginsWithParts (nonterminal factor room ∷ []) (WordOrSymbol (kind.Symbol symbol.Not) ∷ w) → BeginsWithParts (nonterminal factor inner ∷ []) w
negation_parts room inner d w (designator k ss, z, e, l, s, b) = absurd (name_not_mark (sym e))
negation_parts room inner d w (integer k, z, e, l, s, b) = absurd (number_not_mark (sym e))
negation_parts room inner d w (parenthesised t, z, e, l, s, b) = absurd (paren_not_tilde (sym e))
negation_parts room inner d w (negation t, z, e, l, s, b) = (t, z, tail_of e, omega arith, s, tt)

pub factor_fails_negated : {room inner : ℕ} {ts : List Token} {at : ℕ} {e : ParseRefusal} → room ≡ inner + 1 → remaining_terminals ts at ≡ WordOrSymbol (kind.Symbol symbol.Not) ∷ remaining_terminals ts (at + 1) → FailsToRead (nonterminal factor inner ∷ []) ts (at + 1) e → FailsToRead (nonterminal factor room ∷ []) ts at e
factor_fails_negated {room = room} {inner = inner} d here q = fails_following {qs = nonterminal factor inner ∷ []} (negation_read d here) here (negation_parts room inner d) q

-- If two lists begin with the same token, their first tokens may be exchanged.
heads : {xs w : List (Terminal ℕ)} {x y : Terminal ℕ} {a b : List (Terminal ℕ)} → xs ≡ x ∷ a → HaveSameFirstToken xs w → w ≡ y ∷ b → x ∷ b ≡ y ∷ b
heads {b = b} p h q = ap (λ c. c ∷ b) (head_of (sym p ∙ h.is) ∙ head_of (sym h.alike ∙ q))

designator_parts : (room i : ℕ) (xs w : List (Terminal ℕ)) (z : List (Terminal ℕ)) → xs ≡ Name i ∷ z → HaveSameFirstToken xs w → BeginsWithParts (nonterminal factor room ∷ []) w → BeginsWithParts (name ∷ nonterminal (items selector) room ∷ []) w
designator_parts room i xs w y here h (designator k ss, z, e, l, s, b) = (k, spell ss ++ z, e, (ss, z, refl, l, s, tt))
designator_parts room i xs w y here h (integer k, z, e, l, s, b) = absurd (name_not_number (heads here h e))
designator_parts room i xs w y here h (parenthesised t, z, e, l, s, b) = absurd (name_not_mark (heads here h e))
designator_parts room i xs w y here h (negation t, z, e, l, s, b) = absurd (name_not_mark (heads here h e))

pub factor_fails_designator : {room : ℕ} {ts : List Token} {at : ℕ} {e : ParseRefusal} → remaining_terminals ts at ≡ Name at ∷ remaining_terminals ts (at + 1) → FailsToRead (name ∷ nonterminal (items selector) room ∷ []) ts at e → FailsToRead (nonterminal factor room ∷ []) ts at e
factor_fails_designator {room = room} {ts = ts} {at = at} here q =
    fails_weaken {qs = name ∷ nonterminal (items selector) room ∷ []} (read_made (ap (λ w. chosen_production factor room w) here)) (λ w h b. designator_parts room at (remaining_terminals ts at) w (remaining_terminals ts (at + 1)) here h b) q

pub designator_fails_selector : {room : ℕ} {ts : List Token} {at m n : ℕ} {e : ParseRefusal} (ss : Tree ℕ (items selector)) → remaining_terminals ts at ≡ Name at ∷ remaining_terminals ts m → m ≡ at + 1 → Taking ss room ts m n → ItemBeginsButCantBeRead selector room ts n e → FailsToRead (name ∷ nonterminal (items selector) room ∷ []) ts at e
designator_fails_selector ss here l p q = fails_pass_name here l (taking_fails ss p q)

-- Lemmas on selectors: `"." ident | "[" expression "]"`.

selector_head : (x : Terminal ℕ) → (x ≡ WordOrSymbol (kind.Symbol symbol.Dot) → ⊥) → (x ≡ WordOrSymbol (kind.Symbol symbol.LeftBracket) → ⊥) → terminal_rank x ≡ 1 → ⊥
selector_head (Name n) p q e = omega arith
selector_head (Number n) p q e = omega arith
selector_head EndOfText p q e = omega arith
selector_head (WordOrSymbol kind.Identifier) p q e = omega arith
selector_head (WordOrSymbol (kind.Integer _)) p q e = omega arith
selector_head (WordOrSymbol (kind.ReservedWord reserved.Module)) p q e = omega arith
selector_head (WordOrSymbol (kind.ReservedWord reserved.Begin)) p q e = omega arith
selector_head (WordOrSymbol (kind.ReservedWord reserved.End)) p q e = omega arith
selector_head (WordOrSymbol (kind.ReservedWord reserved.Const)) p q e = omega arith
selector_head (WordOrSymbol (kind.ReservedWord reserved.Type)) p q e = omega arith
selector_head (WordOrSymbol (kind.ReservedWord reserved.Var)) p q e = omega arith
selector_head (WordOrSymbol (kind.ReservedWord reserved.Procedure)) p q e = omega arith
selector_head (WordOrSymbol (kind.ReservedWord reserved.If)) p q e = omega arith
selector_head (WordOrSymbol (kind.ReservedWord reserved.Then)) p q e = omega arith
selector_head (WordOrSymbol (kind.ReservedWord reserved.Elsif)) p q e = omega arith
selector_head (WordOrSymbol (kind.ReservedWord reserved.Else)) p q e = omega arith
selector_head (WordOrSymbol (kind.ReservedWord reserved.While)) p q e = omega arith
selector_head (WordOrSymbol (kind.ReservedWord reserved.Do)) p q e = omega arith
selector_head (WordOrSymbol (kind.ReservedWord reserved.Array)) p q e = omega arith
selector_head (WordOrSymbol (kind.ReservedWord reserved.Of)) p q e = omega arith
selector_head (WordOrSymbol (kind.ReservedWord reserved.Record)) p q e = omega arith
selector_head (WordOrSymbol (kind.ReservedWord reserved.Div)) p q e = omega arith
selector_head (WordOrSymbol (kind.ReservedWord reserved.Mod)) p q e = omega arith
selector_head (WordOrSymbol (kind.ReservedWord reserved.Or)) p q e = omega arith
selector_head (WordOrSymbol (kind.ReservedWord reserved.Repeat)) p q e = omega arith
selector_head (WordOrSymbol (kind.ReservedWord reserved.Until)) p q e = omega arith
selector_head (WordOrSymbol (kind.Symbol symbol.And)) p q e = omega arith
selector_head (WordOrSymbol (kind.Symbol symbol.Times)) p q e = omega arith
selector_head (WordOrSymbol (kind.Symbol symbol.Plus)) p q e = omega arith
selector_head (WordOrSymbol (kind.Symbol symbol.Minus)) p q e = omega arith
selector_head (WordOrSymbol (kind.Symbol symbol.Equal)) p q e = omega arith
selector_head (WordOrSymbol (kind.Symbol symbol.NotEqual)) p q e = omega arith
selector_head (WordOrSymbol (kind.Symbol symbol.Less)) p q e = omega arith
selector_head (WordOrSymbol (kind.Symbol symbol.LessEqual)) p q e = omega arith
selector_head (WordOrSymbol (kind.Symbol symbol.Greater)) p q e = omega arith
selector_head (WordOrSymbol (kind.Symbol symbol.GreaterEqual)) p q e = omega arith
selector_head (WordOrSymbol (kind.Symbol symbol.Not)) p q e = omega arith
selector_head (WordOrSymbol (kind.Symbol symbol.Dot)) p q e = p refl
selector_head (WordOrSymbol (kind.Symbol symbol.Comma)) p q e = omega arith
selector_head (WordOrSymbol (kind.Symbol symbol.Semicolon)) p q e = omega arith
selector_head (WordOrSymbol (kind.Symbol symbol.Colon)) p q e = omega arith
selector_head (WordOrSymbol (kind.Symbol symbol.Becomes)) p q e = omega arith
selector_head (WordOrSymbol (kind.Symbol symbol.LeftParen)) p q e = omega arith
selector_head (WordOrSymbol (kind.Symbol symbol.RightParen)) p q e = omega arith
selector_head (WordOrSymbol (kind.Symbol symbol.LeftBracket)) p q e = q refl
selector_head (WordOrSymbol (kind.Symbol symbol.RightBracket)) p q e = omega arith

pub no_selector : {ts : List Token} {at : ℕ} → IsTokenOtherThan (WordOrSymbol (kind.Symbol symbol.Dot)) ts at → IsTokenOtherThan (WordOrSymbol (kind.Symbol symbol.LeftBracket)) ts at → ¬ NextTokenHasRank 1 (remaining_terminals ts at)
no_selector {ts = ts} {at = at} o p s =
    let same : o.fault ≡ p.fault = head_of (sym o.here ∙ p.here) in
    selector_head o.fault o.differs (λ e. p.differs (sym same ∙ e)) (subst (λ y. NextTokenHasRank 1 y) o.here s)

field_read : {room : ℕ} {ts : List Token} {at : ℕ} → remaining_terminals ts at ≡ WordOrSymbol (kind.Symbol symbol.Dot) ∷ remaining_terminals ts (at + 1) → DescentsHaveSameEnd (nonterminal (item selector) room ∷ []) (name ∷ []) ts at (at + 1)
field_read here = read_led (name ∷ []) refl here

field_only : (i : ℕ) (u : Tree ℕ (item selector)) (z w : List (Terminal ℕ)) → spell u ++ z ≡ WordOrSymbol (kind.Symbol symbol.Dot) ∷ Name i ∷ w → (u ≡ field i) × (z ≡ w)
field_only i (field n) z w e = (ap field (name_of (tail_of e)), tail_of (tail_of e))
field_only i (index n) z w e = absurd (dot_not_bracket (sym e))

pub taken_field : {room : ℕ} {ts : List Token} {at n : ℕ} (x : ℕ) → remaining_terminals ts at ≡ WordOrSymbol (kind.Symbol symbol.Dot) ∷ remaining_terminals ts (at + 1) → (remaining_terminals ts (at + 1) ≡ Name (at + 1) ∷ remaining_terminals ts n) × (at + 1 < length ts) × (x ≡ at + 1) × (n ≡ at + 1 + 1) → IsReadTree (field x) room ts at n
taken_field {room = room} {ts = ts} {at = at} {n = n} x here p = subst (λ y. IsReadTree (field y) room ts at n) (sym p.2) record {
  spelled = here ∙ ap (λ y. WordOrSymbol (kind.Symbol symbol.Dot) ∷ y) p.0;
  shallow = omega arith;
  only = λ u z w h s e. field_only (at + 1) u z w e;
  reads = by (field_read here) (read_name p.0 p.3);
  within = omega (arith, p.1, p.3);
  forward = omega (arith, p.3);
}

index_read : {room inner : ℕ} {ts : List Token} {at : ℕ} → room ≡ inner + 1 → remaining_terminals ts at ≡ WordOrSymbol (kind.Symbol symbol.LeftBracket) ∷ remaining_terminals ts (at + 1) → DescentsHaveSameEnd (nonterminal (item selector) room ∷ []) (nonterminal expression inner ∷ token (kind.Symbol symbol.RightBracket) ∷ []) ts at (at + 1)
index_read {inner = inner} d here = read_opened inner (λ n. nonterminal expression n ∷ token (kind.Symbol symbol.RightBracket) ∷ []) refl d here

index_only : {room : ℕ} {ts : List Token} {m n : ℕ} (a : Tree ℕ expression) → IsReadTree a room ts m n → (last : List (Terminal ℕ)) → remaining_terminals ts n ≡ WordOrSymbol (kind.Symbol symbol.RightBracket) ∷ last → (u : Tree ℕ (item selector)) (z w : List (Terminal ℕ)) → spell u ++ z ≡ WordOrSymbol (kind.Symbol symbol.LeftBracket) ∷ ((spell a ++ single_token_list (kind.Symbol symbol.RightBracket)) ++ w) → (u ≡ index a) × (z ≡ w)
index_only {ts = ts} {n = n} a p last close (index b) z w e =
    let h : HaveSameFirstToken (remaining_terminals ts n) (WordOrSymbol (kind.Symbol symbol.RightBracket) ∷ w) = record { head = WordOrSymbol (kind.Symbol symbol.RightBracket); following = last; other = w; is = close; alike = refl } in
    let r = p.only b (WordOrSymbol (kind.Symbol symbol.RightBracket) ∷ z) (WordOrSymbol (kind.Symbol symbol.RightBracket) ∷ w) h (omega arith) (regroup (spell b) (single_token_list (kind.Symbol symbol.RightBracket)) z (spell a) (single_token_list (kind.Symbol symbol.RightBracket)) w (tail_of e)) in
    (ap index r.0, tail_of r.1)
index_only a p last close (field k) z w e = absurd (dot_not_bracket e)

pub taken_index : {room inner : ℕ} {ts : List Token} {at m n : ℕ} (a : Tree ℕ expression) → room ≡ inner + 1 → remaining_terminals ts at ≡ WordOrSymbol (kind.Symbol symbol.LeftBracket) ∷ remaining_terminals ts (at + 1) → IsReadTree a inner ts (at + 1) m → (remaining_terminals ts m ≡ WordOrSymbol (kind.Symbol symbol.RightBracket) ∷ remaining_terminals ts n) × (m < length ts) × (n ≡ m + 1) → IsReadTree (index a) room ts at n
taken_index {ts = ts} {n = n} a level here p close = record {
  spelled = here ∙ ap (λ y. WordOrSymbol (kind.Symbol symbol.LeftBracket) ∷ y) (joined _ (spell a) (single_token_list (kind.Symbol symbol.RightBracket)) p.spelled close.0);
  shallow = omega (arith, p.shallow);
  only = λ u z w h s e. index_only a p (remaining_terminals ts n) close.0 u z w e;
  reads = by (index_read level here) (both p.reads (read_mark close));
  within = omega (arith, close.1, close.2);
  forward = omega (arith, p.forward, close.2);
}

field_parts : (room : ℕ) (w : List (Terminal ℕ)) → BeginsWithParts (nonterminal (item selector) room ∷ []) (WordOrSymbol (kind.Symbol symbol.Dot) ∷ w) → BeginsWithParts (name ∷ []) w
field_parts room w (field n, z, e, l, s, b) = (n, z, tail_of e, tt)
field_parts room w (index t, z, e, l, s, b) = absurd (dot_not_bracket e)

pub selector_fails_field : {room : ℕ} {ts : List Token} {at : ℕ} {e : ParseRefusal} → remaining_terminals ts at ≡ WordOrSymbol (kind.Symbol symbol.Dot) ∷ remaining_terminals ts (at + 1) → FailsToRead (name ∷ []) ts (at + 1) e → ItemBeginsButCantBeRead selector room ts at e
selector_fails_field {room = room} {ts = ts} {at = at} here q = record {
  is_here = subst (λ y. NextTokenHasRank 1 y) (sym here) refl;
  fails = fails_following {qs = name ∷ []} (field_read here) here (field_parts room) q;
}

index_parts : (room inner : ℕ) → room ≡ inner + 1 → (w : List (Terminal ℕ)) → BeginsWithParts (nonterminal (item selector) room ∷ []) (WordOrSymbol (kind.Symbol symbol.LeftBracket) ∷ w) → BeginsWithParts (nonterminal expression inner ∷ token (kind.Symbol symbol.RightBracket) ∷ []) w
index_parts room inner d w (field n, z, e, l, s, b) = absurd (dot_not_bracket (sym e))
index_parts room inner d w (index t, z, e, l, s, b) =
    (t, WordOrSymbol (kind.Symbol symbol.RightBracket) ∷ z, tail_of e ∙ append_assoc (spell t) (single_token_list (kind.Symbol symbol.RightBracket)) z, omega arith, omega arith, (z, refl, tt))

pub index_too_deep : (w : List (Terminal ℕ)) → BeginsWithParts (nonterminal (item selector) 0 ∷ []) (WordOrSymbol (kind.Symbol symbol.LeftBracket) ∷ w) → ⊥
index_too_deep w (field n, z, e, l, s, b) = dot_not_bracket (sym e)
index_too_deep w (index t, z, e, l, s, b) = omega arith

pub selector_fails : {room : ℕ} {ts : List Token} {at : ℕ} {e : ParseRefusal} → remaining_terminals ts at ≡ WordOrSymbol (kind.Symbol symbol.LeftBracket) ∷ remaining_terminals ts (at + 1) → FailsToRead (nonterminal (item selector) room ∷ []) ts at e → ItemBeginsButCantBeRead selector room ts at e
selector_fails here q = record { is_here = subst (λ y. NextTokenHasRank 1 y) (sym here) refl; fails = q }

pub selector_fails_open : {room : ℕ} {ts : List Token} {at : ℕ} {e : ParseRefusal} → at < length ts → (room ≡ 0) × (e ≡ TooDeep at) → remaining_terminals ts at ≡ WordOrSymbol (kind.Symbol symbol.LeftBracket) ∷ remaining_terminals ts (at + 1) → ItemBeginsButCantBeRead selector room ts at e
selector_fails_open {ts = ts} {at = at} {e = e} l o here =
    selector_fails here (subst (λ r. FailsToRead (nonterminal (item selector) r ∷ []) ts at e) (sym o.0) (too_deep_at_once l o.1 here (λ more. deep (ap (λ w. chosen_production (item selector) 0 w) here)) index_too_deep))

pub selector_fails_inner : {room inner : ℕ} {ts : List Token} {at : ℕ} {e : ParseRefusal} → room ≡ inner + 1 → remaining_terminals ts at ≡ WordOrSymbol (kind.Symbol symbol.LeftBracket) ∷ remaining_terminals ts (at + 1) → FailsToRead (nonterminal expression inner ∷ []) ts (at + 1) e → ItemBeginsButCantBeRead selector room ts at e
selector_fails_inner {room = room} {inner = inner} d here q =
    selector_fails here (fails_following {qs = nonterminal expression inner ∷ token (kind.Symbol symbol.RightBracket) ∷ []} (index_read d here) here (index_parts room inner d) (fails_in q))

pub selector_fails_close : {room inner : ℕ} {ts : List Token} {at m : ℕ} {e : ParseRefusal} (a : Tree ℕ expression) → room ≡ inner + 1 → remaining_terminals ts at ≡ WordOrSymbol (kind.Symbol symbol.LeftBracket) ∷ remaining_terminals ts (at + 1) → IsReadTree a inner ts (at + 1) m → FailsToRead (token (kind.Symbol symbol.RightBracket) ∷ []) ts m e → ItemBeginsButCantBeRead selector room ts at e
selector_fails_close {room = room} {inner = inner} a d here p q =
    selector_fails here (fails_following {qs = nonterminal expression inner ∷ token (kind.Symbol symbol.RightBracket) ∷ []} (index_read d here) here (index_parts room inner d) (fails_pass a p q))
