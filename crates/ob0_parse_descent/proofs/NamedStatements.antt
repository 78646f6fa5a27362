-- Proves that assignments and calls, which begin alike, are read and refused correctly.
use Rattle.std.proofs.Common.{◌≡◌, ◌≢◌, ℕ, ◌+◌, Bool, true, false, List, [], ◌∷◌, ◌++◌, length, refl, sym, ◌∙◌, ap, subst, arith, append_assoc, eqb-true, if◌then◌else◌}
use Rattle.ob0_scan.specs.declared.lexeme.TokenKind.{TokenKind}
use Rattle.ob0_scan.specs.declared.lexeme.TokenKind.TheVariants as kind
use Rattle.ob0_scan.specs.declared.lexeme.Symbol.TheVariants as symbol
use Rattle.ob0_scan.specs.declared.lexeme.Token.{Token}
use Rattle.ob0_tree.specs.Terminals.{Terminal, Name, WordOrSymbol}
use Rattle.ob0_tree.specs.Tree.{selector, arguments, expression, factor, statement, designator, empty, assigns, calls, branches, while_loop, repeat_loop, no_arguments, some_arguments, Sort, item, items, maybe, Tree, none, one, end, more, spell}
use Rattle.ob0_parse_descent.specs.TokenRanks.{terminal_rank, max_continuing_rank, NextTokenEndsConstruct, NextTokenHasRank}
use Rattle.ob0_parse_descent.specs.ParserPromises.{remaining_terminals, ProductionPart, token, name, nonterminal, BeginsWithParts, HaveSameFirstToken, CantBeginWithParts, DescentsHaveSameEnd, IsReadTree, DescentEndsWith, FailsToRead, ItemBeginsButCantBeRead, IsTokenOtherThan}
use Rattle.ob0_parse_descent.specs.Descent.{parts, symbol_part, is_assignment_next, is_item_next, chosen_production, DescentEnd, Descends, done, taken, made}
use Rattle.ob0_parse_descent.specs.declared.refusal.ExpectedSyntax.TheVariants as expected
use Rattle.ob0_parse_descent.proofs.Descent.{both, by, read_token, read_made, read_back, unmade, past_name, next_item, no_next}
use Rattle.ob0_parse_descent.specs.declared.refusal.ParseRefusal.{ParseRefusal}
use Rattle.ob0_parse_descent.specs.declared.refusal.ParseRefusal.TheVariants.{Syntax}
use Rattle.ob0_parse_descent.proofs.Unique.{same, starts_item, not_at, stops_maybe, stops_less, regroup, tail_of, head_of, name_of, no_call}
use Rattle.ob0_parse_descent.proofs.Refusals.{refused_head, select, fails_by, fails_pass_token, fails_maybe}
use Rattle.ob0_parse_descent.proofs.Expressions.{joined, head_at}
use Rattle.ob0_parse_descent.proofs.Leads.{fails_token}
use Rattle.ob0_tree.specs.declared.tree.Selector.{Selector}
use Rattle.ob0_tree.specs.View.{selector_of, items_of}
use Rattle.ob0_parse_descent.proofs.StatementParts.{alike}
use Rattle.ob0_parse_descent.proofs.Apart.{name_not_mark}

-- Holds if the tokens begin with some tree of the sort of t, and with the parts ps after that tree
-- in case it is t.
record After {s : Sort} (t : Tree ℕ s) (w : List (Terminal ℕ)) (ps : List ProductionPart) : Type 0 where
  other : Tree ℕ s
  left : List (Terminal ℕ)
  is : spell other ++ left ≡ spell t ++ w
  stops : NextTokenEndsConstruct (max_continuing_rank s) left
  begins : other ≡ t → left ≡ w → BeginsWithParts ps w

known : {s : Sort} {room : ℕ} {ps qs : List ProductionPart} {ts : List Token} {at next : ℕ} {after : List (Terminal ℕ)} (t : Tree ℕ s) → IsReadTree t room ts at next → ((w : List (Terminal ℕ)) → HaveSameFirstToken (remaining_terminals ts next) w → BeginsWithParts ps (spell t ++ w) → After t w qs) → CantBeginWithParts qs (remaining_terminals ts next) after → CantBeginWithParts ps (remaining_terminals ts at) after
known {ps = ps} {qs = qs} {ts = ts} {next = next} {after = after} t p f r = record {
  passed = spell t ++ r.passed;
  fault = r.fault;
  here = p.spelled ∙ (ap (λ y. spell t ++ y) r.here ∙ sym (append_assoc (spell t) r.passed (r.fault ∷ after)));
  cant_begin = λ unseen b.
      let w : List (Terminal ℕ) = r.passed ++ (r.fault ∷ unseen) in
      let h = refused_head qs (remaining_terminals ts next) after unseen r in
      let k = f w h (subst (λ y. BeginsWithParts ps y) (append_assoc (spell t) r.passed (r.fault ∷ unseen)) b) in
      let same = p.only k.other k.left w h k.stops k.is in
      r.cant_begin unseen (k.begins same.0 same.1);
}

fails_known : {s : Sort} {room : ℕ} {ps : List ProductionPart} {ts : List Token} {at next : ℕ} {e : ParseRefusal} (qs : List ProductionPart) → ((o : DescentEnd) → DescentEndsWith qs ts next o → DescentEndsWith ps ts at o) → (t : Tree ℕ s) → IsReadTree t room ts at next → ((w : List (Terminal ℕ)) → HaveSameFirstToken (remaining_terminals ts next) w → BeginsWithParts ps (spell t ++ w) → After t w qs) → FailsToRead qs ts next e → FailsToRead ps ts at e
fails_known qs g t p f q = fails_by g (λ after r. known t p f r) q

-- Proves that the descent reads the parts of an assignment or a call after the name.

abbrev pub named_statement : ℕ → Bool → List ProductionPart
named_statement room b = if b then name ∷ nonterminal (items selector) room ∷ symbol_part symbol.Becomes ∷ nonterminal expression room ∷ [] else name ∷ nonterminal (maybe arguments) room ∷ []

pub chosen_named : (room : ℕ) {n : ℕ} {xs w : List (Terminal ℕ)} (b : Bool) → xs ≡ Name n ∷ w → is_assignment_next w ≡ b → chosen_production statement room xs ≡ parts (named_statement room b)
chosen_named room true e is = ap (λ y. chosen_production statement room y) e ∙ ap (λ c. if c then parts (named_statement room true) else parts (named_statement room false)) is
chosen_named room false e is = ap (λ y. chosen_production statement room y) e ∙ ap (λ c. if c then parts (named_statement room true) else parts (named_statement room false)) is

selected : (w : List (Terminal ℕ)) → NextTokenHasRank 1 w → is_assignment_next w ≡ true
selected [] s = absurd s
selected (WordOrSymbol (kind.Symbol symbol.Becomes) ∷ w) s = refl
selected (x ∷ w) s = next_item selector (x ∷ w) s

selector_next : (f : Tree ℕ (item selector)) (fs : Tree ℕ (items selector)) (z : List (Terminal ℕ)) → is_assignment_next ((spell f ++ spell fs) ++ z) ≡ true
selector_next f fs z = selected _ (subst (λ w. NextTokenHasRank 1 w) (sym (append_assoc (spell f) (spell fs) z)) (starts_item f (spell fs ++ z)))

pub assigned_next : (ss : Tree ℕ (items selector)) (z y : List (Terminal ℕ)) → z ≡ WordOrSymbol (kind.Symbol symbol.Becomes) ∷ y → is_assignment_next (spell ss ++ z) ≡ true
assigned_next end z y e = ap is_assignment_next e
assigned_next (more f fs) z y e = selector_next f fs z

-- If a designator was read and the statement is an assignment, the descent reads the statement as
-- `:=` and an expression after that designator.
target_read : {room : ℕ} {ts : List Token} {at m : ℕ} (ss : Tree ℕ (items selector)) (x : ℕ) → IsReadTree (designator x ss) room ts at m → is_assignment_next (spell ss ++ remaining_terminals ts m) ≡ true → DescentsHaveSameEnd (nonterminal statement room ∷ []) (token (kind.Symbol symbol.Becomes) ∷ nonterminal expression room ∷ []) ts at m
target_read {room = room} ss x p is = by (read_made (chosen_named room true p.spelled is)) (record {
  stops_as_following = λ o more r.
      let q = read_back {qs = name ∷ nonterminal (items selector) room ∷ []} (ap (λ w. chosen_production factor room w) p.spelled) p.reads in
      q.stops_as_following o (token (kind.Symbol symbol.Becomes) ∷ nonterminal expression room ∷ more) r;
})

pub unassigned : (x : Terminal ℕ) (w : List (Terminal ℕ)) → x ≢ WordOrSymbol (kind.Symbol symbol.Becomes) → ¬ NextTokenHasRank 1 (x ∷ w) → is_assignment_next (x ∷ w) ≡ false
unassigned (WordOrSymbol (kind.Symbol symbol.Becomes)) w differs lacks = absurd (differs refl)
unassigned x w differs lacks = no_next selector (x ∷ w) lacks _ refl

no_selector_next : (room : ℕ) (w : List (Terminal ℕ)) → ¬ NextTokenHasRank 1 w → chosen_production (items selector) room w ≡ parts []
no_selector_next room w lacks = ap (λ b. if b then parts (nonterminal (item selector) room ∷ nonterminal (items selector) room ∷ []) else parts []) (no_next selector w lacks _ refl)

-- If a name was read and neither `:=` nor a selector follows, the descent reads the statement as
-- optional arguments after that name.
call_read : {room : ℕ} {ts : List Token} {at m : ℕ} (x : ℕ) → IsReadTree (designator x end) room ts at m → IsTokenOtherThan (WordOrSymbol (kind.Symbol symbol.Becomes)) ts m → ¬ NextTokenHasRank 1 (remaining_terminals ts m) → DescentsHaveSameEnd (nonterminal statement room ∷ []) (nonterminal (maybe arguments) room ∷ []) ts at m
call_read {room = room} {ts = ts} {at = at} {m = m} x p o lacks =
    let is : is_assignment_next (remaining_terminals ts m) ≡ false = ap is_assignment_next o.here ∙ unassigned o.fault (remaining_terminals ts (m + 1)) o.differs (λ s. lacks (subst (λ y. NextTokenHasRank 1 y) (sym o.here) s)) in
    by (read_made (chosen_named room false p.spelled is)) (record {
      stops_as_following = λ s more r.
          let whole = unmade {qs = name ∷ nonterminal (items selector) room ∷ []} (ap (λ w. chosen_production factor room w) p.spelled) (p.reads.stops_as_following s (nonterminal (maybe arguments) room ∷ more) r) in
          let following = unmade (no_selector_next room (remaining_terminals ts m) lacks) (past_name p.spelled whole) in
          subst (λ w. Descends (name ∷ nonterminal (maybe arguments) room ∷ more) at w s) (sym p.spelled) (taken (x, refl) following);
    })

abbrev same_lexeme : Terminal ℕ → Terminal ℕ → Type 0
same_lexeme x y = x ≡ y

name_mark : {k : TokenKind} {n : ℕ} → same_lexeme (Name n) (WordOrSymbol k) → ⊥
name_mark e = cc

no_selectors : {x k : ℕ} {f : Tree ℕ (item selector)} {fs : Tree ℕ (items selector)} → designator k end ≡ designator x (more f fs) → ⊥
no_selectors e = cc

-- If a designator and the tokens after it equal an assignment and some tokens, they equal the
-- assignment's target, `:=`, its value and those tokens.
assigned : {N : Type 0} (x k : N) (ss rs : Tree N (items selector)) (v : Tree N expression) (z w : List (Terminal N)) → spell (designator x ss) ++ w ≡ spell (assigns k rs v) ++ z → spell (designator k rs) ++ (WordOrSymbol (kind.Symbol symbol.Becomes) ∷ (spell v ++ z)) ≡ spell (designator x ss) ++ w
assigned x k ss rs v z w e = sym (e ∙ ap (λ y. Name k ∷ y) (append_assoc (spell rs) (WordOrSymbol (kind.Symbol symbol.Becomes) ∷ spell v) z))

-- Proves that an assignment is refused if its value is refused.

abbrev pub value_parts : ℕ → List ProductionPart
value_parts room = token (kind.Symbol symbol.Becomes) ∷ nonterminal expression room ∷ []

not_becomes : {xs y : List (Terminal ℕ)} (w : List (Terminal ℕ)) (a : Tree ℕ (maybe arguments)) (z : List (Terminal ℕ)) → xs ≡ WordOrSymbol (kind.Symbol symbol.Becomes) ∷ y → HaveSameFirstToken xs w → NextTokenEndsConstruct 8 z → spell a ++ z ≡ w → ⊥
not_becomes w none z here h s e = not_at z h.head h.other 8 (e ∙ h.alike) (omega (arith, ap terminal_rank (head_of (sym here ∙ h.is)))) s
not_becomes w (one no_arguments) z here h s e = omega (arith, ap terminal_rank (head_of (sym here ∙ h.is) ∙ head_of (sym h.alike ∙ sym e)))
not_becomes w (one (some_arguments c cs)) z here h s e = omega (arith, ap terminal_rank (head_of (sym here ∙ h.is) ∙ head_of (sym h.alike ∙ sym e)))

following_value : {xs y : List (Terminal ℕ)} (room x : ℕ) (ss : Tree ℕ (items selector)) → xs ≡ WordOrSymbol (kind.Symbol symbol.Becomes) ∷ y → (w : List (Terminal ℕ)) → HaveSameFirstToken xs w → BeginsWithParts (nonterminal statement room ∷ []) (spell (designator x ss) ++ w) → After (designator x ss) w (value_parts room)
following_value room x ss here w h (empty, z, e, n, s, b) = absurd (not_at z _ _ 8 (sym e) (omega arith) s)
following_value room x ss here w h (branches c t es l, z, e, n, s, b) = absurd (name_mark (head_of e))
following_value room x ss here w h (while_loop c t, z, e, n, s, b) = absurd (name_mark (head_of e))
following_value room x ss here w h (repeat_loop t c, z, e, n, s, b) = absurd (name_mark (head_of e))
following_value room x ss here w h (assigns k rs v, z, e, n, s, b) = record {
  other = designator k rs;
  left = WordOrSymbol (kind.Symbol symbol.Becomes) ∷ (spell v ++ z);
  is = assigned x k ss rs v z w e;
  stops = omega arith;
  begins = λ same is. (spell v ++ z, sym is, (v, z, refl, omega arith, stops_less z 4 8 (omega arith) s, tt));
}
following_value room x ss here w h (calls k a, z, e, n, s, b) = record {
  other = designator k end;
  left = spell a ++ z;
  is = sym e;
  stops = stops_maybe a z 1 (omega arith) (stops_less z 6 8 (omega arith) s);
  begins = λ same is. absurd (not_becomes w a z here h s is);
}

pub assignment_fails_value : {room : ℕ} {ts : List Token} {at m : ℕ} {e : ParseRefusal} (ss : Tree ℕ (items selector)) (x : ℕ) → IsReadTree (designator x ss) room ts at m → remaining_terminals ts m ≡ WordOrSymbol (kind.Symbol symbol.Becomes) ∷ remaining_terminals ts (m + 1) → FailsToRead (nonterminal expression room ∷ []) ts (m + 1) e → FailsToRead (nonterminal statement room ∷ []) ts at e
assignment_fails_value {room = room} ss x p here q = fails_known (value_parts room) (λ o r more. (target_read ss x p (assigned_next ss _ _ here)).stops_as_following o more (r more)) (designator x ss) p (λ w h b. following_value room x ss here w h b) (fails_pass_token here refl q)

-- Proves that a statement is refused if `:=` is missing after selectors.

following_selectors : (room x : ℕ) (f : Tree ℕ (item selector)) (fs : Tree ℕ (items selector)) (w : List (Terminal ℕ)) → BeginsWithParts (nonterminal statement room ∷ []) (spell (designator x (more f fs)) ++ w) → After (designator x (more f fs)) w (token (kind.Symbol symbol.Becomes) ∷ [])
following_selectors room x f fs w (empty, z, e, n, s, b) = absurd (not_at z _ _ 8 (sym e) (omega arith) s)
following_selectors room x f fs w (branches c t es l, z, e, n, s, b) = absurd (name_mark (head_of e))
following_selectors room x f fs w (while_loop c t, z, e, n, s, b) = absurd (name_mark (head_of e))
following_selectors room x f fs w (repeat_loop t c, z, e, n, s, b) = absurd (name_mark (head_of e))
following_selectors room x f fs w (assigns k rs v, z, e, n, s, b) = record {
  other = designator k rs;
  left = WordOrSymbol (kind.Symbol symbol.Becomes) ∷ (spell v ++ z);
  is = assigned x k (more f fs) rs v z w e;
  stops = omega arith;
  begins = λ same is. (spell v ++ z, sym is, tt);
}
following_selectors room x f fs w (calls k a, z, e, n, s, b) = record {
  other = designator k end;
  left = spell a ++ z;
  is = sym e;
  stops = stops_maybe a z 1 (omega arith) (stops_less z 6 8 (omega arith) s);
  begins = λ same is. absurd (no_selectors same);
}

pub becomes_missing : {room : ℕ} {ts : List Token} {at m : ℕ} (x : ℕ) (f : Tree ℕ (item selector)) (fs : Tree ℕ (items selector)) → IsReadTree (designator x (more f fs)) room ts at m → IsTokenOtherThan (WordOrSymbol (kind.Symbol symbol.Becomes)) ts m → FailsToRead (nonterminal statement room ∷ []) ts at (Syntax m (expected.Symbol symbol.Becomes))
becomes_missing {room = room} {ts = ts} {m = m} x f fs p o = fails_known (token (kind.Symbol symbol.Becomes) ∷ []) (λ s r following. (target_read (more f fs) x p (selector_next f fs (remaining_terminals ts m))).stops_as_following s following (r (nonterminal expression room ∷ following))) (designator x (more f fs)) p (λ w h b. following_selectors room x f fs w b) (fails_token refl o)

-- Proves that a call is refused if its arguments are refused.

following_call : (room x : ℕ) (ss : Tree ℕ (items selector)) (ts : List Token) (m : ℕ) → IsTokenOtherThan (WordOrSymbol (kind.Symbol symbol.Becomes)) ts m → (w : List (Terminal ℕ)) → HaveSameFirstToken (remaining_terminals ts m) w → BeginsWithParts (nonterminal statement room ∷ []) (spell (designator x ss) ++ w) → After (designator x ss) w (nonterminal (maybe arguments) room ∷ [])
following_call room x ss ts m o w h (empty, z, e, n, s, b) = absurd (not_at z _ _ 8 (sym e) (omega arith) s)
following_call room x ss ts m o w h (branches c t es l, z, e, n, s, b) = absurd (name_mark (head_of e))
following_call room x ss ts m o w h (while_loop c t, z, e, n, s, b) = absurd (name_mark (head_of e))
following_call room x ss ts m o w h (repeat_loop t c, z, e, n, s, b) = absurd (name_mark (head_of e))
following_call room x ss ts m o w h (assigns k rs v, z, e, n, s, b) = record {
  other = designator k rs;
  left = WordOrSymbol (kind.Symbol symbol.Becomes) ∷ (spell v ++ z);
  is = assigned x k ss rs v z w e;
  stops = omega arith;
  begins = λ same is. absurd (o.differs (alike h o.here (sym is)));
}
following_call room x ss ts m o w h (calls k a, z, e, n, s, b) = record {
  other = designator k end;
  left = spell a ++ z;
  is = sym e;
  stops = stops_maybe a z 1 (omega arith) (stops_less z 6 8 (omega arith) s);
  begins = λ same is. (a, z, sym is, n, stops_less z 6 8 (omega arith) s, tt);
}

pub call_fails : {room : ℕ} {ts : List Token} {at m : ℕ} {e : ParseRefusal} (x : ℕ) (ss : List Selector) → length ss ≡ 0 → IsReadTree (designator x (items_of selector_of ss)) room ts at m × ¬ NextTokenHasRank 1 (remaining_terminals ts m) → IsTokenOtherThan (WordOrSymbol (kind.Symbol symbol.Becomes)) ts m → ItemBeginsButCantBeRead arguments room ts m e → FailsToRead (nonterminal statement room ∷ []) ts at e
call_fails {room = room} {ts = ts} {m = m} x [] l p o q = fails_known (nonterminal (maybe arguments) room ∷ []) (λ s r following. (call_read x p.0 o p.1).stops_as_following s following (r following)) (designator x end) p.0 (λ w h b. following_call room x end ts m o w h b) (fails_maybe q)
call_fails x (s ∷ ss) l p o q = absurd (omega arith)

-- Proves that an assignment or a call is refused if its name or its selectors are refused.

target_parts : (room i : ℕ) (xs w y : List (Terminal ℕ)) → xs ≡ Name i ∷ y → HaveSameFirstToken xs w → BeginsWithParts (nonterminal statement room ∷ []) w → BeginsWithParts (name ∷ nonterminal (items selector) room ∷ []) w
target_parts room i xs w y here h (empty, z, e, n, s, b) = absurd (not_at z _ _ 8 (sym e ∙ h.alike) (omega (arith, ap terminal_rank (head_of (sym here ∙ h.is)))) s)
target_parts room i xs w y here h (branches c t es l, z, e, n, s, b) = absurd (omega (arith, ap terminal_rank (alike h here e)))
target_parts room i xs w y here h (while_loop c t, z, e, n, s, b) = absurd (omega (arith, ap terminal_rank (alike h here e)))
target_parts room i xs w y here h (repeat_loop t c, z, e, n, s, b) = absurd (omega (arith, ap terminal_rank (alike h here e)))
target_parts room i xs w y here h (assigns k ss v, z, e, n, s, b) = (k, _, e, (ss, _, append_assoc (spell ss) _ z, omega arith, omega arith, tt))
target_parts room i xs w y here h (calls k a, z, e, n, s, b) = (k, _, e, (end, spell a ++ z, refl, omega arith, stops_maybe a z 1 (omega arith) (stops_less z 6 8 (omega arith) s), tt))

pub true_not_false : true ≡ false → ⊥
true_not_false e = cc

starts_next : (w : List (Terminal ℕ)) → is_item_next selector w ≡ true → NextTokenHasRank 1 w
starts_next [] e = true_not_false (sym e)
starts_next (x ∷ w) e = eqb-true (terminal_rank x) 1 e

-- If the descent stops in selectors, a selector begins here.
no_selector_stops : {i : ℕ} {w : List (Terminal ℕ)} {o : DescentEnd} → Descends [] i w o → Descends (token (kind.Symbol symbol.Dot) ∷ []) i w o → ¬ NextTokenHasRank 1 w → ⊥
no_selector_stops done (taken is r) lacks = lacks (ap terminal_rank is)

named_reads : (room : ℕ) (ts : List Token) (at : ℕ) → remaining_terminals ts at ≡ Name at ∷ remaining_terminals ts (at + 1) → (o : DescentEnd) → DescentEndsWith (name ∷ nonterminal (items selector) room ∷ []) ts at o → (b : Bool) → is_item_next selector (remaining_terminals ts (at + 1)) ≡ b → DescentEndsWith (nonterminal statement room ∷ []) ts at o
named_reads room ts at here o r true is =
    λ following. made _ (chosen_named room true here (selected (remaining_terminals ts (at + 1)) (starts_next (remaining_terminals ts (at + 1)) is))) (r (token (kind.Symbol symbol.Becomes) ∷ nonterminal expression room ∷ following))
named_reads room ts at here o r false is =
    let lacks : ¬ NextTokenHasRank 1 (remaining_terminals ts (at + 1)) = λ s. true_not_false (sym (next_item selector (remaining_terminals ts (at + 1)) s) ∙ is) in
    let past : (ps : List ProductionPart) → Descends ps (at + 1) (remaining_terminals ts (at + 1)) o = λ ps. unmade (no_selector_next room (remaining_terminals ts (at + 1)) lacks) (past_name here (r ps)) in
    absurd (no_selector_stops (past []) (past (token (kind.Symbol symbol.Dot) ∷ [])) lacks)

pub named_fails : {room : ℕ} {ts : List Token} {at : ℕ} {e : ParseRefusal} → remaining_terminals ts at ≡ Name at ∷ remaining_terminals ts (at + 1) → FailsToRead (name ∷ nonterminal (items selector) room ∷ []) ts at e → FailsToRead (nonterminal statement room ∷ []) ts at e
named_fails {room = room} {ts = ts} {at = at} here q =
    fails_by (λ o r. named_reads room ts at here o r _ refl) (λ after r. select (λ w h b. target_parts room at (remaining_terminals ts at) w (remaining_terminals ts (at + 1)) here h b) r) q

-- Proves that assignments and calls are read correctly.

calls_only : {room : ℕ} {ts : List Token} {at m n : ℕ} (i : ℕ) (a : Tree ℕ (maybe arguments)) → IsReadTree (designator i end) room ts at m → IsTokenOtherThan (WordOrSymbol (kind.Symbol symbol.Becomes)) ts m → IsReadTree a room ts m n → (u : Tree ℕ statement) (z w : List (Terminal ℕ)) → HaveSameFirstToken (remaining_terminals ts n) w → NextTokenEndsConstruct 8 z → spell u ++ z ≡ Name i ∷ (spell a ++ w) → (u ≡ calls i a) × (z ≡ w)
calls_only i a p o q empty z w h s e = absurd (not_at z _ _ 8 e (omega arith) s)
calls_only i a p o q (branches c t es l) z w h s e = absurd (name_not_mark (sym e))
calls_only i a p o q (while_loop c t) z w h s e = absurd (name_not_mark (sym e))
calls_only i a p o q (repeat_loop t c) z w h s e = absurd (name_not_mark (sym e))
calls_only i a p o q (calls k b) z w h s e =
    let r = q.only b z w h (stops_less z 6 8 (omega arith) s) (tail_of e) in
    let names : k ≡ i = name_of e in
    (cc (names, r.0), r.1)
calls_only i a p o q (assigns k ss v) z w h s e =
    let h1 = head_at a q w h in
    let r = p.only (designator k ss) (WordOrSymbol (kind.Symbol symbol.Becomes) ∷ (spell v ++ z)) (spell a ++ w) h1 (omega arith) (sym (ap (λ y. Name k ∷ y) (append_assoc (spell ss) _ z)) ∙ e) in
    absurd (o.differs (alike h1 o.here (sym r.1)))

pub taken_call : {room : ℕ} {ts : List Token} {at m n : ℕ} (a : Tree ℕ (maybe arguments)) (x : ℕ) → IsReadTree (designator x end) room ts at m → ¬ NextTokenHasRank 1 (remaining_terminals ts m) → IsTokenOtherThan (WordOrSymbol (kind.Symbol symbol.Becomes)) ts m → IsReadTree a room ts m n → IsReadTree (calls x a) room ts at n
taken_call a x p lacks o q = record { spelled = p.spelled ∙ ap (λ y. Name x ∷ y) q.spelled; shallow = q.shallow; only = calls_only x a p o q; reads = by (call_read x p o lacks) q.reads; within = q.within; forward = omega (arith, p.forward, q.forward) }

pub call_made : {room : ℕ} {ts : List Token} {at m n : ℕ} {a : Tree ℕ (maybe arguments)} (x : ℕ) (ss : List Selector) → length ss ≡ 0 → IsReadTree (designator x (items_of selector_of ss)) room ts at m × ¬ NextTokenHasRank 1 (remaining_terminals ts m) → IsTokenOtherThan (WordOrSymbol (kind.Symbol symbol.Becomes)) ts m → IsReadTree a room ts m n → IsReadTree (calls x a) room ts at n
call_made {a = a} x [] l p o q = taken_call a x p.0 p.1 o q
call_made x (s ∷ ss) l p o q = absurd (omega arith)

pub becomes_missing_listed : {room : ℕ} {ts : List Token} {at m : ℕ} (x : ℕ) (ss : List Selector) → (length ss ≡ 0 → ⊥) → IsReadTree (designator x (items_of selector_of ss)) room ts at m → IsTokenOtherThan (WordOrSymbol (kind.Symbol symbol.Becomes)) ts m → FailsToRead (nonterminal statement room ∷ []) ts at (Syntax m (expected.Symbol symbol.Becomes))
becomes_missing_listed x [] l p o = absurd (l refl)
becomes_missing_listed x (s ∷ ss) l p o = becomes_missing x (selector_of s) (items_of selector_of ss) p o

assigns_only : {room : ℕ} {ts : List Token} {m n : ℕ} (i : ℕ) (ss : Tree ℕ (items selector)) (v : Tree ℕ expression) → IsReadTree v room ts m n → (u : Tree ℕ statement) (z w : List (Terminal ℕ)) → HaveSameFirstToken (remaining_terminals ts n) w → NextTokenEndsConstruct 8 z → spell u ++ z ≡ Name i ∷ ((spell ss ++ (WordOrSymbol (kind.Symbol symbol.Becomes) ∷ spell v)) ++ w) → (u ≡ assigns i ss v) × (z ≡ w)
assigns_only i ss v q empty z w h s e = absurd (not_at z _ _ 8 e (omega arith) s)
assigns_only i ss v q (branches c t es l) z w h s e = absurd (name_not_mark (sym e))
assigns_only i ss v q (while_loop c t) z w h s e = absurd (name_not_mark (sym e))
assigns_only i ss v q (repeat_loop t c) z w h s e = absurd (name_not_mark (sym e))
assigns_only i ss v q (calls k b) z w h s e = absurd (no_call ss b _ z s (sym (append_assoc (spell ss) _ w) ∙ sym (tail_of e)))
assigns_only i ss v q (assigns k rs b) z w h s e =
    let r = same rs ss (WordOrSymbol (kind.Symbol symbol.Becomes) ∷ (spell b ++ z)) (WordOrSymbol (kind.Symbol symbol.Becomes) ∷ (spell v ++ w)) (omega arith) (omega arith) (regroup (spell rs) _ z (spell ss) _ w (tail_of e)) in
    let r1 = q.only b z w h (stops_less z 4 8 (omega arith) s) (tail_of r.1) in
    let names : k ≡ i = name_of e in
    (cc (names, r.0, r1.0), r1.1)

pub taken_assignment : {room : ℕ} {ts : List Token} {at m n : ℕ} (ss : Tree ℕ (items selector)) (x : ℕ) (v : Tree ℕ expression) → IsReadTree (designator x ss) room ts at m → remaining_terminals ts m ≡ WordOrSymbol (kind.Symbol symbol.Becomes) ∷ remaining_terminals ts (m + 1) → IsReadTree v room ts (m + 1) n → IsReadTree (assigns x ss v) room ts at n
taken_assignment ss x v p here q = record {
  spelled = p.spelled ∙ ap (λ y. Name x ∷ y) (joined _ (spell ss) (WordOrSymbol (kind.Symbol symbol.Becomes) ∷ spell v) refl (here ∙ ap (λ y. WordOrSymbol (kind.Symbol symbol.Becomes) ∷ y) q.spelled));
  shallow = omega (arith, p.shallow, q.shallow);
  only = assigns_only x ss v q;
  reads = by (target_read ss x p (assigned_next ss _ _ here)) (both (read_token here refl) q.reads);
  within = q.within;
  forward = omega (arith, p.forward, q.forward);
}
