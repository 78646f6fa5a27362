-- Proves that statements are read and refused correctly.
use Rattle.std.proofs.Common.{◌≡◌, ◌≢◌, ℕ, ◌+◌, ◌<◌, List, [], ◌∷◌, ◌++◌, length, refl, sym, ◌∙◌, ap, subst, arith, append_assoc}
use Rattle.ob0_scan.specs.declared.lexeme.TokenKind.{TokenKind}
use Rattle.ob0_scan.specs.declared.lexeme.TokenKind.TheVariants as kind
use Rattle.ob0_scan.specs.declared.lexeme.ReservedWord.TheVariants as reserved
use Rattle.ob0_scan.specs.declared.lexeme.Token.{Token}
use Rattle.ob0_tree.specs.Terminals.{Terminal, Name, WordOrSymbol}
use Rattle.ob0_tree.specs.Tree.{statement_after_semicolon, elsif_part, else_part, expression, statement, sequence, empty, assigns, calls, branches, while_loop, repeat_loop, runs, elsif_branch, item, items, maybe, Tree, spell, single_token_list}
use Rattle.ob0_parse_descent.specs.TokenRanks.{terminal_rank, NextTokenEndsConstruct, NextTokenHasRank}
use Rattle.ob0_parse_descent.specs.ParserPromises.{remaining_terminals, ProductionPart, token, nonterminal, BeginsWithParts, HaveSameFirstToken, IsReadTree, FailsToRead, ItemBeginsButCantBeRead, IsTokenOtherThan, IsNotIdentifier}
use Rattle.ob0_parse_descent.specs.Descent as descent
use Rattle.ob0_parse_descent.specs.Descent.{parts, chosen_production}
use Rattle.ob0_parse_descent.proofs.Descent.{both, by, read_mark, read_made, read_led, read_opened}
use Rattle.ob0_parse_descent.specs.declared.refusal.ParseRefusal.{ParseRefusal}
use Rattle.ob0_parse_descent.specs.declared.refusal.ParseRefusal.TheVariants.{TooDeep}
use Rattle.ob0_parse_descent.proofs.Unique.{unique, same, not_at, stops_items, stops_less, stops_else, stops_branches, regroup, tail_of, head_of, mark_of, branches_only, while_loop_only, not_while, not_repeat, while_not_repeat}
use Rattle.ob0_parse_descent.proofs.Refusals.{fails_weaken, fails_following}
use Rattle.ob0_parse_descent.proofs.Expressions.{joined, head_at, too_deep_at_once}
use Rattle.ob0_parse_descent.proofs.Apart.{name_not_mark}

-- If two lists begin with the same token, their first tokens are equal.
pub alike : {xs w : List (Terminal ℕ)} {x y : Terminal ℕ} {a b : List (Terminal ℕ)} → HaveSameFirstToken xs w → xs ≡ x ∷ a → w ≡ y ∷ b → x ≡ y
alike h p q = head_of (sym p ∙ h.is) ∙ head_of (sym h.alike ∙ q)

-- Lemmas on sequences: `statement {";" statement}`.

runs_only : {room : ℕ} {ts : List Token} {at m n : ℕ} (a : Tree ℕ statement) (c : Tree ℕ (items statement_after_semicolon)) → IsReadTree a room ts at m → IsReadTree c room ts m n → (u : Tree ℕ sequence) (z w : List (Terminal ℕ)) → HaveSameFirstToken (remaining_terminals ts n) w → NextTokenEndsConstruct 9 z → spell u ++ z ≡ (spell a ++ spell c) ++ w → (u ≡ runs a c) × (z ≡ w)
runs_only a c p q (runs b d) z w h s e =
    let r = p.only b (spell d ++ z) (spell c ++ w) (head_at c q w h) (stops_items d z 8 (omega arith) s) (regroup (spell b) (spell d) z (spell a) (spell c) w e) in
    let rs = q.only d z w h s r.1 in
    (cc (r.0, rs.0), rs.1)

pub taken_runs : {room : ℕ} {ts : List Token} {at m n : ℕ} (a : Tree ℕ statement) (c : Tree ℕ (items statement_after_semicolon)) → IsReadTree a room ts at m → IsReadTree c room ts m n → IsReadTree (runs a c) room ts at n
taken_runs a c p q = record { spelled = joined _ (spell a) (spell c) p.spelled q.spelled; shallow = omega (arith, p.shallow, q.shallow); only = runs_only a c p q; reads = by (read_made refl) (both p.reads q.reads); within = q.within; forward = omega (arith, p.forward, q.forward) }

runs_parts : (room : ℕ) (w : List (Terminal ℕ)) → BeginsWithParts (nonterminal sequence room ∷ []) w → BeginsWithParts (nonterminal statement room ∷ nonterminal (items statement_after_semicolon) room ∷ []) w
runs_parts room w (runs a c, z, e, n, p, b) = (a, spell c ++ z, e ∙ append_assoc (spell a) (spell c) z, omega arith, stops_items c z 8 (omega arith) p, (c, z, refl, omega arith, p, tt))

pub sequence_fails : {room : ℕ} {ts : List Token} {at : ℕ} {e : ParseRefusal} → FailsToRead (nonterminal statement room ∷ nonterminal (items statement_after_semicolon) room ∷ []) ts at e → FailsToRead (nonterminal sequence room ∷ []) ts at e
sequence_fails {room = room} q = fails_weaken {qs = nonterminal statement room ∷ nonterminal (items statement_after_semicolon) room ∷ []} (read_made refl) (λ w h b. runs_parts room w b) q

-- Lemmas on the empty statement.

empty_only : {ts : List Token} {at : ℕ} → IsNotIdentifier ts at → IsTokenOtherThan (WordOrSymbol (kind.ReservedWord reserved.If)) ts at → IsTokenOtherThan (WordOrSymbol (kind.ReservedWord reserved.While)) ts at → IsTokenOtherThan (WordOrSymbol (kind.ReservedWord reserved.Repeat)) ts at → (u : Tree ℕ statement) (z w : List (Terminal ℕ)) → HaveSameFirstToken (remaining_terminals ts at) w → NextTokenEndsConstruct 8 z → spell u ++ z ≡ w → (u ≡ empty) × (z ≡ w)
empty_only unnamed i l r empty z w h s e = (refl, e)
empty_only unnamed i l r (assigns n ss a) z w h s e = absurd (unnamed.ranked (ap terminal_rank (alike h unnamed.here (sym e))))
empty_only unnamed i l r (calls n a) z w h s e = absurd (unnamed.ranked (ap terminal_rank (alike h unnamed.here (sym e))))
empty_only unnamed i l r (branches c t es o) z w h s e = absurd (i.differs (alike h i.here (sym e)))
empty_only unnamed i l r (while_loop c t) z w h s e = absurd (l.differs (alike h l.here (sym e)))
empty_only unnamed i l r (repeat_loop t c) z w h s e = absurd (r.differs (alike h r.here (sym e)))

pub chosen_empty : (room : ℕ) (x : Terminal ℕ) (w : List (Terminal ℕ)) → terminal_rank x ≢ 7 → x ≢ WordOrSymbol (kind.ReservedWord reserved.If) → x ≢ WordOrSymbol (kind.ReservedWord reserved.While) → x ≢ WordOrSymbol (kind.ReservedWord reserved.Repeat) → chosen_production statement room (x ∷ w) ≡ parts []
chosen_empty room (Name n) w p i l r = absurd (p refl)
chosen_empty room (WordOrSymbol (kind.ReservedWord reserved.If)) w p i l r = absurd (i refl)
chosen_empty room (WordOrSymbol (kind.ReservedWord reserved.While)) w p i l r = absurd (l refl)
chosen_empty room (WordOrSymbol (kind.ReservedWord reserved.Repeat)) w p i l r = absurd (r refl)
chosen_empty room x w p i l r = refl

pub taken_empty : {room : ℕ} {ts : List Token} {at : ℕ} → IsNotIdentifier ts at → IsTokenOtherThan (WordOrSymbol (kind.ReservedWord reserved.If)) ts at → IsTokenOtherThan (WordOrSymbol (kind.ReservedWord reserved.While)) ts at → IsTokenOtherThan (WordOrSymbol (kind.ReservedWord reserved.Repeat)) ts at → IsReadTree empty room ts at at
taken_empty {room = room} {ts = ts} {at = at} unnamed i l r =
    let differs : (k : TokenKind) → IsTokenOtherThan (WordOrSymbol k) ts at → unnamed.fault ≢ WordOrSymbol k = λ k o e. o.differs (head_of (sym o.here ∙ unnamed.here) ∙ e) in
    record {
      spelled = refl;
      shallow = omega arith;
      only = empty_only unnamed i l r;
      reads = read_made (ap (λ w. chosen_production statement room w) unnamed.here ∙ chosen_empty room unnamed.fault (remaining_terminals ts (at + 1)) unnamed.ranked (differs _ i) (differs _ l) (differs _ r));
      within = unnamed.within;
      forward = omega arith;
    }

-- Lemmas on IF statements: `IF expression THEN sequence {ELSIF expression THEN sequence} [ELSE
-- sequence] END`.

abbrev pub branches_following : ℕ → List ProductionPart
branches_following inner = nonterminal expression inner ∷ token (kind.ReservedWord reserved.Then) ∷ nonterminal sequence inner ∷ nonterminal (items elsif_part) inner ∷ nonterminal (maybe else_part) inner ∷ token (kind.ReservedWord reserved.End) ∷ []

pub taken_branches : {room inner : ℕ} {ts : List Token} {at m n k j o p : ℕ} (c : Tree ℕ expression) (t : Tree ℕ sequence) (es : Tree ℕ (items elsif_part)) (l : Tree ℕ (maybe else_part)) → room ≡ inner + 1 → remaining_terminals ts at ≡ WordOrSymbol (kind.ReservedWord reserved.If) ∷ remaining_terminals ts (at + 1) → IsReadTree c inner ts (at + 1) m → (remaining_terminals ts m ≡ WordOrSymbol (kind.ReservedWord reserved.Then) ∷ remaining_terminals ts n) × (m < length ts) × (n ≡ m + 1) → IsReadTree t inner ts n k → IsReadTree es inner ts k j → IsReadTree l inner ts j o → (remaining_terminals ts o ≡ WordOrSymbol (kind.ReservedWord reserved.End) ∷ remaining_terminals ts p) × (o < length ts) × (p ≡ o + 1) → IsReadTree (branches c t es l) room ts at p
taken_branches {inner = inner} c t es l level here qc following qt qes ql close = record {
  spelled = here ∙ ap (λ y. WordOrSymbol (kind.ReservedWord reserved.If) ∷ y) (joined _ (spell c) _ qc.spelled (following.0 ∙ ap (λ y. WordOrSymbol (kind.ReservedWord reserved.Then) ∷ y) (joined _ (spell t) _ qt.spelled (joined _ (spell es) _ qes.spelled (joined _ (spell l) (single_token_list (kind.ReservedWord reserved.End)) ql.spelled close.0)))));
  shallow = omega (arith, qc.shallow, qt.shallow, qes.shallow, ql.shallow);
  only = λ u z w h s e. let r = branches_only c t es l (unique c) (unique t) (unique es) (unique l) u w z s (sym e) in (sym r.0, sym r.1);
  reads = by (read_opened inner branches_following refl level here) (both qc.reads (both (read_mark following) (both qt.reads (both qes.reads (both ql.reads (read_mark close))))));
  within = omega (arith, close.1, close.2);
  forward = omega (arith, qc.forward, following.2, qt.forward, qes.forward, ql.forward, close.2);
}

branches_parts : (room inner : ℕ) → room ≡ inner + 1 → (w : List (Terminal ℕ)) → BeginsWithParts (nonterminal statement room ∷ []) (WordOrSymbol (kind.ReservedWord reserved.If) ∷ w) → BeginsWithParts (branches_following inner) w
branches_parts room inner d w (empty, z, e, n, s, b) = absurd (not_at z _ _ 8 (sym e) (omega arith) s)
branches_parts room inner d w (assigns k ss a, z, e, n, s, b) = absurd (name_not_mark (sym e))
branches_parts room inner d w (calls k a, z, e, n, s, b) = absurd (name_not_mark (sym e))
branches_parts room inner d w (while_loop c t, z, e, n, s, b) = absurd (not_while (mark_of e))
branches_parts room inner d w (repeat_loop t c, z, e, n, s, b) = absurd (not_repeat (mark_of e))
branches_parts room inner d w (branches c t es l, z, e, n, s, b) = (
  c,
  _,
  tail_of e ∙ append_assoc (spell c) _ z,
  omega arith,
  omega arith,
  (
    _,
    refl,
    (
      t,
      _,
      append_assoc (spell t) _ z,
      omega arith,
      stops_branches es l z,
      (
        es,
        _,
        append_assoc (spell es) _ z,
        omega arith,
        stops_else l z,
        (l, WordOrSymbol (kind.ReservedWord reserved.End) ∷ z, append_assoc (spell l) (single_token_list (kind.ReservedWord reserved.End)) z, omega arith, omega arith, (z, refl, tt)),
      ),
    ),
  ),
)

pub branches_fail : {room inner : ℕ} {ts : List Token} {at : ℕ} {e : ParseRefusal} → room ≡ inner + 1 → remaining_terminals ts at ≡ WordOrSymbol (kind.ReservedWord reserved.If) ∷ remaining_terminals ts (at + 1) → FailsToRead (branches_following inner) ts (at + 1) e → FailsToRead (nonterminal statement room ∷ []) ts at e
branches_fail {room = room} {inner = inner} d here q = fails_following {qs = branches_following inner} (read_opened inner branches_following refl d here) here (branches_parts room inner d) q

-- Lemmas on ELSIF parts: `ELSIF expression THEN sequence`.

elsif_only : {room : ℕ} {ts : List Token} {n k : ℕ} (c : Tree ℕ expression) (t : Tree ℕ sequence) → IsReadTree t room ts n k → (u : Tree ℕ (item elsif_part)) (z w : List (Terminal ℕ)) → HaveSameFirstToken (remaining_terminals ts k) w → NextTokenEndsConstruct 9 z → spell u ++ z ≡ WordOrSymbol (kind.ReservedWord reserved.Elsif) ∷ ((spell c ++ (WordOrSymbol (kind.ReservedWord reserved.Then) ∷ spell t)) ++ w) → (u ≡ elsif_branch c t) × (z ≡ w)
elsif_only c t q (elsif_branch d v) z w h s e =
    let r = same d c (WordOrSymbol (kind.ReservedWord reserved.Then) ∷ (spell v ++ z)) (WordOrSymbol (kind.ReservedWord reserved.Then) ∷ (spell t ++ w)) (omega arith) (omega arith) (regroup (spell d) _ z (spell c) _ w (tail_of e)) in
    let rs = q.only v z w h s (tail_of r.1) in
    (cc (r.0, rs.0), rs.1)

abbrev pub elsif_following : ℕ → List ProductionPart
elsif_following room = nonterminal expression room ∷ token (kind.ReservedWord reserved.Then) ∷ nonterminal sequence room ∷ []

pub taken_elsif : {room : ℕ} {ts : List Token} {at m n k : ℕ} (c : Tree ℕ expression) (t : Tree ℕ sequence) → remaining_terminals ts at ≡ WordOrSymbol (kind.ReservedWord reserved.Elsif) ∷ remaining_terminals ts (at + 1) → IsReadTree c room ts (at + 1) m → (remaining_terminals ts m ≡ WordOrSymbol (kind.ReservedWord reserved.Then) ∷ remaining_terminals ts n) × (m < length ts) × (n ≡ m + 1) → IsReadTree t room ts n k → IsReadTree (elsif_branch c t) room ts at k
taken_elsif {room = room} c t here qc following qt = record {
  spelled = here ∙ ap (λ y. WordOrSymbol (kind.ReservedWord reserved.Elsif) ∷ y) (joined _ (spell c) _ qc.spelled (following.0 ∙ ap (λ y. WordOrSymbol (kind.ReservedWord reserved.Then) ∷ y) qt.spelled));
  shallow = omega (arith, qc.shallow, qt.shallow);
  only = elsif_only c t qt;
  reads = by (read_led (elsif_following room) refl here) (both qc.reads (both (read_mark following) qt.reads));
  within = qt.within;
  forward = omega (arith, qc.forward, following.2, qt.forward);
}

elsif_parts : (room : ℕ) (w : List (Terminal ℕ)) → BeginsWithParts (nonterminal (item elsif_part) room ∷ []) (WordOrSymbol (kind.ReservedWord reserved.Elsif) ∷ w) → BeginsWithParts (elsif_following room) w
elsif_parts room w (elsif_branch c t, z, e, n, s, b) = (c, _, tail_of e ∙ append_assoc (spell c) _ z, omega arith, omega arith, (_, refl, (t, z, refl, omega arith, s, tt)))

pub elsif_fails : {room : ℕ} {ts : List Token} {at : ℕ} {e : ParseRefusal} → remaining_terminals ts at ≡ WordOrSymbol (kind.ReservedWord reserved.Elsif) ∷ remaining_terminals ts (at + 1) → FailsToRead (elsif_following room) ts (at + 1) e → ItemBeginsButCantBeRead elsif_part room ts at e
elsif_fails {room = room} here q = record {
  is_here = subst (λ y. NextTokenHasRank 10 y) (sym here) refl;
  fails = fails_following {qs = elsif_following room} (read_led (elsif_following room) refl here) here (elsif_parts room) q;
}

-- Lemmas on WHILE statements: `WHILE expression DO sequence END`.

abbrev pub while_following : ℕ → List ProductionPart
while_following inner = nonterminal expression inner ∷ token (kind.ReservedWord reserved.Do) ∷ nonterminal sequence inner ∷ token (kind.ReservedWord reserved.End) ∷ []

pub taken_while : {room inner : ℕ} {ts : List Token} {at m n k p : ℕ} (c : Tree ℕ expression) (t : Tree ℕ sequence) → room ≡ inner + 1 → remaining_terminals ts at ≡ WordOrSymbol (kind.ReservedWord reserved.While) ∷ remaining_terminals ts (at + 1) → IsReadTree c inner ts (at + 1) m → (remaining_terminals ts m ≡ WordOrSymbol (kind.ReservedWord reserved.Do) ∷ remaining_terminals ts n) × (m < length ts) × (n ≡ m + 1) → IsReadTree t inner ts n k → (remaining_terminals ts k ≡ WordOrSymbol (kind.ReservedWord reserved.End) ∷ remaining_terminals ts p) × (k < length ts) × (p ≡ k + 1) → IsReadTree (while_loop c t) room ts at p
taken_while {inner = inner} c t level here qc during qt close = record {
  spelled = here ∙ ap (λ y. WordOrSymbol (kind.ReservedWord reserved.While) ∷ y) (joined _ (spell c) _ qc.spelled (during.0 ∙ ap (λ y. WordOrSymbol (kind.ReservedWord reserved.Do) ∷ y) (joined _ (spell t) (single_token_list (kind.ReservedWord reserved.End)) qt.spelled close.0)));
  shallow = omega (arith, qc.shallow, qt.shallow);
  only = λ u z w h s e. let r = while_loop_only c t (unique c) (unique t) u w z s (sym e) in (sym r.0, sym r.1);
  reads = by (read_opened inner while_following refl level here) (both qc.reads (both (read_mark during) (both qt.reads (read_mark close))));
  within = omega (arith, close.1, close.2);
  forward = omega (arith, qc.forward, during.2, qt.forward, close.2);
}

while_parts : (room inner : ℕ) → room ≡ inner + 1 → (w : List (Terminal ℕ)) → BeginsWithParts (nonterminal statement room ∷ []) (WordOrSymbol (kind.ReservedWord reserved.While) ∷ w) → BeginsWithParts (while_following inner) w
while_parts room inner d w (empty, z, e, n, s, b) = absurd (not_at z _ _ 8 (sym e) (omega arith) s)
while_parts room inner d w (assigns k ss a, z, e, n, s, b) = absurd (name_not_mark (sym e))
while_parts room inner d w (calls k a, z, e, n, s, b) = absurd (name_not_mark (sym e))
while_parts room inner d w (branches c t es l, z, e, n, s, b) = absurd (not_while (sym (mark_of e)))
while_parts room inner d w (repeat_loop t c, z, e, n, s, b) = absurd (while_not_repeat (mark_of e))
while_parts room inner d w (while_loop c t, z, e, n, s, b) = (
  c,
  _,
  tail_of e ∙ append_assoc (spell c) _ z,
  omega arith,
  omega arith,
  (_, refl, (t, WordOrSymbol (kind.ReservedWord reserved.End) ∷ z, append_assoc (spell t) (single_token_list (kind.ReservedWord reserved.End)) z, omega arith, omega arith, (z, refl, tt))),
)

pub while_fails : {room inner : ℕ} {ts : List Token} {at : ℕ} {e : ParseRefusal} → room ≡ inner + 1 → remaining_terminals ts at ≡ WordOrSymbol (kind.ReservedWord reserved.While) ∷ remaining_terminals ts (at + 1) → FailsToRead (while_following inner) ts (at + 1) e → FailsToRead (nonterminal statement room ∷ []) ts at e
while_fails {room = room} {inner = inner} d here q = fails_following {qs = while_following inner} (read_opened inner while_following refl d here) here (while_parts room inner d) q

-- Lemmas on REPEAT statements: `REPEAT sequence UNTIL expression`.

repeat_only : {room : ℕ} {ts : List Token} {n k : ℕ} (t : Tree ℕ sequence) (c : Tree ℕ expression) → IsReadTree c room ts n k → (u : Tree ℕ statement) (z w : List (Terminal ℕ)) → HaveSameFirstToken (remaining_terminals ts k) w → NextTokenEndsConstruct 8 z → spell u ++ z ≡ WordOrSymbol (kind.ReservedWord reserved.Repeat) ∷ ((spell t ++ (WordOrSymbol (kind.ReservedWord reserved.Until) ∷ spell c)) ++ w) → (u ≡ repeat_loop t c) × (z ≡ w)
repeat_only t c q empty z w h s e = absurd (not_at z _ _ 8 e (omega arith) s)
repeat_only t c q (assigns k ss a) z w h s e = absurd (name_not_mark e)
repeat_only t c q (calls k a) z w h s e = absurd (name_not_mark e)
repeat_only t c q (branches d v es l) z w h s e = absurd (not_repeat (mark_of e))
repeat_only t c q (while_loop d v) z w h s e = absurd (while_not_repeat (mark_of e))
repeat_only t c q (repeat_loop v d) z w h s e =
    let r = same v t (WordOrSymbol (kind.ReservedWord reserved.Until) ∷ (spell d ++ z)) (WordOrSymbol (kind.ReservedWord reserved.Until) ∷ (spell c ++ w)) (omega arith) (omega arith) (regroup (spell v) _ z (spell t) _ w (tail_of e)) in
    let rs = q.only d z w h (stops_less z 4 8 (omega arith) s) (tail_of r.1) in
    (cc (r.0, rs.0), rs.1)

abbrev pub repeat_following : ℕ → List ProductionPart
repeat_following inner = nonterminal sequence inner ∷ token (kind.ReservedWord reserved.Until) ∷ nonterminal expression inner ∷ []

pub taken_repeat : {room inner : ℕ} {ts : List Token} {at m n k : ℕ} (t : Tree ℕ sequence) (c : Tree ℕ expression) → room ≡ inner + 1 → remaining_terminals ts at ≡ WordOrSymbol (kind.ReservedWord reserved.Repeat) ∷ remaining_terminals ts (at + 1) → IsReadTree t inner ts (at + 1) m → (remaining_terminals ts m ≡ WordOrSymbol (kind.ReservedWord reserved.Until) ∷ remaining_terminals ts n) × (m < length ts) × (n ≡ m + 1) → IsReadTree c inner ts n k → IsReadTree (repeat_loop t c) room ts at k
taken_repeat {inner = inner} t c level here qt following qc = record {
  spelled = here ∙ ap (λ y. WordOrSymbol (kind.ReservedWord reserved.Repeat) ∷ y) (joined _ (spell t) _ qt.spelled (following.0 ∙ ap (λ y. WordOrSymbol (kind.ReservedWord reserved.Until) ∷ y) qc.spelled));
  shallow = omega (arith, qt.shallow, qc.shallow);
  only = repeat_only t c qc;
  reads = by (read_opened inner repeat_following refl level here) (both qt.reads (both (read_mark following) qc.reads));
  within = qc.within;
  forward = omega (arith, qt.forward, following.2, qc.forward);
}

repeat_parts : (room inner : ℕ) → room ≡ inner + 1 → (w : List (Terminal ℕ)) → BeginsWithParts (nonterminal statement room ∷ []) (WordOrSymbol (kind.ReservedWord reserved.Repeat) ∷ w) → BeginsWithParts (repeat_following inner) w
repeat_parts room inner d w (empty, z, e, n, s, b) = absurd (not_at z _ _ 8 (sym e) (omega arith) s)
repeat_parts room inner d w (assigns k ss a, z, e, n, s, b) = absurd (name_not_mark (sym e))
repeat_parts room inner d w (calls k a, z, e, n, s, b) = absurd (name_not_mark (sym e))
repeat_parts room inner d w (branches c t es l, z, e, n, s, b) = absurd (not_repeat (sym (mark_of e)))
repeat_parts room inner d w (while_loop c t, z, e, n, s, b) = absurd (while_not_repeat (sym (mark_of e)))
repeat_parts room inner d w (repeat_loop t c, z, e, n, s, b) = (
  t,
  _,
  tail_of e ∙ append_assoc (spell t) _ z,
  omega arith,
  omega arith,
  (_, refl, (c, z, refl, omega arith, stops_less z 4 8 (omega arith) s, tt)),
)

pub repeat_fails : {room inner : ℕ} {ts : List Token} {at : ℕ} {e : ParseRefusal} → room ≡ inner + 1 → remaining_terminals ts at ≡ WordOrSymbol (kind.ReservedWord reserved.Repeat) ∷ remaining_terminals ts (at + 1) → FailsToRead (repeat_following inner) ts (at + 1) e → FailsToRead (nonterminal statement room ∷ []) ts at e
repeat_fails {room = room} {inner = inner} d here q = fails_following {qs = repeat_following inner} (read_opened inner repeat_following refl d here) here (repeat_parts room inner d) q

-- If no level is left for the construct that this word opens, the refusal `TooDeep` is right.
pub too_deep : {ts : List Token} {at room : ℕ} {e : ParseRefusal} (k : TokenKind) → ((w : List (Terminal ℕ)) → chosen_production statement 0 (WordOrSymbol k ∷ w) ≡ descent.too_deep) → ((w : List (Terminal ℕ)) → BeginsWithParts (nonterminal statement 0 ∷ []) (WordOrSymbol k ∷ w) → ⊥) → at < length ts → (room ≡ 0) × (e ≡ TooDeep at) → remaining_terminals ts at ≡ WordOrSymbol k ∷ remaining_terminals ts (at + 1) → FailsToRead (nonterminal statement room ∷ []) ts at e
too_deep {ts = ts} {at = at} {e = e} k full never l o here = subst (λ r. FailsToRead (nonterminal statement r ∷ []) ts at e) (sym o.0) (too_deep_at_once l o.1 here (λ more. descent.deep (ap (λ w. chosen_production statement 0 w) here ∙ full (remaining_terminals ts (at + 1)))) never)

pub no_if : (w : List (Terminal ℕ)) → BeginsWithParts (nonterminal statement 0 ∷ []) (WordOrSymbol (kind.ReservedWord reserved.If) ∷ w) → ⊥
no_if w (empty, z, e, n, s, b) = not_at z _ _ 8 (sym e) (omega arith) s
no_if w (assigns k ss a, z, e, n, s, b) = name_not_mark (sym e)
no_if w (calls k a, z, e, n, s, b) = name_not_mark (sym e)
no_if w (branches c t es l, z, e, n, s, b) = omega arith
no_if w (while_loop c t, z, e, n, s, b) = omega arith
no_if w (repeat_loop t c, z, e, n, s, b) = omega arith

pub no_while : (w : List (Terminal ℕ)) → BeginsWithParts (nonterminal statement 0 ∷ []) (WordOrSymbol (kind.ReservedWord reserved.While) ∷ w) → ⊥
no_while w (empty, z, e, n, s, b) = not_at z _ _ 8 (sym e) (omega arith) s
no_while w (assigns k ss a, z, e, n, s, b) = name_not_mark (sym e)
no_while w (calls k a, z, e, n, s, b) = name_not_mark (sym e)
no_while w (branches c t es l, z, e, n, s, b) = omega arith
no_while w (while_loop c t, z, e, n, s, b) = omega arith
no_while w (repeat_loop t c, z, e, n, s, b) = omega arith

pub no_repeat : (w : List (Terminal ℕ)) → BeginsWithParts (nonterminal statement 0 ∷ []) (WordOrSymbol (kind.ReservedWord reserved.Repeat) ∷ w) → ⊥
no_repeat w (empty, z, e, n, s, b) = not_at z _ _ 8 (sym e) (omega arith) s
no_repeat w (assigns k ss a, z, e, n, s, b) = name_not_mark (sym e)
no_repeat w (calls k a, z, e, n, s, b) = name_not_mark (sym e)
no_repeat w (branches c t es l, z, e, n, s, b) = omega arith
no_repeat w (while_loop c t, z, e, n, s, b) = omega arith
no_repeat w (repeat_loop t c, z, e, n, s, b) = omega arith
