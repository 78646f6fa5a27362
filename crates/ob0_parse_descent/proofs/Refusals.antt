-- Proves that if a part of a production is refused, the whole production is refused at the same
-- token.
use Rattle.std.proofs.Common.{◌≡◌, ℕ, ◌+◌, List, [], ◌∷◌, ◌++◌, refl, sym, ◌∙◌, ap, subst, arith, append_assoc}
use Rattle.ob0_scan.specs.declared.lexeme.TokenKind.{TokenKind}
use Rattle.ob0_scan.specs.declared.lexeme.Token.{Token}
use Rattle.ob0_tree.specs.Terminals.{Terminal, Name, WordOrSymbol}
use Rattle.ob0_tree.specs.Tree.{GrammarItem, Sort, item, maybe, Tree, none, one, spell}
use Rattle.ob0_parse_descent.specs.TokenRanks.{item_start_rank, item_max_continuing_rank, NextTokenEndsConstruct, NextTokenHasRank}
use Rattle.ob0_parse_descent.specs.ParserPromises.{remaining_terminals, ProductionPart, token, name, nonterminal, BeginsWithParts, HaveSameFirstToken, CantBeginWithParts, IsReadTree, IsRightRefusalOfParts, DescentEndsWith, DescentEndsAsRefusalSays, DescentsHaveSameEnd, FailsToRead, ItemBeginsButCantBeRead}
use Rattle.ob0_parse_descent.specs.Descent.{DescentEnd, Expects, TooDeepAt}
use Rattle.ob0_parse_descent.proofs.Descent.{read_token, read_name, read_one}
use Rattle.ob0_parse_descent.specs.declared.refusal.ParseRefusal.{ParseRefusal}
use Rattle.ob0_parse_descent.specs.declared.refusal.ParseRefusal.TheVariants.{Syntax, TooDeep, Memory}
use Rattle.ob0_parse_descent.proofs.Unique.{stops_less, below}

passed_head : (passed after unseen : List (Terminal ℕ)) (fault : Terminal ℕ) → HaveSameFirstToken (passed ++ (fault ∷ after)) (passed ++ (fault ∷ unseen))
passed_head [] after unseen fault = record { head = fault; following = after; other = unseen; is = refl; alike = refl }
passed_head (x ∷ passed) after unseen fault = record { head = x; following = passed ++ (fault ∷ after); other = passed ++ (fault ∷ unseen); is = refl; alike = refl }

pub starts_alike : (xs w : List (Terminal ℕ)) (n : ℕ) → HaveSameFirstToken xs w → NextTokenHasRank n xs → NextTokenHasRank n w
starts_alike xs w n h p =
    let s : NextTokenHasRank n (h.head ∷ h.following) = subst (λ z. NextTokenHasRank n z) h.is p in
    subst (λ z. NextTokenHasRank n z) (sym h.alike) s

pub starts_back : (xs w : List (Terminal ℕ)) (n : ℕ) → HaveSameFirstToken xs w → NextTokenHasRank n w → NextTokenHasRank n xs
starts_back xs w n h p = starts_alike w xs n record { head = h.head; following = h.other; other = h.following; is = h.alike; alike = h.is } p

-- A token that begins an item doesn't end it.
pub no_end : {N : Type 0} (n : ℕ) (x : List (Terminal N)) → NextTokenHasRank n x → NextTokenEndsConstruct n x → ⊥
no_end n [] p q = p
no_end n (c ∷ x) p q = omega arith

pub head_following : (a x w : List (Terminal ℕ)) → HaveSameFirstToken x w → HaveSameFirstToken (a ++ x) (a ++ w)
head_following [] x w h = h
head_following (c ∷ a) x w h = record { head = c; following = a ++ x; other = a ++ w; is = refl; alike = refl }

pub refused_head : (ps : List ProductionPart) (xs after unseen : List (Terminal ℕ)) → (r : CantBeginWithParts ps xs after) → HaveSameFirstToken xs (r.passed ++ (r.fault ∷ unseen))
refused_head ps xs after unseen r = subst (λ z. HaveSameFirstToken z (r.passed ++ (r.fault ∷ unseen))) (sym r.here) (passed_head r.passed after unseen r.fault)

-- A refusal of the parts qs is a refusal of the parts ps, if each list with the same first token
-- that begins with ps begins with qs.
pub select : {ps qs : List ProductionPart} {xs after : List (Terminal ℕ)} → ((w : List (Terminal ℕ)) → HaveSameFirstToken xs w → BeginsWithParts ps w → BeginsWithParts qs w) → CantBeginWithParts qs xs after → CantBeginWithParts ps xs after
select {ps = ps} {qs = qs} {xs = xs} {after = after} f r = record {
  passed = r.passed;
  fault = r.fault;
  here = r.here;
  cant_begin = λ unseen b. r.cant_begin unseen (f (r.passed ++ (r.fault ∷ unseen)) (refused_head qs xs after unseen r) b);
}

-- If the parts can't begin with the first token, they are refused at that token.
pub at_once : {ps : List ProductionPart} {x : Terminal ℕ} {xs after : List (Terminal ℕ)} → xs ≡ x ∷ after → ((u : List (Terminal ℕ)) → BeginsWithParts ps (x ∷ u) → ⊥) → CantBeginWithParts ps xs after
at_once {x = x} e f = record { passed = []; fault = x; here = e; cant_begin = f }

pub pass_token : {k : TokenKind} {ps : List ProductionPart} {xs z after : List (Terminal ℕ)} → xs ≡ WordOrSymbol k ∷ z → CantBeginWithParts ps z after → CantBeginWithParts (token k ∷ ps) xs after
pass_token {k = k} {ps = ps} e r = record {
  passed = WordOrSymbol k ∷ r.passed;
  fault = r.fault;
  here = e ∙ ap (λ z. WordOrSymbol k ∷ z) r.here;
  cant_begin = λ unseen b.
      let following : r.passed ++ (r.fault ∷ unseen) ≡ b.0 = cc (b.1) in
      r.cant_begin unseen (subst (λ z. BeginsWithParts ps z) (sym following) b.2);
}

pub pass_name : {n : ℕ} {ps : List ProductionPart} {xs z after : List (Terminal ℕ)} → xs ≡ Name n ∷ z → CantBeginWithParts ps z after → CantBeginWithParts (name ∷ ps) xs after
pass_name {n = n} {ps = ps} e r = record {
  passed = Name n ∷ r.passed;
  fault = r.fault;
  here = e ∙ ap (λ z. Name n ∷ z) r.here;
  cant_begin = λ unseen b.
      let following : r.passed ++ (r.fault ∷ unseen) ≡ b.1 = cc (b.2) in
      r.cant_begin unseen (subst (λ z. BeginsWithParts ps z) (sym following) b.3);
}

pub pass_node : {s : Sort} {room : ℕ} {ps : List ProductionPart} {ts : List Token} {at next : ℕ} {after : List (Terminal ℕ)} (t : Tree ℕ s) → IsReadTree t room ts at next → CantBeginWithParts ps (remaining_terminals ts next) after → CantBeginWithParts (nonterminal s room ∷ ps) (remaining_terminals ts at) after
pass_node {s = s} {ps = ps} {ts = ts} {next = next} {after = after} t p r = record {
  passed = spell t ++ r.passed;
  fault = r.fault;
  here = p.spelled ∙ (ap (λ y. spell t ++ y) r.here ∙ sym (append_assoc (spell t) r.passed (r.fault ∷ after)));
  cant_begin = λ unseen b.
      let w : List (Terminal ℕ) = r.passed ++ (r.fault ∷ unseen) in
      let alike = p.only b.0 b.1 w (refused_head ps (remaining_terminals ts next) after unseen r) b.4 (sym b.2 ∙ append_assoc (spell t) r.passed (r.fault ∷ unseen)) in
      r.cant_begin unseen (subst (λ y. BeginsWithParts ps y) alike.1 b.5);
}

-- If a construct is refused, all parts that begin with that construct are refused.
pub in_node : {s : Sort} {room : ℕ} {ps : List ProductionPart} {xs after : List (Terminal ℕ)} → CantBeginWithParts (nonterminal s room ∷ []) xs after → CantBeginWithParts (nonterminal s room ∷ ps) xs after
in_node r = select (λ w h b. (b.0, b.1, b.2, b.3, b.4, tt)) r

pub in_token : {k : TokenKind} {ps : List ProductionPart} {xs after : List (Terminal ℕ)} → CantBeginWithParts (token k ∷ []) xs after → CantBeginWithParts (token k ∷ ps) xs after
in_token r = select (λ w h b. (b.0, b.1, tt)) r

pub in_name : {ps : List ProductionPart} {xs after : List (Terminal ℕ)} → CantBeginWithParts (name ∷ []) xs after → CantBeginWithParts (name ∷ ps) xs after
in_name r = select (λ w h b. (b.0, b.1, b.2, tt)) r

why_by : {ps qs : List ProductionPart} (ts : List Token) (a b : ℕ) (e : ParseRefusal) → ((after : List (Terminal ℕ)) → CantBeginWithParts ps (remaining_terminals ts a) after → CantBeginWithParts qs (remaining_terminals ts b) after) → FailsToRead ps ts a e → IsRightRefusalOfParts qs ts b e
why_by ts a b (Syntax i expected) f r = (r.why.0, f _ r.why.1)
why_by ts a b (TooDeep i) f r = (r.why.0, f _ r.why.1)
why_by ts a b Memory f r = tt

stops_by : (ps qs : List ProductionPart) (ts : List Token) (a b : ℕ) (e : ParseRefusal) → ((o : DescentEnd) → DescentEndsWith ps ts a o → DescentEndsWith qs ts b o) → DescentEndsAsRefusalSays ps ts a e → DescentEndsAsRefusalSays qs ts b e
stops_by ps qs ts a b (Syntax i expected) g r = g (Expects i expected) r
stops_by ps qs ts a b (TooDeep i) g r = g (TooDeepAt i) r
stops_by ps qs ts a b Memory g r = tt

pub fails_by : {ps qs : List ProductionPart} {ts : List Token} {a b : ℕ} {e : ParseRefusal} → ((o : DescentEnd) → DescentEndsWith ps ts a o → DescentEndsWith qs ts b o) → ((after : List (Terminal ℕ)) → CantBeginWithParts ps (remaining_terminals ts a) after → CantBeginWithParts qs (remaining_terminals ts b) after) → FailsToRead ps ts a e → FailsToRead qs ts b e
fails_by {ps = ps} {qs = qs} {ts = ts} {a = a} {b = b} {e = e} g f r = record { why = why_by ts a b e f r; reads = stops_by ps qs ts a b e g r.reads }

-- Proves that the results of parser functions are refused in the same way.

pub fails_weaken : {ps qs : List ProductionPart} {ts : List Token} {at : ℕ} {e : ParseRefusal} → DescentsHaveSameEnd ps qs ts at at → ((w : List (Terminal ℕ)) → HaveSameFirstToken (remaining_terminals ts at) w → BeginsWithParts ps w → BeginsWithParts qs w) → FailsToRead qs ts at e → FailsToRead ps ts at e
fails_weaken g f q = fails_by (λ o r more. g.stops_as_following o more (r more)) (λ after r. select f r) q

pub fails_in : {s : Sort} {room : ℕ} {ps : List ProductionPart} {ts : List Token} {at : ℕ} {e : ParseRefusal} → FailsToRead (nonterminal s room ∷ []) ts at e → FailsToRead (nonterminal s room ∷ ps) ts at e
fails_in {ps = ps} q = fails_by (λ o r more. r (ps ++ more)) (λ after r. in_node r) q

pub fails_pass : {s : Sort} {room : ℕ} {ps : List ProductionPart} {ts : List Token} {at next : ℕ} {e : ParseRefusal} (t : Tree ℕ s) → IsReadTree t room ts at next → FailsToRead ps ts next e → FailsToRead (nonterminal s room ∷ ps) ts at e
fails_pass {ps = ps} t p q = fails_by (λ o r more. p.reads.stops_as_following o (ps ++ more) (r more)) (λ after r. pass_node t p r) q

pub fails_pass_token : {k : TokenKind} {ps : List ProductionPart} {ts : List Token} {at next : ℕ} {e : ParseRefusal} → remaining_terminals ts at ≡ WordOrSymbol k ∷ remaining_terminals ts next → next ≡ at + 1 → FailsToRead ps ts next e → FailsToRead (token k ∷ ps) ts at e
fails_pass_token {ps = ps} h n q = fails_by (λ o r more. (read_token h n).stops_as_following o (ps ++ more) (r more)) (λ after r. pass_token h r) q

pub fails_pass_name : {i : ℕ} {ps : List ProductionPart} {ts : List Token} {at next : ℕ} {e : ParseRefusal} → remaining_terminals ts at ≡ Name i ∷ remaining_terminals ts next → next ≡ at + 1 → FailsToRead ps ts next e → FailsToRead (name ∷ ps) ts at e
fails_pass_name {ps = ps} h n q = fails_by (λ o r more. (read_name h n).stops_as_following o (ps ++ more) (r more)) (λ after r. pass_name h r) q

following : {ps qs : List ProductionPart} (x : Terminal ℕ) {xs z after : List (Terminal ℕ)} → xs ≡ x ∷ z → ((w : List (Terminal ℕ)) → BeginsWithParts ps (x ∷ w) → BeginsWithParts qs w) → CantBeginWithParts qs z after → CantBeginWithParts ps xs after
following x e f r = record {
  passed = x ∷ r.passed;
  fault = r.fault;
  here = e ∙ ap (λ y. x ∷ y) r.here;
  cant_begin = λ unseen b. r.cant_begin unseen (f (r.passed ++ (r.fault ∷ unseen)) b);
}

-- If the first token is read and determines the parts after it, a refusal of these parts is a
-- refusal of the whole.
pub fails_following : {ps qs : List ProductionPart} {x : Terminal ℕ} {ts : List Token} {at next : ℕ} {e : ParseRefusal} → DescentsHaveSameEnd ps qs ts at next → remaining_terminals ts at ≡ x ∷ remaining_terminals ts next → ((w : List (Terminal ℕ)) → BeginsWithParts ps (x ∷ w) → BeginsWithParts qs w) → FailsToRead qs ts next e → FailsToRead ps ts at e
fails_following {x = x} g h f q = fails_by (λ o r more. g.stops_as_following o more (r more)) (λ after r. following x h f r) q

-- If the next token begins an optional item, the parts that begin with the optional item begin with
-- that item.
maybe_only : {i : GrammarItem} (room : ℕ) (ps : List ProductionPart) (w : List (Terminal ℕ)) → NextTokenHasRank (item_start_rank i) w → BeginsWithParts (nonterminal (maybe i) room ∷ ps) w → BeginsWithParts (nonterminal (item i) room ∷ []) w
maybe_only {i = i} room ps w h (none, z, e, n, p, b) = absurd (no_end (item_start_rank i) w h (subst (λ y. NextTokenEndsConstruct (item_start_rank i) y) (sym e) p))
maybe_only {i = i} room ps w h (one t, z, e, n, p, b) =
    (t, z, e, n, stops_less z (item_max_continuing_rank i) (item_start_rank i) (omega (arith, below i)) p, tt)

pub fails_maybe : {i : GrammarItem} {room : ℕ} {ps : List ProductionPart} {ts : List Token} {at : ℕ} {e : ParseRefusal} → ItemBeginsButCantBeRead i room ts at e → FailsToRead (nonterminal (maybe i) room ∷ ps) ts at e
fails_maybe {i = i} {room = room} {ps = ps} {ts = ts} {at = at} q =
    fails_by (λ o r more. (read_one q.is_here).stops_as_following o (ps ++ more) (r (ps ++ more))) (λ after r. select (λ w a b. maybe_only room ps w (starts_alike (remaining_terminals ts at) w (item_start_rank i) a q.is_here) b) r) q.fails

following_alike : {ps qs : List ProductionPart} (x : Terminal ℕ) {xs z after : List (Terminal ℕ)} → xs ≡ x ∷ z → ((w : List (Terminal ℕ)) → HaveSameFirstToken z w → BeginsWithParts ps (x ∷ w) → BeginsWithParts qs w) → CantBeginWithParts qs z after → CantBeginWithParts ps xs after
following_alike {qs = qs} x {xs} {z} {after} e f r = record {
  passed = x ∷ r.passed;
  fault = r.fault;
  here = e ∙ ap (λ y. x ∷ y) r.here;
  cant_begin = λ unseen b. r.cant_begin unseen (f (r.passed ++ (r.fault ∷ unseen)) (refused_head qs z after unseen r) b);
}

-- If the first token and the next one determine the parts after the first token, a refusal of these
-- parts is a refusal of the whole.
pub fails_following_alike : {ps qs : List ProductionPart} {x : Terminal ℕ} {ts : List Token} {at next : ℕ} {e : ParseRefusal} → DescentsHaveSameEnd ps qs ts at next → remaining_terminals ts at ≡ x ∷ remaining_terminals ts next → ((w : List (Terminal ℕ)) → HaveSameFirstToken (remaining_terminals ts next) w → BeginsWithParts ps (x ∷ w) → BeginsWithParts qs w) → FailsToRead qs ts next e → FailsToRead ps ts at e
fails_following_alike {x = x} g h f q = fails_by (λ o r more. g.stops_as_following o more (r more)) (λ after r. following_alike x h f r) q

-- If two constructs are refused, they are refused together with the parts after them.
pub fails_in_both : {s r : Sort} {room deep : ℕ} {ps : List ProductionPart} {ts : List Token} {at : ℕ} {e : ParseRefusal} → FailsToRead (nonterminal s room ∷ nonterminal r deep ∷ []) ts at e → FailsToRead (nonterminal s room ∷ nonterminal r deep ∷ ps) ts at e
fails_in_both {ps = ps} q = fails_by (λ o x more. x (ps ++ more)) (λ after x. select (λ w h b. (b.0, b.1, b.2, b.3, b.4, (b.5.0, b.5.1, b.5.2, b.5.3, b.5.4, tt))) x) q
