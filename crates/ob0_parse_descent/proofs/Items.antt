-- Proves facts about items that are read one after another.
use Rattle.std.proofs.Common.{◌≡◌, ℕ, ◌≤◌, List, [], ◌∷◌, ◌++◌, length, refl, sym, ◌∙◌, ap, subst, arith, append_assoc, append-nil}
use Rattle.ob0_scan.specs.declared.lexeme.Token.{Token}
use Rattle.ob0_tree.specs.Terminals.{Terminal}
use Rattle.ob0_tree.specs.Tree.{GrammarItem, item, items, Tree, end, more, spell, nesting}
use Rattle.ob0_tree.specs.View.{items_of}
use Rattle.ob0_parse_descent.specs.TokenRanks.{item_start_rank, item_max_continuing_rank, NextTokenEndsConstruct, NextTokenHasRank}
use Rattle.ob0_parse_descent.specs.ParserPromises.{remaining_terminals, ProductionPart, nonterminal, BeginsWithParts, HaveSameFirstToken, DescentsHaveSameEnd, IsReadTree, FailsToRead, ItemBeginsButCantBeRead}
use Rattle.ob0_parse_descent.proofs.Descent.{as_is, both, by, read_more, read_end}
use Rattle.ob0_parse_descent.specs.declared.refusal.ParseRefusal.{ParseRefusal}
use Rattle.ob0_parse_descent.proofs.Unique.{not_here, starts_item, stops_items, below}
use Rattle.ob0_parse_descent.proofs.Refusals.{refused_head, head_following, starts_alike, starts_back, no_end, fails_by}

pub appended : {N : Type 0} {i : GrammarItem} → Tree N (items i) → Tree N (items i) → Tree N (items i)
appended end us = us
appended (more t ts) us = more t (appended ts us)

-- Holds if the tree of items `whole` begins with the items in `front`, and its other items,
-- followed by z, spell w.
pub record Ahead {i : GrammarItem} (whole front : Tree ℕ (items i)) (z w : List (Terminal ℕ)) : Type 0 where
  pub others : Tree ℕ (items i)
  pub is : whole ≡ appended front others
  pub spelled : spell others ++ z ≡ w

-- Holds if the tree t has the items read so far, after which another one may come.
pub record Taking {i : GrammarItem} (t : Tree ℕ (items i)) (room : ℕ) (ts : List Token) (at next : ℕ) : Type 0 where
  pub spelled : remaining_terminals ts at ≡ spell t ++ remaining_terminals ts next
  pub shallow : nesting t ≤ room
  pub only : (u : Tree ℕ (items i)) (z w : List (Terminal ℕ)) → HaveSameFirstToken (remaining_terminals ts next) w → NextTokenEndsConstruct (item_start_rank i) z → spell u ++ z ≡ spell t ++ w → Ahead u t z w
  pub reads : DescentsHaveSameEnd (nonterminal (items i) room ∷ []) (nonterminal (items i) room ∷ []) ts at next
  pub within : next ≤ length ts
  pub forward : at ≤ next

pub taking_none : (i : GrammarItem) (room : ℕ) (ts : List Token) (at : ℕ) → at ≤ length ts → Taking (end {i = i}) room ts at at
unfolding appended
taking_none i room ts at w = record { spelled = refl; shallow = omega arith; only = λ u z w h p e. record { others = u; is = refl; spelled = e }; reads = as_is; within = w; forward = omega arith }

spell_snoc : {A : Type 0} {i : GrammarItem} (f : A → Tree ℕ (item i)) (xs : List A) (x : A) → spell (items_of f (xs ++ (x ∷ []))) ≡ spell (items_of f xs) ++ spell (f x)
spell_snoc f [] x = simp append-nil
spell_snoc f (y ∷ xs) x = ap (λ z. spell (f y) ++ z) (spell_snoc f xs x) ∙ sym (append_assoc (spell (f y)) (spell (items_of f xs)) (spell (f x)))

nesting_snoc : {A : Type 0} {i : GrammarItem} (f : A → Tree ℕ (item i)) (xs : List A) (x : A) (room : ℕ) → nesting (items_of f xs) ≤ room → nesting (f x) ≤ room → nesting (items_of f (xs ++ (x ∷ []))) ≤ room
nesting_snoc f [] x room p q = omega arith
nesting_snoc f (y ∷ xs) x room p q = let h = nesting_snoc f xs x room (omega arith) q in omega arith

appended_snoc : {A : Type 0} {i : GrammarItem} (f : A → Tree ℕ (item i)) (xs : List A) (x : A) (us : Tree ℕ (items i)) → appended (items_of f xs) (more (f x) us) ≡ appended (items_of f (xs ++ (x ∷ []))) us
unfolding appended
appended_snoc f [] x us = refl
appended_snoc f (y ∷ xs) x us = ap (more (f y)) (appended_snoc f xs x us)

-- If a tree of items continues with the item x, it begins with the items so far and x.
ahead_more : {A : Type 0} {i : GrammarItem} (f : A → Tree ℕ (item i)) (xs : List A) (x : A) (u others : Tree ℕ (items i)) (z w : List (Terminal ℕ))
    → ((v : Tree ℕ (item i)) (y : List (Terminal ℕ)) → NextTokenEndsConstruct (item_max_continuing_rank i) y → spell v ++ y ≡ spell (f x) ++ w → (v ≡ f x) × (y ≡ w))
    → NextTokenEndsConstruct (item_start_rank i) z → u ≡ appended (items_of f xs) others → spell others ++ z ≡ spell (f x) ++ w → Ahead u (items_of f (xs ++ (x ∷ []))) z w
ahead_more f xs x u end z w only p is e = absurd (not_here (f x) z w p e)
ahead_more {i = i} f xs x u (more v vs) z w only p is e =
    let alike = only v (spell vs ++ z) (stops_items vs z (item_max_continuing_rank i) (below i) p) (sym (append_assoc (spell v) (spell vs) z) ∙ e) in
    record { others = vs; is = is ∙ (ap (λ a. appended (items_of f xs) (more a vs)) alike.0 ∙ appended_snoc f xs x vs); spelled = alike.1 }

pub taking_more : {A : Type 0} {i : GrammarItem} (f : A → Tree ℕ (item i)) (xs : List A) (x : A) (room : ℕ) (ts : List Token) (at m n : ℕ) → Taking (items_of f xs) room ts at m → IsReadTree (f x) room ts m n → Taking (items_of f (xs ++ (x ∷ []))) room ts at n
taking_more {i = i} f xs x room ts at m n p q = record {
  spelled = p.spelled ∙ (ap (λ z. spell (items_of f xs) ++ z) q.spelled ∙ (sym (append_assoc (spell (items_of f xs)) (spell (f x)) (remaining_terminals ts n)) ∙ ap (λ z. z ++ remaining_terminals ts n) (sym (spell_snoc f xs x))));
  shallow = nesting_snoc f xs x room p.shallow q.shallow;
  only = λ u z w h s e.
      let e' : spell u ++ z ≡ spell (items_of f xs) ++ (spell (f x) ++ w) = e ∙ (ap (λ y. y ++ w) (spell_snoc f xs x) ∙ append_assoc (spell (items_of f xs)) (spell (f x)) w) in
      let head : HaveSameFirstToken (remaining_terminals ts m) (spell (f x) ++ w) = subst (λ y. HaveSameFirstToken y (spell (f x) ++ w)) (sym q.spelled) (head_following (spell (f x)) (remaining_terminals ts n) w h) in
      let ahead = p.only u z (spell (f x) ++ w) head s e' in
      ahead_more f xs x u ahead.others z w (λ v y t d. q.only v y w h t d) s ahead.is ahead.spelled;
  reads = by p.reads (by (read_more (subst (λ y. NextTokenHasRank (item_start_rank i) y) (sym q.spelled) (starts_item (f x) (remaining_terminals ts n)))) (both q.reads as_is));
  within = q.within;
  forward = omega (arith, p.forward, q.forward);
}

appended_end : {N : Type 0} {i : GrammarItem} (t : Tree N (items i)) → appended t end ≡ t
unfolding appended
appended_end end = refl
appended_end (more t ts) = ap (more t) (appended_end ts)

ahead_done : {i : GrammarItem} (u t others : Tree ℕ (items i)) (z w : List (Terminal ℕ)) → ¬ NextTokenHasRank (item_start_rank i) w → u ≡ appended t others → spell others ++ z ≡ w → (u ≡ t) × (z ≡ w)
ahead_done u t end z w absent is e = (is ∙ appended_end t, e)
ahead_done {i = i} u t (more v vs) z w absent is e =
    absurd (absent (subst (λ y. NextTokenHasRank (item_start_rank i) y) (sym (append_assoc (spell v) (spell vs) z) ∙ e) (starts_item v (spell vs ++ z))))

-- If no further item comes, the items read so far are the whole tree of items.
pub taking_done : {i : GrammarItem} {room : ℕ} {ts : List Token} {at next : ℕ} (t : Tree ℕ (items i)) → Taking t room ts at next → ¬ NextTokenHasRank (item_start_rank i) (remaining_terminals ts next) → IsReadTree t room ts at next
taking_done {i = i} {ts = ts} {next = next} t p absent = record {
  spelled = p.spelled;
  shallow = p.shallow;
  only = λ u z w h s e.
      let ahead = p.only u z w h s e in
      ahead_done u t ahead.others z w (λ q. absent (starts_back (remaining_terminals ts next) w (item_start_rank i) h q)) ahead.is ahead.spelled;
  reads = by p.reads (read_end absent);
  within = p.within;
  forward = p.forward;
}

inner : {i : GrammarItem} (ts : Tree ℕ (items i)) (v : Tree ℕ (item i)) (vs : Tree ℕ (items i)) (room : ℕ) → nesting (appended ts (more v vs)) ≤ room → nesting v ≤ room
unfolding appended
inner end v vs room n = omega arith
inner (more t ts) v vs room n = inner ts v vs room (omega arith)

next_item : {i : GrammarItem} (room : ℕ) (ts others : Tree ℕ (items i)) (u : Tree ℕ (items i)) (z w : List (Terminal ℕ)) → NextTokenHasRank (item_start_rank i) w → NextTokenEndsConstruct (item_start_rank i) z → nesting u ≤ room → u ≡ appended ts others → spell others ++ z ≡ w → BeginsWithParts (nonterminal (item i) room ∷ []) w
next_item {i = i} room ts end u z w h s n is e = absurd (no_end (item_start_rank i) w h (subst (λ y. NextTokenEndsConstruct (item_start_rank i) y) e s))
next_item {i = i} room ts (more v vs) u z w h s n is e =
    (v, spell vs ++ z, sym e ∙ append_assoc (spell v) (spell vs) z, inner ts v vs room (subst (λ a. nesting a ≤ room) is n), stops_items vs z (item_max_continuing_rank i) (below i) s, tt)

-- If the next item is refused, the whole list of items is refused.
pub taking_fails : {ps : List ProductionPart} {i : GrammarItem} {room : ℕ} {ts : List Token} {at next : ℕ} {e : ParseRefusal} (t : Tree ℕ (items i)) → Taking t room ts at next → ItemBeginsButCantBeRead i room ts next e → FailsToRead (nonterminal (items i) room ∷ ps) ts at e
taking_fails {ps = ps} {i = i} {room = room} {ts = ts} {at = at} {next = next} t p q = fails_by (λ o r more. p.reads.stops_as_following o (ps ++ more) ((read_more q.is_here).stops_as_following o (ps ++ more) (r (nonterminal (items i) room ∷ (ps ++ more))))) (λ after r. record {
  passed = spell t ++ r.passed;
  fault = r.fault;
  here = p.spelled ∙ (ap (λ y. spell t ++ y) r.here ∙ sym (append_assoc (spell t) r.passed (r.fault ∷ after)));
  cant_begin = λ unseen b.
      let w : List (Terminal ℕ) = r.passed ++ (r.fault ∷ unseen) in
      let h = refused_head (nonterminal (item i) room ∷ []) (remaining_terminals ts next) after unseen r in
      let ahead = p.only b.0 b.1 w h b.4 (sym b.2 ∙ append_assoc (spell t) r.passed (r.fault ∷ unseen)) in
      r.cant_begin unseen (next_item room t ahead.others b.0 b.1 w (starts_alike (remaining_terminals ts next) w (item_start_rank i) h q.is_here) b.4 b.3 ahead.is ahead.spelled);
}) q.fails
