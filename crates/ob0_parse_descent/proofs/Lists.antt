-- Proves facts about lists of elements with separators between them.
use Rattle.std.proofs.Common.{◌≡◌, ℕ, List, [], ◌∷◌, ◌++◌, refl, ap}
use Rattle.ob0_scan.specs.declared.lexeme.Token.{Token}
use Rattle.ob0_tree.specs.Tree.{GrammarItem, Sort, item, items, Tree}
use Rattle.ob0_tree.specs.View.{items_of}
use Rattle.ob0_parse_descent.specs.TokenRanks.{item_start_rank, NextTokenHasRank}
use Rattle.ob0_parse_descent.specs.ParserPromises.{remaining_terminals, ProductionPart, nonterminal, IsReadTree, FailsToRead, ItemBeginsButCantBeRead, IsReadList}
use Rattle.ob0_parse_descent.specs.declared.refusal.ParseRefusal.{ParseRefusal}
use Rattle.ob0_parse_descent.proofs.Refusals.{fails_pass}
use Rattle.ob0_parse_descent.proofs.Items.{Taking, taking_none, taking_more, taking_done, taking_fails}

-- Holds if the list xs has the elements read so far, after which another one may come.
pub record Listing {A : Type 0} {s : Sort} {i : GrammarItem} (view : A → Tree ℕ s) (further : A → Tree ℕ (item i)) (xs : List A) (room : ℕ) (ts : List Token) (at next : ℕ) : Type 0 where
  pub first : A
  pub others : List A
  pub is : xs ≡ first ∷ others
  pub middle : ℕ
  pub head : IsReadTree (view first) room ts at middle
  pub tail : Taking (items_of further others) room ts middle next

pub listing_one : {A : Type 0} {s : Sort} {i : GrammarItem} (view : A → Tree ℕ s) (further : A → Tree ℕ (item i)) (x : A) {room : ℕ} {ts : List Token} {at next : ℕ} → IsReadTree (view x) room ts at next → Listing view further (x ∷ []) room ts at next
listing_one {i = i} view further x {room} {ts} {at} {next} p = record { first = x; others = []; is = refl; middle = next; head = p; tail = taking_none i room ts next p.within }

pub listing_more : {A : Type 0} {s : Sort} {i : GrammarItem} (view : A → Tree ℕ s) (further : A → Tree ℕ (item i)) (xs : List A) (x : A) {room : ℕ} {ts : List Token} {at m n : ℕ} → Listing view further xs room ts at m → IsReadTree (further x) room ts m n → Listing view further (xs ++ (x ∷ [])) room ts at n
listing_more view further xs x {room} {ts} {at} {m} {n} p q = record {
  first = p.first;
  others = p.others ++ (x ∷ []);
  is = ap (λ l. l ++ (x ∷ [])) p.is;
  middle = p.middle;
  head = p.head;
  tail = taking_more further p.others x room ts p.middle m n p.tail q;
}

pub listing_done : {A : Type 0} {s : Sort} {i : GrammarItem} {view : A → Tree ℕ s} {further : A → Tree ℕ (item i)} {xs : List A} {room : ℕ} {ts : List Token} {at next : ℕ} → Listing view further xs room ts at next → ¬ NextTokenHasRank (item_start_rank i) (remaining_terminals ts next) → IsReadList view further xs room ts at next
listing_done {further = further} p absent = record { first = p.first; others = p.others; is = p.is; middle = p.middle; head = p.head; tail = taking_done (items_of further p.others) p.tail absent }

-- If a further element is refused, the whole list is refused.
pub listing_fails : {A : Type 0} {s : Sort} {i : GrammarItem} {view : A → Tree ℕ s} {further : A → Tree ℕ (item i)} {xs : List A} {ps : List ProductionPart} {room : ℕ} {ts : List Token} {at next : ℕ} {e : ParseRefusal} → Listing view further xs room ts at next → ItemBeginsButCantBeRead i room ts next e → FailsToRead (nonterminal s room ∷ nonterminal (items i) room ∷ ps) ts at e
listing_fails {view = view} {further = further} p q = fails_pass (view p.first) p.head (taking_fails (items_of further p.others) p.tail q)

-- If the part after all elements is refused, the list with that part is refused.
pub listed_pass : {A : Type 0} {s : Sort} {i : GrammarItem} {view : A → Tree ℕ s} {further : A → Tree ℕ (item i)} {xs : List A} {ps : List ProductionPart} {room : ℕ} {ts : List Token} {at next : ℕ} {e : ParseRefusal} → IsReadList view further xs room ts at next → FailsToRead ps ts next e → FailsToRead (nonterminal s room ∷ nonterminal (items i) room ∷ ps) ts at e
listed_pass {view = view} {further = further} p q = fails_pass (view p.first) p.head (fails_pass (items_of further p.others) p.tail q)
