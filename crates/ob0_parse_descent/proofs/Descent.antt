-- Proves that the descent over given parts and tokens has at most one end. Also proves that the
-- descent reads parts one after another.
use Rattle.std.proofs.Common.{◌≡◌, ℕ, suc, ◌+◌, ◌<◌, Bool, true, false, Option, Some, None, List, [], ◌∷◌, ◌++◌, length, refl, sym, ◌∙◌, ap, subst, arith, eqb-true, eq-eqb, if◌then◌else◌}
use Rattle.ob0_scan.specs.declared.lexeme.TokenKind.{TokenKind}
use Rattle.ob0_scan.specs.declared.lexeme.Token.{Token}
use Rattle.ob0_tree.specs.Terminals.{Terminal, Name, Number, WordOrSymbol}
use Rattle.ob0_tree.specs.Tree.{GrammarItem, item, items, maybe, Sort}
use Rattle.ob0_parse_descent.specs.TokenRanks.{terminal_rank, item_start_rank, NextTokenHasRank}
use Rattle.ob0_parse_descent.specs.Descent.{ProductionPart, token, name, number, nonterminal, parts, missing, too_deep, production_of_nested_construct, is_item_next, chosen_production, MatchesPart, DescentEnd, Expects, Descends, done, taken, other, made, absent, deep}
use Rattle.ob0_parse_descent.specs.ParserPromises.{remaining_terminals, DescentsHaveSameEnd}
use Rattle.ob0_parse_descent.specs.declared.refusal.ExpectedSyntax.{ExpectedSyntax}

-- ---- there is only one stop

same_parts : {a b : List ProductionPart} → parts a ≡ parts b → a ≡ b
same_parts e = cc

same_missing : {a b : ExpectedSyntax} → missing a ≡ missing b → a ≡ b
same_missing e = cc

same_some : {a b : ExpectedSyntax} → Some a ≡ Some b → a ≡ b
same_some e = cc

none_some : {a : ExpectedSyntax} → ◌≡◌ {A = Option ExpectedSyntax} None (Some a) → ⊥
none_some e = cc

parts_missing : {a : List ProductionPart} {b : ExpectedSyntax} → parts a ≡ missing b → ⊥
parts_missing e = cc

parts_deep : {a : List ProductionPart} → parts a ≡ too_deep → ⊥
parts_deep e = cc

missing_deep : {a : ExpectedSyntax} → missing a ≡ too_deep → ⊥
missing_deep e = cc

pub same_stop : {ps : List ProductionPart} {i : ℕ} {tokens : List (Terminal ℕ)} {a b : DescentEnd} → Descends ps i tokens a → Descends ps i tokens b → a ≡ b
same_stop done done = refl
same_stop (taken is p) (taken again q) = same_stop p q
same_stop (taken is p) (other differs e) = absurd (differs is)
same_stop (taken is p) (made qs c q) = absurd is
same_stop (taken is p) (absent c) = absurd is
same_stop (taken is p) (deep c) = absurd is
same_stop (other differs e) (taken is q) = absurd (differs is)
same_stop {i = i} (other differs e) (other again f) = ap (Expects i) (same_some (sym e ∙ f))
same_stop (other differs e) (made qs c q) = absurd (none_some e)
same_stop (other differs e) (absent c) = absurd (none_some e)
same_stop (other differs e) (deep c) = absurd (none_some e)
same_stop (made qs c p) (taken is q) = absurd is
same_stop (made qs c p) (other differs e) = absurd (none_some e)
same_stop {i = i} {tokens = tokens} {b = b} (made {ps = ps} qs c p) (made rs d q) = same_stop p (subst (λ l. Descends (l ++ ps) i tokens b) (same_parts (sym d ∙ c)) q)
same_stop (made qs c p) (absent d) = absurd (parts_missing (sym c ∙ d))
same_stop (made qs c p) (deep d) = absurd (parts_deep (sym c ∙ d))
same_stop (absent c) (taken is q) = absurd is
same_stop (absent c) (other differs e) = absurd (none_some e)
same_stop (absent c) (made rs d q) = absurd (parts_missing (sym d ∙ c))
same_stop {i = i} (absent c) (absent d) = ap (Expects i) (same_missing (sym c ∙ d))
same_stop (absent c) (deep d) = absurd (missing_deep (sym c ∙ d))
same_stop (deep c) (taken is q) = absurd is
same_stop (deep c) (other differs e) = absurd (none_some e)
same_stop (deep c) (made rs d q) = absurd (parts_deep (sym d ∙ c))
same_stop (deep c) (absent d) = absurd (missing_deep (sym d ∙ c))
same_stop (deep c) (deep d) = refl

pub as_is : {qs : List ProductionPart} {ts : List Token} {at : ℕ} → DescentsHaveSameEnd qs qs ts at at
as_is = record { stops_as_following = λ o more r. r }

-- If the descent reads one part and then other parts, it reads all of them.
pub both : {p : ProductionPart} {qs rs : List ProductionPart} {ts : List Token} {a b c : ℕ} → DescentsHaveSameEnd (p ∷ []) [] ts a b → DescentsHaveSameEnd qs rs ts b c → DescentsHaveSameEnd (p ∷ qs) rs ts a c
both {qs = qs} p q = record { stops_as_following = λ o more r. p.stops_as_following o (qs ++ more) (q.stops_as_following o more r) }

-- If the descent reads some parts as other parts, and these as others again, it reads the first as
-- the last.
pub by : {ps qs rs : List ProductionPart} {ts : List Token} {a b c : ℕ} → DescentsHaveSameEnd ps qs ts a b → DescentsHaveSameEnd qs rs ts b c → DescentsHaveSameEnd ps rs ts a c
by p q = record { stops_as_following = λ o more r. p.stops_as_following o more (q.stops_as_following o more r) }

-- Proves that the descent reads a part that is one token.

read_part : {p : ProductionPart} {x : Terminal ℕ} {ts : List Token} {at next : ℕ} → MatchesPart p x → remaining_terminals ts at ≡ x ∷ remaining_terminals ts next → next ≡ at + 1 → DescentsHaveSameEnd (p ∷ []) [] ts at next
read_part {p = p} {ts = ts} {at = at} {next = next} is here following = record {
  stops_as_following = λ o ps r.
      subst (λ w. Descends (p ∷ ps) at w o) (sym here) (taken is (subst (λ j. Descends ps j (remaining_terminals ts next) o) following r));
}

pub read_token : {k : TokenKind} {ts : List Token} {at next : ℕ} → remaining_terminals ts at ≡ WordOrSymbol k ∷ remaining_terminals ts next → next ≡ at + 1 → DescentsHaveSameEnd (token k ∷ []) [] ts at next
read_token here following = read_part refl here following

pub read_name : {n : ℕ} {ts : List Token} {at next : ℕ} → remaining_terminals ts at ≡ Name n ∷ remaining_terminals ts next → next ≡ at + 1 → DescentsHaveSameEnd (name ∷ []) [] ts at next
read_name {n = n} here following = read_part (n, refl) here following

pub read_number : {n : ℕ} {ts : List Token} {at next : ℕ} → remaining_terminals ts at ≡ Number n ∷ remaining_terminals ts next → next ≡ at + 1 → DescentsHaveSameEnd (number ∷ []) [] ts at next
read_number {n = n} here following = read_part (n, refl) here following

-- If a parser function has read this reserved word or symbol, the descent reads it.
pub read_mark : {k : TokenKind} {ts : List Token} {at next : ℕ} → (remaining_terminals ts at ≡ WordOrSymbol k ∷ remaining_terminals ts next) × (at < length ts) × (next ≡ at + 1) → DescentsHaveSameEnd (token k ∷ []) [] ts at next
read_mark h = read_token h.0 h.2

-- The descent reads a construct as the parts of the production that is chosen here.
pub read_made : {s : Sort} {room : ℕ} {ts : List Token} {at : ℕ} {qs : List ProductionPart} → chosen_production s room (remaining_terminals ts at) ≡ parts qs → DescentsHaveSameEnd (nonterminal s room ∷ []) qs ts at at
read_made {qs = qs} c = record { stops_as_following = λ o more r. made qs c r }

-- The descent reads a construct whose production begins with this token as the parts after that
-- token.
pub read_led : {s : Sort} {room : ℕ} {k : TokenKind} {ts : List Token} {at : ℕ} (qs : List ProductionPart) → chosen_production s room (WordOrSymbol k ∷ remaining_terminals ts (at + 1)) ≡ parts (token k ∷ qs) → remaining_terminals ts at ≡ WordOrSymbol k ∷ remaining_terminals ts (at + 1) → DescentsHaveSameEnd (nonterminal s room ∷ []) qs ts at (at + 1)
read_led {s = s} {room = room} {k = k} qs c here =
    by (read_made (ap (λ w. chosen_production s room w) here ∙ c)) (both (read_token here refl) as_is)

-- The descent reads a construct that counts for nesting as the parts after its first token, with
-- one level less.
pub read_opened : {s : Sort} {room : ℕ} {k : TokenKind} {ts : List Token} {at : ℕ} (inner : ℕ) (f : ℕ → List ProductionPart) → chosen_production s room (WordOrSymbol k ∷ remaining_terminals ts (at + 1)) ≡ production_of_nested_construct room (λ n. token k ∷ f n) → room ≡ inner + 1 → remaining_terminals ts at ≡ WordOrSymbol k ∷ remaining_terminals ts (at + 1) → DescentsHaveSameEnd (nonterminal s room ∷ []) (f inner) ts at (at + 1)
read_opened {k = k} inner f c d here =
    let one : inner + 1 ≡ suc inner = omega arith in
    read_led (f inner) (c ∙ ap (λ n. production_of_nested_construct n (λ m. token k ∷ f m)) (d ∙ one)) here

-- Proves that `is_item_next` computes whether an item is next.

pub next_item : (i : GrammarItem) (w : List (Terminal ℕ)) → NextTokenHasRank (item_start_rank i) w → is_item_next i w ≡ true
next_item i [] s = absurd s
next_item i (x ∷ w) s = eq-eqb (terminal_rank x) (item_start_rank i) s

pub no_next : (i : GrammarItem) (w : List (Terminal ℕ)) → ¬ NextTokenHasRank (item_start_rank i) w → (b : Bool) → is_item_next i w ≡ b → is_item_next i w ≡ false
no_next i w lacks false e = e
no_next i [] lacks true e = refl
no_next i (x ∷ w) lacks true e = absurd (lacks (eqb-true (terminal_rank x) (item_start_rank i) e))

pub read_more : {i : GrammarItem} {room : ℕ} {ts : List Token} {at : ℕ} → NextTokenHasRank (item_start_rank i) (remaining_terminals ts at) → DescentsHaveSameEnd (nonterminal (items i) room ∷ []) (nonterminal (item i) room ∷ nonterminal (items i) room ∷ []) ts at at
read_more {i = i} {room = room} {ts = ts} {at = at} s = read_made (ap (λ b. if b then parts (nonterminal (item i) room ∷ nonterminal (items i) room ∷ []) else parts []) (next_item i (remaining_terminals ts at) s))

pub read_end : {i : GrammarItem} {room : ℕ} {ts : List Token} {at : ℕ} → ¬ NextTokenHasRank (item_start_rank i) (remaining_terminals ts at) → DescentsHaveSameEnd (nonterminal (items i) room ∷ []) [] ts at at
read_end {i = i} {room = room} {ts = ts} {at = at} lacks = read_made (ap (λ b. if b then parts (nonterminal (item i) room ∷ nonterminal (items i) room ∷ []) else parts []) (no_next i (remaining_terminals ts at) lacks _ refl))

pub read_one : {i : GrammarItem} {room : ℕ} {ts : List Token} {at : ℕ} → NextTokenHasRank (item_start_rank i) (remaining_terminals ts at) → DescentsHaveSameEnd (nonterminal (maybe i) room ∷ []) (nonterminal (item i) room ∷ []) ts at at
read_one {i = i} {room = room} {ts = ts} {at = at} s = read_made (ap (λ b. if b then parts (nonterminal (item i) room ∷ []) else parts []) (next_item i (remaining_terminals ts at) s))

pub read_none : {i : GrammarItem} {room : ℕ} {ts : List Token} {at : ℕ} → ¬ NextTokenHasRank (item_start_rank i) (remaining_terminals ts at) → DescentsHaveSameEnd (nonterminal (maybe i) room ∷ []) [] ts at at
read_none {i = i} {room = room} {ts = ts} {at = at} lacks = read_made (ap (λ b. if b then parts (nonterminal (item i) room ∷ []) else parts []) (no_next i (remaining_terminals ts at) lacks _ refl))

-- If the descent reads a construct, it reads the parts of the construct's production there.
pub unmade : {s : Sort} {room : ℕ} {qs ps : List ProductionPart} {i : ℕ} {tokens : List (Terminal ℕ)} {o : DescentEnd} → chosen_production s room tokens ≡ parts qs → Descends (nonterminal s room ∷ ps) i tokens o → Descends (qs ++ ps) i tokens o
unmade c (taken is r) = absurd is
unmade c (other differs e) = absurd (none_some e)
unmade {ps = ps} {i = i} {tokens = tokens} {o = o} c (made rs d r) = subst (λ l. Descends (l ++ ps) i tokens o) (same_parts (sym d ∙ c)) r
unmade c (absent d) = absurd (parts_missing (sym c ∙ d))
unmade c (deep d) = absurd (parts_deep (sym c ∙ d))

pub read_back : {s : Sort} {room : ℕ} {qs rs : List ProductionPart} {ts : List Token} {at next : ℕ} → chosen_production s room (remaining_terminals ts at) ≡ parts qs → DescentsHaveSameEnd (nonterminal s room ∷ []) rs ts at next → DescentsHaveSameEnd qs rs ts at next
read_back c p = record { stops_as_following = λ o more r. unmade c (p.stops_as_following o more r) }

pub past_name : {n i : ℕ} {ps : List ProductionPart} {xs w : List (Terminal ℕ)} {o : DescentEnd} → xs ≡ Name n ∷ w → Descends (name ∷ ps) i xs o → Descends ps (i + 1) w o
past_name {n} {i} {ps} {xs} {w} {o} e r = following (subst (λ y. Descends (name ∷ ps) i y o) e r)
  where
    following : {n i : ℕ} {ps : List ProductionPart} {w : List (Terminal ℕ)} {o : DescentEnd} → Descends (name ∷ ps) i (Name n ∷ w) o → Descends ps (i + 1) w o
    following (taken is r) = r
    following {n = n} (other differs e) = absurd (differs (n, refl))
