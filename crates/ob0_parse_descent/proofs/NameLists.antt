-- Proves that lists of names are read and refused correctly.
use Rattle.std.proofs.Common.{◌≡◌, ℕ, ◌+◌, ◌<◌, ◌≤◌, List, [], ◌∷◌, ◌++◌, length, refl, sym, ◌∙◌, ap, subst, arith}
use Rattle.ob0_scan.specs.declared.lexeme.TokenKind.TheVariants as kind
use Rattle.ob0_scan.specs.declared.lexeme.Symbol.TheVariants as symbol
use Rattle.ob0_scan.specs.declared.lexeme.Token.{Token}
use Rattle.ob0_tree.specs.Terminals.{Terminal, Name, WordOrSymbol}
use Rattle.ob0_tree.specs.Tree.{item, items, name_after_comma, names, Tree, end, more, listed, comma_then_name, spell, nesting}
use Rattle.ob0_parse_descent.specs.TokenRanks.{NextTokenEndsConstruct, NextTokenHasRank}
use Rattle.ob0_parse_descent.specs.ParserPromises.{remaining_terminals, name, nonterminal, BeginsWithParts, HaveSameFirstToken, IsReadTree, FailsToRead, ItemBeginsButCantBeRead, IsNotIdentifier}
use Rattle.ob0_parse_descent.proofs.Descent.{both, by, read_name, read_made, read_led}
use Rattle.ob0_parse_descent.specs.declared.refusal.ExpectedSyntax.TheVariants as expected
use Rattle.ob0_parse_descent.specs.declared.refusal.ParseRefusal.{ParseRefusal}
use Rattle.ob0_parse_descent.specs.declared.refusal.ParseRefusal.TheVariants.{Syntax}
use Rattle.ob0_parse_descent.proofs.Unique.{tail_of, name_of}
use Rattle.ob0_parse_descent.proofs.Refusals.{fails_weaken, fails_following, fails_pass_name}
use Rattle.ob0_parse_descent.proofs.Leads.{fails_in_name}
use Rattle.ob0_parse_descent.proofs.Items.{Taking, taking_fails}

then_name_only : (i : ℕ) (u : Tree ℕ (item name_after_comma)) (z w : List (Terminal ℕ)) → spell u ++ z ≡ WordOrSymbol (kind.Symbol symbol.Comma) ∷ Name i ∷ w → (u ≡ comma_then_name i) × (z ≡ w)
then_name_only i (comma_then_name n) z w e = (ap comma_then_name (name_of (tail_of e)), tail_of (tail_of e))

pub taken_then_name : {ts : List Token} {at n : ℕ} (x : ℕ) → remaining_terminals ts at ≡ WordOrSymbol (kind.Symbol symbol.Comma) ∷ remaining_terminals ts (at + 1) → (remaining_terminals ts (at + 1) ≡ Name (at + 1) ∷ remaining_terminals ts n) × (at + 1 < length ts) × (x ≡ at + 1) × (n ≡ at + 1 + 1) → IsReadTree (comma_then_name x) 0 ts at n
taken_then_name {ts = ts} {at = at} {n = n} x here p = subst (λ y. IsReadTree (comma_then_name y) 0 ts at n) (sym p.2) record {
  spelled = here ∙ ap (λ y. WordOrSymbol (kind.Symbol symbol.Comma) ∷ y) p.0;
  shallow = omega arith;
  only = λ u z w h s e. then_name_only (at + 1) u z w e;
  reads = by (read_led (name ∷ []) refl here) (read_name p.0 p.3);
  within = omega (arith, p.1, p.3);
  forward = omega (arith, p.3);
}

then_name_parts : (w : List (Terminal ℕ)) → BeginsWithParts (nonterminal (item name_after_comma) 0 ∷ []) (WordOrSymbol (kind.Symbol symbol.Comma) ∷ w) → BeginsWithParts (name ∷ []) w
then_name_parts w (comma_then_name n, z, e, l, s, b) = (n, z, tail_of e, tt)

pub then_name_fails : {ts : List Token} {at : ℕ} {e : ParseRefusal} → remaining_terminals ts at ≡ WordOrSymbol (kind.Symbol symbol.Comma) ∷ remaining_terminals ts (at + 1) → FailsToRead (name ∷ []) ts (at + 1) e → ItemBeginsButCantBeRead name_after_comma 0 ts at e
then_name_fails here q = record {
  is_here = subst (λ y. NextTokenHasRank 5 y) (sym here) refl;
  fails = fails_following {qs = name ∷ []} (read_led (name ∷ []) refl here) here then_name_parts q;
}

listed_only : {ts : List Token} {m n : ℕ} (i : ℕ) (others : Tree ℕ (items name_after_comma)) → IsReadTree others 0 ts m n → (u : Tree ℕ names) (z w : List (Terminal ℕ)) → HaveSameFirstToken (remaining_terminals ts n) w → NextTokenEndsConstruct 5 z → spell u ++ z ≡ Name i ∷ (spell others ++ w) → (u ≡ listed i others) × (z ≡ w)
listed_only i others p (listed k us) z w h s e =
    let r = p.only us z w h s (tail_of e) in
    let same : k ≡ i = name_of e in
    (cc (same, r.0), r.1)

pub taken_listed : {ts : List Token} {at m n : ℕ} (others : Tree ℕ (items name_after_comma)) → remaining_terminals ts at ≡ Name at ∷ remaining_terminals ts m → m ≡ at + 1 → IsReadTree others 0 ts m n → IsReadTree (listed at others) 0 ts at n
taken_listed {at = at} others here l p = record { spelled = here ∙ ap (λ y. Name at ∷ y) p.spelled; shallow = omega arith; only = listed_only at others p; reads = by (read_made refl) (both (read_name here l) p.reads); within = p.within; forward = omega (arith, p.forward) }

pub nameless : (t : Tree ℕ (items name_after_comma)) → nesting t ≤ 0
nameless end = omega arith
nameless (more (comma_then_name n) ts) = let h = nameless ts in omega arith

names_parts : (w : List (Terminal ℕ)) → BeginsWithParts (nonterminal names 0 ∷ []) w → BeginsWithParts (name ∷ nonterminal (items name_after_comma) 0 ∷ []) w
names_parts w (listed k us, z, e, l, s, b) = (k, spell us ++ z, e, (us, z, refl, nameless us, s, tt))

pub names_fails_first : {ts : List Token} {at : ℕ} {e : ParseRefusal} → IsNotIdentifier ts at × (e ≡ Syntax at expected.Identifier) → FailsToRead (nonterminal names 0 ∷ []) ts at e
names_fails_first q = fails_weaken {qs = name ∷ nonterminal (items name_after_comma) 0 ∷ []} (read_made refl) (λ w h b. names_parts w b) (fails_in_name q)

pub names_fails_more : {ts : List Token} {at m n : ℕ} {e : ParseRefusal} (others : Tree ℕ (items name_after_comma)) → remaining_terminals ts at ≡ Name at ∷ remaining_terminals ts m → m ≡ at + 1 → Taking others 0 ts m n → ItemBeginsButCantBeRead name_after_comma 0 ts n e → FailsToRead (nonterminal names 0 ∷ []) ts at e
names_fails_more others here l p q = fails_weaken {qs = name ∷ nonterminal (items name_after_comma) 0 ∷ []} (read_made refl) (λ w h b. names_parts w b) (fails_pass_name here l (taking_fails others p q))
