-- Proves that types are read and refused correctly.
use Rattle.std.proofs.Common.{◌≡◌, ◌≢◌, ℕ, ◌+◌, ◌<◌, ◌≤◌, List, [], ◌∷◌, ◌++◌, length, refl, sym, ◌∙◌, ap, subst, arith, append_assoc}
use Rattle.ob0_scan.specs.declared.lexeme.TokenKind.TheVariants as kind
use Rattle.ob0_scan.specs.declared.lexeme.ReservedWord.TheVariants as reserved
use Rattle.ob0_scan.specs.declared.lexeme.Symbol.TheVariants as symbol
use Rattle.ob0_scan.specs.declared.lexeme.Token.{Token}
use Rattle.ob0_tree.specs.Terminals.{Terminal, Name, WordOrSymbol}
use Rattle.ob0_tree.specs.Tree.{fields_after_semicolon, expression, names, written_type, fields, named_type, array_type, record_type, no_fields, some_fields, listed, items, Tree, spell, nesting, single_token_list}
use Rattle.ob0_parse_descent.specs.TokenRanks.{terminal_rank, NextTokenEndsConstruct}
use Rattle.ob0_parse_descent.specs.ParserPromises.{remaining_terminals, ProductionPart, token, nonterminal, BeginsWithParts, HaveSameFirstToken, IsReadTree, FailsToRead, IsTokenOtherThan, IsNotIdentifier, IsReadList}
use Rattle.ob0_parse_descent.specs.Descent.{parts, missing, chosen_production, absent, deep}
use Rattle.ob0_parse_descent.specs.declared.refusal.ExpectedSyntax.TheVariants as expected
use Rattle.ob0_parse_descent.proofs.Descent.{both, by, read_name, read_mark, read_made, read_opened}
use Rattle.ob0_parse_descent.specs.declared.refusal.ParseRefusal.{ParseRefusal}
use Rattle.ob0_parse_descent.specs.declared.refusal.ParseRefusal.TheVariants.{Syntax, TooDeep}
use Rattle.ob0_parse_descent.proofs.Unique.{same, not_at, stops_less, stops_closed, regroup, tail_of, head_of}
use Rattle.ob0_parse_descent.proofs.Refusals.{fails_weaken, fails_following}
use Rattle.ob0_parse_descent.proofs.Expressions.{joined, too_deep_at_once}
use Rattle.ob0_parse_descent.proofs.Leads.{fails_here, only_zero}
use Rattle.ob0_tree.specs.declared.tree.OptionalFieldGroup.{OptionalFieldGroup}
use Rattle.ob0_tree.specs.View.{optional_field_group_of, field_group_after_semicolon_of, record_type_of_list, items_of}
use Rattle.ob0_parse_descent.proofs.Apart.{name_not_mark, array_not_record}

pub taken_named : {room : ℕ} {ts : List Token} {at : ℕ} → (remaining_terminals ts at ≡ Name at ∷ remaining_terminals ts (at + 1)) × (at < length ts) → IsReadTree (named_type at) room ts at (at + 1)
taken_named {room = room} {at = at} here = record { spelled = here.0; shallow = omega arith; only = λ u z w h s e. only_zero (named_type at) u z w refl s e; reads = by (read_made (ap (λ w. chosen_production written_type room w) here.0)) (read_name here.0 refl); within = omega (arith, here.1); forward = omega arith }

-- If the next token is neither an identifier nor ARRAY nor RECORD, no type begins here.
no_type : (room : ℕ) (ts : List Token) (at : ℕ) → IsNotIdentifier ts at → IsTokenOtherThan (WordOrSymbol (kind.ReservedWord reserved.Array)) ts at → IsTokenOtherThan (WordOrSymbol (kind.ReservedWord reserved.Record)) ts at → (x : Terminal ℕ) → remaining_terminals ts at ≡ x ∷ remaining_terminals ts (at + 1) → (u : List (Terminal ℕ)) → BeginsWithParts (nonterminal written_type room ∷ []) (x ∷ u) → ⊥
no_type room ts at unnamed a r x here u (named_type n, z, e, l, s, b) = unnamed.ranked (ap terminal_rank (head_of (sym unnamed.here ∙ here) ∙ head_of e))
no_type room ts at unnamed a r x here u (array_type c t, z, e, l, s, b) = a.differs (head_of (sym a.here ∙ here) ∙ head_of e)
no_type room ts at unnamed a r x here u (record_type f fs, z, e, l, s, b) = r.differs (head_of (sym r.here ∙ here) ∙ head_of e)

chosen_no_type : (room : ℕ) (x : Terminal ℕ) (w : List (Terminal ℕ)) → terminal_rank x ≢ 7 → x ≢ WordOrSymbol (kind.ReservedWord reserved.Array) → x ≢ WordOrSymbol (kind.ReservedWord reserved.Record) → chosen_production written_type room (x ∷ w) ≡ missing expected.Type
chosen_no_type room (Name n) w p q r = absurd (p refl)
chosen_no_type room (WordOrSymbol (kind.ReservedWord reserved.Array)) w p q r = absurd (q refl)
chosen_no_type room (WordOrSymbol (kind.ReservedWord reserved.Record)) w p q r = absurd (r refl)
chosen_no_type room x w p q r = refl

pub type_missing : {room : ℕ} {ts : List Token} {at : ℕ} → IsNotIdentifier ts at → IsTokenOtherThan (WordOrSymbol (kind.ReservedWord reserved.Array)) ts at → IsTokenOtherThan (WordOrSymbol (kind.ReservedWord reserved.Record)) ts at → FailsToRead (nonterminal written_type room ∷ []) ts at (Syntax at expected.Type)
type_missing {room = room} {ts = ts} {at = at} unnamed a r =
    fails_here unnamed.fault unnamed.within unnamed.here (λ more. absent (ap (λ w. chosen_production written_type room w) unnamed.here ∙ chosen_no_type room unnamed.fault (remaining_terminals ts (at + 1)) unnamed.ranked (λ e. a.differs (head_of (sym a.here ∙ unnamed.here) ∙ e)) (λ e. r.differs (head_of (sym r.here ∙ unnamed.here) ∙ e)))) (no_type room ts at unnamed a r unnamed.fault unnamed.here)

-- Lemmas on array types: `ARRAY expression OF type`.

abbrev pub array_following : ℕ → List ProductionPart
array_following inner = nonterminal expression inner ∷ token (kind.ReservedWord reserved.Of) ∷ nonterminal written_type inner ∷ []

pub taken_array : {room inner : ℕ} {ts : List Token} {at m n k : ℕ} (c : Tree ℕ expression) (t : Tree ℕ written_type) → room ≡ inner + 1 → remaining_terminals ts at ≡ WordOrSymbol (kind.ReservedWord reserved.Array) ∷ remaining_terminals ts (at + 1) → IsReadTree c inner ts (at + 1) m → (remaining_terminals ts m ≡ WordOrSymbol (kind.ReservedWord reserved.Of) ∷ remaining_terminals ts n) × (m < length ts) × (n ≡ m + 1) → IsReadTree t inner ts n k → IsReadTree (array_type c t) room ts at k
taken_array {inner = inner} c t level here qc following qt = record {
  spelled = here ∙ ap (λ y. WordOrSymbol (kind.ReservedWord reserved.Array) ∷ y) (joined _ (spell c) _ qc.spelled (following.0 ∙ ap (λ y. WordOrSymbol (kind.ReservedWord reserved.Of) ∷ y) qt.spelled));
  shallow = omega (arith, qc.shallow, qt.shallow);
  only = λ u z w h s e. only_zero (array_type c t) u z w refl s e;
  reads = by (read_opened inner array_following refl level here) (both qc.reads (both (read_mark following) qt.reads));
  within = qt.within;
  forward = omega (arith, qc.forward, following.2, qt.forward);
}

array_parts : (room inner : ℕ) → room ≡ inner + 1 → (w : List (Terminal ℕ)) → BeginsWithParts (nonterminal written_type room ∷ []) (WordOrSymbol (kind.ReservedWord reserved.Array) ∷ w) → BeginsWithParts (array_following inner) w
array_parts room inner d w (named_type k, z, e, n, s, b) = absurd (name_not_mark (sym e))
array_parts room inner d w (record_type f fs, z, e, n, s, b) = absurd (array_not_record e)
array_parts room inner d w (array_type c t, z, e, n, s, b) =
    (c, _, tail_of e ∙ append_assoc (spell c) _ z, omega arith, omega arith, (_, refl, (t, z, refl, omega arith, s, tt)))

pub array_fails : {room inner : ℕ} {ts : List Token} {at : ℕ} {e : ParseRefusal} → room ≡ inner + 1 → remaining_terminals ts at ≡ WordOrSymbol (kind.ReservedWord reserved.Array) ∷ remaining_terminals ts (at + 1) → FailsToRead (array_following inner) ts (at + 1) e → FailsToRead (nonterminal written_type room ∷ []) ts at e
array_fails {room = room} {inner = inner} d here q = fails_following {qs = array_following inner} (read_opened inner array_following refl d here) here (array_parts room inner d) q

no_array : (w : List (Terminal ℕ)) → BeginsWithParts (nonterminal written_type 0 ∷ []) (WordOrSymbol (kind.ReservedWord reserved.Array) ∷ w) → ⊥
no_array w (named_type k, z, e, n, s, b) = name_not_mark (sym e)
no_array w (array_type c t, z, e, n, s, b) = omega arith
no_array w (record_type f fs, z, e, n, s, b) = omega arith

pub array_too_deep : {ts : List Token} {at room : ℕ} {e : ParseRefusal} → at < length ts → (room ≡ 0) × (e ≡ TooDeep at) → remaining_terminals ts at ≡ WordOrSymbol (kind.ReservedWord reserved.Array) ∷ remaining_terminals ts (at + 1) → FailsToRead (nonterminal written_type room ∷ []) ts at e
array_too_deep {ts = ts} {at = at} {e = e} l o here = subst (λ r. FailsToRead (nonterminal written_type r ∷ []) ts at e) (sym o.0) (too_deep_at_once l o.1 here (λ more. deep (ap (λ w. chosen_production written_type 0 w) here)) no_array)

-- Lemmas on record types: `RECORD fields {";" fields} END`.

abbrev pub record_following : ℕ → List ProductionPart
record_following inner = nonterminal fields inner ∷ nonterminal (items fields_after_semicolon) inner ∷ token (kind.ReservedWord reserved.End) ∷ []

pub taken_record : {room inner : ℕ} {ts : List Token} {at m n : ℕ} (xs : List OptionalFieldGroup) → room ≡ inner + 1 → remaining_terminals ts at ≡ WordOrSymbol (kind.ReservedWord reserved.Record) ∷ remaining_terminals ts (at + 1) → IsReadList optional_field_group_of field_group_after_semicolon_of xs inner ts (at + 1) m → (remaining_terminals ts m ≡ WordOrSymbol (kind.ReservedWord reserved.End) ∷ remaining_terminals ts n) × (m < length ts) × (n ≡ m + 1) → IsReadTree (record_type_of_list xs) room ts at n
taken_record {room = room} {inner = inner} {ts = ts} {at = at} {n = n} xs level here p close =
    let f = optional_field_group_of p.first in
    let fs = items_of field_group_after_semicolon_of p.others in
    subst (λ l. IsReadTree (record_type_of_list l) room ts at n) (sym p.is) record {
      spelled = here ∙ ap (λ y. WordOrSymbol (kind.ReservedWord reserved.Record) ∷ y) (joined _ (spell f) _ p.head.spelled (joined _ (spell fs) (single_token_list (kind.ReservedWord reserved.End)) p.tail.spelled close.0));
      shallow = omega (arith, p.head.shallow, p.tail.shallow);
      only = λ u z w h s e. only_zero (record_type f fs) u z w refl s e;
      reads = by (read_opened inner record_following refl level here) (both p.head.reads (both p.tail.reads (read_mark close)));
      within = omega (arith, close.1, close.2);
      forward = omega (arith, p.head.forward, p.tail.forward, close.2);
    }

record_parts : (room inner : ℕ) → room ≡ inner + 1 → (w : List (Terminal ℕ)) → BeginsWithParts (nonterminal written_type room ∷ []) (WordOrSymbol (kind.ReservedWord reserved.Record) ∷ w) → BeginsWithParts (record_following inner) w
record_parts room inner d w (named_type k, z, e, n, s, b) = absurd (name_not_mark (sym e))
record_parts room inner d w (array_type c t, z, e, n, s, b) = absurd (array_not_record (sym e))
record_parts room inner d w (record_type f fs, z, e, n, s, b) = (
  f,
  _,
  tail_of e ∙ append_assoc (spell f) _ z,
  omega arith,
  stops_closed fs (kind.ReservedWord reserved.End) z 7 (omega arith) (omega arith),
  (fs, WordOrSymbol (kind.ReservedWord reserved.End) ∷ z, append_assoc (spell fs) (single_token_list (kind.ReservedWord reserved.End)) z, omega arith, omega arith, (z, refl, tt)),
)

pub record_fails : {room inner : ℕ} {ts : List Token} {at : ℕ} {e : ParseRefusal} → room ≡ inner + 1 → remaining_terminals ts at ≡ WordOrSymbol (kind.ReservedWord reserved.Record) ∷ remaining_terminals ts (at + 1) → FailsToRead (record_following inner) ts (at + 1) e → FailsToRead (nonterminal written_type room ∷ []) ts at e
record_fails {room = room} {inner = inner} d here q = fails_following {qs = record_following inner} (read_opened inner record_following refl d here) here (record_parts room inner d) q

no_record : (w : List (Terminal ℕ)) → BeginsWithParts (nonterminal written_type 0 ∷ []) (WordOrSymbol (kind.ReservedWord reserved.Record) ∷ w) → ⊥
no_record w (named_type k, z, e, n, s, b) = name_not_mark (sym e)
no_record w (array_type c t, z, e, n, s, b) = omega arith
no_record w (record_type f fs, z, e, n, s, b) = omega arith

pub record_too_deep : {ts : List Token} {at room : ℕ} {e : ParseRefusal} → at < length ts → (room ≡ 0) × (e ≡ TooDeep at) → remaining_terminals ts at ≡ WordOrSymbol (kind.ReservedWord reserved.Record) ∷ remaining_terminals ts (at + 1) → FailsToRead (nonterminal written_type room ∷ []) ts at e
record_too_deep {ts = ts} {at = at} {e = e} l o here = subst (λ r. FailsToRead (nonterminal written_type r ∷ []) ts at e) (sym o.0) (too_deep_at_once l o.1 here (λ more. deep (ap (λ w. chosen_production written_type 0 w) here)) no_record)

-- Lemmas on groups of fields: `[names ":" type]`.

no_fields_only : {ts : List Token} {at : ℕ} → IsNotIdentifier ts at → (u : Tree ℕ fields) (z w : List (Terminal ℕ)) → HaveSameFirstToken (remaining_terminals ts at) w → NextTokenEndsConstruct 7 z → spell u ++ z ≡ w → (u ≡ no_fields) × (z ≡ w)
no_fields_only unnamed no_fields z w h s e = (refl, e)
no_fields_only unnamed (some_fields (listed k ns) t) z w h s e = absurd (unnamed.ranked (ap terminal_rank (head_of (sym unnamed.here ∙ h.is) ∙ head_of (sym h.alike ∙ sym e))))

pub chosen_no_fields : (room : ℕ) (x : Terminal ℕ) (w : List (Terminal ℕ)) → terminal_rank x ≢ 7 → chosen_production fields room (x ∷ w) ≡ parts []
chosen_no_fields room (Name n) w p = absurd (p refl)
chosen_no_fields room x w p = refl

pub taken_no_fields : {room : ℕ} {ts : List Token} {at : ℕ} → IsNotIdentifier ts at → IsReadTree no_fields room ts at at
taken_no_fields {room = room} {ts = ts} {at = at} unnamed = record { spelled = refl; shallow = omega arith; only = no_fields_only unnamed; reads = read_made (ap (λ w. chosen_production fields room w) unnamed.here ∙ chosen_no_fields room unnamed.fault (remaining_terminals ts (at + 1)) unnamed.ranked); within = unnamed.within; forward = omega arith }

fields_only : (ns : Tree ℕ names) (t : Tree ℕ written_type) (u : Tree ℕ fields) (z w : List (Terminal ℕ)) → NextTokenEndsConstruct 7 z → spell u ++ z ≡ spell (some_fields ns t) ++ w → (u ≡ some_fields ns t) × (z ≡ w)
fields_only (listed k ns) t no_fields z w s e = absurd (not_at z _ _ 7 e (omega arith) s)
fields_only ns t (some_fields ms v) z w s e =
    let r = same ms ns (WordOrSymbol (kind.Symbol symbol.Colon) ∷ (spell v ++ z)) (WordOrSymbol (kind.Symbol symbol.Colon) ∷ (spell t ++ w)) (omega arith) (omega arith) (regroup (spell ms) _ z (spell ns) _ w e) in
    let rs = only_zero t v z w refl (stops_less z 0 7 (omega arith) s) (tail_of r.1) in
    (cc (r.0, rs.0), rs.1)

abbrev pub typed_following : ℕ → List ProductionPart
typed_following room = nonterminal names 0 ∷ token (kind.Symbol symbol.Colon) ∷ nonterminal written_type room ∷ []

-- If the tokens begin with names, the production of fields begins with names.
pub chosen_fields : {xs : List (Terminal ℕ)} (room : ℕ) (ns : Tree ℕ names) (z : List (Terminal ℕ)) → xs ≡ spell ns ++ z → chosen_production fields room xs ≡ parts (typed_following room)
chosen_fields room (listed k us) z e = ap (λ w. chosen_production fields room w) e

pub taken_fields : {room : ℕ} {ts : List Token} {at m n k : ℕ} (ns : Tree ℕ names) (t : Tree ℕ written_type) → IsReadTree ns 0 ts at m → (remaining_terminals ts m ≡ WordOrSymbol (kind.Symbol symbol.Colon) ∷ remaining_terminals ts n) × (m < length ts) × (n ≡ m + 1) → IsReadTree t room ts n k → IsReadTree (some_fields ns t) room ts at k
taken_fields {room = room} {ts = ts} {m = m} ns t p following q = record {
  spelled = joined _ (spell ns) _ p.spelled (following.0 ∙ ap (λ y. WordOrSymbol (kind.Symbol symbol.Colon) ∷ y) q.spelled);
  shallow = q.shallow;
  only = λ u z w h s e. fields_only ns t u z w s e;
  reads = by (read_made (chosen_fields room ns (remaining_terminals ts m) p.spelled)) (both p.reads (both (read_mark following) q.reads));
  within = q.within;
  forward = omega (arith, p.forward, following.2, q.forward);
}

-- A list of names has no nesting.
pub unnested : (ns : Tree ℕ names) → nesting ns ≤ 0
unnested (listed k us) = omega arith

fields_parts : (room i : ℕ) (xs w y : List (Terminal ℕ)) → xs ≡ Name i ∷ y → HaveSameFirstToken xs w → BeginsWithParts (nonterminal fields room ∷ []) w → BeginsWithParts (typed_following room) w
fields_parts room i xs w y here h (no_fields, z, e, n, s, b) = absurd (not_at z _ _ 7 (sym e ∙ h.alike) (omega (arith, ap terminal_rank (head_of (sym here ∙ h.is)))) s)
fields_parts room i xs w y here h (some_fields ns t, z, e, n, s, b) =
    (ns, _, e ∙ append_assoc (spell ns) _ z, unnested ns, omega arith, (_, refl, (t, z, refl, n, stops_less z 0 7 (omega arith) s, tt)))

pub fields_fail : {room : ℕ} {ts : List Token} {at : ℕ} {e : ParseRefusal} → remaining_terminals ts at ≡ Name at ∷ remaining_terminals ts (at + 1) → FailsToRead (typed_following room) ts at e → FailsToRead (nonterminal fields room ∷ []) ts at e
fields_fail {room = room} {ts = ts} {at = at} here q = fails_weaken {qs = typed_following room} (read_made (ap (λ w. chosen_production fields room w) here)) (λ w h b. fields_parts room at (remaining_terminals ts at) w (remaining_terminals ts (at + 1)) here h b) q
