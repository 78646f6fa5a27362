-- Proves that declarations are read and refused correctly.
use Rattle.std.proofs.Common.{◌≡◌, ◌≢◌, ℕ, Bool, true, false, ◌+◌, ◌<◌, ◌≤◌, List, [], ◌∷◌, ◌++◌, length, refl, sym, ◌∙◌, ap, subst, arith, append_assoc, if◌then◌else◌}
use Rattle.ob0_scan.specs.declared.lexeme.TokenKind.{TokenKind}
use Rattle.ob0_scan.specs.declared.lexeme.TokenKind.TheVariants as kind
use Rattle.ob0_scan.specs.declared.lexeme.ReservedWord.TheVariants as reserved
use Rattle.ob0_scan.specs.declared.lexeme.Symbol.TheVariants as symbol
use Rattle.ob0_scan.specs.declared.lexeme.Token.{Token}
use Rattle.ob0_tree.specs.Terminals.{Terminal, Name, WordOrSymbol, EndOfText}
use Rattle.ob0_tree.specs.Tree.{formals, section_after_semicolon, constant, constants, type_definition, type_definitions, variable, variables, procedure, body, expression, names, written_type, fields, section, block, module_text, some_fields, listed, no_formals, some_formals, value_section, variable_section, declares_constant, declares_type, declares_variable, declares_procedure, declares, forms_block, forms_module, item, items, maybe, Tree, spell, single_token_list}
use Rattle.ob0_tree.specs.TokenIndexLeaves.{indexed_terminal}
use Rattle.ob0_parse_descent.specs.TokenRanks.{terminal_rank, NextTokenEndsConstruct, NextTokenHasRank}
use Rattle.ob0_parse_descent.specs.ParserPromises.{remaining_terminals, ProductionPart, token, name, nonterminal, text_end, BeginsWithParts, HaveSameFirstToken, DescentsHaveSameEnd, IsReadTree, FailsToRead, ItemBeginsButCantBeRead, IsTokenOtherThan, IsNotIdentifier, TellsIfTokenAt, TellsIfIdentifierAt, TellsIfParameterSectionStartsAt, IsReadList}
use Rattle.ob0_parse_descent.specs.Descent.{parts, symbol_part, is_parameter_section_next, chosen_production, made, deep}
use Rattle.ob0_parse_descent.specs.declared.refusal.ExpectedSyntax.TheVariants as expected
use Rattle.ob0_parse_descent.proofs.Descent.{both, by, read_name, read_mark, read_made, read_led, read_opened, read_back, unmade}
use Rattle.ob0_parse_descent.specs.declared.refusal.ParseRefusal.{ParseRefusal}
use Rattle.ob0_parse_descent.specs.declared.refusal.ParseRefusal.TheVariants.{Syntax, TooDeep}
use Rattle.ob0_parse_descent.proofs.Unique.{stops_items, stops_maybe, stops_closed, tail_of, head_of}
use Rattle.ob0_parse_descent.proofs.Refusals.{select, fails_by, fails_weaken, fails_following, fails_following_alike}
use Rattle.ob0_parse_descent.proofs.Expressions.{joined, head_at, too_deep_at_once}
use Rattle.ob0_parse_descent.proofs.Leads.{fails_here, stops_here, only_zero}
use Rattle.ob0_tree.specs.declared.tree.ParameterSection.{ParameterSection}
use Rattle.ob0_tree.specs.View.{parameter_section_of, parameter_section_after_semicolon_of, formals_of_list, items_of}
use Rattle.ob0_parse_descent.proofs.TypeParts.{unnested, typed_following, chosen_fields}
use Rattle.ob0_parse_descent.proofs.Apart.{name_not_mark}

-- Lemmas on sections of parameters: `[VAR] names ":" type`.

-- If names, a colon and a type were read as a group of fields, the descent reads these three parts.
typed_read : {room : ℕ} {ts : List Token} {at n : ℕ} (ns : Tree ℕ names) (t : Tree ℕ written_type) → IsReadTree (some_fields ns t) room ts at n → DescentsHaveSameEnd (typed_following room) [] ts at n
typed_read {room = room} ns t p = read_back (chosen_fields room ns _ (p.spelled ∙ append_assoc (spell ns) _ _)) p.reads

pub chosen_typed : {xs : List (Terminal ℕ)} (room : ℕ) (ns : Tree ℕ names) (z : List (Terminal ℕ)) → xs ≡ spell ns ++ z → chosen_production section room xs ≡ parts (typed_following room)
chosen_typed room (listed k us) z e = ap (λ w. chosen_production section room w) e

chosen_value : (room : ℕ) (x : Terminal ℕ) (w : List (Terminal ℕ)) → x ≢ WordOrSymbol (kind.ReservedWord reserved.Var) → chosen_production section room (x ∷ w) ≡ parts (typed_following room)
chosen_value room (WordOrSymbol (kind.ReservedWord reserved.Var)) w differs = absurd (differs refl)
chosen_value room x w differs = refl

pub taken_value_section : {room : ℕ} {ts : List Token} {at n : ℕ} (ns : Tree ℕ names) (t : Tree ℕ written_type) → IsReadTree (some_fields ns t) room ts at n → IsReadTree (value_section ns t) room ts at n
taken_value_section {room = room} ns t p = record { spelled = p.spelled; shallow = p.shallow; only = λ u z w h s e. only_zero (value_section ns t) u z w refl s e; reads = by (read_made (chosen_typed room ns _ (p.spelled ∙ append_assoc (spell ns) _ _))) (typed_read ns t p); within = p.within; forward = p.forward }

pub taken_variable_section : {room : ℕ} {ts : List Token} {at n : ℕ} (ns : Tree ℕ names) (t : Tree ℕ written_type) → remaining_terminals ts at ≡ WordOrSymbol (kind.ReservedWord reserved.Var) ∷ remaining_terminals ts (at + 1) → IsReadTree (some_fields ns t) room ts (at + 1) n → IsReadTree (variable_section ns t) room ts at n
taken_variable_section {room = room} ns t here p = record { spelled = here ∙ ap (λ y. WordOrSymbol (kind.ReservedWord reserved.Var) ∷ y) p.spelled; shallow = p.shallow; only = λ u z w h s e. only_zero (variable_section ns t) u z w refl s e; reads = by (read_led (typed_following room) refl here) (typed_read ns t p); within = p.within; forward = omega (arith, p.forward) }

value_parts : (room : ℕ) (ts : List Token) (at : ℕ) (w : List (Terminal ℕ)) → IsTokenOtherThan (WordOrSymbol (kind.ReservedWord reserved.Var)) ts at → HaveSameFirstToken (remaining_terminals ts at) w → BeginsWithParts (nonterminal section room ∷ []) w → BeginsWithParts (typed_following room) w
value_parts room ts at w o h (value_section ns t, z, e, n, s, b) = (ns, _, e ∙ append_assoc (spell ns) _ z, unnested ns, omega arith, (_, refl, (t, z, refl, n, s, tt)))
value_parts room ts at w o h (variable_section ns t, z, e, n, s, b) = absurd (o.differs (head_of (sym o.here ∙ h.is) ∙ head_of (sym h.alike ∙ e)))

pub value_section_fails : {room : ℕ} {ts : List Token} {at : ℕ} {e : ParseRefusal} → IsTokenOtherThan (WordOrSymbol (kind.ReservedWord reserved.Var)) ts at → FailsToRead (typed_following room) ts at e → FailsToRead (nonterminal section room ∷ []) ts at e
value_section_fails {room = room} {ts = ts} {at = at} o q = fails_weaken {qs = typed_following room} (read_made (ap (λ w. chosen_production section room w) o.here ∙ chosen_value room o.fault (remaining_terminals ts (at + 1)) o.differs)) (λ w h b. value_parts room ts at w o h b) q

variable_parts : (room : ℕ) (w : List (Terminal ℕ)) → BeginsWithParts (nonterminal section room ∷ []) (WordOrSymbol (kind.ReservedWord reserved.Var) ∷ w) → BeginsWithParts (typed_following room) w
variable_parts room w (value_section (listed k ks) t, z, e, n, s, b) = absurd (name_not_mark (sym e))
variable_parts room w (variable_section ns t, z, e, n, s, b) = (ns, _, tail_of e ∙ append_assoc (spell ns) _ z, unnested ns, omega arith, (_, refl, (t, z, refl, n, s, tt)))

pub variable_section_fails : {room : ℕ} {ts : List Token} {at : ℕ} {e : ParseRefusal} → remaining_terminals ts at ≡ WordOrSymbol (kind.ReservedWord reserved.Var) ∷ remaining_terminals ts (at + 1) → FailsToRead (typed_following room) ts (at + 1) e → FailsToRead (nonterminal section room ∷ []) ts at e
variable_section_fails {room = room} here q = fails_following {qs = typed_following room} (read_led (typed_following room) refl here) here (variable_parts room) q

-- Lemmas on formal parameters: `"(" [section {";" section}] ")"`.

abbrev pub formals_following : ℕ → List ProductionPart
formals_following room = nonterminal section room ∷ nonterminal (items section_after_semicolon) room ∷ token (kind.Symbol symbol.RightParen) ∷ []

-- The token after `(` determines the production of formal parameters.
formals_read : {room : ℕ} {ts : List Token} {at : ℕ} {b : Bool} → is_parameter_section_next (remaining_terminals ts (at + 1)) ≡ b → remaining_terminals ts at ≡ WordOrSymbol (kind.Symbol symbol.LeftParen) ∷ remaining_terminals ts (at + 1) → DescentsHaveSameEnd (nonterminal (item formals) room ∷ []) (if b then formals_following room else token (kind.Symbol symbol.RightParen) ∷ []) ts at (at + 1)
formals_read {room = room} {b = true} e here = read_led (formals_following room) (ap (λ c. if c then parts (symbol_part symbol.LeftParen ∷ formals_following room) else parts (symbol_part symbol.LeftParen ∷ symbol_part symbol.RightParen ∷ [])) e) here
formals_read {room = room} {b = false} e here = read_led (token (kind.Symbol symbol.RightParen) ∷ []) (ap (λ c. if c then parts (symbol_part symbol.LeftParen ∷ formals_following room) else parts (symbol_part symbol.LeftParen ∷ symbol_part symbol.RightParen ∷ [])) e) here

no_section : (x : Terminal ℕ) (w : List (Terminal ℕ)) → terminal_rank x ≢ 7 → x ≢ WordOrSymbol (kind.ReservedWord reserved.Var) → is_parameter_section_next (x ∷ w) ≡ false
no_section (Name n) w p o = absurd (p refl)
no_section (WordOrSymbol (kind.ReservedWord reserved.Var)) w p o = absurd (o refl)
no_section x w p o = refl

-- If an identifier is next, a section of formal parameters may begin. The next lemmas prove the
-- other answers of `parameter_section_starts_at`.
pub name_is_section : (ts : List Token) (at : ℕ) → TellsIfIdentifierAt ts at true → TellsIfParameterSectionStartsAt ts at true
name_is_section ts at h = (record { fault = Name at; here = h.0; differs = λ e. cc; within = omega (arith, h.1) }, ap is_parameter_section_next h.0)

pub word_is_section : {ts : List Token} {at : ℕ} (b : Bool) → IsNotIdentifier ts at → TellsIfTokenAt (kind.ReservedWord reserved.Var) ts at b → TellsIfParameterSectionStartsAt ts at b
word_is_section true unnamed h = (record { fault = WordOrSymbol (kind.ReservedWord reserved.Var); here = h.0; differs = λ e. cc; within = omega (arith, h.1) }, ap is_parameter_section_next h.0)
word_is_section false unnamed o = (unnamed, o)

pub section_next : (a : Tree ℕ section) (x : List (Terminal ℕ)) → is_parameter_section_next (spell a ++ x) ≡ true
section_next (value_section (listed k ks) t) x = refl
section_next (variable_section ns t) x = refl

no_parts : (room : ℕ) (ts : List Token) (at : ℕ) (w : List (Terminal ℕ)) → IsNotIdentifier ts at → IsTokenOtherThan (WordOrSymbol (kind.ReservedWord reserved.Var)) ts at → HaveSameFirstToken (remaining_terminals ts at) w → BeginsWithParts (nonterminal (item formals) room ∷ []) (WordOrSymbol (kind.Symbol symbol.LeftParen) ∷ w) → BeginsWithParts (token (kind.Symbol symbol.RightParen) ∷ []) w
no_parts room ts at w unnamed o h (no_formals, z, e, n, s, b) = (z, tail_of e, tt)
no_parts room ts at w unnamed o h (some_formals (value_section (listed k ks) t) fs, z, e, n, s, b) = absurd (unnamed.ranked (ap terminal_rank (head_of (sym unnamed.here ∙ h.is) ∙ head_of (sym h.alike ∙ tail_of e))))
no_parts room ts at w unnamed o h (some_formals (variable_section ns t) fs, z, e, n, s, b) = absurd (o.differs (head_of (sym o.here ∙ h.is) ∙ head_of (sym h.alike ∙ tail_of e)))

pub formals_fail_none : {room : ℕ} {ts : List Token} {at : ℕ} {e : ParseRefusal} → IsNotIdentifier ts (at + 1) → IsTokenOtherThan (WordOrSymbol (kind.ReservedWord reserved.Var)) ts (at + 1) → remaining_terminals ts at ≡ WordOrSymbol (kind.Symbol symbol.LeftParen) ∷ remaining_terminals ts (at + 1) → FailsToRead (token (kind.Symbol symbol.RightParen) ∷ []) ts (at + 1) e → ItemBeginsButCantBeRead formals room ts at e
formals_fail_none {room = room} {ts = ts} {at = at} unnamed o here q = record {
  is_here = subst (λ y. NextTokenHasRank 6 y) (sym here) refl;
  fails = fails_following_alike {qs = token (kind.Symbol symbol.RightParen) ∷ []} (formals_read (ap is_parameter_section_next unnamed.here ∙ no_section unnamed.fault (remaining_terminals ts (at + 1 + 1)) unnamed.ranked (λ e. o.differs (head_of (sym o.here ∙ unnamed.here) ∙ e))) here) here (λ w h b. no_parts room ts (at + 1) w unnamed o h b) q;
}

some_parts : (room : ℕ) (ts : List Token) (at : ℕ) (w : List (Terminal ℕ)) → IsTokenOtherThan (WordOrSymbol (kind.Symbol symbol.RightParen)) ts at → HaveSameFirstToken (remaining_terminals ts at) w → BeginsWithParts (nonterminal (item formals) room ∷ []) (WordOrSymbol (kind.Symbol symbol.LeftParen) ∷ w) → BeginsWithParts (formals_following room) w
some_parts room ts at w o h (no_formals, z, e, n, s, b) = absurd (o.differs (head_of (sym o.here ∙ h.is) ∙ head_of (sym h.alike ∙ tail_of e)))
some_parts room ts at w o h (some_formals a fs, z, e, n, s, b) = (
  a,
  _,
  tail_of e ∙ append_assoc (spell a) _ z,
  omega arith,
  stops_closed fs (kind.Symbol symbol.RightParen) z 0 (omega arith) (omega arith),
  (fs, WordOrSymbol (kind.Symbol symbol.RightParen) ∷ z, append_assoc (spell fs) (single_token_list (kind.Symbol symbol.RightParen)) z, omega arith, omega arith, (z, refl, tt)),
)

pub formals_fail : {room : ℕ} {ts : List Token} {at : ℕ} {e : ParseRefusal} → IsTokenOtherThan (WordOrSymbol (kind.Symbol symbol.RightParen)) ts (at + 1) × (is_parameter_section_next (remaining_terminals ts (at + 1)) ≡ true) → remaining_terminals ts at ≡ WordOrSymbol (kind.Symbol symbol.LeftParen) ∷ remaining_terminals ts (at + 1) → FailsToRead (formals_following room) ts (at + 1) e → ItemBeginsButCantBeRead formals room ts at e
formals_fail {room = room} {ts = ts} {at = at} o here q = record {
  is_here = subst (λ y. NextTokenHasRank 6 y) (sym here) refl;
  fails = fails_following_alike {qs = formals_following room} (formals_read o.1 here) here (λ w h b. some_parts room ts (at + 1) w o.0 h b) q;
}

pub taken_no_formals : {room : ℕ} {ts : List Token} {at n : ℕ} → remaining_terminals ts at ≡ WordOrSymbol (kind.Symbol symbol.LeftParen) ∷ remaining_terminals ts (at + 1) → (remaining_terminals ts (at + 1) ≡ WordOrSymbol (kind.Symbol symbol.RightParen) ∷ remaining_terminals ts n) × (at + 1 < length ts) × (n ≡ at + 1 + 1) → IsReadTree no_formals room ts at n
taken_no_formals here close = record { spelled = here ∙ ap (λ y. WordOrSymbol (kind.Symbol symbol.LeftParen) ∷ y) close.0; shallow = omega arith; only = λ u z w h s e. only_zero no_formals u z w refl s e; reads = by (formals_read (ap is_parameter_section_next close.0) here) (read_mark close); within = omega (arith, close.1, close.2); forward = omega (arith, close.2) }

pub taken_formals : {room : ℕ} {ts : List Token} {at m n : ℕ} (xs : List ParameterSection) → remaining_terminals ts at ≡ WordOrSymbol (kind.Symbol symbol.LeftParen) ∷ remaining_terminals ts (at + 1) → IsReadList parameter_section_of parameter_section_after_semicolon_of xs room ts (at + 1) m → (remaining_terminals ts m ≡ WordOrSymbol (kind.Symbol symbol.RightParen) ∷ remaining_terminals ts n) × (m < length ts) × (n ≡ m + 1) → IsReadTree (formals_of_list xs) room ts at n
taken_formals {room = room} {ts = ts} {at = at} {n = n} xs here p close =
    let a = parameter_section_of p.first in
    let fs = items_of parameter_section_after_semicolon_of p.others in
    subst (λ l. IsReadTree (formals_of_list l) room ts at n) (sym p.is) record {
      spelled = here ∙ ap (λ y. WordOrSymbol (kind.Symbol symbol.LeftParen) ∷ y) (joined _ (spell a) _ p.head.spelled (joined _ (spell fs) (single_token_list (kind.Symbol symbol.RightParen)) p.tail.spelled close.0));
      shallow = omega (arith, p.head.shallow, p.tail.shallow);
      only = λ u z w h s e. only_zero (some_formals a fs) u z w refl s e;
      reads = by (formals_read (ap is_parameter_section_next p.head.spelled ∙ section_next a (remaining_terminals ts p.middle)) here) (both p.head.reads (both p.tail.reads (read_mark close)));
      within = omega (arith, close.1, close.2);
      forward = omega (arith, p.head.forward, p.tail.forward, close.2);
    }

-- Lemmas on declarations of constants: `ident "=" expression ";"`.

pub taken_constant : {room : ℕ} {ts : List Token} {at m n k : ℕ} (a : Tree ℕ expression) → remaining_terminals ts at ≡ Name at ∷ remaining_terminals ts (at + 1) → (remaining_terminals ts (at + 1) ≡ WordOrSymbol (kind.Symbol symbol.Equal) ∷ remaining_terminals ts m) × (at + 1 < length ts) × (m ≡ at + 1 + 1) → IsReadTree a room ts m n → (remaining_terminals ts n ≡ WordOrSymbol (kind.Symbol symbol.Semicolon) ∷ remaining_terminals ts k) × (n < length ts) × (k ≡ n + 1) → IsReadTree (declares_constant at a) room ts at k
taken_constant {at = at} a here equal p close = record {
  spelled = here ∙ ap (λ y. Name at ∷ y) (equal.0 ∙ ap (λ y. WordOrSymbol (kind.Symbol symbol.Equal) ∷ y) (joined _ (spell a) (single_token_list (kind.Symbol symbol.Semicolon)) p.spelled close.0));
  shallow = p.shallow;
  only = λ u z w h s e. only_zero (declares_constant at a) u z w refl s e;
  reads = by (read_made refl) (both (read_name here refl) (both (read_mark equal) (both p.reads (read_mark close))));
  within = omega (arith, close.1, close.2);
  forward = omega (arith, equal.2, p.forward, close.2);
}

abbrev pub constant_following : ℕ → List ProductionPart
constant_following room = name ∷ token (kind.Symbol symbol.Equal) ∷ nonterminal expression room ∷ token (kind.Symbol symbol.Semicolon) ∷ []

constant_parts : (room : ℕ) (w : List (Terminal ℕ)) → BeginsWithParts (nonterminal (item constant) room ∷ []) w → BeginsWithParts (constant_following room) w
constant_parts room w (declares_constant k a, z, e, n, s, b) = (k, _, e, (_, refl, (a, WordOrSymbol (kind.Symbol symbol.Semicolon) ∷ z, append_assoc (spell a) (single_token_list (kind.Symbol symbol.Semicolon)) z, n, omega arith, (z, refl, tt))))

pub constant_fails : {room : ℕ} {ts : List Token} {at : ℕ} {e : ParseRefusal} → remaining_terminals ts at ≡ Name at ∷ remaining_terminals ts (at + 1) → FailsToRead (constant_following room) ts at e → ItemBeginsButCantBeRead constant room ts at e
constant_fails {room = room} here q = record { is_here = subst (λ y. NextTokenHasRank 7 y) (sym here) refl; fails = fails_weaken {qs = constant_following room} (read_made refl) (λ w h b. constant_parts room w b) q }

-- Lemmas on declarations of types: `ident "=" type ";"`.

pub taken_type_name : {room : ℕ} {ts : List Token} {at m n k : ℕ} (a : Tree ℕ written_type) → remaining_terminals ts at ≡ Name at ∷ remaining_terminals ts (at + 1) → (remaining_terminals ts (at + 1) ≡ WordOrSymbol (kind.Symbol symbol.Equal) ∷ remaining_terminals ts m) × (at + 1 < length ts) × (m ≡ at + 1 + 1) → IsReadTree a room ts m n → (remaining_terminals ts n ≡ WordOrSymbol (kind.Symbol symbol.Semicolon) ∷ remaining_terminals ts k) × (n < length ts) × (k ≡ n + 1) → IsReadTree (declares_type at a) room ts at k
taken_type_name {at = at} a here equal p close = record {
  spelled = here ∙ ap (λ y. Name at ∷ y) (equal.0 ∙ ap (λ y. WordOrSymbol (kind.Symbol symbol.Equal) ∷ y) (joined _ (spell a) (single_token_list (kind.Symbol symbol.Semicolon)) p.spelled close.0));
  shallow = p.shallow;
  only = λ u z w h s e. only_zero (declares_type at a) u z w refl s e;
  reads = by (read_made refl) (both (read_name here refl) (both (read_mark equal) (both p.reads (read_mark close))));
  within = omega (arith, close.1, close.2);
  forward = omega (arith, equal.2, p.forward, close.2);
}

abbrev pub type_name_following : ℕ → List ProductionPart
type_name_following room = name ∷ token (kind.Symbol symbol.Equal) ∷ nonterminal written_type room ∷ token (kind.Symbol symbol.Semicolon) ∷ []

type_name_parts : (room : ℕ) (w : List (Terminal ℕ)) → BeginsWithParts (nonterminal (item type_definition) room ∷ []) w → BeginsWithParts (type_name_following room) w
type_name_parts room w (declares_type k a, z, e, n, s, b) = (k, _, e, (_, refl, (a, WordOrSymbol (kind.Symbol symbol.Semicolon) ∷ z, append_assoc (spell a) (single_token_list (kind.Symbol symbol.Semicolon)) z, n, omega arith, (z, refl, tt))))

pub type_name_fails : {room : ℕ} {ts : List Token} {at : ℕ} {e : ParseRefusal} → remaining_terminals ts at ≡ Name at ∷ remaining_terminals ts (at + 1) → FailsToRead (type_name_following room) ts at e → ItemBeginsButCantBeRead type_definition room ts at e
type_name_fails {room = room} here q = record { is_here = subst (λ y. NextTokenHasRank 7 y) (sym here) refl; fails = fails_weaken {qs = type_name_following room} (read_made refl) (λ w h b. type_name_parts room w b) q }

-- Lemmas on declarations of variables: `names ":" type ";"`.

pub taken_variable : {room : ℕ} {ts : List Token} {at m n : ℕ} (ns : Tree ℕ names) (t : Tree ℕ written_type) → IsReadTree (some_fields ns t) room ts at m → (remaining_terminals ts m ≡ WordOrSymbol (kind.Symbol symbol.Semicolon) ∷ remaining_terminals ts n) × (m < length ts) × (n ≡ m + 1) → IsReadTree (declares_variable ns t) room ts at n
taken_variable {ts = ts} {n = n} ns t p close = record {
  spelled = p.spelled ∙ (append_assoc (spell ns) _ _ ∙ (ap (λ y. spell ns ++ (WordOrSymbol (kind.Symbol symbol.Colon) ∷ (spell t ++ y))) close.0 ∙ (ap (λ y. spell ns ++ (WordOrSymbol (kind.Symbol symbol.Colon) ∷ y)) (sym (append_assoc (spell t) (single_token_list (kind.Symbol symbol.Semicolon)) (remaining_terminals ts n))) ∙ sym (append_assoc (spell ns) _ _))));
  shallow = p.shallow;
  only = λ u z w h s e. only_zero (declares_variable ns t) u z w refl s e;
  reads = by (read_made refl) (record { stops_as_following = λ o more r. (typed_read ns t p).stops_as_following o (token (kind.Symbol symbol.Semicolon) ∷ more) ((read_mark close).stops_as_following o more r) });
  within = omega (arith, close.1, close.2);
  forward = omega (arith, p.forward, close.2);
}

abbrev pub variable_following : ℕ → List ProductionPart
variable_following room = nonterminal fields room ∷ token (kind.Symbol symbol.Semicolon) ∷ []

variable_typed : (room : ℕ) (w : List (Terminal ℕ)) → BeginsWithParts (nonterminal (item variable) room ∷ []) w → BeginsWithParts (typed_following room) w
variable_typed room w (declares_variable ns t, z, e, n, s, b) =
    (ns, _, e ∙ append_assoc (spell ns) _ z, unnested ns, omega arith, (_, refl, (t, WordOrSymbol (kind.Symbol symbol.Semicolon) ∷ z, append_assoc (spell t) (single_token_list (kind.Symbol symbol.Semicolon)) z, n, omega arith, tt)))

variable_closed : (room : ℕ) (w : List (Terminal ℕ)) → BeginsWithParts (nonterminal (item variable) room ∷ []) w → BeginsWithParts (variable_following room) w
variable_closed room w (declares_variable ns t, z, e, n, s, b) =
    (some_fields ns t, WordOrSymbol (kind.Symbol symbol.Semicolon) ∷ z, e ∙ (append_assoc (spell ns) _ z ∙ (ap (λ y. spell ns ++ (WordOrSymbol (kind.Symbol symbol.Colon) ∷ y)) (append_assoc (spell t) (single_token_list (kind.Symbol symbol.Semicolon)) z) ∙ sym (append_assoc (spell ns) _ _))), n, omega arith, (z, refl, tt))

pub variable_fails_typed : {room : ℕ} {ts : List Token} {at : ℕ} {e : ParseRefusal} → remaining_terminals ts at ≡ Name at ∷ remaining_terminals ts (at + 1) → FailsToRead (typed_following room) ts at e → ItemBeginsButCantBeRead variable room ts at e
variable_fails_typed {room = room} here q = record { is_here = subst (λ y. NextTokenHasRank 7 y) (sym here) refl; fails = fails_by (λ o r more. made _ refl (r (token (kind.Symbol symbol.Semicolon) ∷ more))) (λ after r. select (λ w h b. variable_typed room w b) r) q }

pub variable_fails : {room : ℕ} {ts : List Token} {at : ℕ} {e : ParseRefusal} → remaining_terminals ts at ≡ Name at ∷ remaining_terminals ts (at + 1) → FailsToRead (variable_following room) ts at e → ItemBeginsButCantBeRead variable room ts at e
variable_fails {room = room} here q = record { is_here = subst (λ y. NextTokenHasRank 7 y) (sym here) refl; fails = fails_weaken {qs = variable_following room} (record { stops_as_following = λ o more r. made _ refl (unmade (ap (λ w. chosen_production fields room w) here) r) }) (λ w h b. variable_closed room w b) q }

-- Lemmas on blocks: `declarations [BEGIN sequence]`.

abbrev pub block_parts : ℕ → List ProductionPart
block_parts room = nonterminal (maybe constants) room ∷ nonterminal (maybe type_definitions) room ∷ nonterminal (maybe variables) room ∷ nonterminal (items procedure) room ∷ nonterminal (maybe body) room ∷ []

block_read : {room : ℕ} {ts : List Token} {at : ℕ} → DescentsHaveSameEnd (nonterminal block room ∷ []) (block_parts room) ts at at
block_read = record { stops_as_following = λ o more r. made _ refl (made _ refl r) }

block_only : {room : ℕ} {ts : List Token} {at i j k l n : ℕ} (cs : Tree ℕ (maybe constants)) (ds : Tree ℕ (maybe type_definitions)) (vs : Tree ℕ (maybe variables)) (ps : Tree ℕ (items procedure)) (b : Tree ℕ (maybe body)) → IsReadTree cs room ts at i → IsReadTree ds room ts i j → IsReadTree vs room ts j k → IsReadTree ps room ts k l → IsReadTree b room ts l n → (u : Tree ℕ block) (z w : List (Terminal ℕ)) → HaveSameFirstToken (remaining_terminals ts n) w → NextTokenEndsConstruct 16 z → spell u ++ z ≡ ((spell cs ++ (spell ds ++ (spell vs ++ spell ps))) ++ spell b) ++ w → (u ≡ forms_block (declares cs ds vs ps) b) × (z ≡ w)
block_only cs ds vs ps b c d v p q (forms_block (declares cs' ds' vs' ps') b') z w h s e =
    let h4 = head_at b q w h in
    let h3 = head_at ps p (spell b ++ w) h4 in
    let h2 = head_at vs v (spell ps ++ (spell b ++ w)) h3 in
    let h1 = head_at ds d (spell vs ++ (spell ps ++ (spell b ++ w))) h2 in
    let left = long (spell cs') (spell ds') (spell vs') (spell ps') (spell b') z in
    let right = long (spell cs) (spell ds) (spell vs) (spell ps) (spell b) w in
    let s4 = stops_maybe b' z 15 (omega arith) s in
    let s3 = stops_items ps' (spell b' ++ z) 14 (omega arith) s4 in
    let s2 = stops_maybe vs' (spell ps' ++ (spell b' ++ z)) 13 (omega arith) s3 in
    let s1 = stops_maybe ds' (spell vs' ++ (spell ps' ++ (spell b' ++ z))) 12 (omega arith) s2 in
    let r1 = c.only cs' _ _ h1 s1 (sym left ∙ (e ∙ right)) in
    let r2 = d.only ds' _ _ h2 s2 r1.1 in
    let r3 = v.only vs' _ _ h3 s3 r2.1 in
    let r4 = p.only ps' _ _ h4 s4 r3.1 in
    let r5 = q.only b' z w h s r4.1 in
    (cc (r1.0, r2.0, r3.0, r4.0, r5.0), r5.1)
  where
    long : {A : Type 0} (a b c d f z : List A) → ((a ++ (b ++ (c ++ d))) ++ f) ++ z ≡ a ++ (b ++ (c ++ (d ++ (f ++ z))))
    long a b c d f z = simp append_assoc

pub taken_block : {room : ℕ} {ts : List Token} {at i j k l n : ℕ} (cs : Tree ℕ (maybe constants)) (ds : Tree ℕ (maybe type_definitions)) (vs : Tree ℕ (maybe variables)) (ps : Tree ℕ (items procedure)) (b : Tree ℕ (maybe body)) → IsReadTree cs room ts at i → IsReadTree ds room ts i j → IsReadTree vs room ts j k → IsReadTree ps room ts k l → IsReadTree b room ts l n → IsReadTree (forms_block (declares cs ds vs ps) b) room ts at n
taken_block cs ds vs ps b c d v p q = record {
  spelled = joined _ (spell cs ++ (spell ds ++ (spell vs ++ spell ps))) (spell b) (joined _ (spell cs) _ c.spelled (joined _ (spell ds) _ d.spelled (joined _ (spell vs) (spell ps) v.spelled p.spelled))) q.spelled;
  shallow = omega (arith, c.shallow, d.shallow, v.shallow, p.shallow, q.shallow);
  only = block_only cs ds vs ps b c d v p q;
  reads = by block_read (both c.reads (both d.reads (both v.reads (both p.reads q.reads))));
  within = q.within;
  forward = omega (arith, c.forward, d.forward, v.forward, p.forward, q.forward);
}

block_begins : (room : ℕ) (w : List (Terminal ℕ)) → BeginsWithParts (nonterminal block room ∷ []) w → BeginsWithParts (block_parts room) w
block_begins room w (forms_block (declares cs ds vs ps) b, z, e, n, s, x) =
    let s4 = stops_maybe b z 15 (omega arith) s in
    let s3 = stops_items ps (spell b ++ z) 14 (omega arith) s4 in
    let s2 = stops_maybe vs (spell ps ++ (spell b ++ z)) 13 (omega arith) s3 in
    let s1 = stops_maybe ds (spell vs ++ (spell ps ++ (spell b ++ z))) 12 (omega arith) s2 in
    (cs, _, e ∙ long (spell cs) (spell ds) (spell vs) (spell ps) (spell b) z, omega arith, s1, (ds, _, refl, omega arith, s2, (vs, _, refl, omega arith, s3, (ps, _, refl, omega arith, s4, (b, z, refl, omega arith, s, tt)))))
  where
    long : {A : Type 0} (a b c d f z : List A) → ((a ++ (b ++ (c ++ d))) ++ f) ++ z ≡ a ++ (b ++ (c ++ (d ++ (f ++ z))))
    long a b c d f z = simp append_assoc

pub block_fails : {room : ℕ} {ts : List Token} {at : ℕ} {e : ParseRefusal} → FailsToRead (block_parts room) ts at e → FailsToRead (nonterminal block room ∷ []) ts at e
block_fails {room = room} q = fails_weaken {qs = block_parts room} block_read (λ w h b. block_begins room w b) q

-- Lemmas on procedures: `PROCEDURE ident [formals] ";" block END ident ";"`.

abbrev pub procedure_following : ℕ → List ProductionPart
procedure_following inner = name ∷ nonterminal (maybe formals) inner ∷ token (kind.Symbol symbol.Semicolon) ∷ nonterminal block inner ∷ token (kind.ReservedWord reserved.End) ∷ name ∷ token (kind.Symbol symbol.Semicolon) ∷ []

pub taken_procedure : {room inner : ℕ} {ts : List Token} {at a f m n j k p : ℕ} (fs : Tree ℕ (maybe formals)) (b : Tree ℕ block) (x y : ℕ) → room ≡ inner + 1 → remaining_terminals ts at ≡ WordOrSymbol (kind.ReservedWord reserved.Procedure) ∷ remaining_terminals ts (at + 1) → (remaining_terminals ts (at + 1) ≡ Name x ∷ remaining_terminals ts a) × (a ≡ at + 1 + 1) → IsReadTree fs inner ts a f → (remaining_terminals ts f ≡ WordOrSymbol (kind.Symbol symbol.Semicolon) ∷ remaining_terminals ts m) × (f < length ts) × (m ≡ f + 1) → IsReadTree b inner ts m n → (remaining_terminals ts n ≡ WordOrSymbol (kind.ReservedWord reserved.End) ∷ remaining_terminals ts j) × (n < length ts) × (j ≡ n + 1) → (remaining_terminals ts j ≡ Name y ∷ remaining_terminals ts k) × (k ≡ j + 1) → (remaining_terminals ts k ≡ WordOrSymbol (kind.Symbol symbol.Semicolon) ∷ remaining_terminals ts p) × (k < length ts) × (p ≡ k + 1) → IsReadTree (declares_procedure x fs b y) room ts at p
taken_procedure {inner = inner} {ts = ts} fs b x y level here named qf semi qb last closing close = record {
  spelled = here ∙ ap (λ z. WordOrSymbol (kind.ReservedWord reserved.Procedure) ∷ z) (named.0 ∙ ap (λ z. Name x ∷ z) (joined _ (spell fs) _ qf.spelled (semi.0 ∙ ap (λ z. WordOrSymbol (kind.Symbol symbol.Semicolon) ∷ z) (joined _ (spell b) _ qb.spelled (last.0 ∙ ap (λ z. WordOrSymbol (kind.ReservedWord reserved.End) ∷ z) (closing.0 ∙ ap (λ z. Name y ∷ z) close.0))))));
  shallow = omega (arith, qf.shallow, qb.shallow);
  only = λ u z w h s e. only_zero (declares_procedure x fs b y) u z w refl s e;
  reads = by (read_opened inner procedure_following refl level here) (both (read_name named.0 named.1) (both qf.reads (both (read_mark semi) (both qb.reads (both (read_mark last) (both (read_name closing.0 closing.1) (read_mark close)))))));
  within = omega (arith, close.1, close.2);
  forward = omega (arith, named.1, qf.forward, semi.2, qb.forward, last.2, closing.1, close.2);
}

procedure_parts : (room inner : ℕ) → room ≡ inner + 1 → (w : List (Terminal ℕ)) → BeginsWithParts (nonterminal (item procedure) room ∷ []) (WordOrSymbol (kind.ReservedWord reserved.Procedure) ∷ w) → BeginsWithParts (procedure_following inner) w
procedure_parts room inner d w (declares_procedure x fs b y, z, e, n, s, q) =
    (x, _, tail_of e, (fs, _, append_assoc (spell fs) _ z, omega arith, omega arith, (_, refl, (b, WordOrSymbol (kind.ReservedWord reserved.End) ∷ Name y ∷ WordOrSymbol (kind.Symbol symbol.Semicolon) ∷ z, append_assoc (spell b) _ z, omega arith, omega arith, (_, refl, (y, _, refl, (z, refl, tt)))))))

pub procedure_fails : {room inner : ℕ} {ts : List Token} {at : ℕ} {e : ParseRefusal} → room ≡ inner + 1 → remaining_terminals ts at ≡ WordOrSymbol (kind.ReservedWord reserved.Procedure) ∷ remaining_terminals ts (at + 1) → FailsToRead (procedure_following inner) ts (at + 1) e → ItemBeginsButCantBeRead procedure room ts at e
procedure_fails {room = room} {inner = inner} d here q = record { is_here = subst (λ y. NextTokenHasRank 15 y) (sym here) refl; fails = fails_following {qs = procedure_following inner} (read_opened inner procedure_following refl d here) here (procedure_parts room inner d) q }

no_procedure : (w : List (Terminal ℕ)) → BeginsWithParts (nonterminal (item procedure) 0 ∷ []) (WordOrSymbol (kind.ReservedWord reserved.Procedure) ∷ w) → ⊥
no_procedure w (declares_procedure x fs b y, z, e, n, s, q) = omega arith

pub procedure_too_deep : {ts : List Token} {at room : ℕ} {e : ParseRefusal} → at < length ts → (room ≡ 0) × (e ≡ TooDeep at) → remaining_terminals ts at ≡ WordOrSymbol (kind.ReservedWord reserved.Procedure) ∷ remaining_terminals ts (at + 1) → ItemBeginsButCantBeRead procedure room ts at e
procedure_too_deep {ts = ts} {at = at} {e = e} l o here = record {
  is_here = subst (λ y. NextTokenHasRank 15 y) (sym here) refl;
  fails = subst (λ r. FailsToRead (nonterminal (item procedure) r ∷ []) ts at e) (sym o.0) (too_deep_at_once l o.1 here (λ more. deep (ap (λ w. chosen_production (item procedure) 0 w) here)) no_procedure);
}

-- Lemmas on modules: `MODULE ident ";" block END ident "."`.

pub taken_module : {room : ℕ} {ts : List Token} {m n p : ℕ} (i a j k : ℕ) (b : Tree ℕ block) (x y : ℕ) → (remaining_terminals ts 0 ≡ WordOrSymbol (kind.ReservedWord reserved.Module) ∷ remaining_terminals ts i) × (0 < length ts) × (i ≡ 0 + 1) → (remaining_terminals ts i ≡ Name x ∷ remaining_terminals ts a) × (a ≡ i + 1) → (remaining_terminals ts a ≡ WordOrSymbol (kind.Symbol symbol.Semicolon) ∷ remaining_terminals ts m) × (a < length ts) × (m ≡ a + 1) → IsReadTree b room ts m n → (remaining_terminals ts n ≡ WordOrSymbol (kind.ReservedWord reserved.End) ∷ remaining_terminals ts j) × (n < length ts) × (j ≡ n + 1) → (remaining_terminals ts j ≡ Name y ∷ remaining_terminals ts k) × (k ≡ j + 1) → (remaining_terminals ts k ≡ WordOrSymbol (kind.Symbol symbol.Dot) ∷ remaining_terminals ts p) × (k < length ts) × (p ≡ k + 1) → IsReadTree (forms_module x b y) room ts 0 p
taken_module i a j k b x y here named semi qb last closing close = record {
  spelled = here.0 ∙ ap (λ z. WordOrSymbol (kind.ReservedWord reserved.Module) ∷ z) (named.0 ∙ ap (λ z. Name x ∷ z) (semi.0 ∙ ap (λ z. WordOrSymbol (kind.Symbol symbol.Semicolon) ∷ z) (joined _ (spell b) _ qb.spelled (last.0 ∙ ap (λ z. WordOrSymbol (kind.ReservedWord reserved.End) ∷ z) (closing.0 ∙ ap (λ z. Name y ∷ z) close.0)))));
  shallow = qb.shallow;
  only = λ u z w h s e. only_zero (forms_module x b y) u z w refl s e;
  reads = by (read_made refl) (both (read_mark here) (both (read_name named.0 named.1) (both (read_mark semi) (both qb.reads (both (read_mark last) (both (read_name closing.0 closing.1) (read_mark close)))))));
  within = omega (arith, close.1, close.2);
  forward = omega arith;
}

abbrev pub module_parts : List ProductionPart
module_parts = token (kind.ReservedWord reserved.Module) ∷ name ∷ token (kind.Symbol symbol.Semicolon) ∷ nonterminal block 100 ∷ token (kind.ReservedWord reserved.End) ∷ name ∷ token (kind.Symbol symbol.Dot) ∷ text_end ∷ []

module_head : (w : List (Terminal ℕ)) → BeginsWithParts (nonterminal module_text 100 ∷ text_end ∷ []) w → BeginsWithParts module_parts w
module_head w (forms_module x b y, z, e, n, s, q) =
    (_, e, (x, _, refl, (_, refl, (b, WordOrSymbol (kind.ReservedWord reserved.End) ∷ Name y ∷ WordOrSymbol (kind.Symbol symbol.Dot) ∷ z, append_assoc (spell b) _ z, n, omega arith, (_, refl, (y, _, refl, (z, refl, q)))))))

pub module_fails : {ts : List Token} {e : ParseRefusal} → FailsToRead module_parts ts 0 e → FailsToRead (nonterminal module_text 100 ∷ text_end ∷ []) ts 0 e
module_fails q = fails_weaken {qs = module_parts} (record { stops_as_following = λ o more r. made _ refl r }) (λ w h b. module_head w b) q

-- A token isn't the end of the text.
not_end : (i : ℕ) (k : TokenKind) → indexed_terminal i k ≡ EndOfText → ⊥
not_end i kind.Identifier e = cc
not_end i (kind.Integer _) e = cc
not_end i (kind.ReservedWord _) e = cc
not_end i (kind.Symbol _) e = cc

pub ends_not : {ts : List Token} {at : ℕ} (k : TokenKind) → at ≤ length ts → remaining_terminals ts at ≡ indexed_terminal at k ∷ remaining_terminals ts (at + 1) → FailsToRead (text_end ∷ []) ts at (Syntax at expected.EndOfText)
ends_not {at = at} k l here = fails_here (indexed_terminal at k) l here (stops_here _ _ here (not_end at k) refl) (λ u b. not_end at k (head_of b.1))
