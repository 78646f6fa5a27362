-- Proves facts about productions that consist of a reserved word or symbol, followed by one
-- construct.
use Rattle.std.proofs.Common.{◌≡◌, ℕ, ◌+◌, ◌≤◌, List, [], ◌∷◌, ◌++◌, refl, sym, ◌∙◌, ap, subst, arith}
use Rattle.ob0_scan.specs.declared.lexeme.TokenKind.{TokenKind}
use Rattle.ob0_scan.specs.declared.lexeme.TokenKind.TheVariants as kind
use Rattle.ob0_scan.specs.declared.lexeme.ReservedWord.TheVariants as reserved
use Rattle.ob0_scan.specs.declared.lexeme.Symbol.TheVariants as symbol
use Rattle.ob0_scan.specs.declared.lexeme.Token.{Token}
use Rattle.ob0_tree.specs.Terminals.{Terminal, WordOrSymbol}
use Rattle.ob0_tree.specs.Tree.{GrammarItem, comma_then_argument, semicolon_then_statement, else_branch, semicolon_then_fields, semicolon_then_section, begins, declares_const_section, declares_type_section, declares_var_section, argument_after_comma, statement_after_semicolon, else_part, fields_after_semicolon, section_after_semicolon, body, constants, type_definitions, variables, constant, type_definition, variable, expression, statement, sequence, fields, section, Sort, item, items, Tree, spell, nesting}
use Rattle.ob0_parse_descent.specs.TokenRanks.{kind_rank, item_start_rank, item_max_continuing_rank, max_continuing_rank, NextTokenHasRank}
use Rattle.ob0_parse_descent.specs.ParserPromises.{remaining_terminals, token, nonterminal, BeginsWithParts, DescentsHaveSameEnd, IsReadTree, FailsToRead, ItemBeginsButCantBeRead}
use Rattle.ob0_parse_descent.specs.Descent.{parts, chosen_item_production}
use Rattle.ob0_parse_descent.proofs.Descent.{by, read_led}
use Rattle.ob0_parse_descent.specs.declared.refusal.ParseRefusal.{ParseRefusal}
use Rattle.ob0_parse_descent.proofs.Unique.{stops_less, tail_of}
use Rattle.ob0_parse_descent.proofs.Refusals.{fails_following}

pub record Leads {s : Sort} {i : GrammarItem} (k : TokenKind) (make : Tree ℕ s → Tree ℕ (item i)) : Type 0 where
  pub spelled : (t : Tree ℕ s) → spell (make t) ≡ WordOrSymbol k ∷ spell t
  pub deep : (t : Tree ℕ s) → nesting (make t) ≡ nesting t
  pub back : (u : Tree ℕ (item i)) → (v : Tree ℕ s) × (u ≡ make v)
  pub lower : max_continuing_rank s ≤ item_max_continuing_rank i
  pub ranked : kind_rank k ≡ item_start_rank i
  pub chosen_production : (room : ℕ) (w : List (Terminal ℕ)) → chosen_item_production i room (WordOrSymbol k ∷ w) ≡ parts (token k ∷ nonterminal s room ∷ [])

led_back : {s : Sort} {i : GrammarItem} {k : TokenKind} {make : Tree ℕ s → Tree ℕ (item i)} → Leads k make → (u : Tree ℕ (item i)) (z w : List (Terminal ℕ)) → spell u ++ z ≡ WordOrSymbol k ∷ w → (v : Tree ℕ s) × (u ≡ make v) × (spell v ++ z ≡ w)
led_back {k = k} l u z w e =
    let b = l.back u in
    let spelled : spell u ≡ WordOrSymbol k ∷ spell b.0 = ap spell b.1 ∙ l.spelled b.0 in
    (b.0, b.1, tail_of (ap (λ x. x ++ z) (sym spelled) ∙ e))

led_read : {s : Sort} {i : GrammarItem} {k : TokenKind} {make : Tree ℕ s → Tree ℕ (item i)} {room : ℕ} {ts : List Token} {at : ℕ} → Leads k make → remaining_terminals ts at ≡ WordOrSymbol k ∷ remaining_terminals ts (at + 1) → DescentsHaveSameEnd (nonterminal (item i) room ∷ []) (nonterminal s room ∷ []) ts at (at + 1)
led_read {s = s} {room = room} {ts = ts} {at = at} l here = read_led (nonterminal s room ∷ []) (l.chosen_production room (remaining_terminals ts (at + 1))) here

pub taken_led : {s : Sort} {i : GrammarItem} {k : TokenKind} {make : Tree ℕ s → Tree ℕ (item i)} {room : ℕ} {ts : List Token} {at n : ℕ} → Leads k make → (t : Tree ℕ s) → remaining_terminals ts at ≡ WordOrSymbol k ∷ remaining_terminals ts (at + 1) → IsReadTree t room ts (at + 1) n → IsReadTree (make t) room ts at n
taken_led {s = s} {i = i} {k = k} {make = make} {room = room} {ts = ts} {n = n} l t here p = record {
  spelled = here ∙ (ap (λ y. WordOrSymbol k ∷ y) p.spelled ∙ ap (λ y. y ++ remaining_terminals ts n) (sym (l.spelled t)));
  shallow = subst (λ y. y ≤ room) (sym (l.deep t)) p.shallow;
  only = λ u z w h stop e.
      let b = led_back l u z (spell t ++ w) (e ∙ ap (λ y. y ++ w) (l.spelled t)) in
      let r = p.only b.0 z w h (stops_less z (max_continuing_rank s) (item_max_continuing_rank i) l.lower stop) b.2 in
      (b.1 ∙ ap make r.0, r.1);
  reads = by (led_read l here) p.reads;
  within = p.within;
  forward = omega (arith, p.forward);
}

led_parts : {s : Sort} {i : GrammarItem} {k : TokenKind} {make : Tree ℕ s → Tree ℕ (item i)} (room : ℕ) → Leads k make → (w : List (Terminal ℕ)) → BeginsWithParts (nonterminal (item i) room ∷ []) (WordOrSymbol k ∷ w) → BeginsWithParts (nonterminal s room ∷ []) w
led_parts {s = s} {i = i} room l w (u, z, e, n, stop, b) =
    let v = led_back l u z w (sym e) in
    (v.0, z, sym v.2, subst (λ y. y ≤ room) (ap nesting v.1 ∙ l.deep v.0) n, stops_less z (max_continuing_rank s) (item_max_continuing_rank i) l.lower stop, tt)

pub led_fails : {s : Sort} {i : GrammarItem} {k : TokenKind} {make : Tree ℕ s → Tree ℕ (item i)} {room : ℕ} {ts : List Token} {at : ℕ} {e : ParseRefusal} → Leads k make → remaining_terminals ts at ≡ WordOrSymbol k ∷ remaining_terminals ts (at + 1) → FailsToRead (nonterminal s room ∷ []) ts (at + 1) e → ItemBeginsButCantBeRead i room ts at e
led_fails {s = s} {i = i} {k = k} {room = room} l here q = record {
  is_here = subst (λ y. NextTokenHasRank (item_start_rank i) y) (sym here) l.ranked;
  fails = fails_following {qs = nonterminal s room ∷ []} (led_read l here) here (led_parts room l) q;
}

back_then_argument : (u : Tree ℕ (item argument_after_comma)) → (v : Tree ℕ expression) × (u ≡ comma_then_argument v)
back_then_argument (comma_then_argument v) = (v, refl)

pub leads_then_argument : Leads (kind.Symbol symbol.Comma) comma_then_argument
leads_then_argument = record { spelled = λ t. refl; deep = λ t. refl; back = back_then_argument; lower = omega arith; ranked = refl; chosen_production = λ room w. refl }

back_then_statement : (u : Tree ℕ (item statement_after_semicolon)) → (v : Tree ℕ statement) × (u ≡ semicolon_then_statement v)
back_then_statement (semicolon_then_statement v) = (v, refl)

pub leads_then_statement : Leads (kind.Symbol symbol.Semicolon) semicolon_then_statement
leads_then_statement = record { spelled = λ t. refl; deep = λ t. refl; back = back_then_statement; lower = omega arith; ranked = refl; chosen_production = λ room w. refl }

back_else_branch : (u : Tree ℕ (item else_part)) → (v : Tree ℕ sequence) × (u ≡ else_branch v)
back_else_branch (else_branch v) = (v, refl)

pub leads_else_branch : Leads (kind.ReservedWord reserved.Else) else_branch
leads_else_branch = record { spelled = λ t. refl; deep = λ t. refl; back = back_else_branch; lower = omega arith; ranked = refl; chosen_production = λ room w. refl }

back_then_fields : (u : Tree ℕ (item fields_after_semicolon)) → (v : Tree ℕ fields) × (u ≡ semicolon_then_fields v)
back_then_fields (semicolon_then_fields v) = (v, refl)

pub leads_then_fields : Leads (kind.Symbol symbol.Semicolon) semicolon_then_fields
leads_then_fields = record { spelled = λ t. refl; deep = λ t. refl; back = back_then_fields; lower = omega arith; ranked = refl; chosen_production = λ room w. refl }

back_then_section : (u : Tree ℕ (item section_after_semicolon)) → (v : Tree ℕ section) × (u ≡ semicolon_then_section v)
back_then_section (semicolon_then_section v) = (v, refl)

pub leads_then_section : Leads (kind.Symbol symbol.Semicolon) semicolon_then_section
leads_then_section = record { spelled = λ t. refl; deep = λ t. refl; back = back_then_section; lower = omega arith; ranked = refl; chosen_production = λ room w. refl }

back_begins : (u : Tree ℕ (item body)) → (v : Tree ℕ sequence) × (u ≡ begins v)
back_begins (begins v) = (v, refl)

pub leads_begins : Leads (kind.ReservedWord reserved.Begin) begins
leads_begins = record { spelled = λ t. refl; deep = λ t. refl; back = back_begins; lower = omega arith; ranked = refl; chosen_production = λ room w. refl }

back_declares_constants : (u : Tree ℕ (item constants)) → (v : Tree ℕ (items constant)) × (u ≡ declares_const_section v)
back_declares_constants (declares_const_section v) = (v, refl)

pub leads_declares_constants : Leads (kind.ReservedWord reserved.Const) declares_const_section
leads_declares_constants = record { spelled = λ t. refl; deep = λ t. refl; back = back_declares_constants; lower = omega arith; ranked = refl; chosen_production = λ room w. refl }

back_declares_types : (u : Tree ℕ (item type_definitions)) → (v : Tree ℕ (items type_definition)) × (u ≡ declares_type_section v)
back_declares_types (declares_type_section v) = (v, refl)

pub leads_declares_types : Leads (kind.ReservedWord reserved.Type) declares_type_section
leads_declares_types = record { spelled = λ t. refl; deep = λ t. refl; back = back_declares_types; lower = omega arith; ranked = refl; chosen_production = λ room w. refl }

back_declares_variables : (u : Tree ℕ (item variables)) → (v : Tree ℕ (items variable)) × (u ≡ declares_var_section v)
back_declares_variables (declares_var_section v) = (v, refl)

pub leads_declares_variables : Leads (kind.ReservedWord reserved.Var) declares_var_section
leads_declares_variables = record { spelled = λ t. refl; deep = λ t. refl; back = back_declares_variables; lower = omega arith; ranked = refl; chosen_production = λ room w. refl }
