-- Proves facts about operands that consist of one token, if the next token doesn't continue them.
use Rattle.std.proofs.Common.{◌≡◌, false, is_some, ℕ, ◌+◌, ◌<◌, ◌≤◌, Option, Some, None, List, [], ◌∷◌, length, refl, sym, ap, ◌∙◌, subst, arith}
use Rattle.ob0_scan.specs.declared.lexeme.TokenKind.{TokenKind}
use Rattle.ob0_scan.specs.declared.lexeme.Token.{Token}
use Rattle.ob0_tree.specs.Terminals.{Terminal, Name, Number}
use Rattle.ob0_tree.specs.Tree.{selector, multiplier, addend, comparison, Tree, factor, end, none, compares, product, sum, designator, integer}
use Rattle.std.proofs.lemmas.List.{nil_from_length}
use Rattle.ob0_tree.specs.declared.tree.SimpleExpression.{SimpleExpression, out-SimpleExpression}
use Rattle.ob0_tree.specs.declared.tree.Term.{out-Term}
use Rattle.ob0_tree.specs.View.{items_of, simple_expression_of, addend_of, term_of, multiplier_of, factor_of}
use Rattle.ob0_tree.proofs.Viewed.{simple_parts, term_parts}
use Rattle.ob0_parse_descent.specs.TokenRanks.{terminal_rank, binding_rank, NextTokenEndsConstruct, NextTokenHasRank}
use Rattle.ob0_parse_descent.specs.ParserPromises.{terminal_or_end, remaining_terminals, IsReadTree, IsSingleTokenFactor, BeginsWithoutSign, IsSignAt}
use Rattle.ob0_parse_descent.proofs.NamedStatements.{true_not_false}
use Rattle.ob0_parse_descent.proofs.Items.{taking_none, taking_done}
use Rattle.ob0_parse_descent.proofs.Expressions.{taken_compares, taken_no_item, taken_sum, taken_product, taken_integer, taken_designator}
use Rattle.ob0_parse_descent.proofs.OneToken.{rank_of}
use Rattle.ob0_parse_descent.proofs.Unique.{unsigned_term}

-- The strength with which a token binds is at most its rank.
binding_ranked : (next : Option TokenKind) (i : ℕ) → binding_rank next ≤ terminal_rank (terminal_or_end i next)
binding_ranked None i = omega arith
binding_ranked (Some k) i = omega (arith, rank_of i k)

pub weaker_stops : (ts : List Token) (at level : ℕ) (next : Option TokenKind) → remaining_terminals ts at ≡ terminal_or_end at next ∷ remaining_terminals ts (at + 1) → level < binding_rank next → NextTokenEndsConstruct level (remaining_terminals ts at)
weaker_stops ts at level next here weaker =
    let ranked : level < terminal_rank (terminal_or_end at next) = omega (arith, binding_ranked next at) in
    subst (λ y. NextTokenEndsConstruct level y) (sym here) ranked

no_start : (xs : List (Terminal ℕ)) (n level : ℕ) → n ≤ level → NextTokenEndsConstruct level xs → ¬ NextTokenHasRank n xs
no_start [] n level l s h = h
no_start (x ∷ xs) n level l s h = omega arith

pub lone_name : {ts : List Token} {at : ℕ} (level : ℕ) → remaining_terminals ts at ≡ Name at ∷ remaining_terminals ts (at + 1) → at < length ts → 1 ≤ level → NextTokenEndsConstruct level (remaining_terminals ts (at + 1)) → IsSingleTokenFactor level (designator at end) ts at
lone_name {ts = ts} {at = at} level here within l s = record {
  taken = λ room. taken_designator end here refl (taking_done end (taking_none selector room ts (at + 1) (omega arith)) (no_start (remaining_terminals ts (at + 1)) 1 level l s));
  stops = s;
}

pub lone_number : {ts : List Token} {at : ℕ} (level : ℕ) → remaining_terminals ts at ≡ Number at ∷ remaining_terminals ts (at + 1) → at < length ts → NextTokenEndsConstruct level (remaining_terminals ts (at + 1)) → IsSingleTokenFactor level (integer at) ts at
lone_number {ts = ts} {at = at} level here within s = record { taken = λ room. taken_integer room ts at here within; stops = s }

pub lone_term : {ts : List Token} {at : ℕ} (f : Tree ℕ factor) (level room : ℕ) → 2 ≤ level → IsSingleTokenFactor level f ts at → IsReadTree (product f end) room ts at (at + 1)
lone_term {ts = ts} {at = at} f level room l lone =
    let taken = lone.taken room in
    taken_product f end taken (taking_done end (taking_none multiplier room ts (at + 1) taken.within) (no_start (remaining_terminals ts (at + 1)) 2 level l lone.stops))

pub lone_simple : {ts : List Token} {at : ℕ} (f : Tree ℕ factor) (level room : ℕ) → 3 ≤ level → IsSingleTokenFactor level f ts at → IsReadTree (sum None (product f end) end) room ts at (at + 1)
lone_simple {ts = ts} {at = at} f level room l lone =
    let term = lone_term f level room (omega (arith, l)) lone in
    let own = unsigned_term (product f end) (remaining_terminals ts (at + 1)) in
    let unsigned : BeginsWithoutSign (remaining_terminals ts at) = record { plus = λ z e. own.plus z (sym term.spelled ∙ e); minus = λ z e. own.minus z (sym term.spelled ∙ e) } in
    let sign : IsSignAt ts at None at = record { spelled = refl; forward = omega arith; within = omega (arith, term.within, term.forward); unsigned = unsigned; next_index = omega arith } in
    taken_sum None (product f end) end sign term (taking_done end (taking_none addend room ts (at + 1) term.within) (no_start (remaining_terminals ts (at + 1)) 3 level l lone.stops))

pub lone_expression : {ts : List Token} {at : ℕ} (f : Tree ℕ factor) (room : ℕ) → IsSingleTokenFactor 4 f ts at → IsReadTree (compares (sum None (product f end) end) none) room ts at (at + 1)
lone_expression {ts = ts} {at = at} f room lone =
    let left = lone_simple f 4 room (omega arith) lone in
    taken_compares (sum None (product f end) end) none left (taken_no_item comparison room ts (at + 1) left.within (no_start (remaining_terminals ts (at + 1)) 4 4 (omega arith) lone.stops))

not_some : {A : Type 0} (o : Option A) → is_some o ≡ false → o ≡ None
not_some None e = refl
not_some (Some x) e = absurd (true_not_false e)

-- A simple expression without sign, further terms and further factors is the tree of its only
-- factor.
pub one_factor : (s : SimpleExpression) → is_some (out-SimpleExpression s).sign ≡ false → length (out-Term (out-SimpleExpression s).first).more.items ≡ 0 → length (out-SimpleExpression s).more.items ≡ 0 → simple_expression_of s ≡ sum None (product (factor_of (out-Term (out-SimpleExpression s).first).first) end) end
one_factor s unsigned factors terms =
    let f = out-Term (out-SimpleExpression s).first in
    let first : term_of (out-SimpleExpression s).first ≡ product (factor_of f.first) end = term_parts (out-SimpleExpression s).first ∙ ap (λ xs. product (factor_of f.first) (items_of multiplier_of xs)) (nil_from_length f.more.items factors) in
    simple_parts s ∙ (ap (λ o. sum o (term_of (out-SimpleExpression s).first) (items_of addend_of (out-SimpleExpression s).more.items)) (not_some (out-SimpleExpression s).sign unsigned) ∙ (ap (λ t. sum None t (items_of addend_of (out-SimpleExpression s).more.items)) first ∙ ap (λ xs. sum None (product (factor_of f.first) end) (items_of addend_of xs)) (nil_from_length (out-SimpleExpression s).more.items terms)))
