-- Proves that a list of tokens begins with at most one tree of a given sort, if the token after the
-- tree can't continue the tree.
use Rattle.std.proofs.Common.{◌≡◌, ℕ, ◌<◌, ◌≤◌, Option, Some, None, List, [], ◌∷◌, ◌++◌, refl, sym, ◌∙◌, ap, subst, arith, append_assoc}
use Rattle.ob0_scan.specs.declared.lexeme.TokenKind.{TokenKind}
use Rattle.ob0_scan.specs.declared.lexeme.TokenKind.TheVariants as kind
use Rattle.ob0_scan.specs.declared.lexeme.ReservedWord.TheVariants as reserved
use Rattle.ob0_scan.specs.declared.lexeme.Symbol.TheVariants as symbol
use Rattle.ob0_tree.specs.Terminals.{Terminal, Name, WordOrSymbol, relation_token_kind, sign_tokens, add_operator_token_kind, multiply_operator_token_kind}
use Rattle.ob0_tree.specs.declared.tree.Relation.{Relation}
use Rattle.ob0_tree.specs.declared.tree.Relation.TheVariants as relation
use Rattle.ob0_tree.specs.declared.tree.Sign.{Sign}
use Rattle.ob0_tree.specs.declared.tree.Sign.TheVariants as sign
use Rattle.ob0_tree.specs.declared.tree.AddOperator.{AddOperator}
use Rattle.ob0_tree.specs.declared.tree.AddOperator.TheVariants as add_operator
use Rattle.ob0_tree.specs.declared.tree.MultiplyOperator.{MultiplyOperator}
use Rattle.ob0_tree.specs.declared.tree.MultiplyOperator.TheVariants as multiply_operator
use Rattle.ob0_tree.specs.Tree.{GrammarItem, selector, multiplier, addend, comparison, arguments, argument_after_comma, statement_after_semicolon, elsif_part, else_part, name_after_comma, fields_after_semicolon, formals, section_after_semicolon, constant, constants, type_definition, type_definitions, variable, variables, procedure, body, Sort, item, items, maybe, expression, simple, term, factor, statement, sequence, names, written_type, fields, section, declarations, block, module_text, Tree, none, one, end, more, compares, relates, sum, adds, product, multiplies, designator, integer, parenthesised, negation, field, index, empty, assigns, calls, branches, while_loop, repeat_loop, no_arguments, some_arguments, comma_then_argument, runs, semicolon_then_statement, elsif_branch, else_branch, listed, comma_then_name, named_type, array_type, record_type, no_fields, some_fields, semicolon_then_fields, no_formals, some_formals, value_section, variable_section, semicolon_then_section, declares_constant, declares_const_section, declares_type, declares_type_section, declares_variable, declares_var_section, declares_procedure, declares, begins, forms_block, forms_module, spell, single_token_list}
use Rattle.ob0_parse_descent.specs.TokenRanks.{terminal_rank, kind_rank, item_start_rank, item_max_continuing_rank, max_continuing_rank, NextTokenEndsConstruct, NextTokenHasRank}
use Rattle.ob0_parse_descent.proofs.Apart.{name_not_mark, name_not_number, number_not_mark, paren_not_tilde, dot_not_bracket, dot_not_paren, bracket_not_paren, becomes_not_paren, array_not_record, number_of}

pub relation_rank : (r : Relation) → kind_rank (relation_token_kind r) ≡ 4
relation_rank relation.Equal = refl
relation_rank relation.NotEqual = refl
relation_rank relation.Less = refl
relation_rank relation.LessEqual = refl
relation_rank relation.Greater = refl
relation_rank relation.GreaterEqual = refl

pub add_rank : (o : AddOperator) → kind_rank (add_operator_token_kind o) ≡ 3
add_rank add_operator.Add = refl
add_rank add_operator.Subtract = refl
add_rank add_operator.Or = refl

pub multiply_rank : (o : MultiplyOperator) → kind_rank (multiply_operator_token_kind o) ≡ 2
multiply_rank multiply_operator.Multiply = refl
multiply_rank multiply_operator.Divide = refl
multiply_rank multiply_operator.Modulo = refl
multiply_rank multiply_operator.And = refl

-- Holds if the tokens begin with a token of the item's rank.
pub record Headed {N : Type 0} (i : GrammarItem) (tokens : List (Terminal N)) : Type 0 where
  pub head : Terminal N
  pub tail : List (Terminal N)
  pub is : tokens ≡ head ∷ tail
  pub ranked : terminal_rank head ≡ item_start_rank i

headed : {N : Type 0} {i : GrammarItem} (t : Tree N (item i)) (x : List (Terminal N)) → Headed i (spell t ++ x)
headed (relates r a) x = record { head = WordOrSymbol (relation_token_kind r); tail = spell a ++ x; is = refl; ranked = relation_rank r }
headed (adds o t) x = record { head = WordOrSymbol (add_operator_token_kind o); tail = spell t ++ x; is = refl; ranked = add_rank o }
headed (multiplies o f) x = record { head = WordOrSymbol (multiply_operator_token_kind o); tail = spell f ++ x; is = refl; ranked = multiply_rank o }
headed (field n) x = record { head = WordOrSymbol (kind.Symbol symbol.Dot); tail = Name n ∷ x; is = refl; ranked = refl }
headed (index e) x = record { head = WordOrSymbol (kind.Symbol symbol.LeftBracket); tail = (spell e ++ single_token_list (kind.Symbol symbol.RightBracket)) ++ x; is = refl; ranked = refl }
headed no_arguments x = record { head = WordOrSymbol (kind.Symbol symbol.LeftParen); tail = WordOrSymbol (kind.Symbol symbol.RightParen) ∷ x; is = refl; ranked = refl }
headed (some_arguments e es) x = record { head = WordOrSymbol (kind.Symbol symbol.LeftParen); tail = (spell e ++ (spell es ++ single_token_list (kind.Symbol symbol.RightParen))) ++ x; is = refl; ranked = refl }
headed (comma_then_argument e) x = record { head = WordOrSymbol (kind.Symbol symbol.Comma); tail = spell e ++ x; is = refl; ranked = refl }
headed (semicolon_then_statement s) x = record { head = WordOrSymbol (kind.Symbol symbol.Semicolon); tail = spell s ++ x; is = refl; ranked = refl }
headed (elsif_branch c s) x = record { head = WordOrSymbol (kind.ReservedWord reserved.Elsif); tail = (spell c ++ (WordOrSymbol (kind.ReservedWord reserved.Then) ∷ spell s)) ++ x; is = refl; ranked = refl }
headed (else_branch s) x = record { head = WordOrSymbol (kind.ReservedWord reserved.Else); tail = spell s ++ x; is = refl; ranked = refl }
headed (comma_then_name n) x = record { head = WordOrSymbol (kind.Symbol symbol.Comma); tail = Name n ∷ x; is = refl; ranked = refl }
headed (semicolon_then_fields f) x = record { head = WordOrSymbol (kind.Symbol symbol.Semicolon); tail = spell f ++ x; is = refl; ranked = refl }
headed no_formals x = record { head = WordOrSymbol (kind.Symbol symbol.LeftParen); tail = WordOrSymbol (kind.Symbol symbol.RightParen) ∷ x; is = refl; ranked = refl }
headed (some_formals f fs) x = record { head = WordOrSymbol (kind.Symbol symbol.LeftParen); tail = (spell f ++ (spell fs ++ single_token_list (kind.Symbol symbol.RightParen))) ++ x; is = refl; ranked = refl }
headed (semicolon_then_section f) x = record { head = WordOrSymbol (kind.Symbol symbol.Semicolon); tail = spell f ++ x; is = refl; ranked = refl }
headed (declares_constant n e) x = record { head = Name n; tail = WordOrSymbol (kind.Symbol symbol.Equal) ∷ ((spell e ++ single_token_list (kind.Symbol symbol.Semicolon)) ++ x); is = refl; ranked = refl }
headed (declares_const_section cs) x = record { head = WordOrSymbol (kind.ReservedWord reserved.Const); tail = spell cs ++ x; is = refl; ranked = refl }
headed (declares_type n t) x = record { head = Name n; tail = WordOrSymbol (kind.Symbol symbol.Equal) ∷ ((spell t ++ single_token_list (kind.Symbol symbol.Semicolon)) ++ x); is = refl; ranked = refl }
headed (declares_type_section ts) x = record { head = WordOrSymbol (kind.ReservedWord reserved.Type); tail = spell ts ++ x; is = refl; ranked = refl }
headed (declares_variable (listed n others) t) x = record { head = Name n; tail = (spell others ++ (WordOrSymbol (kind.Symbol symbol.Colon) ∷ (spell t ++ single_token_list (kind.Symbol symbol.Semicolon)))) ++ x; is = refl; ranked = refl }
headed (declares_var_section vs) x = record { head = WordOrSymbol (kind.ReservedWord reserved.Var); tail = spell vs ++ x; is = refl; ranked = refl }
headed (declares_procedure n fs b c) x = record { head = WordOrSymbol (kind.ReservedWord reserved.Procedure); tail = Name n ∷ ((spell fs ++ (WordOrSymbol (kind.Symbol symbol.Semicolon) ∷ (spell b ++ (WordOrSymbol (kind.ReservedWord reserved.End) ∷ Name c ∷ single_token_list (kind.Symbol symbol.Semicolon))))) ++ x); is = refl; ranked = refl }
headed (begins s) x = record { head = WordOrSymbol (kind.ReservedWord reserved.Begin); tail = spell s ++ x; is = refl; ranked = refl }

-- If the tokens don't continue a list of items, no such item begins with them.
pub not_here : {N : Type 0} {i : GrammarItem} (t : Tree N (item i)) (x y : List (Terminal N)) → NextTokenEndsConstruct (item_start_rank i) x → x ≡ spell t ++ y → ⊥
not_here {i = i} t x y p e =
    let h = headed t y in
    let s : NextTokenEndsConstruct (item_start_rank i) (h.head ∷ h.tail) = subst (λ z. NextTokenEndsConstruct (item_start_rank i) z) (e ∙ h.is) p in
    omega (arith, h.ranked)

pub stops_item : {N : Type 0} {i : GrammarItem} (t : Tree N (item i)) (x : List (Terminal N)) (n : ℕ) → n < item_start_rank i → NextTokenEndsConstruct n (spell t ++ x)
stops_item t x n l =
    let h = headed t x in
    subst (λ z. NextTokenEndsConstruct n z) (sym h.is) (omega (arith, h.ranked))

pub stops_less : {N : Type 0} (x : List (Terminal N)) (n m : ℕ) → n ≤ m → NextTokenEndsConstruct m x → NextTokenEndsConstruct n x
stops_less [] n m l p = tt
stops_less (c ∷ x) n m l p = omega arith

pub starts_item : {N : Type 0} {i : GrammarItem} (t : Tree N (item i)) (x : List (Terminal N)) → NextTokenHasRank (item_start_rank i) (spell t ++ x)
starts_item {i = i} t x =
    let h = headed t x in
    subst (λ z. NextTokenHasRank (item_start_rank i) z) (sym h.is) h.ranked

pub stops_items : {N : Type 0} {i : GrammarItem} (ts : Tree N (items i)) (x : List (Terminal N)) (n : ℕ) → n < item_start_rank i → NextTokenEndsConstruct (item_start_rank i) x → NextTokenEndsConstruct n (spell ts ++ x)
stops_items end x n l p = stops_less x n _ (omega arith) p
stops_items (more t ts) x n l p = subst (λ z. NextTokenEndsConstruct n z) (sym (append_assoc (spell t) (spell ts) x)) (stops_item t (spell ts ++ x) n l)

pub stops_maybe : {N : Type 0} {i : GrammarItem} (t : Tree N (maybe i)) (x : List (Terminal N)) (n : ℕ) → n < item_start_rank i → NextTokenEndsConstruct (item_start_rank i) x → NextTokenEndsConstruct n (spell t ++ x)
stops_maybe none x n l p = stops_less x n _ (omega arith) p
stops_maybe (one t) x n l p = stops_item t x n l

pub below : (i : GrammarItem) → item_max_continuing_rank i < item_start_rank i
below selector = omega arith
below multiplier = omega arith
below addend = omega arith
below comparison = omega arith
below _ = omega arith

-- Holds if the tokens don't begin with a sign, as for every factor.
pub record BeginsWithoutSign {N : Type 0} (tokens : List (Terminal N)) : Type 0 where
  pub plus : (z : List (Terminal N)) → tokens ≡ WordOrSymbol (kind.Symbol symbol.Plus) ∷ z → ⊥
  pub minus : (z : List (Terminal N)) → tokens ≡ WordOrSymbol (kind.Symbol symbol.Minus) ∷ z → ⊥

unsigned : {N : Type 0} (f : Tree N factor) (x : List (Terminal N)) → BeginsWithoutSign (spell f ++ x)
unsigned (designator n ss) x = record { plus = λ z e. cc; minus = λ z e. cc }
unsigned (integer n) x = record { plus = λ z e. cc; minus = λ z e. cc }
unsigned (parenthesised t) x = record { plus = λ z e. cc; minus = λ z e. cc }
unsigned (negation f) x = record { plus = λ z e. cc; minus = λ z e. cc }

pub unsigned_term : {N : Type 0} (t : Tree N term) (x : List (Terminal N)) → BeginsWithoutSign (spell t ++ x)
unsigned_term (product f fs) x = subst BeginsWithoutSign (sym (append_assoc (spell f) (spell fs) x)) (unsigned f (spell fs ++ x))

-- Two optional signs before unsigned tokens are the same if the whole lists are.
pub same_signs : {N : Type 0} (r s : Option Sign) (x y : List (Terminal N)) → BeginsWithoutSign x → BeginsWithoutSign y → sign_tokens r ++ x ≡ sign_tokens s ++ y → (r ≡ s) × (x ≡ y)
same_signs None None x y p q e = (refl, e)
same_signs None (Some sign.Plus) x y p q e = absurd (p.plus y e)
same_signs None (Some sign.Minus) x y p q e = absurd (p.minus y e)
same_signs (Some sign.Plus) None x y p q e = absurd (q.plus x (sym e))
same_signs (Some sign.Minus) None x y p q e = absurd (q.minus x (sym e))
same_signs (Some sign.Plus) (Some sign.Plus) x y p q e = (refl, cc)
same_signs (Some sign.Minus) (Some sign.Minus) x y p q e = (refl, cc)
same_signs (Some sign.Plus) (Some sign.Minus) x y p q e = cc
same_signs (Some sign.Minus) (Some sign.Plus) x y p q e = cc

pub same_relation : (r s : Relation) → relation_token_kind r ≡ relation_token_kind s → r ≡ s
same_relation relation.Equal relation.Equal e = refl
same_relation relation.NotEqual relation.NotEqual e = refl
same_relation relation.Less relation.Less e = refl
same_relation relation.LessEqual relation.LessEqual e = refl
same_relation relation.Greater relation.Greater e = refl
same_relation relation.GreaterEqual relation.GreaterEqual e = refl
same_relation _ _ e = cc

pub same_add : (r s : AddOperator) → add_operator_token_kind r ≡ add_operator_token_kind s → r ≡ s
same_add add_operator.Add add_operator.Add e = refl
same_add add_operator.Subtract add_operator.Subtract e = refl
same_add add_operator.Or add_operator.Or e = refl
same_add _ _ e = cc

pub same_multiply : (r s : MultiplyOperator) → multiply_operator_token_kind r ≡ multiply_operator_token_kind s → r ≡ s
same_multiply multiply_operator.Multiply multiply_operator.Multiply e = refl
same_multiply multiply_operator.Divide multiply_operator.Divide e = refl
same_multiply multiply_operator.Modulo multiply_operator.Modulo e = refl
same_multiply multiply_operator.And multiply_operator.And e = refl
same_multiply _ _ e = cc

pub regroup : {A : Type 0} (a b x c d y : List A) → (a ++ b) ++ x ≡ (c ++ d) ++ y → a ++ (b ++ x) ≡ c ++ (d ++ y)
regroup a b x c d y e = sym (append_assoc a b x) ∙ (e ∙ append_assoc c d y)

pub tail_of : {A : Type 0} {a b : A} {x y : List A} → a ∷ x ≡ b ∷ y → x ≡ y
tail_of e = cc

pub head_of : {A : Type 0} {a b : A} {x y : List A} → a ∷ x ≡ b ∷ y → a ≡ b
head_of e = cc

pub mark_of : {N : Type 0} {a b : TokenKind} {x y : List (Terminal N)} → WordOrSymbol a ∷ x ≡ WordOrSymbol b ∷ y → a ≡ b
mark_of e = cc

pub name_of : {N : Type 0} {a b : N} {x y : List (Terminal N)} → Name a ∷ x ≡ Name b ∷ y → a ≡ b
name_of e = cc

-- If tokens end a construct, their first token has a rank above the construct's level.
pub not_at : {N : Type 0} (x : List (Terminal N)) (c : Terminal N) (z : List (Terminal N)) (n : ℕ) → x ≡ c ∷ z → terminal_rank c ≤ n → NextTokenEndsConstruct n x → ⊥
not_at x c z n e l p =
    let s : NextTokenEndsConstruct n (c ∷ z) = subst (λ y. NextTokenEndsConstruct n y) e p in
    omega arith

pub stops_closed : {N : Type 0} {i : GrammarItem} (ts : Tree N (items i)) (k : TokenKind) (x : List (Terminal N)) (n : ℕ) → n < item_start_rank i → item_start_rank i < kind_rank k → NextTokenEndsConstruct n ((spell ts ++ single_token_list k) ++ x)
stops_closed ts k x n l m = subst (λ z. NextTokenEndsConstruct n z) (sym (append_assoc (spell ts) (single_token_list k) x)) (stops_items ts (WordOrSymbol k ∷ x) n l m)

pub stops_else : {N : Type 0} (rest : Tree N (maybe else_part)) (x : List (Terminal N)) → NextTokenEndsConstruct 10 ((spell rest ++ single_token_list (kind.ReservedWord reserved.End)) ++ x)
stops_else rest x = subst (λ z. NextTokenEndsConstruct 10 z) (sym (append_assoc (spell rest) (single_token_list (kind.ReservedWord reserved.End)) x)) (stops_maybe rest (WordOrSymbol (kind.ReservedWord reserved.End) ∷ x) 10 (omega arith) (omega arith))

pub stops_branches : {N : Type 0} (es : Tree N (items elsif_part)) (rest : Tree N (maybe else_part)) (x : List (Terminal N)) → NextTokenEndsConstruct 9 ((spell es ++ (spell rest ++ single_token_list (kind.ReservedWord reserved.End))) ++ x)
stops_branches es rest x = subst (λ z. NextTokenEndsConstruct 9 z) (sym (append_assoc (spell es) (spell rest ++ single_token_list (kind.ReservedWord reserved.End)) x)) (stops_items es ((spell rest ++ single_token_list (kind.ReservedWord reserved.End)) ++ x) 9 (omega arith) (stops_else rest x))

pub stops_variables : {N : Type 0} (vs : Tree N (maybe variables)) (ps : Tree N (items procedure)) (x : List (Terminal N)) → NextTokenEndsConstruct 15 x → NextTokenEndsConstruct 13 ((spell vs ++ spell ps) ++ x)
stops_variables vs ps x p = subst (λ z. NextTokenEndsConstruct 13 z) (sym (append_assoc (spell vs) (spell ps) x)) (stops_maybe vs (spell ps ++ x) 13 (omega arith) (stops_items ps x 14 (omega arith) p))

pub stops_types : {N : Type 0} (ts : Tree N (maybe type_definitions)) (vs : Tree N (maybe variables)) (ps : Tree N (items procedure)) (x : List (Terminal N)) → NextTokenEndsConstruct 15 x → NextTokenEndsConstruct 12 ((spell ts ++ (spell vs ++ spell ps)) ++ x)
stops_types ts vs ps x p = subst (λ z. NextTokenEndsConstruct 12 z) (sym (append_assoc (spell ts) (spell vs ++ spell ps) x)) (stops_maybe ts ((spell vs ++ spell ps) ++ x) 12 (omega arith) (stops_variables vs ps x p))

-- The selectors of an assignment, followed by `:=`, can't be the arguments of a call.
pub no_call : {N : Type 0} (ss : Tree N (items selector)) (a : Tree N (maybe arguments)) (z y : List (Terminal N)) → NextTokenEndsConstruct 8 y → spell ss ++ (WordOrSymbol (kind.Symbol symbol.Becomes) ∷ z) ≡ spell a ++ y → ⊥
no_call end none z y q e = not_at y _ _ 8 (sym e) (omega arith) q
no_call end (one no_arguments) z y q e = becomes_not_paren e
no_call end (one (some_arguments b bs)) z y q e = becomes_not_paren e
no_call (more (field n) ss) none z y q e = not_at y _ _ 8 (sym e) (omega arith) q
no_call (more (field n) ss) (one no_arguments) z y q e = dot_not_paren e
no_call (more (field n) ss) (one (some_arguments b bs)) z y q e = dot_not_paren e
no_call (more (index n) ss) none z y q e = not_at y _ _ 8 (sym e) (omega arith) q
no_call (more (index n) ss) (one no_arguments) z y q e = bracket_not_paren e
no_call (more (index n) ss) (one (some_arguments b bs)) z y q e = bracket_not_paren e

-- No factor begins with `)`.
no_factor : {N : Type 0} (f : Tree N factor) (x z : List (Terminal N)) → spell f ++ x ≡ WordOrSymbol (kind.Symbol symbol.RightParen) ∷ z → ⊥
no_factor (designator n ss) x z e = cc
no_factor (integer n) x z e = cc
no_factor (parenthesised t) x z e = cc
no_factor (negation f) x z e = cc

no_term : {N : Type 0} (t : Tree N term) (x z : List (Terminal N)) → spell t ++ x ≡ WordOrSymbol (kind.Symbol symbol.RightParen) ∷ z → ⊥
no_term (product f fs) x z e = no_factor f (spell fs ++ x) z (sym (append_assoc (spell f) (spell fs) x) ∙ e)

plus_not_close : (kind.Symbol symbol.Plus) ≡ (kind.Symbol symbol.RightParen) → ⊥
plus_not_close e = cc

minus_not_close : (kind.Symbol symbol.Minus) ≡ (kind.Symbol symbol.RightParen) → ⊥
minus_not_close e = cc

no_simple : {N : Type 0} (t : Tree N simple) (x z : List (Terminal N)) → spell t ++ x ≡ WordOrSymbol (kind.Symbol symbol.RightParen) ∷ z → ⊥
no_simple (sum None t ts) x z e = no_term t (spell ts ++ x) z (sym (append_assoc (spell t) (spell ts) x) ∙ e)
no_simple (sum (Some sign.Plus) t ts) x z e = absurd (plus_not_close (mark_of e))
no_simple (sum (Some sign.Minus) t ts) x z e = absurd (minus_not_close (mark_of e))

no_expression : {N : Type 0} (t : Tree N expression) (x z : List (Terminal N)) → spell t ++ x ≡ WordOrSymbol (kind.Symbol symbol.RightParen) ∷ z → ⊥
no_expression (compares a c) x z e = no_simple a (spell c ++ x) z (sym (append_assoc (spell a) (spell c) x) ∙ e)

pub no_section : {N : Type 0} (t : Tree N section) (x z : List (Terminal N)) → spell t ++ x ≡ WordOrSymbol (kind.Symbol symbol.RightParen) ∷ z → ⊥
no_section (value_section (listed n ns) t) x z e = cc
no_section (variable_section ns t) x z e = cc

pub not_while : (kind.ReservedWord reserved.If) ≡ (kind.ReservedWord reserved.While) → ⊥
not_while e = cc

pub not_repeat : (kind.ReservedWord reserved.If) ≡ (kind.ReservedWord reserved.Repeat) → ⊥
not_repeat e = cc

pub while_not_repeat : (kind.ReservedWord reserved.While) ≡ (kind.ReservedWord reserved.Repeat) → ⊥
while_not_repeat e = cc

-- Holds if no other tree of the same sort begins these tokens, provided that the tokens after both
-- trees end them.
pub record Unique {N : Type 0} {s : Sort} (t : Tree N s) : Type 0 where
  pub only : (u : Tree N s) (x y : List (Terminal N)) → NextTokenEndsConstruct (max_continuing_rank s) x → NextTokenEndsConstruct (max_continuing_rank s) y → spell t ++ x ≡ spell u ++ y → (t ≡ u) × (x ≡ y)

none_only : {N : Type 0} {i : GrammarItem} (u : Tree N (maybe i)) (x y : List (Terminal N)) → NextTokenEndsConstruct (max_continuing_rank (maybe i)) x → NextTokenEndsConstruct (max_continuing_rank (maybe i)) y → spell (none {i = i}) ++ x ≡ spell u ++ y → ((none {i = i}) ≡ u) × (x ≡ y)
none_only none x y p q e = (refl, e)
none_only (one t) x y p q e = absurd (not_here t x y p e)

one_only : {N : Type 0} {i : GrammarItem} (a0 : Tree N (item i)) → Unique a0 → (u : Tree N (maybe i)) (x y : List (Terminal N)) → NextTokenEndsConstruct (max_continuing_rank (maybe i)) x → NextTokenEndsConstruct (max_continuing_rank (maybe i)) y → spell (one a0) ++ x ≡ spell u ++ y → ((one a0) ≡ u) × (x ≡ y)
one_only t h_t none x y p q e = absurd (not_here t y x q (sym e))
one_only {i = i} t h_t (one u) x y p q e =
    let r = h_t.only u x y (stops_less x (item_max_continuing_rank i) (item_start_rank i) (omega (arith, below i)) p) (stops_less y (item_max_continuing_rank i) (item_start_rank i) (omega (arith, below i)) q) e in
    (ap one r.0, r.1)

end_only : {N : Type 0} {i : GrammarItem} (u : Tree N (items i)) (x y : List (Terminal N)) → NextTokenEndsConstruct (max_continuing_rank (items i)) x → NextTokenEndsConstruct (max_continuing_rank (items i)) y → spell (end {i = i}) ++ x ≡ spell u ++ y → ((end {i = i}) ≡ u) × (x ≡ y)
end_only end x y p q e = (refl, e)
end_only (more u us) x y p q e = absurd (not_here u x (spell us ++ y) p (e ∙ append_assoc (spell u) (spell us) y))

more_only : {N : Type 0} {i : GrammarItem} (a0 : Tree N (item i)) (a1 : Tree N (items i)) → Unique a0 → Unique a1 → (u : Tree N (items i)) (x y : List (Terminal N)) → NextTokenEndsConstruct (max_continuing_rank (items i)) x → NextTokenEndsConstruct (max_continuing_rank (items i)) y → spell (more a0 a1) ++ x ≡ spell u ++ y → ((more a0 a1) ≡ u) × (x ≡ y)
more_only t ts h_t h_ts end x y p q e = absurd (not_here t y (spell ts ++ x) q (sym e ∙ append_assoc (spell t) (spell ts) x))
more_only {i = i} t ts h_t h_ts (more u us) x y p q e =
    let r = h_t.only u (spell ts ++ x) (spell us ++ y) (stops_items ts x (item_max_continuing_rank i) (below i) p) (stops_items us y (item_max_continuing_rank i) (below i) q) (regroup (spell t) (spell ts) x (spell u) (spell us) y e) in
    let rs = h_ts.only us x y p q r.1 in
    (cc (r.0, rs.0), rs.1)

compares_only : {N : Type 0} (a0 : Tree N simple) (a1 : Tree N (maybe comparison)) → Unique a0 → Unique a1 → (u : Tree N expression) (x y : List (Terminal N)) → NextTokenEndsConstruct (max_continuing_rank expression) x → NextTokenEndsConstruct (max_continuing_rank expression) y → spell (compares a0 a1) ++ x ≡ spell u ++ y → ((compares a0 a1) ≡ u) × (x ≡ y)
compares_only a c h_a h_c (compares b d) x y p q e =
    let r = h_a.only b (spell c ++ x) (spell d ++ y) (stops_maybe c x 3 (omega arith) p) (stops_maybe d y 3 (omega arith) q) (regroup (spell a) (spell c) x (spell b) (spell d) y e) in
    let rs = h_c.only d x y p q r.1 in
    (cc (r.0, rs.0), rs.1)

relates_only : {N : Type 0} (a0 : Relation) (a1 : Tree N simple) → Unique a1 → (u : Tree N (item comparison)) (x y : List (Terminal N)) → NextTokenEndsConstruct (max_continuing_rank (item comparison)) x → NextTokenEndsConstruct (max_continuing_rank (item comparison)) y → spell (relates a0 a1) ++ x ≡ spell u ++ y → ((relates a0 a1) ≡ u) × (x ≡ y)
relates_only o a h_a (relates k b) x y p q e =
    let r = h_a.only b x y p q (tail_of e) in
    (cc (r.0, same_relation o k (mark_of e)), r.1)

sum_only : {N : Type 0} (a0 : Option Sign) (a1 : Tree N term) (a2 : Tree N (items addend)) → Unique a1 → Unique a2 → (u : Tree N simple) (x y : List (Terminal N)) → NextTokenEndsConstruct (max_continuing_rank simple) x → NextTokenEndsConstruct (max_continuing_rank simple) y → spell (sum a0 a1 a2) ++ x ≡ spell u ++ y → ((sum a0 a1 a2) ≡ u) × (x ≡ y)
sum_only g a c h_a h_c (sum h b d) x y p q e =
    let whole = regroup (sign_tokens g) (spell a ++ spell c) x (sign_tokens h) (spell b ++ spell d) y e in
    let signs = same_signs g h ((spell a ++ spell c) ++ x) ((spell b ++ spell d) ++ y)
    (subst BeginsWithoutSign (sym (append_assoc (spell a) (spell c) x)) (unsigned_term a (spell c ++ x)))
    (subst BeginsWithoutSign (sym (append_assoc (spell b) (spell d) y)) (unsigned_term b (spell d ++ y))) whole in
    let r = h_a.only b (spell c ++ x) (spell d ++ y) (stops_items c x 2 (omega arith) p) (stops_items d y 2 (omega arith) q) (regroup (spell a) (spell c) x (spell b) (spell d) y signs.1) in
    let rs = h_c.only d x y p q r.1 in
    (cc (signs.0, r.0, rs.0), rs.1)

adds_only : {N : Type 0} (a0 : AddOperator) (a1 : Tree N term) → Unique a1 → (u : Tree N (item addend)) (x y : List (Terminal N)) → NextTokenEndsConstruct (max_continuing_rank (item addend)) x → NextTokenEndsConstruct (max_continuing_rank (item addend)) y → spell (adds a0 a1) ++ x ≡ spell u ++ y → ((adds a0 a1) ≡ u) × (x ≡ y)
adds_only o a h_a (adds k b) x y p q e =
    let r = h_a.only b x y p q (tail_of e) in
    (cc (r.0, same_add o k (mark_of e)), r.1)

product_only : {N : Type 0} (a0 : Tree N factor) (a1 : Tree N (items multiplier)) → Unique a0 → Unique a1 → (u : Tree N term) (x y : List (Terminal N)) → NextTokenEndsConstruct (max_continuing_rank term) x → NextTokenEndsConstruct (max_continuing_rank term) y → spell (product a0 a1) ++ x ≡ spell u ++ y → ((product a0 a1) ≡ u) × (x ≡ y)
product_only a c h_a h_c (product b d) x y p q e =
    let r = h_a.only b (spell c ++ x) (spell d ++ y) (stops_items c x 1 (omega arith) p) (stops_items d y 1 (omega arith) q) (regroup (spell a) (spell c) x (spell b) (spell d) y e) in
    let rs = h_c.only d x y p q r.1 in
    (cc (r.0, rs.0), rs.1)

multiplies_only : {N : Type 0} (a0 : MultiplyOperator) (a1 : Tree N factor) → Unique a1 → (u : Tree N (item multiplier)) (x y : List (Terminal N)) → NextTokenEndsConstruct (max_continuing_rank (item multiplier)) x → NextTokenEndsConstruct (max_continuing_rank (item multiplier)) y → spell (multiplies a0 a1) ++ x ≡ spell u ++ y → ((multiplies a0 a1) ≡ u) × (x ≡ y)
multiplies_only o a h_a (multiplies k b) x y p q e =
    let r = h_a.only b x y p q (tail_of e) in
    (cc (r.0, same_multiply o k (mark_of e)), r.1)

designator_only : {N : Type 0} (a0 : N) (a1 : Tree N (items selector)) → Unique a1 → (u : Tree N factor) (x y : List (Terminal N)) → NextTokenEndsConstruct (max_continuing_rank factor) x → NextTokenEndsConstruct (max_continuing_rank factor) y → spell (designator a0 a1) ++ x ≡ spell u ++ y → ((designator a0 a1) ≡ u) × (x ≡ y)
designator_only n a h_a (designator m b) x y p q e =
    let r = h_a.only b x y p q (tail_of e) in
    let names : n ≡ m = name_of e in
    (cc (r.0, names), r.1)
designator_only n a h_a (integer i) x y p q e = absurd (name_not_number e)
designator_only n a h_a (parenthesised t) x y p q e = absurd (name_not_mark e)
designator_only n a h_a (negation f) x y p q e = absurd (name_not_mark e)

integer_only : {N : Type 0} (a0 : ℕ) → (u : Tree N factor) (x y : List (Terminal N)) → NextTokenEndsConstruct (max_continuing_rank factor) x → NextTokenEndsConstruct (max_continuing_rank factor) y → spell (integer a0) ++ x ≡ spell u ++ y → ((integer a0) ≡ u) × (x ≡ y)
integer_only n (integer m) x y p q e =
    let numbers : n ≡ m = number_of e in
    (ap integer numbers, tail_of e)
integer_only n (designator m a) x y p q e = absurd (name_not_number (sym e))
integer_only n (parenthesised t) x y p q e = absurd (number_not_mark e)
integer_only n (negation f) x y p q e = absurd (number_not_mark e)

parenthesised_only : {N : Type 0} (a0 : Tree N expression) → Unique a0 → (u : Tree N factor) (x y : List (Terminal N)) → NextTokenEndsConstruct (max_continuing_rank factor) x → NextTokenEndsConstruct (max_continuing_rank factor) y → spell (parenthesised a0) ++ x ≡ spell u ++ y → ((parenthesised a0) ≡ u) × (x ≡ y)
parenthesised_only a h_a (parenthesised b) x y p q e =
    let close = WordOrSymbol (kind.Symbol symbol.RightParen) in
    let r = h_a.only b (close ∷ x) (close ∷ y) (omega arith) (omega arith) (regroup (spell a) (single_token_list (kind.Symbol symbol.RightParen)) x (spell b) (single_token_list (kind.Symbol symbol.RightParen)) y (tail_of e)) in
    (ap parenthesised r.0, tail_of r.1)
parenthesised_only a h_a (designator n ss) x y p q e = absurd (name_not_mark (sym e))
parenthesised_only a h_a (integer n) x y p q e = absurd (number_not_mark (sym e))
parenthesised_only a h_a (negation f) x y p q e = absurd (paren_not_tilde e)

negation_only : {N : Type 0} (a0 : Tree N factor) → Unique a0 → (u : Tree N factor) (x y : List (Terminal N)) → NextTokenEndsConstruct (max_continuing_rank factor) x → NextTokenEndsConstruct (max_continuing_rank factor) y → spell (negation a0) ++ x ≡ spell u ++ y → ((negation a0) ≡ u) × (x ≡ y)
negation_only a h_a (negation b) x y p q e =
    let r = h_a.only b x y p q (tail_of e) in
    (ap negation r.0, r.1)
negation_only a h_a (designator n ss) x y p q e = absurd (name_not_mark (sym e))
negation_only a h_a (integer n) x y p q e = absurd (number_not_mark (sym e))
negation_only a h_a (parenthesised t) x y p q e = absurd (paren_not_tilde (sym e))

field_only : {N : Type 0} (a0 : N) → (u : Tree N (item selector)) (x y : List (Terminal N)) → NextTokenEndsConstruct (max_continuing_rank (item selector)) x → NextTokenEndsConstruct (max_continuing_rank (item selector)) y → spell (field a0) ++ x ≡ spell u ++ y → ((field a0) ≡ u) × (x ≡ y)
field_only n (field m) x y p q e =
    let names : n ≡ m = name_of (tail_of e) in
    (ap field names, tail_of (tail_of e))
field_only n (index t) x y p q e = absurd (dot_not_bracket e)

index_only : {N : Type 0} (a0 : Tree N expression) → Unique a0 → (u : Tree N (item selector)) (x y : List (Terminal N)) → NextTokenEndsConstruct (max_continuing_rank (item selector)) x → NextTokenEndsConstruct (max_continuing_rank (item selector)) y → spell (index a0) ++ x ≡ spell u ++ y → ((index a0) ≡ u) × (x ≡ y)
index_only a h_a (index b) x y p q e =
    let r = h_a.only b (WordOrSymbol (kind.Symbol symbol.RightBracket) ∷ x) (WordOrSymbol (kind.Symbol symbol.RightBracket) ∷ y) (omega arith) (omega arith) (regroup (spell a) (single_token_list (kind.Symbol symbol.RightBracket)) x (spell b) (single_token_list (kind.Symbol symbol.RightBracket)) y (tail_of e)) in
    (ap index r.0, tail_of r.1)
index_only a h_a (field n) x y p q e = absurd (dot_not_bracket (sym e))

empty_only : {N : Type 0} (u : Tree N statement) (x y : List (Terminal N)) → NextTokenEndsConstruct (max_continuing_rank statement) x → NextTokenEndsConstruct (max_continuing_rank statement) y → spell empty ++ x ≡ spell u ++ y → (empty ≡ u) × (x ≡ y)
empty_only empty x y p q e = (refl, e)
empty_only (assigns n ss a) x y p q e = absurd (not_at x _ _ 8 e (omega arith) p)
empty_only (calls n a) x y p q e = absurd (not_at x _ _ 8 e (omega arith) p)
empty_only (branches c s es rest) x y p q e = absurd (not_at x _ _ 8 e (omega arith) p)
empty_only (while_loop c s) x y p q e = absurd (not_at x _ _ 8 e (omega arith) p)
empty_only (repeat_loop s c) x y p q e = absurd (not_at x _ _ 8 e (omega arith) p)

assigns_only : {N : Type 0} (a0 : N) (a1 : Tree N (items selector)) (a2 : Tree N expression) → Unique a1 → Unique a2 → (u : Tree N statement) (x y : List (Terminal N)) → NextTokenEndsConstruct (max_continuing_rank statement) x → NextTokenEndsConstruct (max_continuing_rank statement) y → spell (assigns a0 a1 a2) ++ x ≡ spell u ++ y → ((assigns a0 a1 a2) ≡ u) × (x ≡ y)
assigns_only n ss a h_ss h_a empty x y p q e = absurd (not_at y _ _ 8 (sym e) (omega arith) q)
assigns_only n ss a h_ss h_a (assigns m rs b) x y p q e =
    let r = h_ss.only rs (WordOrSymbol (kind.Symbol symbol.Becomes) ∷ (spell a ++ x)) (WordOrSymbol (kind.Symbol symbol.Becomes) ∷ (spell b ++ y)) (omega arith) (omega arith) (regroup (spell ss) _ x (spell rs) _ y (tail_of e)) in
    let r1 = h_a.only b x y (stops_less x 4 8 (omega arith) p) (stops_less y 4 8 (omega arith) q) (tail_of r.1) in
    let names : n ≡ m = name_of e in
    (cc (names, r.0, r1.0), r1.1)
assigns_only n ss a h_ss h_a (calls m b) x y p q e = absurd (no_call ss b _ y q (sym (append_assoc (spell ss) (WordOrSymbol (kind.Symbol symbol.Becomes) ∷ spell a) x) ∙ tail_of e))
assigns_only n ss a h_ss h_a (branches c s es rest) x y p q e = absurd (name_not_mark e)
assigns_only n ss a h_ss h_a (while_loop c s) x y p q e = absurd (name_not_mark e)
assigns_only n ss a h_ss h_a (repeat_loop s c) x y p q e = absurd (name_not_mark e)

calls_only : {N : Type 0} (a0 : N) (a1 : Tree N (maybe arguments)) → Unique a1 → (u : Tree N statement) (x y : List (Terminal N)) → NextTokenEndsConstruct (max_continuing_rank statement) x → NextTokenEndsConstruct (max_continuing_rank statement) y → spell (calls a0 a1) ++ x ≡ spell u ++ y → ((calls a0 a1) ≡ u) × (x ≡ y)
calls_only n a h_a empty x y p q e = absurd (not_at y _ _ 8 (sym e) (omega arith) q)
calls_only m b h_b (assigns n ss a) x y p q e = absurd (no_call ss b _ x p (sym (append_assoc (spell ss) (WordOrSymbol (kind.Symbol symbol.Becomes) ∷ spell a) y) ∙ sym (tail_of e)))
calls_only n a h_a (calls m b) x y p q e =
    let r = h_a.only b x y (stops_less x 6 8 (omega arith) p) (stops_less y 6 8 (omega arith) q) (tail_of e) in
    let names : n ≡ m = name_of e in
    (cc (names, r.0), r.1)
calls_only n a h_a (branches c s es rest) x y p q e = absurd (name_not_mark e)
calls_only n a h_a (while_loop c s) x y p q e = absurd (name_not_mark e)
calls_only n a h_a (repeat_loop s c) x y p q e = absurd (name_not_mark e)

pub branches_only : {N : Type 0} (a0 : Tree N expression) (a1 : Tree N sequence) (a2 : Tree N (items elsif_part)) (a3 : Tree N (maybe else_part)) → Unique a0 → Unique a1 → Unique a2 → Unique a3 → (u : Tree N statement) (x y : List (Terminal N)) → NextTokenEndsConstruct (max_continuing_rank statement) y → spell (branches a0 a1 a2 a3) ++ x ≡ spell u ++ y → ((branches a0 a1 a2 a3) ≡ u) × (x ≡ y)
branches_only c s es rest h_c h_s h_es h_rest empty x y q e = absurd (not_at y _ _ 8 (sym e) (omega arith) q)
branches_only c s es rest h_c h_s h_es h_rest (branches d t fs others) x y q e =
    let r = h_c.only d (WordOrSymbol (kind.ReservedWord reserved.Then) ∷ ((spell s ++ (spell es ++ (spell rest ++ single_token_list (kind.ReservedWord reserved.End)))) ++ x)) (WordOrSymbol (kind.ReservedWord reserved.Then) ∷ ((spell t ++ (spell fs ++ (spell others ++ single_token_list (kind.ReservedWord reserved.End)))) ++ y)) (omega arith) (omega arith) (regroup (spell c) _ x (spell d) _ y (tail_of e)) in
    let r1 = h_s.only t ((spell es ++ (spell rest ++ single_token_list (kind.ReservedWord reserved.End))) ++ x) ((spell fs ++ (spell others ++ single_token_list (kind.ReservedWord reserved.End))) ++ y) (stops_branches es rest x) (stops_branches fs others y) (regroup (spell s) _ x (spell t) _ y (tail_of r.1)) in
    let r2 = h_es.only fs ((spell rest ++ single_token_list (kind.ReservedWord reserved.End)) ++ x) ((spell others ++ single_token_list (kind.ReservedWord reserved.End)) ++ y) (stops_else rest x) (stops_else others y) (regroup (spell es) _ x (spell fs) _ y r1.1) in
    let r3 = h_rest.only others (WordOrSymbol (kind.ReservedWord reserved.End) ∷ x) (WordOrSymbol (kind.ReservedWord reserved.End) ∷ y) (omega arith) (omega arith) (regroup (spell rest) (single_token_list (kind.ReservedWord reserved.End)) x (spell others) (single_token_list (kind.ReservedWord reserved.End)) y r2.1) in
    (cc (r.0, r1.0, r2.0, r3.0), tail_of r3.1)
branches_only c s es rest h_c h_s h_es h_rest (while_loop d t) x y q e = absurd (not_while (mark_of e))
branches_only c s es rest h_c h_s h_es h_rest (repeat_loop t d) x y q e = absurd (not_repeat (mark_of e))
branches_only c s es rest h_c h_s h_es h_rest (assigns n ss a) x y q e = absurd (name_not_mark (sym e))
branches_only c s es rest h_c h_s h_es h_rest (calls n a) x y q e = absurd (name_not_mark (sym e))

pub while_loop_only : {N : Type 0} (a0 : Tree N expression) (a1 : Tree N sequence) → Unique a0 → Unique a1 → (u : Tree N statement) (x y : List (Terminal N)) → NextTokenEndsConstruct (max_continuing_rank statement) y → spell (while_loop a0 a1) ++ x ≡ spell u ++ y → ((while_loop a0 a1) ≡ u) × (x ≡ y)
while_loop_only c s h_c h_s empty x y q e = absurd (not_at y _ _ 8 (sym e) (omega arith) q)
while_loop_only c s h_c h_s (while_loop d t) x y q e =
    let r = h_c.only d (WordOrSymbol (kind.ReservedWord reserved.Do) ∷ ((spell s ++ single_token_list (kind.ReservedWord reserved.End)) ++ x)) (WordOrSymbol (kind.ReservedWord reserved.Do) ∷ ((spell t ++ single_token_list (kind.ReservedWord reserved.End)) ++ y)) (omega arith) (omega arith) (regroup (spell c) _ x (spell d) _ y (tail_of e)) in
    let r1 = h_s.only t (WordOrSymbol (kind.ReservedWord reserved.End) ∷ x) (WordOrSymbol (kind.ReservedWord reserved.End) ∷ y) (omega arith) (omega arith) (regroup (spell s) (single_token_list (kind.ReservedWord reserved.End)) x (spell t) (single_token_list (kind.ReservedWord reserved.End)) y (tail_of r.1)) in
    (cc (r.0, r1.0), tail_of r1.1)
while_loop_only c s h_c h_s (branches d t fs others) x y q e = absurd (not_while (sym (mark_of e)))
while_loop_only c s h_c h_s (repeat_loop t d) x y q e = absurd (while_not_repeat (mark_of e))
while_loop_only c s h_c h_s (assigns n ss a) x y q e = absurd (name_not_mark (sym e))
while_loop_only c s h_c h_s (calls n a) x y q e = absurd (name_not_mark (sym e))

repeat_loop_only : {N : Type 0} (a0 : Tree N sequence) (a1 : Tree N expression) → Unique a0 → Unique a1 → (u : Tree N statement) (x y : List (Terminal N)) → NextTokenEndsConstruct (max_continuing_rank statement) x → NextTokenEndsConstruct (max_continuing_rank statement) y → spell (repeat_loop a0 a1) ++ x ≡ spell u ++ y → ((repeat_loop a0 a1) ≡ u) × (x ≡ y)
repeat_loop_only s c h_s h_c empty x y p q e = absurd (not_at y _ _ 8 (sym e) (omega arith) q)
repeat_loop_only s c h_s h_c (repeat_loop t d) x y p q e =
    let r = h_s.only t (WordOrSymbol (kind.ReservedWord reserved.Until) ∷ (spell c ++ x)) (WordOrSymbol (kind.ReservedWord reserved.Until) ∷ (spell d ++ y)) (omega arith) (omega arith) (regroup (spell s) _ x (spell t) _ y (tail_of e)) in
    let r1 = h_c.only d x y (stops_less x 4 8 (omega arith) p) (stops_less y 4 8 (omega arith) q) (tail_of r.1) in
    (cc (r.0, r1.0), r1.1)
repeat_loop_only s c h_s h_c (branches d t fs others) x y p q e = absurd (not_repeat (sym (mark_of e)))
repeat_loop_only s c h_s h_c (while_loop d t) x y p q e = absurd (while_not_repeat (sym (mark_of e)))
repeat_loop_only s c h_s h_c (assigns n ss a) x y p q e = absurd (name_not_mark (sym e))
repeat_loop_only s c h_s h_c (calls n a) x y p q e = absurd (name_not_mark (sym e))

no_arguments_only : {N : Type 0} (u : Tree N (item arguments)) (x y : List (Terminal N)) → NextTokenEndsConstruct (max_continuing_rank (item arguments)) x → NextTokenEndsConstruct (max_continuing_rank (item arguments)) y → spell no_arguments ++ x ≡ spell u ++ y → (no_arguments ≡ u) × (x ≡ y)
no_arguments_only no_arguments x y p q e = (refl, tail_of (tail_of e))
no_arguments_only (some_arguments a cs) x y p q e = absurd (no_expression a _ _ (sym (append_assoc (spell a) _ y) ∙ sym (tail_of e)))

some_arguments_only : {N : Type 0} (a0 : Tree N expression) (a1 : Tree N (items argument_after_comma)) → Unique a0 → Unique a1 → (u : Tree N (item arguments)) (x y : List (Terminal N)) → NextTokenEndsConstruct (max_continuing_rank (item arguments)) x → NextTokenEndsConstruct (max_continuing_rank (item arguments)) y → spell (some_arguments a0 a1) ++ x ≡ spell u ++ y → ((some_arguments a0 a1) ≡ u) × (x ≡ y)
some_arguments_only a cs h_a h_cs no_arguments x y p q e = absurd (no_expression a _ _ (sym (append_assoc (spell a) _ x) ∙ tail_of e))
some_arguments_only a cs h_a h_cs (some_arguments b bs) x y p q e =
    let r = h_a.only b ((spell cs ++ single_token_list (kind.Symbol symbol.RightParen)) ++ x) ((spell bs ++ single_token_list (kind.Symbol symbol.RightParen)) ++ y) (stops_closed cs (kind.Symbol symbol.RightParen) x 4 (omega arith) (omega arith)) (stops_closed bs (kind.Symbol symbol.RightParen) y 4 (omega arith) (omega arith)) (regroup (spell a) _ x (spell b) _ y (tail_of e)) in
    let rs = h_cs.only bs (WordOrSymbol (kind.Symbol symbol.RightParen) ∷ x) (WordOrSymbol (kind.Symbol symbol.RightParen) ∷ y) (omega arith) (omega arith) (regroup (spell cs) (single_token_list (kind.Symbol symbol.RightParen)) x (spell bs) (single_token_list (kind.Symbol symbol.RightParen)) y r.1) in
    (cc (r.0, rs.0), tail_of rs.1)

then_argument_only : {N : Type 0} (a0 : Tree N expression) → Unique a0 → (u : Tree N (item argument_after_comma)) (x y : List (Terminal N)) → NextTokenEndsConstruct (max_continuing_rank (item argument_after_comma)) x → NextTokenEndsConstruct (max_continuing_rank (item argument_after_comma)) y → spell (comma_then_argument a0) ++ x ≡ spell u ++ y → ((comma_then_argument a0) ≡ u) × (x ≡ y)
then_argument_only a h_a (comma_then_argument b) x y p q e = let r = h_a.only b x y p q (tail_of e) in (ap comma_then_argument r.0, r.1)

runs_only : {N : Type 0} (a0 : Tree N statement) (a1 : Tree N (items statement_after_semicolon)) → Unique a0 → Unique a1 → (u : Tree N sequence) (x y : List (Terminal N)) → NextTokenEndsConstruct (max_continuing_rank sequence) x → NextTokenEndsConstruct (max_continuing_rank sequence) y → spell (runs a0 a1) ++ x ≡ spell u ++ y → ((runs a0 a1) ≡ u) × (x ≡ y)
runs_only a c h_a h_c (runs b d) x y p q e =
    let r = h_a.only b (spell c ++ x) (spell d ++ y) (stops_items c x 8 (omega arith) p) (stops_items d y 8 (omega arith) q) (regroup (spell a) (spell c) x (spell b) (spell d) y e) in
    let rs = h_c.only d x y p q r.1 in
    (cc (r.0, rs.0), rs.1)

then_statement_only : {N : Type 0} (a0 : Tree N statement) → Unique a0 → (u : Tree N (item statement_after_semicolon)) (x y : List (Terminal N)) → NextTokenEndsConstruct (max_continuing_rank (item statement_after_semicolon)) x → NextTokenEndsConstruct (max_continuing_rank (item statement_after_semicolon)) y → spell (semicolon_then_statement a0) ++ x ≡ spell u ++ y → ((semicolon_then_statement a0) ≡ u) × (x ≡ y)
then_statement_only a h_a (semicolon_then_statement b) x y p q e = let r = h_a.only b x y p q (tail_of e) in (ap semicolon_then_statement r.0, r.1)

elsif_branch_only : {N : Type 0} (a0 : Tree N expression) (a1 : Tree N sequence) → Unique a0 → Unique a1 → (u : Tree N (item elsif_part)) (x y : List (Terminal N)) → NextTokenEndsConstruct (max_continuing_rank (item elsif_part)) x → NextTokenEndsConstruct (max_continuing_rank (item elsif_part)) y → spell (elsif_branch a0 a1) ++ x ≡ spell u ++ y → ((elsif_branch a0 a1) ≡ u) × (x ≡ y)
elsif_branch_only c s h_c h_s (elsif_branch d t) x y p q e =
    let r = h_c.only d (WordOrSymbol (kind.ReservedWord reserved.Then) ∷ (spell s ++ x)) (WordOrSymbol (kind.ReservedWord reserved.Then) ∷ (spell t ++ y)) (omega arith) (omega arith) (regroup (spell c) _ x (spell d) _ y (tail_of e)) in
    let rs = h_s.only t x y p q (tail_of r.1) in
    (cc (r.0, rs.0), rs.1)

else_branch_only : {N : Type 0} (a0 : Tree N sequence) → Unique a0 → (u : Tree N (item else_part)) (x y : List (Terminal N)) → NextTokenEndsConstruct (max_continuing_rank (item else_part)) x → NextTokenEndsConstruct (max_continuing_rank (item else_part)) y → spell (else_branch a0) ++ x ≡ spell u ++ y → ((else_branch a0) ≡ u) × (x ≡ y)
else_branch_only a h_a (else_branch b) x y p q e = let r = h_a.only b x y p q (tail_of e) in (ap else_branch r.0, r.1)

listed_only : {N : Type 0} (a0 : N) (a1 : Tree N (items name_after_comma)) → Unique a1 → (u : Tree N names) (x y : List (Terminal N)) → NextTokenEndsConstruct (max_continuing_rank names) x → NextTokenEndsConstruct (max_continuing_rank names) y → spell (listed a0 a1) ++ x ≡ spell u ++ y → ((listed a0 a1) ≡ u) × (x ≡ y)
listed_only n a h_a (listed m b) x y p q e =
    let r = h_a.only b x y p q (tail_of e) in
    let names : n ≡ m = name_of e in
    (cc (names, r.0), r.1)

then_name_only : {N : Type 0} (a0 : N) → (u : Tree N (item name_after_comma)) (x y : List (Terminal N)) → NextTokenEndsConstruct (max_continuing_rank (item name_after_comma)) x → NextTokenEndsConstruct (max_continuing_rank (item name_after_comma)) y → spell (comma_then_name a0) ++ x ≡ spell u ++ y → ((comma_then_name a0) ≡ u) × (x ≡ y)
then_name_only n (comma_then_name m) x y p q e =
    let names : n ≡ m = name_of (tail_of e) in
    (ap comma_then_name names, tail_of (tail_of e))

named_type_only : {N : Type 0} (a0 : N) → (u : Tree N written_type) (x y : List (Terminal N)) → NextTokenEndsConstruct (max_continuing_rank written_type) x → NextTokenEndsConstruct (max_continuing_rank written_type) y → spell (named_type a0) ++ x ≡ spell u ++ y → ((named_type a0) ≡ u) × (x ≡ y)
named_type_only n (named_type m) x y p q e =
    let names : n ≡ m = name_of e in
    (ap named_type names, tail_of e)
named_type_only n (array_type a t) x y p q e = absurd (name_not_mark e)
named_type_only n (record_type f fs) x y p q e = absurd (name_not_mark e)

array_type_only : {N : Type 0} (a0 : Tree N expression) (a1 : Tree N written_type) → Unique a0 → Unique a1 → (u : Tree N written_type) (x y : List (Terminal N)) → NextTokenEndsConstruct (max_continuing_rank written_type) x → NextTokenEndsConstruct (max_continuing_rank written_type) y → spell (array_type a0 a1) ++ x ≡ spell u ++ y → ((array_type a0 a1) ≡ u) × (x ≡ y)
array_type_only a t h_a h_t (array_type b u) x y p q e =
    let r = h_a.only b (WordOrSymbol (kind.ReservedWord reserved.Of) ∷ (spell t ++ x)) (WordOrSymbol (kind.ReservedWord reserved.Of) ∷ (spell u ++ y)) (omega arith) (omega arith) (regroup (spell a) _ x (spell b) _ y (tail_of e)) in
    let rs = h_t.only u x y p q (tail_of r.1) in
    (cc (r.0, rs.0), rs.1)
array_type_only a t h_a h_t (named_type n) x y p q e = absurd (name_not_mark (sym e))
array_type_only a t h_a h_t (record_type f fs) x y p q e = absurd (array_not_record e)

record_type_only : {N : Type 0} (a0 : Tree N fields) (a1 : Tree N (items fields_after_semicolon)) → Unique a0 → Unique a1 → (u : Tree N written_type) (x y : List (Terminal N)) → NextTokenEndsConstruct (max_continuing_rank written_type) x → NextTokenEndsConstruct (max_continuing_rank written_type) y → spell (record_type a0 a1) ++ x ≡ spell u ++ y → ((record_type a0 a1) ≡ u) × (x ≡ y)
record_type_only a cs h_a h_cs (record_type b bs) x y p q e =
    let r = h_a.only b ((spell cs ++ single_token_list (kind.ReservedWord reserved.End)) ++ x) ((spell bs ++ single_token_list (kind.ReservedWord reserved.End)) ++ y) (stops_closed cs (kind.ReservedWord reserved.End) x 7 (omega arith) (omega arith)) (stops_closed bs (kind.ReservedWord reserved.End) y 7 (omega arith) (omega arith)) (regroup (spell a) _ x (spell b) _ y (tail_of e)) in
    let rs = h_cs.only bs (WordOrSymbol (kind.ReservedWord reserved.End) ∷ x) (WordOrSymbol (kind.ReservedWord reserved.End) ∷ y) (omega arith) (omega arith) (regroup (spell cs) (single_token_list (kind.ReservedWord reserved.End)) x (spell bs) (single_token_list (kind.ReservedWord reserved.End)) y r.1) in
    (cc (r.0, rs.0), tail_of rs.1)
record_type_only a cs h_a h_cs (named_type n) x y p q e = absurd (name_not_mark (sym e))
record_type_only a cs h_a h_cs (array_type b t) x y p q e = absurd (array_not_record (sym e))

no_fields_only : {N : Type 0} (u : Tree N fields) (x y : List (Terminal N)) → NextTokenEndsConstruct (max_continuing_rank fields) x → NextTokenEndsConstruct (max_continuing_rank fields) y → spell no_fields ++ x ≡ spell u ++ y → (no_fields ≡ u) × (x ≡ y)
no_fields_only no_fields x y p q e = (refl, e)
no_fields_only (some_fields (listed n ns) t) x y p q e = absurd (not_at x _ _ 7 e (omega arith) p)

pub some_fields_only : {N : Type 0} (a0 : Tree N names) (a1 : Tree N written_type) → Unique a0 → Unique a1 → (u : Tree N fields) (x y : List (Terminal N)) → NextTokenEndsConstruct (max_continuing_rank fields) x → NextTokenEndsConstruct (max_continuing_rank fields) y → spell (some_fields a0 a1) ++ x ≡ spell u ++ y → ((some_fields a0 a1) ≡ u) × (x ≡ y)
some_fields_only (listed n ns) t _ h_t no_fields x y p q e = absurd (not_at y _ _ 7 (sym e) (omega arith) q)
some_fields_only a t h_a h_t (some_fields b u) x y p q e =
    let r = h_a.only b (WordOrSymbol (kind.Symbol symbol.Colon) ∷ (spell t ++ x)) (WordOrSymbol (kind.Symbol symbol.Colon) ∷ (spell u ++ y)) (omega arith) (omega arith) (regroup (spell a) _ x (spell b) _ y e) in
    let rs = h_t.only u x y (stops_less x 0 7 (omega arith) p) (stops_less y 0 7 (omega arith) q) (tail_of r.1) in
    (cc (r.0, rs.0), rs.1)

then_fields_only : {N : Type 0} (a0 : Tree N fields) → Unique a0 → (u : Tree N (item fields_after_semicolon)) (x y : List (Terminal N)) → NextTokenEndsConstruct (max_continuing_rank (item fields_after_semicolon)) x → NextTokenEndsConstruct (max_continuing_rank (item fields_after_semicolon)) y → spell (semicolon_then_fields a0) ++ x ≡ spell u ++ y → ((semicolon_then_fields a0) ≡ u) × (x ≡ y)
then_fields_only a h_a (semicolon_then_fields b) x y p q e = let r = h_a.only b x y p q (tail_of e) in (ap semicolon_then_fields r.0, r.1)

no_formals_only : {N : Type 0} (u : Tree N (item formals)) (x y : List (Terminal N)) → NextTokenEndsConstruct (max_continuing_rank (item formals)) x → NextTokenEndsConstruct (max_continuing_rank (item formals)) y → spell no_formals ++ x ≡ spell u ++ y → (no_formals ≡ u) × (x ≡ y)
no_formals_only no_formals x y p q e = (refl, tail_of (tail_of e))
no_formals_only (some_formals a cs) x y p q e = absurd (no_section a _ _ (sym (append_assoc (spell a) _ y) ∙ sym (tail_of e)))

some_formals_only : {N : Type 0} (a0 : Tree N section) (a1 : Tree N (items section_after_semicolon)) → Unique a0 → Unique a1 → (u : Tree N (item formals)) (x y : List (Terminal N)) → NextTokenEndsConstruct (max_continuing_rank (item formals)) x → NextTokenEndsConstruct (max_continuing_rank (item formals)) y → spell (some_formals a0 a1) ++ x ≡ spell u ++ y → ((some_formals a0 a1) ≡ u) × (x ≡ y)
some_formals_only a cs h_a h_cs no_formals x y p q e = absurd (no_section a _ _ (sym (append_assoc (spell a) _ x) ∙ tail_of e))
some_formals_only a cs h_a h_cs (some_formals b bs) x y p q e =
    let r = h_a.only b ((spell cs ++ single_token_list (kind.Symbol symbol.RightParen)) ++ x) ((spell bs ++ single_token_list (kind.Symbol symbol.RightParen)) ++ y) (stops_closed cs (kind.Symbol symbol.RightParen) x 0 (omega arith) (omega arith)) (stops_closed bs (kind.Symbol symbol.RightParen) y 0 (omega arith) (omega arith)) (regroup (spell a) _ x (spell b) _ y (tail_of e)) in
    let rs = h_cs.only bs (WordOrSymbol (kind.Symbol symbol.RightParen) ∷ x) (WordOrSymbol (kind.Symbol symbol.RightParen) ∷ y) (omega arith) (omega arith) (regroup (spell cs) (single_token_list (kind.Symbol symbol.RightParen)) x (spell bs) (single_token_list (kind.Symbol symbol.RightParen)) y r.1) in
    (cc (r.0, rs.0), tail_of rs.1)

value_section_only : {N : Type 0} (a0 : Tree N names) (a1 : Tree N written_type) → Unique a0 → Unique a1 → (u : Tree N section) (x y : List (Terminal N)) → NextTokenEndsConstruct (max_continuing_rank section) x → NextTokenEndsConstruct (max_continuing_rank section) y → spell (value_section a0 a1) ++ x ≡ spell u ++ y → ((value_section a0 a1) ≡ u) × (x ≡ y)
value_section_only a t h_a h_t (value_section b u) x y p q e =
    let r = h_a.only b (WordOrSymbol (kind.Symbol symbol.Colon) ∷ (spell t ++ x)) (WordOrSymbol (kind.Symbol symbol.Colon) ∷ (spell u ++ y)) (omega arith) (omega arith) (regroup (spell a) _ x (spell b) _ y e) in
    let rs = h_t.only u x y p q (tail_of r.1) in
    (cc (r.0, rs.0), rs.1)
value_section_only (listed n ns) t _ h_t (variable_section b u) x y p q e = absurd (name_not_mark e)

variable_section_only : {N : Type 0} (a0 : Tree N names) (a1 : Tree N written_type) → Unique a0 → Unique a1 → (u : Tree N section) (x y : List (Terminal N)) → NextTokenEndsConstruct (max_continuing_rank section) x → NextTokenEndsConstruct (max_continuing_rank section) y → spell (variable_section a0 a1) ++ x ≡ spell u ++ y → ((variable_section a0 a1) ≡ u) × (x ≡ y)
variable_section_only a t h_a h_t (variable_section b u) x y p q e =
    let r = h_a.only b (WordOrSymbol (kind.Symbol symbol.Colon) ∷ (spell t ++ x)) (WordOrSymbol (kind.Symbol symbol.Colon) ∷ (spell u ++ y)) (omega arith) (omega arith) (regroup (spell a) _ x (spell b) _ y (tail_of e)) in
    let rs = h_t.only u x y p q (tail_of r.1) in
    (cc (r.0, rs.0), rs.1)
variable_section_only b u h_b h_u (value_section (listed n ns) t) x y p q e = absurd (name_not_mark (sym e))

then_section_only : {N : Type 0} (a0 : Tree N section) → Unique a0 → (u : Tree N (item section_after_semicolon)) (x y : List (Terminal N)) → NextTokenEndsConstruct (max_continuing_rank (item section_after_semicolon)) x → NextTokenEndsConstruct (max_continuing_rank (item section_after_semicolon)) y → spell (semicolon_then_section a0) ++ x ≡ spell u ++ y → ((semicolon_then_section a0) ≡ u) × (x ≡ y)
then_section_only a h_a (semicolon_then_section b) x y p q e = let r = h_a.only b x y p q (tail_of e) in (ap semicolon_then_section r.0, r.1)

declares_constant_only : {N : Type 0} (a0 : N) (a1 : Tree N expression) → Unique a1 → (u : Tree N (item constant)) (x y : List (Terminal N)) → NextTokenEndsConstruct (max_continuing_rank (item constant)) x → NextTokenEndsConstruct (max_continuing_rank (item constant)) y → spell (declares_constant a0 a1) ++ x ≡ spell u ++ y → ((declares_constant a0 a1) ≡ u) × (x ≡ y)
declares_constant_only n a h_a (declares_constant m b) x y p q e =
    let r = h_a.only b (WordOrSymbol (kind.Symbol symbol.Semicolon) ∷ x) (WordOrSymbol (kind.Symbol symbol.Semicolon) ∷ y) (omega arith) (omega arith) (regroup (spell a) (single_token_list (kind.Symbol symbol.Semicolon)) x (spell b) (single_token_list (kind.Symbol symbol.Semicolon)) y (tail_of (tail_of e))) in
    let names : n ≡ m = name_of e in
    (cc (names, r.0), tail_of r.1)

declares_constants_only : {N : Type 0} (a0 : Tree N (items constant)) → Unique a0 → (u : Tree N (item constants)) (x y : List (Terminal N)) → NextTokenEndsConstruct (max_continuing_rank (item constants)) x → NextTokenEndsConstruct (max_continuing_rank (item constants)) y → spell (declares_const_section a0) ++ x ≡ spell u ++ y → ((declares_const_section a0) ≡ u) × (x ≡ y)
declares_constants_only a h_a (declares_const_section b) x y p q e = let r = h_a.only b x y p q (tail_of e) in (ap declares_const_section r.0, r.1)

declares_type_only : {N : Type 0} (a0 : N) (a1 : Tree N written_type) → Unique a1 → (u : Tree N (item type_definition)) (x y : List (Terminal N)) → NextTokenEndsConstruct (max_continuing_rank (item type_definition)) x → NextTokenEndsConstruct (max_continuing_rank (item type_definition)) y → spell (declares_type a0 a1) ++ x ≡ spell u ++ y → ((declares_type a0 a1) ≡ u) × (x ≡ y)
declares_type_only n a h_a (declares_type m b) x y p q e =
    let r = h_a.only b (WordOrSymbol (kind.Symbol symbol.Semicolon) ∷ x) (WordOrSymbol (kind.Symbol symbol.Semicolon) ∷ y) (omega arith) (omega arith) (regroup (spell a) (single_token_list (kind.Symbol symbol.Semicolon)) x (spell b) (single_token_list (kind.Symbol symbol.Semicolon)) y (tail_of (tail_of e))) in
    let names : n ≡ m = name_of e in
    (cc (names, r.0), tail_of r.1)

declares_types_only : {N : Type 0} (a0 : Tree N (items type_definition)) → Unique a0 → (u : Tree N (item type_definitions)) (x y : List (Terminal N)) → NextTokenEndsConstruct (max_continuing_rank (item type_definitions)) x → NextTokenEndsConstruct (max_continuing_rank (item type_definitions)) y → spell (declares_type_section a0) ++ x ≡ spell u ++ y → ((declares_type_section a0) ≡ u) × (x ≡ y)
declares_types_only a h_a (declares_type_section b) x y p q e = let r = h_a.only b x y p q (tail_of e) in (ap declares_type_section r.0, r.1)

declares_variable_only : {N : Type 0} (a0 : Tree N names) (a1 : Tree N written_type) → Unique a0 → Unique a1 → (u : Tree N (item variable)) (x y : List (Terminal N)) → NextTokenEndsConstruct (max_continuing_rank (item variable)) x → NextTokenEndsConstruct (max_continuing_rank (item variable)) y → spell (declares_variable a0 a1) ++ x ≡ spell u ++ y → ((declares_variable a0 a1) ≡ u) × (x ≡ y)
declares_variable_only a t h_a h_t (declares_variable b u) x y p q e =
    let r = h_a.only b (WordOrSymbol (kind.Symbol symbol.Colon) ∷ ((spell t ++ single_token_list (kind.Symbol symbol.Semicolon)) ++ x)) (WordOrSymbol (kind.Symbol symbol.Colon) ∷ ((spell u ++ single_token_list (kind.Symbol symbol.Semicolon)) ++ y)) (omega arith) (omega arith) (regroup (spell a) _ x (spell b) _ y e) in
    let rs = h_t.only u (WordOrSymbol (kind.Symbol symbol.Semicolon) ∷ x) (WordOrSymbol (kind.Symbol symbol.Semicolon) ∷ y) (omega arith) (omega arith) (regroup (spell t) (single_token_list (kind.Symbol symbol.Semicolon)) x (spell u) (single_token_list (kind.Symbol symbol.Semicolon)) y (tail_of r.1)) in
    (cc (r.0, rs.0), tail_of rs.1)

declares_variables_only : {N : Type 0} (a0 : Tree N (items variable)) → Unique a0 → (u : Tree N (item variables)) (x y : List (Terminal N)) → NextTokenEndsConstruct (max_continuing_rank (item variables)) x → NextTokenEndsConstruct (max_continuing_rank (item variables)) y → spell (declares_var_section a0) ++ x ≡ spell u ++ y → ((declares_var_section a0) ≡ u) × (x ≡ y)
declares_variables_only a h_a (declares_var_section b) x y p q e = let r = h_a.only b x y p q (tail_of e) in (ap declares_var_section r.0, r.1)

declares_procedure_only : {N : Type 0} (a0 : N) (a1 : Tree N (maybe formals)) (a2 : Tree N block) (a3 : N) → Unique a1 → Unique a2 → (u : Tree N (item procedure)) (x y : List (Terminal N)) → NextTokenEndsConstruct (max_continuing_rank (item procedure)) x → NextTokenEndsConstruct (max_continuing_rank (item procedure)) y → spell (declares_procedure a0 a1 a2 a3) ++ x ≡ spell u ++ y → ((declares_procedure a0 a1 a2 a3) ≡ u) × (x ≡ y)
declares_procedure_only n fs b c h_fs h_b (declares_procedure m gs d k) x y p q e =
    let names : n ≡ m = name_of (tail_of e) in
    let r = h_fs.only gs (WordOrSymbol (kind.Symbol symbol.Semicolon) ∷ ((spell b ++ (WordOrSymbol (kind.ReservedWord reserved.End) ∷ Name c ∷ single_token_list (kind.Symbol symbol.Semicolon))) ++ x)) (WordOrSymbol (kind.Symbol symbol.Semicolon) ∷ ((spell d ++ (WordOrSymbol (kind.ReservedWord reserved.End) ∷ Name k ∷ single_token_list (kind.Symbol symbol.Semicolon))) ++ y)) (omega arith) (omega arith) (regroup (spell fs) _ x (spell gs) _ y (tail_of (tail_of e))) in
    let r1 = h_b.only d (WordOrSymbol (kind.ReservedWord reserved.End) ∷ Name c ∷ WordOrSymbol (kind.Symbol symbol.Semicolon) ∷ x) (WordOrSymbol (kind.ReservedWord reserved.End) ∷ Name k ∷ WordOrSymbol (kind.Symbol symbol.Semicolon) ∷ y) (omega arith) (omega arith) (regroup (spell b) (WordOrSymbol (kind.ReservedWord reserved.End) ∷ Name c ∷ single_token_list (kind.Symbol symbol.Semicolon)) x (spell d) (WordOrSymbol (kind.ReservedWord reserved.End) ∷ Name k ∷ single_token_list (kind.Symbol symbol.Semicolon)) y (tail_of r.1)) in
    let closing : c ≡ k = name_of (tail_of r1.1) in
    (cc (names, r.0, r1.0, closing), tail_of (tail_of (tail_of r1.1)))

declares_only : {N : Type 0} (a0 : Tree N (maybe constants)) (a1 : Tree N (maybe type_definitions)) (a2 : Tree N (maybe variables)) (a3 : Tree N (items procedure)) → Unique a0 → Unique a1 → Unique a2 → Unique a3 → (u : Tree N declarations) (x y : List (Terminal N)) → NextTokenEndsConstruct (max_continuing_rank declarations) x → NextTokenEndsConstruct (max_continuing_rank declarations) y → spell (declares a0 a1 a2 a3) ++ x ≡ spell u ++ y → ((declares a0 a1 a2 a3) ≡ u) × (x ≡ y)
declares_only cs ts vs ps h_cs h_ts h_vs h_ps (declares ds us ws qs) x y p q e =
    let r = h_cs.only ds ((spell ts ++ (spell vs ++ spell ps)) ++ x) ((spell us ++ (spell ws ++ spell qs)) ++ y) (stops_types ts vs ps x p) (stops_types us ws qs y q) (regroup (spell cs) _ x (spell ds) _ y e) in
    let r1 = h_ts.only us ((spell vs ++ spell ps) ++ x) ((spell ws ++ spell qs) ++ y) (stops_variables vs ps x p) (stops_variables ws qs y q) (regroup (spell ts) _ x (spell us) _ y r.1) in
    let r2 = h_vs.only ws (spell ps ++ x) (spell qs ++ y) (stops_items ps x 14 (omega arith) p) (stops_items qs y 14 (omega arith) q) (regroup (spell vs) (spell ps) x (spell ws) (spell qs) y r1.1) in
    let r3 = h_ps.only qs x y p q r2.1 in
    (cc (r.0, r1.0, r2.0, r3.0), r3.1)

begins_only : {N : Type 0} (a0 : Tree N sequence) → Unique a0 → (u : Tree N (item body)) (x y : List (Terminal N)) → NextTokenEndsConstruct (max_continuing_rank (item body)) x → NextTokenEndsConstruct (max_continuing_rank (item body)) y → spell (begins a0) ++ x ≡ spell u ++ y → ((begins a0) ≡ u) × (x ≡ y)
begins_only a h_a (begins b) x y p q e = let r = h_a.only b x y p q (tail_of e) in (ap begins r.0, r.1)

has_body_only : {N : Type 0} (a0 : Tree N declarations) (a1 : Tree N (maybe body)) → Unique a0 → Unique a1 → (u : Tree N block) (x y : List (Terminal N)) → NextTokenEndsConstruct (max_continuing_rank block) x → NextTokenEndsConstruct (max_continuing_rank block) y → spell (forms_block a0 a1) ++ x ≡ spell u ++ y → ((forms_block a0 a1) ≡ u) × (x ≡ y)
has_body_only a c h_a h_c (forms_block b d) x y p q e =
    let r = h_a.only b (spell c ++ x) (spell d ++ y) (stops_maybe c x 15 (omega arith) p) (stops_maybe d y 15 (omega arith) q) (regroup (spell a) (spell c) x (spell b) (spell d) y e) in
    let rs = h_c.only d x y p q r.1 in
    (cc (r.0, rs.0), rs.1)

is_module_only : {N : Type 0} (a0 : N) (a1 : Tree N block) (a2 : N) → Unique a1 → (u : Tree N module_text) (x y : List (Terminal N)) → NextTokenEndsConstruct (max_continuing_rank module_text) x → NextTokenEndsConstruct (max_continuing_rank module_text) y → spell (forms_module a0 a1 a2) ++ x ≡ spell u ++ y → ((forms_module a0 a1 a2) ≡ u) × (x ≡ y)
is_module_only n b c h_b (forms_module m d k) x y p q e =
    let names : n ≡ m = name_of (tail_of e) in
    let r1 = h_b.only d (WordOrSymbol (kind.ReservedWord reserved.End) ∷ Name c ∷ WordOrSymbol (kind.Symbol symbol.Dot) ∷ x) (WordOrSymbol (kind.ReservedWord reserved.End) ∷ Name k ∷ WordOrSymbol (kind.Symbol symbol.Dot) ∷ y) (omega arith) (omega arith) (regroup (spell b) (WordOrSymbol (kind.ReservedWord reserved.End) ∷ Name c ∷ single_token_list (kind.Symbol symbol.Dot)) x (spell d) (WordOrSymbol (kind.ReservedWord reserved.End) ∷ Name k ∷ single_token_list (kind.Symbol symbol.Dot)) y (tail_of (tail_of (tail_of e)))) in
    let closing : c ≡ k = name_of (tail_of r1.1) in
    (cc (names, r1.0, closing), tail_of (tail_of (tail_of r1.1)))

pub unique : {N : Type 0} {s : Sort} (t : Tree N s) → Unique t
unique none = record { only = none_only }
unique (one a0) = record { only = one_only a0 (unique a0) }
unique end = record { only = end_only }
unique (more a0 a1) = record { only = more_only a0 a1 (unique a0) (unique a1) }
unique (compares a0 a1) = record { only = compares_only a0 a1 (unique a0) (unique a1) }
unique (relates a0 a1) = record { only = relates_only a0 a1 (unique a1) }
unique (sum a0 a1 a2) = record { only = sum_only a0 a1 a2 (unique a1) (unique a2) }
unique (adds a0 a1) = record { only = adds_only a0 a1 (unique a1) }
unique (product a0 a1) = record { only = product_only a0 a1 (unique a0) (unique a1) }
unique (multiplies a0 a1) = record { only = multiplies_only a0 a1 (unique a1) }
unique (designator a0 a1) = record { only = designator_only a0 a1 (unique a1) }
unique (integer a0) = record { only = integer_only a0 }
unique (parenthesised a0) = record { only = parenthesised_only a0 (unique a0) }
unique (negation a0) = record { only = negation_only a0 (unique a0) }
unique (field a0) = record { only = field_only a0 }
unique (index a0) = record { only = index_only a0 (unique a0) }
unique empty = record { only = empty_only }
unique (assigns a0 a1 a2) = record { only = assigns_only a0 a1 a2 (unique a1) (unique a2) }
unique (calls a0 a1) = record { only = calls_only a0 a1 (unique a1) }
unique (branches a0 a1 a2 a3) = record { only = λ u x y p q e. branches_only a0 a1 a2 a3 (unique a0) (unique a1) (unique a2) (unique a3) u x y q e }
unique (while_loop a0 a1) = record { only = λ u x y p q e. while_loop_only a0 a1 (unique a0) (unique a1) u x y q e }
unique (repeat_loop a0 a1) = record { only = repeat_loop_only a0 a1 (unique a0) (unique a1) }
unique no_arguments = record { only = no_arguments_only }
unique (some_arguments a0 a1) = record { only = some_arguments_only a0 a1 (unique a0) (unique a1) }
unique (comma_then_argument a0) = record { only = then_argument_only a0 (unique a0) }
unique (runs a0 a1) = record { only = runs_only a0 a1 (unique a0) (unique a1) }
unique (semicolon_then_statement a0) = record { only = then_statement_only a0 (unique a0) }
unique (elsif_branch a0 a1) = record { only = elsif_branch_only a0 a1 (unique a0) (unique a1) }
unique (else_branch a0) = record { only = else_branch_only a0 (unique a0) }
unique (listed a0 a1) = record { only = listed_only a0 a1 (unique a1) }
unique (comma_then_name a0) = record { only = then_name_only a0 }
unique (named_type a0) = record { only = named_type_only a0 }
unique (array_type a0 a1) = record { only = array_type_only a0 a1 (unique a0) (unique a1) }
unique (record_type a0 a1) = record { only = record_type_only a0 a1 (unique a0) (unique a1) }
unique no_fields = record { only = no_fields_only }
unique (some_fields a0 a1) = record { only = some_fields_only a0 a1 (unique a0) (unique a1) }
unique (semicolon_then_fields a0) = record { only = then_fields_only a0 (unique a0) }
unique no_formals = record { only = no_formals_only }
unique (some_formals a0 a1) = record { only = some_formals_only a0 a1 (unique a0) (unique a1) }
unique (value_section a0 a1) = record { only = value_section_only a0 a1 (unique a0) (unique a1) }
unique (variable_section a0 a1) = record { only = variable_section_only a0 a1 (unique a0) (unique a1) }
unique (semicolon_then_section a0) = record { only = then_section_only a0 (unique a0) }
unique (declares_constant a0 a1) = record { only = declares_constant_only a0 a1 (unique a1) }
unique (declares_const_section a0) = record { only = declares_constants_only a0 (unique a0) }
unique (declares_type a0 a1) = record { only = declares_type_only a0 a1 (unique a1) }
unique (declares_type_section a0) = record { only = declares_types_only a0 (unique a0) }
unique (declares_variable a0 a1) = record { only = declares_variable_only a0 a1 (unique a0) (unique a1) }
unique (declares_var_section a0) = record { only = declares_variables_only a0 (unique a0) }
unique (declares_procedure a0 a1 a2 a3) = record { only = declares_procedure_only a0 a1 a2 a3 (unique a1) (unique a2) }
unique (declares a0 a1 a2 a3) = record { only = declares_only a0 a1 a2 a3 (unique a0) (unique a1) (unique a2) (unique a3) }
unique (begins a0) = record { only = begins_only a0 (unique a0) }
unique (forms_block a0 a1) = record { only = has_body_only a0 a1 (unique a0) (unique a1) }
unique (forms_module a0 a1 a2) = record { only = is_module_only a0 a1 a2 (unique a1) }

pub same : {N : Type 0} {s : Sort} (a b : Tree N s) (x y : List (Terminal N)) → NextTokenEndsConstruct (max_continuing_rank s) x → NextTokenEndsConstruct (max_continuing_rank s) y → spell a ++ x ≡ spell b ++ y → (a ≡ b) × (x ≡ y)
same a b x y p q e = (unique a).only b x y p q e
