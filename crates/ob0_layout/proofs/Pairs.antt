-- Proves that in a tree's spelling no `*` comes directly after a `(`.
use Rattle.std.proofs.Common.{◌≡◌, Bool, true, false, Option, Some, None, List, [], ◌∷◌, ◌++◌, refl, sym, ap, subst}
use Rattle.ob0_scan.specs.declared.lexeme.Symbol.TheVariants as symbol
use Rattle.ob0_tree.specs.declared.tree.Relation.{Relation}
use Rattle.ob0_tree.specs.declared.tree.Relation.TheVariants as relation
use Rattle.ob0_tree.specs.declared.tree.Sign.{Sign}
use Rattle.ob0_tree.specs.declared.tree.Sign.TheVariants as sign
use Rattle.ob0_tree.specs.declared.tree.AddOperator.{AddOperator}
use Rattle.ob0_tree.specs.declared.tree.AddOperator.TheVariants as add_operator
use Rattle.ob0_tree.specs.declared.tree.MultiplyOperator.{MultiplyOperator}
use Rattle.ob0_tree.specs.declared.tree.MultiplyOperator.TheVariants as multiply_operator
use Rattle.ob0_scan.specs.declared.lexeme.TokenKind.TheVariants as kind
use Rattle.ob0_tree.specs.Terminals.{Terminal, WordOrSymbol, relation_token_kind, sign_tokens, add_operator_token_kind, multiply_operator_token_kind}
use Rattle.ob0_tree.specs.Tree.{Sort, Tree, expression, simple, term, factor, section, names, spell, one, more, compares, relates, sum, adds, product, multiplies, designator, integer, parenthesised, negation, field, index, assigns, calls, branches, while_loop, repeat_loop, no_arguments, some_arguments, comma_then_argument, runs, semicolon_then_statement, elsif_branch, else_branch, listed, comma_then_name, named_type, array_type, record_type, some_fields, semicolon_then_fields, no_formals, some_formals, value_section, variable_section, semicolon_then_section, declares_constant, declares_const_section, declares_type, declares_type_section, declares_variable, declares_var_section, declares_procedure, declares, begins, forms_block, forms_module}

abbrev pub is_paren : {N : Type 0} → Terminal N → Bool
is_paren (WordOrSymbol (kind.Symbol symbol.LeftParen)) = true
is_paren other = false

abbrev pub is_star : {N : Type 0} → Terminal N → Bool
is_star (WordOrSymbol (kind.Symbol symbol.Times)) = true
is_star other = false

-- states that a token comes after each `(`, and that it isn't `*`
pub data Calm {N : Type 0} : List (Terminal N) → Type 0 where
  calm_end : Calm []
  calm_next : {x : Terminal N} {xs : List (Terminal N)} → is_paren x ≡ false → Calm xs → Calm (x ∷ xs)
  calm_paren : {x y : Terminal N} {xs : List (Terminal N)} → is_star y ≡ false → Calm (y ∷ xs) → Calm (x ∷ y ∷ xs)

calm_append : {N : Type 0} {xs ys : List (Terminal N)} → Calm xs → Calm ys → Calm (xs ++ ys)
calm_append calm_end q = q
calm_append (calm_next h p) q = calm_next h (calm_append p q)
calm_append (calm_paren h p) q = calm_paren h (calm_append p q)

-- states that there is a first token and that it isn't `*`
record Starts {N : Type 0} (xs : List (Terminal N)) : Type 0 where
  first : Terminal N
  rest : List (Terminal N)
  split : xs ≡ first ∷ rest
  starless : is_star first ≡ false

starts_append : {N : Type 0} {xs : List (Terminal N)} (ys : List (Terminal N)) → Starts xs → Starts (xs ++ ys)
starts_append ys s = record { first = s.first; rest = s.rest ++ ys; split = ap (λ x. x ++ ys) s.split; starless = s.starless }

starts_with : {N : Type 0} (x : Terminal N) (xs : List (Terminal N)) → is_star x ≡ false → Starts (x ∷ xs)
starts_with x xs h = record { first = x; rest = xs; split = refl; starless = h }

calm_open : {N : Type 0} {xs : List (Terminal N)} (x : Terminal N) → Starts xs → Calm xs → Calm (x ∷ xs)
calm_open x s p = subst (λ xs. Calm (x ∷ xs)) (sym s.split) (calm_paren s.starless (subst Calm s.split p))

factor_starts : {N : Type 0} (t : Tree N factor) → Starts (spell t)
factor_starts (designator name selectors) = starts_with _ _ refl
factor_starts _ = starts_with _ _ refl

term_starts : {N : Type 0} (t : Tree N term) → Starts (spell t)
term_starts (product first factors) = starts_append _ (factor_starts first)

simple_starts : {N : Type 0} (t : Tree N simple) → Starts (spell t)
simple_starts (sum None first terms) = starts_append _ (term_starts first)
simple_starts (sum (Some sign.Plus) first terms) = starts_with _ _ refl
simple_starts (sum (Some sign.Minus) first terms) = starts_with _ _ refl

expression_starts : {N : Type 0} (t : Tree N expression) → Starts (spell t)
expression_starts (compares left compared) = starts_append _ (simple_starts left)

names_start : {N : Type 0} (t : Tree N names) → Starts (spell t)
names_start (listed name others) = starts_with _ _ refl

section_starts : {N : Type 0} (t : Tree N section) → Starts (spell t)
section_starts (value_section ns t) = starts_append _ (names_start ns)
section_starts (variable_section ns t) = starts_with _ _ refl

calm_sign : (N : Type 0) (s : Option Sign) → Calm (sign_tokens {N = N} s)
calm_sign N None = calm_end
calm_sign N (Some sign.Plus) = calm_next refl calm_end
calm_sign N (Some sign.Minus) = calm_next refl calm_end

no_paren_relation : (N : Type 0) (o : Relation) → is_paren {N = N} (WordOrSymbol (relation_token_kind o)) ≡ false
no_paren_relation N relation.Equal = refl
no_paren_relation N _ = refl

no_paren_add : (N : Type 0) (o : AddOperator) → is_paren {N = N} (WordOrSymbol (add_operator_token_kind o)) ≡ false
no_paren_add N add_operator.Add = refl
no_paren_add N _ = refl

no_paren_multiply : (N : Type 0) (o : MultiplyOperator) → is_paren {N = N} (WordOrSymbol (multiply_operator_token_kind o)) ≡ false
no_paren_multiply N multiply_operator.Multiply = refl
no_paren_multiply N _ = refl

pub calm_spelled : {N : Type 0} {s : Sort} (t : Tree N s) → Calm (spell t)
calm_spelled (one t) = calm_spelled t
calm_spelled (more t ts) = calm_append (calm_spelled t) (calm_spelled ts)
calm_spelled (compares left compared) = calm_append (calm_spelled left) (calm_spelled compared)
calm_spelled {N = N} (relates relation right) = calm_next (no_paren_relation N relation) (calm_spelled right)
calm_spelled {N = N} (sum sign first terms) = calm_append (calm_sign N sign) (calm_append (calm_spelled first) (calm_spelled terms))
calm_spelled {N = N} (adds operator t) = calm_next (no_paren_add N operator) (calm_spelled t)
calm_spelled (product first factors) = calm_append (calm_spelled first) (calm_spelled factors)
calm_spelled {N = N} (multiplies operator f) = calm_next (no_paren_multiply N operator) (calm_spelled f)
calm_spelled (designator name selectors) = calm_next refl (calm_spelled selectors)
calm_spelled (integer n) = calm_next refl calm_end
calm_spelled (parenthesised e) = calm_open _ (starts_append _ (expression_starts e)) (calm_append (calm_spelled e) (calm_next refl calm_end))
calm_spelled (negation f) = calm_next refl (calm_spelled f)
calm_spelled (field name) = calm_next refl (calm_next refl calm_end)
calm_spelled (index e) = calm_next refl (calm_append (calm_spelled e) (calm_next refl calm_end))
calm_spelled (assigns name selectors e) = calm_next refl (calm_append (calm_spelled selectors) (calm_next refl (calm_spelled e)))
calm_spelled (calls name args) = calm_next refl (calm_spelled args)
calm_spelled (branches condition s elsifs rest) = calm_next refl (calm_append (calm_spelled condition) (calm_next refl (calm_append (calm_spelled s) (calm_append (calm_spelled elsifs) (calm_append (calm_spelled rest) (calm_next refl calm_end))))))
calm_spelled (while_loop condition s) = calm_next refl (calm_append (calm_spelled condition) (calm_next refl (calm_append (calm_spelled s) (calm_next refl calm_end))))
calm_spelled (repeat_loop s condition) = calm_next refl (calm_append (calm_spelled s) (calm_next refl (calm_spelled condition)))
calm_spelled no_arguments = calm_paren refl (calm_next refl calm_end)
calm_spelled (some_arguments e es) = calm_open _ (starts_append _ (expression_starts e)) (calm_append (calm_spelled e) (calm_append (calm_spelled es) (calm_next refl calm_end)))
calm_spelled (comma_then_argument e) = calm_next refl (calm_spelled e)
calm_spelled (runs first statements) = calm_append (calm_spelled first) (calm_spelled statements)
calm_spelled (semicolon_then_statement s) = calm_next refl (calm_spelled s)
calm_spelled (elsif_branch condition s) = calm_next refl (calm_append (calm_spelled condition) (calm_next refl (calm_spelled s)))
calm_spelled (else_branch s) = calm_next refl (calm_spelled s)
calm_spelled (listed name others) = calm_next refl (calm_spelled others)
calm_spelled (comma_then_name name) = calm_next refl (calm_next refl calm_end)
calm_spelled (named_type name) = calm_next refl calm_end
calm_spelled (array_type size t) = calm_next refl (calm_append (calm_spelled size) (calm_next refl (calm_spelled t)))
calm_spelled (record_type first others) = calm_next refl (calm_append (calm_spelled first) (calm_append (calm_spelled others) (calm_next refl calm_end)))
calm_spelled (some_fields ns t) = calm_append (calm_spelled ns) (calm_next refl (calm_spelled t))
calm_spelled (semicolon_then_fields f) = calm_next refl (calm_spelled f)
calm_spelled no_formals = calm_paren refl (calm_next refl calm_end)
calm_spelled (some_formals first others) = calm_open _ (starts_append _ (section_starts first)) (calm_append (calm_spelled first) (calm_append (calm_spelled others) (calm_next refl calm_end)))
calm_spelled (value_section ns t) = calm_append (calm_spelled ns) (calm_next refl (calm_spelled t))
calm_spelled (variable_section ns t) = calm_next refl (calm_append (calm_spelled ns) (calm_next refl (calm_spelled t)))
calm_spelled (semicolon_then_section s) = calm_next refl (calm_spelled s)
calm_spelled (declares_constant name e) = calm_next refl (calm_next refl (calm_append (calm_spelled e) (calm_next refl calm_end)))
calm_spelled (declares_const_section cs) = calm_next refl (calm_spelled cs)
calm_spelled (declares_type name t) = calm_next refl (calm_next refl (calm_append (calm_spelled t) (calm_next refl calm_end)))
calm_spelled (declares_type_section ts) = calm_next refl (calm_spelled ts)
calm_spelled (declares_variable ns t) = calm_append (calm_spelled ns) (calm_next refl (calm_append (calm_spelled t) (calm_next refl calm_end)))
calm_spelled (declares_var_section vs) = calm_next refl (calm_spelled vs)
calm_spelled (declares_procedure name fs b closing) = calm_next refl (calm_next refl (calm_append (calm_spelled fs) (calm_next refl (calm_append (calm_spelled b) (calm_next refl (calm_next refl (calm_next refl calm_end)))))))
calm_spelled (declares cs ts vs ps) = calm_append (calm_spelled cs) (calm_append (calm_spelled ts) (calm_append (calm_spelled vs) (calm_spelled ps)))
calm_spelled (begins s) = calm_next refl (calm_spelled s)
calm_spelled (forms_block ds b) = calm_append (calm_spelled ds) (calm_spelled b)
calm_spelled (forms_module name b closing) = calm_next refl (calm_next refl (calm_next refl (calm_append (calm_spelled b) (calm_next refl (calm_next refl (calm_next refl calm_end))))))
calm_spelled _ = calm_end
