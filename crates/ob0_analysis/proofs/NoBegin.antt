-- Proves that the spelling of statements, expressions and types contains no BEGIN. So the last
-- BEGIN before a token of a body belongs to that body.
use Rattle.std.proofs.Common.{◌≡◌, Bool, true, false, ◌||◌, Option, Some, None, List, [], ◌∷◌, ◌++◌, refl, sym, ap, ◌∙◌}
use Rattle.ob0_scan.specs.declared.lexeme.TokenKind.{TokenKind}
use Rattle.ob0_scan.specs.declared.lexeme.TokenKind.TheVariants as kind
use Rattle.ob0_scan.specs.declared.lexeme.ReservedWord.TheVariants as reserved
use Rattle.ob0_tree.specs.Terminals.{Terminal, WordOrSymbol, add_operator_token_kind, multiply_operator_token_kind, relation_token_kind, sign_tokens}
use Rattle.ob0_tree.specs.declared.tree.AddOperator.{AddOperator}
use Rattle.ob0_tree.specs.declared.tree.AddOperator.TheVariants as add_operator
use Rattle.ob0_tree.specs.declared.tree.MultiplyOperator.{MultiplyOperator}
use Rattle.ob0_tree.specs.declared.tree.MultiplyOperator.TheVariants as multiply_operator
use Rattle.ob0_tree.specs.declared.tree.Relation.{Relation}
use Rattle.ob0_tree.specs.declared.tree.Relation.TheVariants as relation
use Rattle.ob0_tree.specs.declared.tree.Sign.{Sign}
use Rattle.ob0_tree.specs.declared.tree.Sign.TheVariants as sign
use Rattle.ob0_tree.specs.Tree.{GrammarItem, selector, multiplier, addend, comparison, arguments, argument_after_comma, statement_after_semicolon, elsif_part, else_part, name_after_comma, fields_after_semicolon, formals, section_after_semicolon, constant, constants, type_definition, type_definitions, variable, variables, procedure, body, Sort, item, items, maybe, expression, simple, term, factor, statement, sequence, names, written_type, fields, section, declarations, block, module_text, Tree, none, one, end, more, compares, relates, sum, adds, product, multiplies, designator, integer, parenthesised, negation, field, index, empty, assigns, calls, branches, while_loop, repeat_loop, no_arguments, some_arguments, comma_then_argument, runs, semicolon_then_statement, elsif_branch, else_branch, listed, comma_then_name, named_type, array_type, record_type, no_fields, some_fields, semicolon_then_fields, no_formals, some_formals, value_section, variable_section, semicolon_then_section, declares_constant, declares_const_section, declares_type, declares_type_section, declares_variable, declares_var_section, declares_procedure, declares, begins, forms_block, forms_module, spell}
use Rattle.ob0_parse_descent.proofs.Unique.{head_of, tail_of}

-- the token BEGIN
abbrev pub begin_mark : {N : Type 0} → Terminal N
begin_mark = WordOrSymbol (kind.ReservedWord reserved.Begin)

abbrev is_begin_kind : TokenKind → Bool
is_begin_kind (kind.ReservedWord reserved.Begin) = true
is_begin_kind _ = false

abbrev is_begin : {N : Type 0} → Terminal N → Bool
is_begin (WordOrSymbol k) = is_begin_kind k
is_begin _ = false

abbrev has_begin : {N : Type 0} → List (Terminal N) → Bool
has_begin [] = false
has_begin (x ∷ xs) = is_begin x || has_begin xs

-- holds if no token of the list is BEGIN
pub record NoBegin {N : Type 0} (xs : List (Terminal N)) : Type 0 where
  pub has : has_begin xs ≡ false

or_false : (a b : Bool) → a ≡ false → b ≡ false → a || b ≡ false
or_false false b p q = q
or_false true b p q = p

or_left : (a b : Bool) → a || b ≡ false → a ≡ false
or_left false b p = refl
or_left true b p = p

or_right : (a b : Bool) → a || b ≡ false → b ≡ false
or_right false b p = p
or_right true b p = absurd (cc)

nothing : {N : Type 0} → NoBegin {N = N} []
nothing = record { has = refl }

put_before : {N : Type 0} {x : Terminal N} {xs : List (Terminal N)} → is_begin x ≡ false → NoBegin xs → NoBegin (x ∷ xs)
put_before {x = x} {xs = xs} p h = record { has = or_false (is_begin x) (has_begin xs) p h.has }

joined : {N : Type 0} {xs ys : List (Terminal N)} → NoBegin xs → NoBegin ys → NoBegin (xs ++ ys)
joined {xs = []} h g = g
joined {xs = x ∷ xs} {ys = ys} h g =
    let left : NoBegin xs = record { has = or_right (is_begin x) (has_begin xs) h.has } in
    put_before (or_left (is_begin x) (has_begin xs) h.has) (joined left g)

pub first_part : {N : Type 0} (xs ys : List (Terminal N)) → NoBegin (xs ++ ys) → NoBegin xs
first_part [] ys h = nothing
first_part (x ∷ xs) ys h =
    put_before (or_left (is_begin x) (has_begin (xs ++ ys)) h.has) (first_part xs ys (record { has = or_right (is_begin x) (has_begin (xs ++ ys)) h.has }))

is_there : {N : Type 0} (xs ys : List (Terminal N)) → NoBegin (xs ++ (begin_mark ∷ ys)) → ⊥
is_there [] ys h = absurd (cc (h.has))
is_there (x ∷ xs) ys h = is_there xs ys (record { has = or_right (is_begin x) (has_begin (xs ++ (begin_mark ∷ ys))) h.has })

-- The tokens before the last BEGIN of a list are unique.
pub last_begin : {N : Type 0} (a u b v : List (Terminal N)) → NoBegin u → NoBegin v → a ++ (begin_mark ∷ u) ≡ b ++ (begin_mark ∷ v) → a ≡ b
last_begin [] u [] v p q e = refl
last_begin [] u (y ∷ b) v p q e = absurd (is_there b v (record { has = ap has_begin (sym (tail_of e)) ∙ p.has }))
last_begin (x ∷ a) u [] v p q e = absurd (is_there a u (record { has = ap has_begin (tail_of e) ∙ q.has }))
last_begin (x ∷ a) u (y ∷ b) v p q e = let h : a ≡ b = last_begin a u b v p q (tail_of e) in let g : x ≡ y = head_of e in cc (h, g)

relation_apart : (r : Relation) → is_begin_kind (relation_token_kind r) ≡ false
relation_apart relation.Equal = refl
relation_apart relation.NotEqual = refl
relation_apart relation.Less = refl
relation_apart relation.LessEqual = refl
relation_apart relation.Greater = refl
relation_apart relation.GreaterEqual = refl

add_apart : (o : AddOperator) → is_begin_kind (add_operator_token_kind o) ≡ false
add_apart add_operator.Add = refl
add_apart add_operator.Subtract = refl
add_apart add_operator.Or = refl

multiply_apart : (o : MultiplyOperator) → is_begin_kind (multiply_operator_token_kind o) ≡ false
multiply_apart multiply_operator.Multiply = refl
multiply_apart multiply_operator.Divide = refl
multiply_apart multiply_operator.Modulo = refl
multiply_apart multiply_operator.And = refl

signs_apart : {N : Type 0} (s : Option Sign) → NoBegin {N = N} (sign_tokens s)
signs_apart None = nothing
signs_apart (Some sign.Plus) = put_before refl nothing
signs_apart (Some sign.Minus) = put_before refl nothing

-- returns true if an item of this kind can't contain a body
abbrev pub is_bodiless_item : GrammarItem → Bool
is_bodiless_item procedure = false
is_bodiless_item body = false
is_bodiless_item selector = true
is_bodiless_item multiplier = true
is_bodiless_item addend = true
is_bodiless_item comparison = true
is_bodiless_item arguments = true
is_bodiless_item argument_after_comma = true
is_bodiless_item statement_after_semicolon = true
is_bodiless_item elsif_part = true
is_bodiless_item else_part = true
is_bodiless_item name_after_comma = true
is_bodiless_item fields_after_semicolon = true
is_bodiless_item formals = true
is_bodiless_item section_after_semicolon = true
is_bodiless_item constant = true
is_bodiless_item constants = true
is_bodiless_item type_definition = true
is_bodiless_item type_definitions = true
is_bodiless_item variable = true
is_bodiless_item variables = true

abbrev pub is_bodiless : Sort → Bool
is_bodiless (item i) = is_bodiless_item i
is_bodiless (items i) = is_bodiless_item i
is_bodiless (maybe i) = is_bodiless_item i
is_bodiless expression = true
is_bodiless simple = true
is_bodiless term = true
is_bodiless factor = true
is_bodiless statement = true
is_bodiless sequence = true
is_bodiless names = true
is_bodiless written_type = true
is_bodiless fields = true
is_bodiless section = true
is_bodiless declarations = false
is_bodiless block = false
is_bodiless module_text = false

is_not : false ≡ true → ⊥
is_not e = cc

pub no_begin : {N : Type 0} {s : Sort} (t : Tree N s) → is_bodiless s ≡ true → NoBegin (spell t)
no_begin none p = nothing
no_begin (one t) p = no_begin t p
no_begin end p = nothing
no_begin (more t ts) p = joined (no_begin t p) (no_begin ts p)
no_begin (compares left compared) p = joined (no_begin left refl) (no_begin compared refl)
no_begin (relates r right) p = put_before (relation_apart r) (no_begin right refl)
no_begin (sum s first terms) p = joined (signs_apart s) (joined (no_begin first refl) (no_begin terms refl))
no_begin (adds o t) p = put_before (add_apart o) (no_begin t refl)
no_begin (product first factors) p = joined (no_begin first refl) (no_begin factors refl)
no_begin (multiplies o f) p = put_before (multiply_apart o) (no_begin f refl)
no_begin (designator name selectors) p = put_before refl (no_begin selectors refl)
no_begin (integer n) p = put_before refl nothing
no_begin (parenthesised e) p = put_before refl (joined (no_begin e refl) (put_before refl nothing))
no_begin (negation f) p = put_before refl (no_begin f refl)
no_begin (field name) p = put_before refl (put_before refl nothing)
no_begin (index e) p = put_before refl (joined (no_begin e refl) (put_before refl nothing))
no_begin empty p = nothing
no_begin (assigns name selectors e) p = put_before refl (joined (no_begin selectors refl) (put_before refl (no_begin e refl)))
no_begin (calls name args) p = put_before refl (no_begin args refl)
no_begin (branches condition s elsifs rest) p =
    put_before refl (joined (no_begin condition refl) (put_before refl (joined (no_begin s refl) (joined (no_begin elsifs refl) (joined (no_begin rest refl) (put_before refl nothing))))))
no_begin (while_loop condition s) p = put_before refl (joined (no_begin condition refl) (put_before refl (joined (no_begin s refl) (put_before refl nothing))))
no_begin (repeat_loop s condition) p = put_before refl (joined (no_begin s refl) (put_before refl (no_begin condition refl)))
no_begin no_arguments p = put_before refl (put_before refl nothing)
no_begin (some_arguments e es) p = put_before refl (joined (no_begin e refl) (joined (no_begin es refl) (put_before refl nothing)))
no_begin (comma_then_argument e) p = put_before refl (no_begin e refl)
no_begin (runs first statements) p = joined (no_begin first refl) (no_begin statements refl)
no_begin (semicolon_then_statement s) p = put_before refl (no_begin s refl)
no_begin (elsif_branch condition s) p = put_before refl (joined (no_begin condition refl) (put_before refl (no_begin s refl)))
no_begin (else_branch s) p = put_before refl (no_begin s refl)
no_begin (listed name others) p = put_before refl (no_begin others refl)
no_begin (comma_then_name name) p = put_before refl (put_before refl nothing)
no_begin (named_type name) p = put_before refl nothing
no_begin (array_type size t) p = put_before refl (joined (no_begin size refl) (put_before refl (no_begin t refl)))
no_begin (record_type first others) p = put_before refl (joined (no_begin first refl) (joined (no_begin others refl) (put_before refl nothing)))
no_begin no_fields p = nothing
no_begin (some_fields ns t) p = joined (no_begin ns refl) (put_before refl (no_begin t refl))
no_begin (semicolon_then_fields f) p = put_before refl (no_begin f refl)
no_begin no_formals p = put_before refl (put_before refl nothing)
no_begin (some_formals first others) p = put_before refl (joined (no_begin first refl) (joined (no_begin others refl) (put_before refl nothing)))
no_begin (value_section ns t) p = joined (no_begin ns refl) (put_before refl (no_begin t refl))
no_begin (variable_section ns t) p = put_before refl (joined (no_begin ns refl) (put_before refl (no_begin t refl)))
no_begin (semicolon_then_section s) p = put_before refl (no_begin s refl)
no_begin (declares_constant name e) p = put_before refl (put_before refl (joined (no_begin e refl) (put_before refl nothing)))
no_begin (declares_const_section cs) p = put_before refl (no_begin cs refl)
no_begin (declares_type name t) p = put_before refl (put_before refl (joined (no_begin t refl) (put_before refl nothing)))
no_begin (declares_type_section ts) p = put_before refl (no_begin ts refl)
no_begin (declares_variable ns t) p = joined (no_begin ns refl) (put_before refl (joined (no_begin t refl) (put_before refl nothing)))
no_begin (declares_var_section vs) p = put_before refl (no_begin vs refl)
no_begin (declares_procedure name fs b closing) p = absurd (is_not p)
no_begin (declares cs ts vs ps) p = absurd (is_not p)
no_begin (begins s) p = absurd (is_not p)
no_begin (forms_block ds b) p = absurd (is_not p)
no_begin (forms_module name b closing) p = absurd (is_not p)
