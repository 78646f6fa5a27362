-- Each tree over indexes is the tree of a value of the code.
use Rattle.std.proofs.Common.{◌≡◌, ◌∙◌, ◌≤◌, ◌+◌, ℕ, suc, Bool, true, false, List, [], ◌∷◌, ◌++◌, Option, Some, None, Vec, Box, length, refl, ap, sym, subst, arith}
use Rattle.std.proofs.lemmas.List.{length-append}
use Rattle.std.specs.declared.alloc.Global.{Global}
use denote.RawPtr.{null_ptr}
use Rattle.ob0_tree.specs.declared.tree.Expression.{Expression, CompoundExpression}
use Rattle.ob0_tree.specs.declared.tree.CompoundExpression.{roll-CompoundExpression, back-CompoundExpression-compared}
use Rattle.ob0_tree.specs.declared.tree.Comparison.{Comparison, roll-Comparison}
use Rattle.ob0_tree.specs.declared.tree.SimpleExpression.{SimpleExpression, roll-SimpleExpression}
use Rattle.ob0_tree.specs.declared.tree.Addend.{Addend, roll-Addend}
use Rattle.ob0_tree.specs.declared.tree.Term.{Term, roll-Term}
use Rattle.ob0_tree.specs.declared.tree.Multiplier.{Multiplier}
use Rattle.ob0_tree.specs.declared.tree.Factor as factor_module
use Rattle.ob0_tree.specs.declared.tree.Factor.{Designator, Integer, Parenthesised, Not}
use Rattle.ob0_tree.specs.declared.tree.Selector.{Selector, Field, Index}
use Rattle.ob0_tree.specs.declared.tree.IdentifierList.{IdentifierList}
use Rattle.ob0_tree.specs.declared.tree.Statement.{Statement, Empty, Assign, Call, If, While, Repeat}
use Rattle.ob0_tree.specs.declared.tree.If.{roll-If}
use Rattle.ob0_tree.specs.declared.tree.Elsif.{Elsif}
use Rattle.ob0_tree.specs.declared.tree.WrittenType.{WrittenType, Named, Array, Record}
use Rattle.ob0_tree.specs.declared.tree.While as while_module
use Rattle.ob0_tree.specs.declared.tree.Repeat as repeat_module
use Rattle.ob0_tree.specs.declared.tree.OptionalFieldGroup as fields_module
use Rattle.ob0_tree.specs.declared.tree.ParameterSection.{ParameterSection}
use Rattle.ob0_tree.specs.declared.tree.ConstantDeclaration.{ConstantDeclaration}
use Rattle.ob0_tree.specs.declared.tree.TypeDeclaration.{TypeDeclaration}
use Rattle.ob0_tree.specs.declared.tree.VariableDeclaration.{VariableDeclaration}
use Rattle.ob0_tree.specs.declared.tree.Procedure.{Procedure, roll-Procedure}
use Rattle.ob0_tree.specs.declared.tree.Block.{Block, roll-Block}
use Rattle.ob0_tree.specs.declared.tree.ModuleTree.{ModuleTree}
use Rattle.ob0_tree.specs.Tree.{GrammarItem, selector, multiplier, addend, comparison, arguments, argument_after_comma, statement_after_semicolon, elsif_part, else_part, name_after_comma, fields_after_semicolon, formals, section_after_semicolon, constant, constants, type_definition, type_definitions, variable, variables, procedure, body, Sort, item, items, maybe, expression, simple, term, factor, statement, sequence, names, written_type, fields, section, declarations, block, module_text, Tree, spell, single_token_list, none, one, end, more, compares, relates, sum, adds, product, multiplies, designator, integer, parenthesised, negation, field, index, empty, assigns, calls, branches, while_loop, repeat_loop, no_arguments, some_arguments, comma_then_argument, runs, semicolon_then_statement, elsif_branch, else_branch, listed, comma_then_name, named_type, array_type, record_type, no_fields, some_fields, semicolon_then_fields, no_formals, some_formals, value_section, variable_section, semicolon_then_section, declares_constant, declares_const_section, declares_type, declares_type_section, declares_variable, declares_var_section, declares_procedure, declares, begins, forms_block, forms_module}
use Rattle.ob0_scan.specs.declared.lexeme.TokenKind.TheVariants as kind
use Rattle.ob0_scan.specs.declared.lexeme.Symbol.TheVariants as symbol
use Rattle.ob0_tree.specs.Terminals.{WordOrSymbol}
use Rattle.ob0_tree.specs.View.{expression_of, maybe_comparison_of, comparison_of, simple_expression_of, addend_of, term_of, multiplier_of, factor_of, selector_of, items_of, names_of, argument_after_comma_of, arguments_of_list, arguments_of, statement_of, statement_after_semicolon_of, sequence_of_list, elsif_of, else_part_of, type_of, optional_field_group_of, field_group_after_semicolon_of, record_type_of_list, parameter_section_of, parameter_section_after_semicolon_of, formals_of_list, formals_of, constant_declaration_of, constant_section_of, type_declaration_of, type_section_of, variable_declaration_of, variable_section_of, body_of, block_of, procedure_of}
use Rattle.ob0_tree.proofs.Viewed.{simple_made, term_made, designator_made, compound_made, comparison_made, addend_made, made_record_type, while_made, repeat_made, block_made, procedure_made, if_made}

-- ---- vectors and boxes

abbrev pub heap : Global
heap = record { memory = record { seal = tt } }

abbrev pub vec_of : {A : Type 0} (xs : List A) → length xs ≤ 1048577 → Vec A Global
vec_of xs short = record { ptr = null_ptr; len = length xs; cap = length xs; alloc = heap; items = xs; ok = (refl, omega (arith)); small = omega (arith, short) }

abbrev pub boxed : {A : Type 0} → A → Box A Global
boxed x = record { ptr = null_ptr; alloc = heap; value = x }

-- ---- the values of each sort

abbrev pub Part : GrammarItem → Type 0
Part selector = Selector
Part multiplier = Multiplier
Part addend = Addend
Part comparison = Comparison
Part arguments = Vec Expression Global
Part argument_after_comma = Expression
Part statement_after_semicolon = Statement
Part elsif_part = Elsif
Part else_part = Vec Statement Global
Part name_after_comma = ℕ
Part fields_after_semicolon = fields_module.OptionalFieldGroup
Part formals = Vec ParameterSection Global
Part section_after_semicolon = ParameterSection
Part constant = ConstantDeclaration
Part constants = Vec ConstantDeclaration Global
Part type_definition = TypeDeclaration
Part type_definitions = Vec TypeDeclaration Global
Part variable = VariableDeclaration
Part variables = Vec VariableDeclaration Global
Part procedure = Procedure
Part body = Vec Statement Global

abbrev pub part_of : (i : GrammarItem) → Part i → Tree ℕ (item i)
part_of selector x = selector_of x
part_of multiplier x = multiplier_of x
part_of addend x = addend_of x
part_of comparison x = comparison_of x
part_of arguments xs = arguments_of_list xs.items
part_of argument_after_comma x = argument_after_comma_of x
part_of statement_after_semicolon x = statement_after_semicolon_of x
part_of elsif_part x = elsif_of x
part_of else_part xs = else_branch (sequence_of_list xs.items)
part_of name_after_comma x = comma_then_name x
part_of fields_after_semicolon x = field_group_after_semicolon_of x
part_of formals xs = formals_of_list xs.items
part_of section_after_semicolon x = parameter_section_after_semicolon_of x
part_of constant x = constant_declaration_of x
part_of constants xs = declares_const_section (items_of constant_declaration_of xs.items)
part_of type_definition x = type_declaration_of x
part_of type_definitions xs = declares_type_section (items_of type_declaration_of xs.items)
part_of variable x = variable_declaration_of x
part_of variables xs = declares_var_section (items_of variable_declaration_of xs.items)
part_of procedure x = procedure_of x
part_of body xs = begins (sequence_of_list xs.items)

abbrev pub maybe_of : (i : GrammarItem) → Option (Part i) → Tree ℕ (maybe i)
maybe_of i None = none
maybe_of i (Some x) = one (part_of i x)

pub record Declarations : Type 0 where
  pub constants_read : Option (Vec ConstantDeclaration Global)
  pub types_read : Option (Vec TypeDeclaration Global)
  pub variables_read : Option (Vec VariableDeclaration Global)
  pub procedures_read : List Procedure

abbrev pub Value : Sort → Type 0
Value (item i) = Part i
Value (items i) = List (Part i)
Value (maybe i) = Option (Part i)
Value expression = Expression
Value simple = SimpleExpression
Value term = Term
Value factor = factor_module.Factor
Value statement = Statement
Value sequence = Vec Statement Global
Value names = IdentifierList
Value written_type = WrittenType
Value fields = fields_module.OptionalFieldGroup
Value section = ParameterSection
Value declarations = Declarations
Value block = Block
Value module_text = ModuleTree

abbrev pub tree_at : (s : Sort) → Value s → Tree ℕ s
tree_at (item i) x = part_of i x
tree_at (items i) xs = items_of (part_of i) xs
tree_at (maybe i) x = maybe_of i x
tree_at expression x = expression_of x
tree_at simple x = simple_expression_of x
tree_at term x = term_of x
tree_at factor x = factor_of x
tree_at statement x = statement_of x
tree_at sequence xs = sequence_of_list xs.items
tree_at names x = names_of x
tree_at written_type x = type_of x
tree_at fields x = optional_field_group_of x
tree_at section x = parameter_section_of x
tree_at declarations x = declares (constant_section_of x.constants_read) (type_section_of x.types_read) (variable_section_of x.variables_read) (items_of procedure_of x.procedures_read)
tree_at block x = block_of x
tree_at module_text x = forms_module x.name (block_of x.block) x.closing

abbrev pub Made : {s : Sort} → Tree ℕ s → Type 0
Made {s} t = (x : Value s) × (tree_at s x ≡ t)

-- ---- lengths

front : {A : Type 0} (a b : List A) → length (a ++ b) ≤ 1048576 → length a ≤ 1048576
front a b short = omega (arith, short, length-append a b)

back : {A : Type 0} (a b : List A) → length (a ++ b) ≤ 1048576 → length b ≤ 1048576
back a b short = omega (arith, short, length-append a b)

rest : {A : Type 0} (a : List A) → suc (length a) ≤ 1048576 → length a ≤ 1048576
rest a short = omega (arith, short)

rest2 : {A : Type 0} (a : List A) → suc (suc (length a)) ≤ 1048576 → length a ≤ 1048576
rest2 a short = omega (arith, short)

rest3 : {A : Type 0} (a : List A) → suc (suc (suc (length a))) ≤ 1048576 → length a ≤ 1048576
rest3 a short = omega (arith, short)

some_tokens : {i : GrammarItem} (t : Tree ℕ (item i)) → 1 ≤ length (spell t)
some_tokens (relates r t) = omega (arith)
some_tokens (adds o t) = omega (arith)
some_tokens (multiplies o f) = omega (arith)
some_tokens (field n) = omega (arith)
some_tokens (index e) = omega (arith)
some_tokens no_arguments = omega (arith)
some_tokens (some_arguments e es) = omega (arith)
some_tokens (comma_then_argument e) = omega (arith)
some_tokens (semicolon_then_statement s) = omega (arith)
some_tokens (elsif_branch e s) = omega (arith)
some_tokens (else_branch s) = omega (arith)
some_tokens (comma_then_name n) = omega (arith)
some_tokens (semicolon_then_fields f) = omega (arith)
some_tokens no_formals = omega (arith)
some_tokens (some_formals f fs) = omega (arith)
some_tokens (semicolon_then_section s) = omega (arith)
some_tokens (declares_constant n e) = omega (arith)
some_tokens (declares_const_section cs) = omega (arith)
some_tokens (declares_type n t) = omega (arith)
some_tokens (declares_type_section ts) = omega (arith)
some_tokens (declares_variable ns t) = omega (arith, length-append (spell ns) (WordOrSymbol (kind.Symbol symbol.Colon) ∷ (spell t ++ single_token_list (kind.Symbol symbol.Semicolon))))
some_tokens (declares_var_section vs) = omega (arith)
some_tokens (declares_procedure n fs b c) = omega (arith)
some_tokens (begins s) = omega (arith)

pub items_short : (i : GrammarItem) (xs : List (Part i)) → length xs ≤ length (spell (items_of (part_of i) xs))
items_short i [] = omega (arith)
items_short i (x ∷ xs) = omega (arith, items_short i xs, some_tokens (part_of i x), length-append (spell (part_of i x)) (spell (items_of (part_of i) xs)))

pub few : {i : GrammarItem} (t : Tree ℕ (items i)) (m : Made t) → length (spell t) ≤ 1048576 → length m.0 ≤ 1048576
few {i} t m short = omega (arith, items_short i m.0, short, ap (λ u. length (spell u)) m.1)

abbrev pub list_of : {i : GrammarItem} (t : Tree ℕ (items i)) (m : Made t) → length (spell t) ≤ 1048576 → Vec (Part i) Global
list_of t m short = vec_of m.0 (omega (arith, few t m short))

pub one_more : {i : GrammarItem} (x : Part i) (t : Tree ℕ (items i)) (m : Made t) → length (spell t) ≤ 1048576 → length (x ∷ m.0) ≤ 1048577
one_more x t m short = omega (arith, few t m short)

abbrev pub nonempty_of : {i : GrammarItem} (x : Part i) (t : Tree ℕ (items i)) (m : Made t) → length (spell t) ≤ 1048576 → Vec (Part i) Global
nonempty_of x t m short = vec_of (x ∷ m.0) (one_more x t m short)

declared_few : (t : Tree ℕ declarations) (m : Made t) → length (spell t) ≤ 1048576 → length m.0.procedures_read ≤ 1048577
declared_few t m short =
    let x = m.0 in
    let ps = spell (items_of (part_of procedure) x.procedures_read) in
    let vs = spell (variable_section_of x.variables_read) in
    let ts = spell (type_section_of x.types_read) in
    let cs = spell (constant_section_of x.constants_read) in
    omega (arith, items_short procedure x.procedures_read, short, ap (λ u. length (spell u)) m.1, length-append vs ps, length-append ts (vs ++ ps), length-append cs (ts ++ (vs ++ ps)))

-- ---- parts that may be missing

abbrev pub compared_maybe : Option Comparison → Option (Box Comparison Global)
compared_maybe None = None
compared_maybe (Some c) = Some (boxed c)

compared_so : (o : Option Comparison) → maybe_comparison_of (back-CompoundExpression-compared (compared_maybe o)) ≡ maybe_of comparison o
compared_so None = refl
compared_so (Some c) = refl

arguments_so : (o : _) → arguments_of o ≡ maybe_of arguments o
arguments_so None = refl
arguments_so (Some xs) = refl

else_so : (o : _) → else_part_of o ≡ maybe_of else_part o
else_so None = refl
else_so (Some xs) = refl

formals_so : (o : _) → formals_of o ≡ maybe_of formals o
formals_so None = refl
formals_so (Some xs) = refl

constants_so : (o : _) → constant_section_of o ≡ maybe_of constants o
constants_so None = refl
constants_so (Some xs) = refl

types_so : (o : _) → type_section_of o ≡ maybe_of type_definitions o
types_so None = refl
types_so (Some xs) = refl

variables_so : (o : _) → variable_section_of o ≡ maybe_of variables o
variables_so None = refl
variables_so (Some xs) = refl

body_so : (o : _) → body_of o ≡ maybe_of body o
body_so None = refl
body_so (Some xs) = refl

-- ---- each tree has a value

pub tree_made : {s : Sort} (t : Tree ℕ s) → length (spell t) ≤ 1048576 → Made t
tree_made none short = (None, refl)
tree_made (one t) short = let a = tree_made t short in (Some a.0, ap one a.1)
tree_made end short = ([], refl)
tree_made (more t ts) short =
    let a = tree_made t (front (spell t) (spell ts) short) in
    let b = tree_made ts (back (spell t) (spell ts) short) in (a.0 ∷ b.0, (λ i. more (a.1 i) (b.1 i)))
tree_made (compares l c) short =
    let a = tree_made l (front (spell l) (spell c) short) in
    let b = tree_made c (back (spell l) (spell c) short) in
    (CompoundExpression (boxed (roll-CompoundExpression record { left = a.0; compared = compared_maybe b.0 })), compound_made _ ∙ (λ i. compares (a.1 i) ((compared_so b.0 ∙ b.1) i)))
tree_made (relates r t) short = let a = tree_made t (rest (spell t) short) in (roll-Comparison record { relation = r; right = a.0 }, comparison_made _ ∙ ap (relates r) a.1)
tree_made (sum None t ts) short =
    let a = tree_made t (front (spell t) (spell ts) short) in
    let low = back (spell t) (spell ts) short in
    let b = tree_made ts low in
    (roll-SimpleExpression record { sign = None; first = a.0; more = list_of ts b low }, simple_made _ ∙ (λ i. sum None (a.1 i) (b.1 i)))
tree_made (sum (Some sign) t ts) short =
    let all = rest (spell t ++ spell ts) short in
    let a = tree_made t (front (spell t) (spell ts) all) in
    let low = back (spell t) (spell ts) all in
    let b = tree_made ts low in
    (roll-SimpleExpression record { sign = Some sign; first = a.0; more = list_of ts b low }, simple_made _ ∙ (λ i. sum (Some sign) (a.1 i) (b.1 i)))
tree_made (adds o t) short = let a = tree_made t (rest (spell t) short) in (roll-Addend record { operator = o; term = a.0 }, addend_made _ ∙ ap (adds o) a.1)
tree_made (product f fs) short =
    let a = tree_made f (front (spell f) (spell fs) short) in
    let low = back (spell f) (spell fs) short in
    let b = tree_made fs low in
    (roll-Term record { first = a.0; more = list_of fs b low }, term_made _ ∙ (λ i. product (a.1 i) (b.1 i)))
tree_made (multiplies o f) short = let a = tree_made f (rest (spell f) short) in (record { operator = o; factor = a.0 }, ap (multiplies o) a.1)
tree_made (designator n ss) short =
    let low = rest (spell ss) short in
    let b = tree_made ss low in
    (Designator record { name = n; selectors = list_of ss b low }, designator_made _ ∙ ap (designator n) b.1)
tree_made (integer n) short = (Integer n, refl)
tree_made (parenthesised e) short = let a = tree_made e (front (spell e) _ (rest _ short)) in (Parenthesised (boxed a.0), ap parenthesised a.1)
tree_made (negation f) short = let a = tree_made f (rest (spell f) short) in (Not (boxed a.0), ap negation a.1)
tree_made (field n) short = (Field n, refl)
tree_made (index e) short = let a = tree_made e (front (spell e) _ (rest _ short)) in (Index a.0, ap index a.1)
tree_made empty short = (Empty, refl)
tree_made (assigns n ss e) short =
    let all = rest (spell ss ++ _) short in
    let low = front (spell ss) _ all in
    let a = tree_made ss low in
    let b = tree_made e (rest (spell e) (back (spell ss) _ all)) in
    (Assign (boxed record { target = record { name = n; selectors = list_of ss a low }; value = b.0 }), (λ i. assigns n (a.1 i) (b.1 i)))
tree_made (calls n es) short =
    let a = tree_made es (rest (spell es) short) in
    (Call record { procedure = n; arguments = a.0 }, ap (calls n) (arguments_so a.0 ∙ a.1))
tree_made (branches e s es o) short =
    let one' = rest (spell e ++ _) short in
    let two' = rest (spell s ++ _) (back (spell e) _ one') in
    let three = back (spell s) (spell es ++ _) two' in
    let low = front (spell es) _ three in
    let a = tree_made e (front (spell e) _ one') in
    let b = tree_made s (front (spell s) _ two') in
    let c = tree_made es low in
    let d = tree_made o (front (spell o) _ (back (spell es) (spell o ++ _) three)) in (
      If (boxed (roll-If record { condition = a.0; then = b.0; elsifs = list_of es c low; otherwise = d.0 })),
      if_made _ ∙ (λ i. branches (a.1 i) (b.1 i) (c.1 i) ((else_so d.0 ∙ d.1) i)),
    )
tree_made (while_loop e s) short =
    let all = rest (spell e ++ _) short in
    let a = tree_made e (front (spell e) _ all) in
    let b = tree_made s (front (spell s) _ (rest (spell s ++ _) (back (spell e) _ all))) in
    let w : Box while_module.While Global = boxed record { condition = a.0; body = b.0 } in
    (While w, while_made w ∙ (λ i. while_loop (a.1 i) (b.1 i)))
tree_made (repeat_loop s e) short =
    let all = rest (spell s ++ _) short in
    let a = tree_made s (front (spell s) _ all) in
    let b = tree_made e (rest (spell e) (back (spell s) _ all)) in
    let r : Box repeat_module.Repeat Global = boxed record { body = a.0; condition = b.0 } in
    (Repeat r, repeat_made r ∙ (λ i. repeat_loop (a.1 i) (b.1 i)))
tree_made no_arguments short = (vec_of [] (omega (arith)), refl)
tree_made (some_arguments e es) short =
    let all = rest (spell e ++ _) short in
    let low = front (spell es) _ (back (spell e) (spell es ++ _) all) in
    let a = tree_made e (front (spell e) _ all) in
    let b = tree_made es low in
    (nonempty_of a.0 es b low, (λ i. some_arguments (a.1 i) (b.1 i)))
tree_made (comma_then_argument e) short = let a = tree_made e (rest (spell e) short) in (a.0, ap comma_then_argument a.1)
tree_made (runs s ss) short =
    let low = back (spell s) (spell ss) short in
    let a = tree_made s (front (spell s) (spell ss) short) in
    let b = tree_made ss low in
    (nonempty_of a.0 ss b low, (λ i. runs (a.1 i) (b.1 i)))
tree_made (semicolon_then_statement s) short = let a = tree_made s (rest (spell s) short) in (a.0, ap semicolon_then_statement a.1)
tree_made (elsif_branch e s) short =
    let all = rest (spell e ++ _) short in
    let a = tree_made e (front (spell e) _ all) in
    let b = tree_made s (rest (spell s) (back (spell e) _ all)) in
    (record { condition = a.0; then = b.0 }, (λ i. elsif_branch (a.1 i) (b.1 i)))
tree_made (else_branch s) short = let a = tree_made s (rest (spell s) short) in (a.0, ap else_branch a.1)
tree_made (listed n ns) short =
    let low = rest (spell ns) short in
    let b = tree_made ns low in
    (record { first = n; more = list_of ns b low }, ap (listed n) b.1)
tree_made (comma_then_name n) short = (n, refl)
tree_made (named_type n) short = (Named n, refl)
tree_made (array_type e t) short =
    let all = rest (spell e ++ _) short in
    let a = tree_made e (front (spell e) _ all) in
    let b = tree_made t (rest (spell t) (back (spell e) _ all)) in
    (Array record { size = a.0; element = boxed b.0 }, (λ i. array_type (a.1 i) (b.1 i)))
tree_made (record_type f fs) short =
    let all = rest (spell f ++ _) short in
    let low = front (spell fs) _ (back (spell f) (spell fs ++ _) all) in
    let a = tree_made f (front (spell f) _ all) in
    let b = tree_made fs low in
    (Record record { groups = nonempty_of a.0 fs b low }, made_record_type _ ∙ (λ i. record_type (a.1 i) (b.1 i)))
tree_made no_fields short = (fields_module.Empty, refl)
tree_made (some_fields ns t) short =
    let a = tree_made ns (front (spell ns) _ short) in
    let b = tree_made t (rest (spell t) (back (spell ns) _ short)) in
    (fields_module.Listed (boxed record { names = a.0; written = b.0 }), (λ i. some_fields (a.1 i) (b.1 i)))
tree_made (semicolon_then_fields f) short = let a = tree_made f (rest (spell f) short) in (a.0, ap semicolon_then_fields a.1)
tree_made no_formals short = (vec_of [] (omega (arith)), refl)
tree_made (some_formals s ss) short =
    let all = rest (spell s ++ _) short in
    let low = front (spell ss) _ (back (spell s) (spell ss ++ _) all) in
    let a = tree_made s (front (spell s) _ all) in
    let b = tree_made ss low in
    (nonempty_of a.0 ss b low, (λ i. some_formals (a.1 i) (b.1 i)))
tree_made (value_section ns t) short =
    let a = tree_made ns (front (spell ns) _ short) in
    let b = tree_made t (rest (spell t) (back (spell ns) _ short)) in
    (record { by_reference = false; names = a.0; written = b.0 }, (λ i. value_section (a.1 i) (b.1 i)))
tree_made (variable_section ns t) short =
    let all = rest (spell ns ++ _) short in
    let a = tree_made ns (front (spell ns) _ all) in
    let b = tree_made t (rest (spell t) (back (spell ns) _ all)) in
    (record { by_reference = true; names = a.0; written = b.0 }, (λ i. variable_section (a.1 i) (b.1 i)))
tree_made (semicolon_then_section s) short = let a = tree_made s (rest (spell s) short) in (a.0, ap semicolon_then_section a.1)
tree_made (declares_constant n e) short =
    let a = tree_made e (front (spell e) _ (rest2 _ short)) in
    (record { name = n; value = a.0 }, ap (declares_constant n) a.1)
tree_made (declares_const_section cs) short =
    let low = rest (spell cs) short in
    let a = tree_made cs low in
    (list_of cs a low, ap declares_const_section a.1)
tree_made (declares_type n t) short =
    let a = tree_made t (front (spell t) _ (rest2 _ short)) in
    (record { name = n; written = a.0 }, ap (declares_type n) a.1)
tree_made (declares_type_section ts) short =
    let low = rest (spell ts) short in
    let a = tree_made ts low in
    (list_of ts a low, ap declares_type_section a.1)
tree_made (declares_variable ns t) short =
    let a = tree_made ns (front (spell ns) _ short) in
    let b = tree_made t (front (spell t) _ (rest _ (back (spell ns) _ short))) in
    (record { names = a.0; written = b.0 }, (λ i. declares_variable (a.1 i) (b.1 i)))
tree_made (declares_var_section vs) short =
    let low = rest (spell vs) short in
    let a = tree_made vs low in
    (list_of vs a low, ap declares_var_section a.1)
tree_made (declares_procedure n fs b c) short =
    let all = rest2 (spell fs ++ _) short in
    let a = tree_made fs (front (spell fs) _ all) in
    let d = tree_made b (front (spell b) _ (rest (spell b ++ _) (back (spell fs) _ all))) in (
      roll-Procedure record { name = n; formals = a.0; block = d.0; closing = c },
      procedure_made _ ∙ (λ i. declares_procedure n ((formals_so a.0 ∙ a.1) i) (d.1 i) c),
    )
tree_made (declares cs ts vs ps) short =
    let after = back (spell cs) (spell ts ++ (spell vs ++ spell ps)) short in
    let last = back (spell ts) (spell vs ++ spell ps) after in
    let a = tree_made cs (front (spell cs) _ short) in
    let b = tree_made ts (front (spell ts) _ after) in
    let c = tree_made vs (front (spell vs) _ last) in
    let d = tree_made ps (back (spell vs) (spell ps) last) in (
      record { constants_read = a.0; types_read = b.0; variables_read = c.0; procedures_read = d.0 },
      (λ i. declares ((constants_so a.0 ∙ a.1) i) ((types_so b.0 ∙ b.1) i) ((variables_so c.0 ∙ c.1) i) (d.1 i)),
    )
tree_made (begins s) short = let a = tree_made s (rest (spell s) short) in (a.0, ap begins a.1)
tree_made (forms_block ds b) short =
    let low = front (spell ds) (spell b) short in
    let a = tree_made ds low in
    let c = tree_made b (back (spell ds) (spell b) short) in (
      roll-Block record { constants = a.0.constants_read; types = a.0.types_read; variables = a.0.variables_read; procedures = vec_of a.0.procedures_read (declared_few ds a low); body = c.0 },
      block_made _ ∙ (λ i. forms_block (a.1 i) ((body_so c.0 ∙ c.1) i)),
    )
tree_made (forms_module n b c) short =
    let a = tree_made b (front (spell b) _ (rest3 _ short)) in
    (record { name = n; block = a.0; closing = c }, ap (λ x. forms_module n x c) a.1)
