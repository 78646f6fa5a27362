-- Proves that expressions, types and statements declare nothing.
use Rattle.std.proofs.Common.{◌≡◌, ℕ, List, [], ◌∷◌, ◌++◌, refl, ◌∙◌}
use Rattle.ob0_tree.specs.declared.tree.Role.{Role}
use Rattle.ob0_tree.specs.declared.tree.Role.TheVariants as role
use Rattle.ob0_tree.specs.Tree.{GrammarItem, Sort, Tree, identifiers, item, items, maybe, adds, array_type, assigns, begins, branches, calls, compares, declares, declares_constant, declares_const_section, declares_procedure, declares_type, declares_type_section, declares_variable, declares_var_section, designator, else_branch, elsif_branch, empty, end, field, forms_block, index, integer, forms_module, listed, more, multiplies, named_type, negation, no_arguments, no_fields, no_formals, none, one, parenthesised, product, record_type, relates, repeat_loop, runs, some_arguments, some_fields, some_formals, sum, comma_then_argument, semicolon_then_fields, comma_then_name, semicolon_then_section, semicolon_then_statement, value_section, variable_section, while_loop, selector, multiplier, addend, comparison, arguments, argument_after_comma, statement_after_semicolon, elsif_part, else_part, fields_after_semicolon, body, name_after_comma, formals, section_after_semicolon, constant, constants, type_definition, type_definitions, variable, variables, procedure, expression, simple, term, factor, statement, sequence, written_type, fields, names, section, declarations, block, module_text}
use Rattle.ob0_scope_table.specs.Resolution.{declaring_names}

pub declaring_names-append : {N : Type 0} (xs ys : List (Role × N)) → declaring_names (xs ++ ys) ≡ declaring_names xs ++ declaring_names ys
declaring_names-append [] ys = refl
declaring_names-append ((role.DeclaringName, n) ∷ xs) ys = λ i. n ∷ declaring_names-append xs ys i
declaring_names-append ((role.LookedUpName, n) ∷ xs) ys = declaring_names-append xs ys
declaring_names-append ((role.ClosingName, n) ∷ xs) ys = declaring_names-append xs ys
declaring_names-append ((role.FieldName, n) ∷ xs) ys = declaring_names-append xs ys
declaring_names-append ((role.ModuleName, n) ∷ xs) ys = declaring_names-append xs ys

-- states that no identifier in a list declares
pub record Plain (xs : List (Role × ℕ)) : Type 0 where
  pub plain : declaring_names xs ≡ []

nothing : Plain []
nothing = record { plain = refl }

both : {xs ys : List (Role × ℕ)} → Plain xs → Plain ys → Plain (xs ++ ys)
both {xs = xs} {ys = ys} p q = record { plain = declaring_names-append xs ys ∙ (λ i. p.plain i ++ q.plain i) }

use_first : {x : ℕ} {xs : List (Role × ℕ)} → Plain xs → Plain ((role.LookedUpName, x) ∷ xs)
use_first p = record { plain = p.plain }

field_first : {x : ℕ} {xs : List (Role × ℕ)} → Plain xs → Plain ((role.FieldName, x) ∷ xs)
field_first p = record { plain = p.plain }

further_fields_plain : (ns : Tree ℕ (items name_after_comma)) → Plain (identifiers role.FieldName ns)
further_fields_plain end = nothing
further_fields_plain (more (comma_then_name x) rest) = field_first (further_fields_plain rest)

fields_plain : (ns : Tree ℕ names) → Plain (identifiers role.FieldName ns)
fields_plain (listed x rest) = field_first (further_fields_plain rest)

-- holds for the sorts of items that declare nothing
abbrev pub IsPlainItem : GrammarItem → Type 0
IsPlainItem selector = Unit {0}
IsPlainItem multiplier = Unit {0}
IsPlainItem addend = Unit {0}
IsPlainItem comparison = Unit {0}
IsPlainItem arguments = Unit {0}
IsPlainItem argument_after_comma = Unit {0}
IsPlainItem statement_after_semicolon = Unit {0}
IsPlainItem elsif_part = Unit {0}
IsPlainItem else_part = Unit {0}
IsPlainItem fields_after_semicolon = Unit {0}
IsPlainItem body = Unit {0}
IsPlainItem name_after_comma = ⊥
IsPlainItem formals = ⊥
IsPlainItem section_after_semicolon = ⊥
IsPlainItem constant = ⊥
IsPlainItem constants = ⊥
IsPlainItem type_definition = ⊥
IsPlainItem type_definitions = ⊥
IsPlainItem variable = ⊥
IsPlainItem variables = ⊥
IsPlainItem procedure = ⊥

abbrev pub IsPlain : Sort → Type 0
IsPlain (item i) = IsPlainItem i
IsPlain (items i) = IsPlainItem i
IsPlain (maybe i) = IsPlainItem i
IsPlain expression = Unit {0}
IsPlain simple = Unit {0}
IsPlain term = Unit {0}
IsPlain factor = Unit {0}
IsPlain statement = Unit {0}
IsPlain sequence = Unit {0}
IsPlain written_type = Unit {0}
IsPlain fields = Unit {0}
IsPlain names = ⊥
IsPlain section = ⊥
IsPlain declarations = ⊥
IsPlain block = ⊥
IsPlain module_text = ⊥

pub declares_nothing : {s : Sort} → IsPlain s → (t : Tree ℕ s) → Plain (identifiers role.DeclaringName t)
declares_nothing h none = nothing
declares_nothing h (one a) = declares_nothing h a
declares_nothing h end = nothing
declares_nothing h (more a b) = both (declares_nothing h a) (declares_nothing h b)
declares_nothing h (compares a b) = both (declares_nothing tt a) (declares_nothing tt b)
declares_nothing h (relates a b) = declares_nothing tt b
declares_nothing h (sum a b c) = both (declares_nothing tt b) (declares_nothing tt c)
declares_nothing h (adds a b) = declares_nothing tt b
declares_nothing h (product a b) = both (declares_nothing tt a) (declares_nothing tt b)
declares_nothing h (multiplies a b) = declares_nothing tt b
declares_nothing h (designator a b) = use_first (declares_nothing tt b)
declares_nothing h (integer a) = nothing
declares_nothing h (parenthesised a) = declares_nothing tt a
declares_nothing h (negation a) = declares_nothing tt a
declares_nothing h (field a) = field_first nothing
declares_nothing h (index a) = declares_nothing tt a
declares_nothing h empty = nothing
declares_nothing h (assigns a b c) = use_first (both (declares_nothing tt b) (declares_nothing tt c))
declares_nothing h (calls a b) = use_first (declares_nothing tt b)
declares_nothing h (branches a b c d) = both (declares_nothing tt a) (both (declares_nothing tt b) (both (declares_nothing tt c) (declares_nothing tt d)))
declares_nothing h (while_loop a b) = both (declares_nothing tt a) (declares_nothing tt b)
declares_nothing h (repeat_loop a b) = both (declares_nothing tt a) (declares_nothing tt b)
declares_nothing h no_arguments = nothing
declares_nothing h (some_arguments a b) = both (declares_nothing tt a) (declares_nothing tt b)
declares_nothing h (comma_then_argument a) = declares_nothing tt a
declares_nothing h (runs a b) = both (declares_nothing tt a) (declares_nothing tt b)
declares_nothing h (semicolon_then_statement a) = declares_nothing tt a
declares_nothing h (elsif_branch a b) = both (declares_nothing tt a) (declares_nothing tt b)
declares_nothing h (else_branch a) = declares_nothing tt a
declares_nothing h (listed a b) = absurd h
declares_nothing h (comma_then_name a) = absurd h
declares_nothing h (named_type a) = use_first nothing
declares_nothing h (array_type a b) = both (declares_nothing tt a) (declares_nothing tt b)
declares_nothing h (record_type a b) = both (declares_nothing tt a) (declares_nothing tt b)
declares_nothing h no_fields = nothing
declares_nothing h (some_fields a b) = both (fields_plain a) (declares_nothing tt b)
declares_nothing h (semicolon_then_fields a) = declares_nothing tt a
declares_nothing h no_formals = absurd h
declares_nothing h (some_formals a b) = absurd h
declares_nothing h (value_section a b) = absurd h
declares_nothing h (variable_section a b) = absurd h
declares_nothing h (semicolon_then_section a) = absurd h
declares_nothing h (declares_constant a b) = absurd h
declares_nothing h (declares_const_section a) = absurd h
declares_nothing h (declares_type a b) = absurd h
declares_nothing h (declares_type_section a) = absurd h
declares_nothing h (declares_variable a b) = absurd h
declares_nothing h (declares_var_section a) = absurd h
declares_nothing h (declares_procedure a b c d) = absurd h
declares_nothing h (declares a b c d) = absurd h
declares_nothing h (begins a) = declares_nothing tt a
declares_nothing h (forms_block a b) = absurd h
declares_nothing h (forms_module a b c) = absurd h
