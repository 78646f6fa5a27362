-- Replacing each name of a tree by itself gives the same tree.
use Rattle.std.proofs.Common.{◌≡◌, refl}
use Rattle.ob0_tree.specs.Tree.{Sort, Tree, adds, array_type, assigns, begins, branches, calls, compares, declares, declares_constant, declares_const_section, declares_procedure, declares_type, declares_type_section, declares_variable, declares_var_section, designator, else_branch, elsif_branch, empty, end, field, forms_block, index, integer, forms_module, listed, more, multiplies, named_type, negation, no_arguments, no_fields, no_formals, none, one, parenthesised, product, record_type, relates, repeat_loop, runs, some_arguments, some_fields, some_formals, sum, comma_then_argument, semicolon_then_fields, comma_then_name, semicolon_then_section, semicolon_then_statement, value_section, variable_section, while_loop}
use Rattle.ob0_language_names.specs.MappedNames.{map_names}

pub map_names-id : {N : Type 0} {s : Sort} (t : Tree N s) → map_names (λ x. x) (λ x. x) t ≡ t
map_names-id none = refl
map_names-id (one t) = λ i. one (map_names-id t i)
map_names-id end = refl
map_names-id (more t ts) = λ i. more (map_names-id t i) (map_names-id ts i)
map_names-id (compares left compared) = λ i. compares (map_names-id left i) (map_names-id compared i)
map_names-id (relates relation right) = λ i. relates relation (map_names-id right i)
map_names-id (sum sign first terms) = λ i. sum sign (map_names-id first i) (map_names-id terms i)
map_names-id (adds operator t) = λ i. adds operator (map_names-id t i)
map_names-id (product first factors) = λ i. product (map_names-id first i) (map_names-id factors i)
map_names-id (multiplies operator t) = λ i. multiplies operator (map_names-id t i)
map_names-id (designator name selectors) = λ i. designator name (map_names-id selectors i)
map_names-id (integer n) = refl
map_names-id (parenthesised e) = λ i. parenthesised (map_names-id e i)
map_names-id (negation t) = λ i. negation (map_names-id t i)
map_names-id (field name) = refl
map_names-id (index e) = λ i. index (map_names-id e i)
map_names-id empty = refl
map_names-id (assigns name selectors e) = λ i. assigns name (map_names-id selectors i) (map_names-id e i)
map_names-id (calls name args) = λ i. calls name (map_names-id args i)
map_names-id (branches condition s elsifs rest) = λ i. branches (map_names-id condition i) (map_names-id s i) (map_names-id elsifs i) (map_names-id rest i)
map_names-id (while_loop condition s) = λ i. while_loop (map_names-id condition i) (map_names-id s i)
map_names-id (repeat_loop s condition) = λ i. repeat_loop (map_names-id s i) (map_names-id condition i)
map_names-id no_arguments = refl
map_names-id (some_arguments e es) = λ i. some_arguments (map_names-id e i) (map_names-id es i)
map_names-id (comma_then_argument e) = λ i. comma_then_argument (map_names-id e i)
map_names-id (runs first statements) = λ i. runs (map_names-id first i) (map_names-id statements i)
map_names-id (semicolon_then_statement s) = λ i. semicolon_then_statement (map_names-id s i)
map_names-id (elsif_branch condition s) = λ i. elsif_branch (map_names-id condition i) (map_names-id s i)
map_names-id (else_branch s) = λ i. else_branch (map_names-id s i)
map_names-id (listed name others) = λ i. listed name (map_names-id others i)
map_names-id (comma_then_name name) = refl
map_names-id (named_type name) = refl
map_names-id (array_type size t) = λ i. array_type (map_names-id size i) (map_names-id t i)
map_names-id (record_type first others) = λ i. record_type (map_names-id first i) (map_names-id others i)
map_names-id no_fields = refl
map_names-id (some_fields ns t) = λ i. some_fields (map_names-id ns i) (map_names-id t i)
map_names-id (semicolon_then_fields fs) = λ i. semicolon_then_fields (map_names-id fs i)
map_names-id no_formals = refl
map_names-id (some_formals first others) = λ i. some_formals (map_names-id first i) (map_names-id others i)
map_names-id (value_section ns t) = λ i. value_section (map_names-id ns i) (map_names-id t i)
map_names-id (variable_section ns t) = λ i. variable_section (map_names-id ns i) (map_names-id t i)
map_names-id (semicolon_then_section s) = λ i. semicolon_then_section (map_names-id s i)
map_names-id (declares_constant name e) = λ i. declares_constant name (map_names-id e i)
map_names-id (declares_const_section cs) = λ i. declares_const_section (map_names-id cs i)
map_names-id (declares_type name t) = λ i. declares_type name (map_names-id t i)
map_names-id (declares_type_section ts) = λ i. declares_type_section (map_names-id ts i)
map_names-id (declares_variable ns t) = λ i. declares_variable (map_names-id ns i) (map_names-id t i)
map_names-id (declares_var_section vs) = λ i. declares_var_section (map_names-id vs i)
map_names-id (declares_procedure name fs b closing) = λ i. declares_procedure name (map_names-id fs i) (map_names-id b i) closing
map_names-id (declares cs ts vs ps) = λ i. declares (map_names-id cs i) (map_names-id ts i) (map_names-id vs i) (map_names-id ps i)
map_names-id (begins s) = λ i. begins (map_names-id s i)
map_names-id (forms_block ds b) = λ i. forms_block (map_names-id ds i) (map_names-id b i)
map_names-id (forms_module name b closing) = λ i. forms_module name (map_names-id b i) closing
