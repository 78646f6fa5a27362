-- Lists the occurrences of names that aren't whole factors: names before selectors, targets of
-- assignments, and the names of called procedures and of types.
-- Rule: none; used in laws about inlining.
use Rattle.std.specs.Prelude.{List, [], ◌++◌, ◌∷◌}
use Rattle.ob0_tree.specs.Tree.{Sort, Tree, adds, array_type, assigns, begins, branches, calls, compares, declares, declares_constant, declares_const_section, declares_procedure, declares_type, declares_type_section, declares_variable, declares_var_section, designator, else_branch, elsif_branch, empty, end, field, forms_block, index, integer, forms_module, listed, more, multiplies, named_type, negation, no_arguments, no_fields, no_formals, none, one, parenthesised, product, record_type, relates, repeat_loop, runs, some_arguments, some_fields, some_formals, sum, comma_then_argument, semicolon_then_fields, comma_then_name, semicolon_then_section, semicolon_then_statement, value_section, variable_section, while_loop}

-- Returns the name of each occurrence that isn't a whole factor, in text order. Such an occurrence
-- is a name before selectors, the target of an assignment, a called procedure or a type.
abbrev pub non_factor_occurrences : {N : Type 0} {s : Sort} → Tree N s → List N
non_factor_occurrences none = []
non_factor_occurrences (one t) = non_factor_occurrences t
non_factor_occurrences end = []
non_factor_occurrences (more t ts) = non_factor_occurrences t ++ non_factor_occurrences ts
non_factor_occurrences (compares left compared) = non_factor_occurrences left ++ non_factor_occurrences compared
non_factor_occurrences (relates relation right) = non_factor_occurrences right
non_factor_occurrences (sum sign first terms) = non_factor_occurrences first ++ non_factor_occurrences terms
non_factor_occurrences (adds operator t) = non_factor_occurrences t
non_factor_occurrences (product first factors) = non_factor_occurrences first ++ non_factor_occurrences factors
non_factor_occurrences (multiplies operator f) = non_factor_occurrences f
non_factor_occurrences (designator name end) = []
non_factor_occurrences (designator name (more s rest)) = name ∷ non_factor_occurrences (more s rest)
non_factor_occurrences (integer n) = []
non_factor_occurrences (parenthesised e) = non_factor_occurrences e
non_factor_occurrences (negation f) = non_factor_occurrences f
non_factor_occurrences (field name) = []
non_factor_occurrences (index e) = non_factor_occurrences e
non_factor_occurrences empty = []
non_factor_occurrences (assigns name selectors e) = name ∷ (non_factor_occurrences selectors ++ non_factor_occurrences e)
non_factor_occurrences (calls name args) = name ∷ non_factor_occurrences args
non_factor_occurrences (branches condition s elsifs rest) =
    non_factor_occurrences condition
    ++ (non_factor_occurrences s ++ (non_factor_occurrences elsifs ++ non_factor_occurrences rest))
non_factor_occurrences (while_loop condition s) = non_factor_occurrences condition ++ non_factor_occurrences s
non_factor_occurrences (repeat_loop s condition) = non_factor_occurrences s ++ non_factor_occurrences condition
non_factor_occurrences no_arguments = []
non_factor_occurrences (some_arguments e es) = non_factor_occurrences e ++ non_factor_occurrences es
non_factor_occurrences (comma_then_argument e) = non_factor_occurrences e
non_factor_occurrences (runs first statements) = non_factor_occurrences first ++ non_factor_occurrences statements
non_factor_occurrences (semicolon_then_statement s) = non_factor_occurrences s
non_factor_occurrences (elsif_branch condition s) = non_factor_occurrences condition ++ non_factor_occurrences s
non_factor_occurrences (else_branch s) = non_factor_occurrences s
non_factor_occurrences (listed name others) = []
non_factor_occurrences (comma_then_name name) = []
non_factor_occurrences (named_type name) = name ∷ []
non_factor_occurrences (array_type size t) = non_factor_occurrences size ++ non_factor_occurrences t
non_factor_occurrences (record_type first others) = non_factor_occurrences first ++ non_factor_occurrences others
non_factor_occurrences no_fields = []
non_factor_occurrences (some_fields ns t) = non_factor_occurrences t
non_factor_occurrences (semicolon_then_fields f) = non_factor_occurrences f
non_factor_occurrences no_formals = []
non_factor_occurrences (some_formals first others) = non_factor_occurrences first ++ non_factor_occurrences others
non_factor_occurrences (value_section ns t) = non_factor_occurrences t
non_factor_occurrences (variable_section ns t) = non_factor_occurrences t
non_factor_occurrences (semicolon_then_section s) = non_factor_occurrences s
non_factor_occurrences (declares_constant name e) = non_factor_occurrences e
non_factor_occurrences (declares_const_section cs) = non_factor_occurrences cs
non_factor_occurrences (declares_type name t) = non_factor_occurrences t
non_factor_occurrences (declares_type_section ts) = non_factor_occurrences ts
non_factor_occurrences (declares_variable ns t) = non_factor_occurrences t
non_factor_occurrences (declares_var_section vs) = non_factor_occurrences vs
non_factor_occurrences (declares_procedure name fs b closing) = non_factor_occurrences fs ++ non_factor_occurrences b
non_factor_occurrences (declares cs ts vs ps) =
    non_factor_occurrences cs ++ (non_factor_occurrences ts ++ (non_factor_occurrences vs ++ non_factor_occurrences ps))
non_factor_occurrences (begins s) = non_factor_occurrences s
non_factor_occurrences (forms_block ds b) = non_factor_occurrences ds ++ non_factor_occurrences b
non_factor_occurrences (forms_module name b closing) = non_factor_occurrences b
