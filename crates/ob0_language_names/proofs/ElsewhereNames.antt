-- Replacing the names of a tree replaces its occurrences that aren't whole factors in the same way.
use Rattle.std.proofs.Common.{[], map, refl, ◌++◌, ◌∷◌, ◌≡◌}
use Rattle.ob0_tree.specs.Tree.{Sort, Tree, adds, array_type, assigns, begins, branches, calls, compares, declares, declares_constant, declares_const_section, declares_procedure, declares_type, declares_type_section, declares_variable, declares_var_section, designator, else_branch, elsif_branch, empty, end, field, forms_block, index, integer, forms_module, listed, more, multiplies, named_type, negation, no_arguments, no_fields, no_formals, none, one, parenthesised, product, record_type, relates, repeat_loop, runs, some_arguments, some_fields, some_formals, sum, comma_then_argument, semicolon_then_fields, comma_then_name, semicolon_then_section, semicolon_then_statement, value_section, variable_section, while_loop}
use Rattle.ob0_language_names.specs.NonFactorNames.{non_factor_occurrences}
use Rattle.ob0_language_names.proofs.OccurrenceNames.{joined}
use Rattle.ob0_language_names.specs.MappedNames.{map_names}

pub elsewhere-map_names : {N M : Type 0} {s : Sort} (look keep : N → M) (t : Tree N s) → non_factor_occurrences (map_names look keep t) ≡ map look (non_factor_occurrences t)
elsewhere-map_names look keep none = refl
elsewhere-map_names look keep (one t) = elsewhere-map_names look keep t
elsewhere-map_names look keep end = refl
elsewhere-map_names look keep (more t ts) = joined look (non_factor_occurrences t) (non_factor_occurrences ts) (elsewhere-map_names look keep t) (elsewhere-map_names look keep ts)
elsewhere-map_names look keep (compares left compared) = joined look (non_factor_occurrences left) (non_factor_occurrences compared) (elsewhere-map_names look keep left) (elsewhere-map_names look keep compared)
elsewhere-map_names look keep (relates relation right) = elsewhere-map_names look keep right
elsewhere-map_names look keep (sum sign first terms) = joined look (non_factor_occurrences first) (non_factor_occurrences terms) (elsewhere-map_names look keep first) (elsewhere-map_names look keep terms)
elsewhere-map_names look keep (adds operator t) = elsewhere-map_names look keep t
elsewhere-map_names look keep (product first factors) = joined look (non_factor_occurrences first) (non_factor_occurrences factors) (elsewhere-map_names look keep first) (elsewhere-map_names look keep factors)
elsewhere-map_names look keep (multiplies operator f) = elsewhere-map_names look keep f
elsewhere-map_names look keep (designator name end) = refl
elsewhere-map_names look keep (designator name (more s rest)) = λ i. look name ∷ elsewhere-map_names look keep (more s rest) i
elsewhere-map_names look keep (integer n) = refl
elsewhere-map_names look keep (parenthesised e) = elsewhere-map_names look keep e
elsewhere-map_names look keep (negation f) = elsewhere-map_names look keep f
elsewhere-map_names look keep (field name) = refl
elsewhere-map_names look keep (index e) = elsewhere-map_names look keep e
elsewhere-map_names look keep empty = refl
elsewhere-map_names look keep (assigns name selectors e) = (λ i. look name ∷ (joined look (non_factor_occurrences selectors) (non_factor_occurrences e) (elsewhere-map_names look keep selectors) (elsewhere-map_names look keep e)) i)
elsewhere-map_names look keep (calls name args) = (λ i. look name ∷ (elsewhere-map_names look keep args) i)
elsewhere-map_names look keep (branches condition s elsifs rest) = joined look (non_factor_occurrences condition) (non_factor_occurrences s ++ (non_factor_occurrences elsifs ++ (non_factor_occurrences rest))) (elsewhere-map_names look keep condition) (joined look (non_factor_occurrences s) (non_factor_occurrences elsifs ++ (non_factor_occurrences rest)) (elsewhere-map_names look keep s) (joined look (non_factor_occurrences elsifs) (non_factor_occurrences rest) (elsewhere-map_names look keep elsifs) (elsewhere-map_names look keep rest)))
elsewhere-map_names look keep (while_loop condition s) = joined look (non_factor_occurrences condition) (non_factor_occurrences s) (elsewhere-map_names look keep condition) (elsewhere-map_names look keep s)
elsewhere-map_names look keep (repeat_loop s condition) = joined look (non_factor_occurrences s) (non_factor_occurrences condition) (elsewhere-map_names look keep s) (elsewhere-map_names look keep condition)
elsewhere-map_names look keep no_arguments = refl
elsewhere-map_names look keep (some_arguments e es) = joined look (non_factor_occurrences e) (non_factor_occurrences es) (elsewhere-map_names look keep e) (elsewhere-map_names look keep es)
elsewhere-map_names look keep (comma_then_argument e) = elsewhere-map_names look keep e
elsewhere-map_names look keep (runs first statements) = joined look (non_factor_occurrences first) (non_factor_occurrences statements) (elsewhere-map_names look keep first) (elsewhere-map_names look keep statements)
elsewhere-map_names look keep (semicolon_then_statement s) = elsewhere-map_names look keep s
elsewhere-map_names look keep (elsif_branch condition s) = joined look (non_factor_occurrences condition) (non_factor_occurrences s) (elsewhere-map_names look keep condition) (elsewhere-map_names look keep s)
elsewhere-map_names look keep (else_branch s) = elsewhere-map_names look keep s
elsewhere-map_names look keep (listed name others) = refl
elsewhere-map_names look keep (comma_then_name name) = refl
elsewhere-map_names look keep (named_type name) = (λ i. look name ∷ [])
elsewhere-map_names look keep (array_type size t) = joined look (non_factor_occurrences size) (non_factor_occurrences t) (elsewhere-map_names look keep size) (elsewhere-map_names look keep t)
elsewhere-map_names look keep (record_type first others) = joined look (non_factor_occurrences first) (non_factor_occurrences others) (elsewhere-map_names look keep first) (elsewhere-map_names look keep others)
elsewhere-map_names look keep no_fields = refl
elsewhere-map_names look keep (some_fields ns t) = elsewhere-map_names look keep t
elsewhere-map_names look keep (semicolon_then_fields f) = elsewhere-map_names look keep f
elsewhere-map_names look keep no_formals = refl
elsewhere-map_names look keep (some_formals first others) = joined look (non_factor_occurrences first) (non_factor_occurrences others) (elsewhere-map_names look keep first) (elsewhere-map_names look keep others)
elsewhere-map_names look keep (value_section ns t) = elsewhere-map_names look keep t
elsewhere-map_names look keep (variable_section ns t) = elsewhere-map_names look keep t
elsewhere-map_names look keep (semicolon_then_section s) = elsewhere-map_names look keep s
elsewhere-map_names look keep (declares_constant name e) = elsewhere-map_names look keep e
elsewhere-map_names look keep (declares_const_section cs) = elsewhere-map_names look keep cs
elsewhere-map_names look keep (declares_type name t) = elsewhere-map_names look keep t
elsewhere-map_names look keep (declares_type_section ts) = elsewhere-map_names look keep ts
elsewhere-map_names look keep (declares_variable ns t) = elsewhere-map_names look keep t
elsewhere-map_names look keep (declares_var_section vs) = elsewhere-map_names look keep vs
elsewhere-map_names look keep (declares_procedure name fs b closing) = joined look (non_factor_occurrences fs) (non_factor_occurrences b) (elsewhere-map_names look keep fs) (elsewhere-map_names look keep b)
elsewhere-map_names look keep (declares cs ts vs ps) = joined look (non_factor_occurrences cs) (non_factor_occurrences ts ++ (non_factor_occurrences vs ++ (non_factor_occurrences ps))) (elsewhere-map_names look keep cs) (joined look (non_factor_occurrences ts) (non_factor_occurrences vs ++ (non_factor_occurrences ps)) (elsewhere-map_names look keep ts) (joined look (non_factor_occurrences vs) (non_factor_occurrences ps) (elsewhere-map_names look keep vs) (elsewhere-map_names look keep ps)))
elsewhere-map_names look keep (begins s) = elsewhere-map_names look keep s
elsewhere-map_names look keep (forms_block ds b) = joined look (non_factor_occurrences ds) (non_factor_occurrences b) (elsewhere-map_names look keep ds) (elsewhere-map_names look keep b)
elsewhere-map_names look keep (forms_module name b closing) = elsewhere-map_names look keep b
