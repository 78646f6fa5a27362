-- Defines the inlining of a constant: a factor replaces uses of the constant, and the constant's
-- declaration may be removed.
-- Rule: docs/PROTOCOL.md, Requests on documents 9.
use Rattle.std.specs.Prelude.{ℕ, suc, ◌+◌, Bool, length, if◌then◌else◌, ◌==◌}
use Rattle.ob0_tree.specs.Tree.{Sort, Tree, adds, array_type, assigns, begins, block, branches, calls, compares, constant, constants, declares, declares_constant, declares_const_section, declares_procedure, declares_type, declares_type_section, declares_variable, declares_var_section, designator, else_branch, elsif_branch, empty, end, factor, field, forms_block, index, integer, forms_module, item, items, listed, maybe, module_text, more, multiplies, named_type, negation, no_arguments, no_fields, no_formals, none, occurrences, one, parenthesised, procedure, product, record_type, relates, repeat_loop, runs, some_arguments, some_fields, some_formals, sum, comma_then_argument, semicolon_then_fields, comma_then_name, semicolon_then_section, semicolon_then_statement, value_section, variable_section, while_loop}
use Rattle.ob0_language_names.specs.Names.{Name}
use Rattle.ob0_language_names.specs.Occurrences.{ordinal_bound_at_occurrence}
use Rattle.ob0_language_names.specs.BlockParts.{formal_parameter_names, formal_parameter_sections}
use Rattle.ob0_language_names.specs.Scopes.{ordinal_after_names, ordinal_after_procedure, first_procedure_ordinal, predeclared_count, same_ordinal}

-- a set of occurrences: a function that returns true for the number of each occurrence in the set; occurrences are
-- numbered from 0 in text order
abbrev pub OccurrenceSet : Type 0
OccurrenceSet = ℕ → Bool

-- Returns the tree in which the factor `v` replaces each whole factor in the set `uses`. A whole
-- factor is a name without selectors in an expression. Occurrences of names are numbered in text
-- order within the module, and the first occurrence in this tree has number `k`.
abbrev pub inline_in_tree : {s : Sort} → OccurrenceSet → Tree Name factor → ℕ → Tree Name s → Tree Name s
inline_in_tree uses v k none = none
inline_in_tree uses v k (one t) = one (inline_in_tree uses v k t)
inline_in_tree uses v k end = end
inline_in_tree uses v k (more t ts) =
    more (inline_in_tree uses v k t) (inline_in_tree uses v (k + length (occurrences t)) ts)
inline_in_tree uses v k (compares left compared) =
    compares (inline_in_tree uses v k left) (inline_in_tree uses v (k + length (occurrences left)) compared)
inline_in_tree uses v k (relates relation right) = relates relation (inline_in_tree uses v k right)
inline_in_tree uses v k (sum sign first terms) =
    sum sign (inline_in_tree uses v k first) (inline_in_tree uses v (k + length (occurrences first)) terms)
inline_in_tree uses v k (adds operator t) = adds operator (inline_in_tree uses v k t)
inline_in_tree uses v k (product first factors) =
    product (inline_in_tree uses v k first) (inline_in_tree uses v (k + length (occurrences first)) factors)
inline_in_tree uses v k (multiplies operator t) = multiplies operator (inline_in_tree uses v k t)
inline_in_tree uses v k (designator x end) = if uses k then v else designator x end
inline_in_tree uses v k (designator x (more s rest)) =
    designator x (inline_in_tree uses v (suc k) (more s rest))
inline_in_tree uses v k (integer n) = integer n
inline_in_tree uses v k (parenthesised e) = parenthesised (inline_in_tree uses v k e)
inline_in_tree uses v k (negation t) = negation (inline_in_tree uses v k t)
inline_in_tree uses v k (field name) = field name
inline_in_tree uses v k (index e) = index (inline_in_tree uses v k e)
inline_in_tree uses v k empty = empty
inline_in_tree uses v k (assigns name selectors e) =
    assigns name (inline_in_tree uses v (suc k) selectors)
    (inline_in_tree uses v (suc k + length (occurrences selectors)) e)
inline_in_tree uses v k (calls name args) = calls name (inline_in_tree uses v (suc k) args)
inline_in_tree uses v k (branches condition s elsifs rest) =
    branches (inline_in_tree uses v k condition)
    (inline_in_tree uses v (k + length (occurrences condition)) s)
    (inline_in_tree uses v (k + length (occurrences condition) + length (occurrences s)) elsifs)
    (inline_in_tree uses v
    (k + length (occurrences condition) + length (occurrences s) + length (occurrences elsifs))
    rest)
inline_in_tree uses v k (while_loop condition s) =
    while_loop (inline_in_tree uses v k condition)
    (inline_in_tree uses v (k + length (occurrences condition)) s)
inline_in_tree uses v k (repeat_loop s condition) =
    repeat_loop (inline_in_tree uses v k s) (inline_in_tree uses v (k + length (occurrences s)) condition)
inline_in_tree uses v k no_arguments = no_arguments
inline_in_tree uses v k (some_arguments e es) =
    some_arguments (inline_in_tree uses v k e) (inline_in_tree uses v (k + length (occurrences e)) es)
inline_in_tree uses v k (comma_then_argument e) = comma_then_argument (inline_in_tree uses v k e)
inline_in_tree uses v k (runs first statements) =
    runs (inline_in_tree uses v k first) (inline_in_tree uses v (k + length (occurrences first)) statements)
inline_in_tree uses v k (semicolon_then_statement s) = semicolon_then_statement (inline_in_tree uses v k s)
inline_in_tree uses v k (elsif_branch condition s) =
    elsif_branch (inline_in_tree uses v k condition)
    (inline_in_tree uses v (k + length (occurrences condition)) s)
inline_in_tree uses v k (else_branch s) = else_branch (inline_in_tree uses v k s)
inline_in_tree uses v k (listed name others) = listed name (inline_in_tree uses v k others)
inline_in_tree uses v k (comma_then_name name) = comma_then_name name
inline_in_tree uses v k (named_type name) = named_type name
inline_in_tree uses v k (array_type size t) =
    array_type (inline_in_tree uses v k size) (inline_in_tree uses v (k + length (occurrences size)) t)
inline_in_tree uses v k (record_type first others) =
    record_type (inline_in_tree uses v k first)
    (inline_in_tree uses v (k + length (occurrences first)) others)
inline_in_tree uses v k no_fields = no_fields
inline_in_tree uses v k (some_fields ns t) = some_fields ns (inline_in_tree uses v k t)
inline_in_tree uses v k (semicolon_then_fields fs) = semicolon_then_fields (inline_in_tree uses v k fs)
inline_in_tree uses v k no_formals = no_formals
inline_in_tree uses v k (some_formals first others) =
    some_formals (inline_in_tree uses v k first)
    (inline_in_tree uses v (k + length (occurrences first)) others)
inline_in_tree uses v k (value_section ns t) = value_section ns (inline_in_tree uses v k t)
inline_in_tree uses v k (variable_section ns t) = variable_section ns (inline_in_tree uses v k t)
inline_in_tree uses v k (semicolon_then_section s) = semicolon_then_section (inline_in_tree uses v k s)
inline_in_tree uses v k (declares_constant name e) = declares_constant name (inline_in_tree uses v k e)
inline_in_tree uses v k (declares_const_section cs) = declares_const_section (inline_in_tree uses v k cs)
inline_in_tree uses v k (declares_type name t) = declares_type name (inline_in_tree uses v k t)
inline_in_tree uses v k (declares_type_section ts) = declares_type_section (inline_in_tree uses v k ts)
inline_in_tree uses v k (declares_variable ns t) = declares_variable ns (inline_in_tree uses v k t)
inline_in_tree uses v k (declares_var_section vs) = declares_var_section (inline_in_tree uses v k vs)
inline_in_tree uses v k (declares_procedure name fs b closing) =
    declares_procedure name (inline_in_tree uses v k fs)
    (inline_in_tree uses v (k + length (occurrences fs)) b) closing
inline_in_tree uses v k (declares cs ts vs ps) =
    declares (inline_in_tree uses v k cs) (inline_in_tree uses v (k + length (occurrences cs)) ts)
    (inline_in_tree uses v (k + length (occurrences cs) + length (occurrences ts)) vs)
    (inline_in_tree uses v
    (k + length (occurrences cs) + length (occurrences ts) + length (occurrences vs)) ps)
inline_in_tree uses v k (begins s) = begins (inline_in_tree uses v k s)
inline_in_tree uses v k (forms_block ds b) =
    forms_block (inline_in_tree uses v k ds) (inline_in_tree uses v (k + length (occurrences ds)) b)
inline_in_tree uses v k (forms_module name b closing) = forms_module name (inline_in_tree uses v k b) closing

-- Returns the module in which the factor `v` replaces each whole factor in the set `uses`. A whole
-- factor is a name without selectors in an expression.
abbrev pub inlined : Tree Name module_text → OccurrenceSet → Tree Name factor → Tree Name module_text
inlined m uses v = inline_in_tree uses v 0 m

-- returns a list of constants without the constant with ordinal `d`; `k` is the ordinal of the first constant in the
-- list
abbrev pub constant_list_without_constant : ℕ → ℕ → Tree Name (items constant) → Tree Name (items constant)
constant_list_without_constant d k end = end
constant_list_without_constant d k (more c cs) = if k == d then cs else more c (constant_list_without_constant d (suc k) cs)

-- returns an optional CONST section without the constant with ordinal `d`; `k` is the ordinal of
-- the section's first constant
abbrev pub section_without_constant : ℕ → ℕ → Tree Name (maybe constants) → Tree Name (maybe constants)
section_without_constant d k none = none
section_without_constant d k (one (declares_const_section cs)) = one (declares_const_section (constant_list_without_constant d k cs))

-- Returns a block without the constant with ordinal `d`. The word CONST remains even if no constant is left.
abbrev mutual
  -- returns a block without the constant with ordinal `d`; the block's first declaration has ordinal `k`
  pub block_without_constant : ℕ → ℕ → Tree Name block → Tree Name block
  block_without_constant d k (forms_block (declares cs ts vs ps) statements) =
      forms_block (declares (section_without_constant d k cs) ts vs (procedure_list_without_constant d
      (first_procedure_ordinal k (forms_block (declares cs ts vs ps) statements)) ps)) statements

  -- returns procedures without the constant with ordinal `d`; the first procedure has ordinal `k`
  pub procedure_list_without_constant : ℕ → ℕ → Tree Name (items procedure) → Tree Name (items procedure)
  procedure_list_without_constant d k end = end
  procedure_list_without_constant d k (more p rest) =
      more (procedure_without_constant d (suc k) p) (procedure_list_without_constant d (ordinal_after_procedure (suc k) p) rest)

  -- returns a procedure without the constant with ordinal `d`; the procedure itself has ordinal `k - 1`, and its first
  -- parameter has ordinal `k`
  pub procedure_without_constant : ℕ → ℕ → Tree Name (item procedure) → Tree Name (item procedure)
  procedure_without_constant d k (declares_procedure x fs b closing) =
      declares_procedure x fs
      (block_without_constant d (ordinal_after_names k (formal_parameter_names (formal_parameter_sections fs))) b) closing

-- returns a module without the declaration of the constant with ordinal `d`
abbrev pub module_without_constant : ℕ → Tree Name module_text → Tree Name module_text
module_without_constant d (forms_module x b closing) = forms_module x (block_without_constant d predeclared_count b) closing

-- returns the set that contains only the occurrence with number `occurrence`
abbrev pub set_of_one_occurrence : ℕ → OccurrenceSet
set_of_one_occurrence occurrence k = k == occurrence

-- returns the set of the occurrences that are bound to the declaration with ordinal `d`
abbrev pub occurrences_bound_to_ordinal : Tree Name module_text → ℕ → OccurrenceSet
occurrences_bound_to_ordinal m d k = same_ordinal (ordinal_bound_at_occurrence m k) d

-- Returns the module without the declaration of the constant with ordinal `d`. The factor `v`
-- replaces each use of this constant that is a whole factor, that is, a name without selectors.
abbrev pub module_with_constant_inlined_everywhere : Tree Name module_text → ℕ → Tree Name factor → Tree Name module_text
module_with_constant_inlined_everywhere m d v = module_without_constant d (inlined m (occurrences_bound_to_ordinal m d) v)
