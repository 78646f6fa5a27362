-- Defines when the tokens of all names and numbers in a tree have a property, for example that
-- their spellings are unchanged.
-- Rule: none; used in contracts about changes of a tree's names and numbers.
use Rattle.std.specs.Prelude.{ℕ}
use Rattle.ob0_tree.specs.Tree.{Sort, Tree, adds, array_type, assigns, begins, branches, calls, compares, declares, declares_constant, declares_const_section, declares_procedure, declares_type, declares_type_section, declares_variable, declares_var_section, designator, else_branch, elsif_branch, empty, end, field, forms_block, index, integer, forms_module, listed, more, multiplies, named_type, negation, no_arguments, no_fields, no_formals, none, one, parenthesised, product, record_type, relates, repeat_loop, runs, some_arguments, some_fields, some_formals, sum, comma_then_argument, semicolon_then_fields, comma_then_name, semicolon_then_section, semicolon_then_statement, value_section, variable_section, while_loop}

-- states that the token of each name and of each number in a tree has the property `P`
abbrev pub EachTokenSatisfies : {s : Sort} → (ℕ → Type 0) → Tree ℕ s → Type 0
EachTokenSatisfies P none = Unit {0}
EachTokenSatisfies P (one t) = EachTokenSatisfies P t
EachTokenSatisfies P end = Unit {0}
EachTokenSatisfies P (more t ts) = EachTokenSatisfies P t × EachTokenSatisfies P ts
EachTokenSatisfies P (compares left compared) = EachTokenSatisfies P left × EachTokenSatisfies P compared
EachTokenSatisfies P (relates relation right) = EachTokenSatisfies P right
EachTokenSatisfies P (sum sign first terms) = EachTokenSatisfies P first × EachTokenSatisfies P terms
EachTokenSatisfies P (adds operator t) = EachTokenSatisfies P t
EachTokenSatisfies P (product first factors) = EachTokenSatisfies P first × EachTokenSatisfies P factors
EachTokenSatisfies P (multiplies operator t) = EachTokenSatisfies P t
EachTokenSatisfies P (designator name selectors) = P name × EachTokenSatisfies P selectors
EachTokenSatisfies P (integer n) = P n
EachTokenSatisfies P (parenthesised e) = EachTokenSatisfies P e
EachTokenSatisfies P (negation t) = EachTokenSatisfies P t
EachTokenSatisfies P (field name) = P name
EachTokenSatisfies P (index e) = EachTokenSatisfies P e
EachTokenSatisfies P empty = Unit {0}
EachTokenSatisfies P (assigns name selectors e) = P name × EachTokenSatisfies P selectors × EachTokenSatisfies P e
EachTokenSatisfies P (calls name args) = P name × EachTokenSatisfies P args
EachTokenSatisfies P (branches condition s elsifs rest) =
    EachTokenSatisfies P condition × EachTokenSatisfies P s × EachTokenSatisfies P elsifs × EachTokenSatisfies P rest
EachTokenSatisfies P (while_loop condition s) = EachTokenSatisfies P condition × EachTokenSatisfies P s
EachTokenSatisfies P (repeat_loop s condition) = EachTokenSatisfies P s × EachTokenSatisfies P condition
EachTokenSatisfies P no_arguments = Unit {0}
EachTokenSatisfies P (some_arguments e es) = EachTokenSatisfies P e × EachTokenSatisfies P es
EachTokenSatisfies P (comma_then_argument e) = EachTokenSatisfies P e
EachTokenSatisfies P (runs first statements) = EachTokenSatisfies P first × EachTokenSatisfies P statements
EachTokenSatisfies P (semicolon_then_statement s) = EachTokenSatisfies P s
EachTokenSatisfies P (elsif_branch condition s) = EachTokenSatisfies P condition × EachTokenSatisfies P s
EachTokenSatisfies P (else_branch s) = EachTokenSatisfies P s
EachTokenSatisfies P (listed name others) = P name × EachTokenSatisfies P others
EachTokenSatisfies P (comma_then_name name) = P name
EachTokenSatisfies P (named_type name) = P name
EachTokenSatisfies P (array_type size t) = EachTokenSatisfies P size × EachTokenSatisfies P t
EachTokenSatisfies P (record_type first others) = EachTokenSatisfies P first × EachTokenSatisfies P others
EachTokenSatisfies P no_fields = Unit {0}
EachTokenSatisfies P (some_fields ns t) = EachTokenSatisfies P ns × EachTokenSatisfies P t
EachTokenSatisfies P (semicolon_then_fields fs) = EachTokenSatisfies P fs
EachTokenSatisfies P no_formals = Unit {0}
EachTokenSatisfies P (some_formals first others) = EachTokenSatisfies P first × EachTokenSatisfies P others
EachTokenSatisfies P (value_section ns t) = EachTokenSatisfies P ns × EachTokenSatisfies P t
EachTokenSatisfies P (variable_section ns t) = EachTokenSatisfies P ns × EachTokenSatisfies P t
EachTokenSatisfies P (semicolon_then_section s) = EachTokenSatisfies P s
EachTokenSatisfies P (declares_constant name e) = P name × EachTokenSatisfies P e
EachTokenSatisfies P (declares_const_section cs) = EachTokenSatisfies P cs
EachTokenSatisfies P (declares_type name t) = P name × EachTokenSatisfies P t
EachTokenSatisfies P (declares_type_section ts) = EachTokenSatisfies P ts
EachTokenSatisfies P (declares_variable ns t) = EachTokenSatisfies P ns × EachTokenSatisfies P t
EachTokenSatisfies P (declares_var_section vs) = EachTokenSatisfies P vs
EachTokenSatisfies P (declares_procedure name fs b closing) =
    P name × EachTokenSatisfies P fs × EachTokenSatisfies P b × P closing
EachTokenSatisfies P (declares cs ts vs ps) =
    EachTokenSatisfies P cs × EachTokenSatisfies P ts × EachTokenSatisfies P vs × EachTokenSatisfies P ps
EachTokenSatisfies P (begins s) = EachTokenSatisfies P s
EachTokenSatisfies P (forms_block ds b) = EachTokenSatisfies P ds × EachTokenSatisfies P b
EachTokenSatisfies P (forms_module name b closing) = P name × EachTokenSatisfies P b × P closing
