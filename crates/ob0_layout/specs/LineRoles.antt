-- Defines the line role of each token of a tree: whether the token begins a line, and whether a
-- space may stand next to it.
-- Rule: docs/LANGUAGE.md, Layout 2 to 4.
use Rattle.std.specs.Prelude.{ℕ, ◌+◌, Bool, true, false, Option, Some, None, List, [], ◌∷◌, ◌++◌}
use Rattle.ob0_tree.specs.declared.tree.Sign.{Sign}
use Rattle.ob0_tree.specs.Tree.{Sort, Tree, none, one, end, more, compares, relates, sum, adds, product, multiplies, designator, integer, parenthesised, negation, field, index, empty, assigns, calls, branches, while_loop, repeat_loop, no_arguments, some_arguments, comma_then_argument, runs, semicolon_then_statement, elsif_branch, else_branch, listed, comma_then_name, named_type, array_type, record_type, no_fields, some_fields, semicolon_then_fields, no_formals, some_formals, value_section, variable_section, semicolon_then_section, declares_constant, declares_const_section, declares_type, declares_type_section, declares_variable, declares_var_section, declares_procedure, declares, begins, forms_block, forms_module}
use Rattle.ob0_layout.specs.declared.line_role.LineRole.{LineRole}
use Rattle.ob0_layout.specs.declared.line_role.LineRole.TheVariants.{BeginsLine, OpensParameters, JoinsNextToken, Plain}

-- Returns the list of roles with the first role replaced by `BeginsLine level`. Returns an empty
-- list unchanged.
abbrev pub roles_with_line_start : ℕ → List LineRole → List LineRole
roles_with_line_start level [] = []
roles_with_line_start level (s ∷ ss) = BeginsLine level ∷ ss

-- Returns a list with the role of the sign, or an empty list if there is no sign (None).
abbrev pub optional_sign_role : Option Sign → List LineRole
optional_sign_role None = []
optional_sign_role (Some s) = JoinsNextToken ∷ []

-- Returns a list with the role of the separator that comes before an item of a list. If the
-- argument is true, the item is the first one and has no separator, and the result is empty.
abbrev pub separator_role_unless_first : Bool → List LineRole
separator_role_unless_first true = []
separator_role_unless_first false = Plain ∷ []

-- Returns the line roles of a tree's tokens, in text order. `k` is an indentation level: the level
-- of a statement, or the level of the block for declarations and bodies. The module has level 0,
-- and a procedure is one level deeper than the block that declares it. The statements of a body are
-- one level deeper than its block. Statements inside a statement are one level deeper than that
-- statement. For a construct that never begins a line, such as an expression, `k` is 0 and isn't
-- used.
abbrev pub line_roles : {N : Type 0} {s : Sort} → ℕ → Tree N s → List LineRole
line_roles k none = []
line_roles k (one t) = line_roles k t
line_roles k end = []
line_roles k (more t ts) = line_roles k t ++ line_roles k ts
line_roles k (compares left compared) = line_roles k left ++ line_roles k compared
line_roles k (relates relation right) = Plain ∷ line_roles k right
line_roles k (sum sign first terms) = optional_sign_role sign ++ (line_roles k first ++ line_roles k terms)
line_roles k (adds operator t) = Plain ∷ line_roles k t
line_roles k (product first factors) = line_roles k first ++ line_roles k factors
line_roles k (multiplies operator f) = Plain ∷ line_roles k f
line_roles k (designator name selectors) = Plain ∷ line_roles k selectors
line_roles k (integer n) = Plain ∷ []
line_roles k (parenthesised e) = Plain ∷ (line_roles k e ++ (Plain ∷ []))
line_roles k (negation f) = Plain ∷ line_roles k f
line_roles k (field name) = JoinsNextToken ∷ Plain ∷ []
line_roles k (index e) = Plain ∷ (line_roles k e ++ (Plain ∷ []))
line_roles k empty = []
line_roles k (assigns name selectors e) =
    BeginsLine k ∷ (line_roles 0 selectors ++ (Plain ∷ line_roles 0 e))
line_roles k (calls name args) = BeginsLine k ∷ line_roles 0 args
line_roles k (branches condition s elsifs rest) =
    BeginsLine k
    ∷ (line_roles 0 condition
    ++ (Plain
    ∷ (line_roles (k + 1) s
    ++ (line_roles k elsifs ++ (line_roles k rest ++ (BeginsLine k ∷ []))))))
line_roles k (while_loop condition s) =
    BeginsLine k ∷ (line_roles 0 condition ++ (Plain ∷ (line_roles (k + 1) s ++ (BeginsLine k ∷ []))))
line_roles k (repeat_loop s condition) =
    BeginsLine k ∷ (line_roles (k + 1) s ++ (BeginsLine k ∷ line_roles 0 condition))
line_roles k no_arguments = OpensParameters ∷ Plain ∷ []
line_roles k (some_arguments e es) = OpensParameters ∷ (line_roles k e ++ (line_roles k es ++ (Plain ∷ [])))
line_roles k (comma_then_argument e) = Plain ∷ line_roles k e
line_roles k (runs first statements) = line_roles k first ++ line_roles k statements
line_roles k (semicolon_then_statement s) = Plain ∷ line_roles k s
line_roles k (elsif_branch condition s) =
    BeginsLine k ∷ (line_roles 0 condition ++ (Plain ∷ line_roles (k + 1) s))
line_roles k (else_branch s) = BeginsLine k ∷ line_roles (k + 1) s
line_roles k (listed name others) = Plain ∷ line_roles k others
line_roles k (comma_then_name name) = Plain ∷ Plain ∷ []
line_roles k (named_type name) = Plain ∷ []
line_roles k (array_type size t) = Plain ∷ (line_roles k size ++ (Plain ∷ line_roles k t))
line_roles k (record_type first others) =
    Plain ∷ (line_roles k first ++ (line_roles k others ++ (Plain ∷ [])))
line_roles k no_fields = []
line_roles k (some_fields ns t) = line_roles k ns ++ (Plain ∷ line_roles k t)
line_roles k (semicolon_then_fields f) = Plain ∷ line_roles k f
line_roles k no_formals = OpensParameters ∷ Plain ∷ []
line_roles k (some_formals first others) =
    OpensParameters ∷ (line_roles k first ++ (line_roles k others ++ (Plain ∷ [])))
line_roles k (value_section ns t) = line_roles k ns ++ (Plain ∷ line_roles k t)
line_roles k (variable_section ns t) = Plain ∷ (line_roles k ns ++ (Plain ∷ line_roles k t))
line_roles k (semicolon_then_section s) = Plain ∷ line_roles k s
line_roles k (declares_constant name e) =
    BeginsLine (k + 1) ∷ Plain ∷ (line_roles 0 e ++ (Plain ∷ []))
line_roles k (declares_const_section cs) = BeginsLine k ∷ line_roles k cs
line_roles k (declares_type name t) = BeginsLine (k + 1) ∷ Plain ∷ (line_roles 0 t ++ (Plain ∷ []))
line_roles k (declares_type_section ts) = BeginsLine k ∷ line_roles k ts
line_roles k (declares_variable ns t) =
    roles_with_line_start (k + 1) (line_roles 0 ns) ++ (Plain ∷ (line_roles 0 t ++ (Plain ∷ [])))
line_roles k (declares_var_section vs) = BeginsLine k ∷ line_roles k vs
line_roles k (declares_procedure name fs b closing) =
    BeginsLine (k + 1)
    ∷ Plain
    ∷ (line_roles 0 fs
    ++ (Plain ∷ (line_roles (k + 1) b ++ (BeginsLine (k + 1) ∷ Plain ∷ Plain ∷ []))))
line_roles k (declares cs ts vs ps) =
    line_roles k cs ++ (line_roles k ts ++ (line_roles k vs ++ line_roles k ps))
line_roles k (begins s) = BeginsLine k ∷ line_roles (k + 1) s
line_roles k (forms_block ds b) = line_roles k ds ++ line_roles k b
line_roles k (forms_module name b closing) =
    BeginsLine k ∷ Plain ∷ Plain ∷ (line_roles k b ++ (BeginsLine k ∷ Plain ∷ Plain ∷ []))
