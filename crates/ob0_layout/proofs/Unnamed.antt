-- Proves that the line roles of a tree don't depend on its names.
use Rattle.std.proofs.Common.{◌≡◌, ℕ, ◌+◌, [], ◌∷◌, ◌++◌, refl}
use Rattle.ob0_tree.specs.Tree.{Sort, Tree, one, more, compares, relates, sum, adds, product, multiplies, designator, parenthesised, negation, index, assigns, calls, branches, while_loop, repeat_loop, some_arguments, comma_then_argument, runs, semicolon_then_statement, elsif_branch, else_branch, listed, array_type, record_type, some_fields, semicolon_then_fields, some_formals, value_section, variable_section, semicolon_then_section, declares_constant, declares_const_section, declares_type, declares_type_section, declares_variable, declares_var_section, declares_procedure, declares, begins, forms_block, forms_module, mapped_tree}
use Rattle.ob0_layout.specs.declared.line_role.LineRole.TheVariants.{BeginsLine, OpensParameters, Plain}
use Rattle.ob0_layout.specs.LineRoles.{line_roles, roles_with_line_start, optional_sign_role}

pub roles_mapped : {N M : Type 0} {s : Sort} (u : N → M) (v : ℕ → ℕ) (k : ℕ) (t : Tree N s) → line_roles k (mapped_tree u v t) ≡ line_roles k t
roles_mapped u v k (one t) = λ j. roles_mapped u v k t j
roles_mapped u v k (more t ts) = λ j. roles_mapped u v k t j ++ roles_mapped u v k ts j
roles_mapped u v k (compares left compared) = λ j. roles_mapped u v k left j ++ roles_mapped u v k compared j
roles_mapped u v k (relates relation right) = λ j. Plain ∷ roles_mapped u v k right j
roles_mapped u v k (sum sign first terms) = λ j. optional_sign_role sign ++ (roles_mapped u v k first j ++ roles_mapped u v k terms j)
roles_mapped u v k (adds operator t) = λ j. Plain ∷ roles_mapped u v k t j
roles_mapped u v k (product first factors) = λ j. roles_mapped u v k first j ++ roles_mapped u v k factors j
roles_mapped u v k (multiplies operator f) = λ j. Plain ∷ roles_mapped u v k f j
roles_mapped u v k (designator name selectors) = λ j. Plain ∷ roles_mapped u v k selectors j
roles_mapped u v k (parenthesised e) = λ j. Plain ∷ (roles_mapped u v k e j ++ (Plain ∷ []))
roles_mapped u v k (negation f) = λ j. Plain ∷ roles_mapped u v k f j
roles_mapped u v k (index e) = λ j. Plain ∷ (roles_mapped u v k e j ++ (Plain ∷ []))
roles_mapped u v k (assigns name selectors e) = λ j. BeginsLine k ∷ (roles_mapped u v 0 selectors j ++ (Plain ∷ roles_mapped u v 0 e j))
roles_mapped u v k (calls name args) = λ j. BeginsLine k ∷ roles_mapped u v 0 args j
roles_mapped u v k (branches condition s elsifs rest) = λ j. BeginsLine k ∷ (roles_mapped u v 0 condition j ++ (Plain ∷ (roles_mapped u v (k + 1) s j ++ (roles_mapped u v k elsifs j ++ (roles_mapped u v k rest j ++ (BeginsLine k ∷ []))))))
roles_mapped u v k (while_loop condition s) = λ j. BeginsLine k ∷ (roles_mapped u v 0 condition j ++ (Plain ∷ (roles_mapped u v (k + 1) s j ++ (BeginsLine k ∷ []))))
roles_mapped u v k (repeat_loop s condition) = λ j. BeginsLine k ∷ (roles_mapped u v (k + 1) s j ++ (BeginsLine k ∷ roles_mapped u v 0 condition j))
roles_mapped u v k (some_arguments e es) = λ j. OpensParameters ∷ (roles_mapped u v k e j ++ (roles_mapped u v k es j ++ (Plain ∷ [])))
roles_mapped u v k (comma_then_argument e) = λ j. Plain ∷ roles_mapped u v k e j
roles_mapped u v k (runs first statements) = λ j. roles_mapped u v k first j ++ roles_mapped u v k statements j
roles_mapped u v k (semicolon_then_statement s) = λ j. Plain ∷ roles_mapped u v k s j
roles_mapped u v k (elsif_branch condition s) = λ j. BeginsLine k ∷ (roles_mapped u v 0 condition j ++ (Plain ∷ roles_mapped u v (k + 1) s j))
roles_mapped u v k (else_branch s) = λ j. BeginsLine k ∷ roles_mapped u v (k + 1) s j
roles_mapped u v k (listed name others) = λ j. Plain ∷ roles_mapped u v k others j
roles_mapped u v k (array_type size t) = λ j. Plain ∷ (roles_mapped u v k size j ++ (Plain ∷ roles_mapped u v k t j))
roles_mapped u v k (record_type first others) = λ j. Plain ∷ (roles_mapped u v k first j ++ (roles_mapped u v k others j ++ (Plain ∷ [])))
roles_mapped u v k (some_fields ns t) = λ j. roles_mapped u v k ns j ++ (Plain ∷ roles_mapped u v k t j)
roles_mapped u v k (semicolon_then_fields f) = λ j. Plain ∷ roles_mapped u v k f j
roles_mapped u v k (some_formals first others) = λ j. OpensParameters ∷ (roles_mapped u v k first j ++ (roles_mapped u v k others j ++ (Plain ∷ [])))
roles_mapped u v k (value_section ns t) = λ j. roles_mapped u v k ns j ++ (Plain ∷ roles_mapped u v k t j)
roles_mapped u v k (variable_section ns t) = λ j. Plain ∷ (roles_mapped u v k ns j ++ (Plain ∷ roles_mapped u v k t j))
roles_mapped u v k (semicolon_then_section s) = λ j. Plain ∷ roles_mapped u v k s j
roles_mapped u v k (declares_constant name e) = λ j. BeginsLine (k + 1) ∷ Plain ∷ (roles_mapped u v 0 e j ++ (Plain ∷ []))
roles_mapped u v k (declares_const_section cs) = λ j. BeginsLine k ∷ roles_mapped u v k cs j
roles_mapped u v k (declares_type name t) = λ j. BeginsLine (k + 1) ∷ Plain ∷ (roles_mapped u v 0 t j ++ (Plain ∷ []))
roles_mapped u v k (declares_type_section ts) = λ j. BeginsLine k ∷ roles_mapped u v k ts j
roles_mapped u v k (declares_variable ns t) = λ j. roles_with_line_start (k + 1) (roles_mapped u v 0 ns j) ++ (Plain ∷ (roles_mapped u v 0 t j ++ (Plain ∷ [])))
roles_mapped u v k (declares_var_section vs) = λ j. BeginsLine k ∷ roles_mapped u v k vs j
roles_mapped u v k (declares_procedure name fs b closing) = λ j. BeginsLine (k + 1) ∷ Plain ∷ (roles_mapped u v 0 fs j ++ (Plain ∷ (roles_mapped u v (k + 1) b j ++ (BeginsLine (k + 1) ∷ Plain ∷ Plain ∷ []))))
roles_mapped u v k (declares cs ts vs ps) = λ j. roles_mapped u v k cs j ++ (roles_mapped u v k ts j ++ (roles_mapped u v k vs j ++ roles_mapped u v k ps j))
roles_mapped u v k (begins s) = λ j. BeginsLine k ∷ roles_mapped u v (k + 1) s j
roles_mapped u v k (forms_block ds b) = λ j. roles_mapped u v k ds j ++ roles_mapped u v k b j
roles_mapped u v k (forms_module name b closing) = λ j. BeginsLine k ∷ Plain ∷ Plain ∷ (roles_mapped u v k b j ++ (BeginsLine k ∷ Plain ∷ Plain ∷ []))
roles_mapped u v k _ = refl
