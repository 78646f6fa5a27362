-- Proves that two replacements of a tree's names that agree on its tokens give the same tree.
use Rattle.std.proofs.Common.{◌≡◌, ℕ, refl}
use Rattle.ob0_tree.specs.Tree.{Sort, Tree, adds, array_type, assigns, begins, branches, calls, compares, declares, declares_constant, declares_const_section, declares_procedure, declares_type, declares_type_section, declares_variable, declares_var_section, designator, else_branch, elsif_branch, empty, end, field, forms_block, index, integer, forms_module, listed, mapped_tree, more, multiplies, named_type, negation, no_arguments, no_fields, no_formals, none, one, parenthesised, product, record_type, relates, repeat_loop, runs, some_arguments, some_fields, some_formals, sum, comma_then_argument, semicolon_then_fields, comma_then_name, semicolon_then_section, semicolon_then_statement, value_section, variable_section, while_loop}
use Rattle.ob0_scope_table.specs.TokenProperty.{EachTokenSatisfies}

-- Two replacements that agree on each token give the same tree.
module _ {M : Type 0} (P : ℕ → Type 0) (f u : ℕ → M) (g v : ℕ → ℕ) (names : (k : ℕ) → P k → f k ≡ u k) (numbers : (k : ℕ) → P k → g k ≡ v k) where
  pub mapped_alike : {s : Sort} (t : Tree ℕ s) → EachTokenSatisfies P t → mapped_tree f g t ≡ mapped_tree u v t
  mapped_alike none h = refl
  mapped_alike (one t) h = λ i. one (mapped_alike t h i)
  mapped_alike end h = refl
  mapped_alike (more t ts) h = λ i. more (mapped_alike t h.0 i) (mapped_alike ts h.1 i)
  mapped_alike (compares left compared) h = λ i. compares (mapped_alike left h.0 i) (mapped_alike compared h.1 i)
  mapped_alike (relates relation right) h = λ i. relates relation (mapped_alike right h i)
  mapped_alike (sum sign first terms) h = λ i. sum sign (mapped_alike first h.0 i) (mapped_alike terms h.1 i)
  mapped_alike (adds operator t) h = λ i. adds operator (mapped_alike t h i)
  mapped_alike (product first factors) h = λ i. product (mapped_alike first h.0 i) (mapped_alike factors h.1 i)
  mapped_alike (multiplies operator t) h = λ i. multiplies operator (mapped_alike t h i)
  mapped_alike (designator name selectors) h = λ i. designator (names name h.0 i) (mapped_alike selectors h.1 i)
  mapped_alike (integer n) h = λ i. integer (numbers n h i)
  mapped_alike (parenthesised e) h = λ i. parenthesised (mapped_alike e h i)
  mapped_alike (negation t) h = λ i. negation (mapped_alike t h i)
  mapped_alike (field name) h = λ i. field (names name h i)
  mapped_alike (index e) h = λ i. index (mapped_alike e h i)
  mapped_alike empty h = refl
  mapped_alike (assigns name selectors e) h = λ i. assigns (names name h.0 i) (mapped_alike selectors h.1 i) (mapped_alike e h.2 i)
  mapped_alike (calls name args) h = λ i. calls (names name h.0 i) (mapped_alike args h.1 i)
  mapped_alike (branches condition s elsifs rest) h = λ i. branches (mapped_alike condition h.0 i) (mapped_alike s h.1 i) (mapped_alike elsifs h.2 i) (mapped_alike rest h.3 i)
  mapped_alike (while_loop condition s) h = λ i. while_loop (mapped_alike condition h.0 i) (mapped_alike s h.1 i)
  mapped_alike (repeat_loop s condition) h = λ i. repeat_loop (mapped_alike s h.0 i) (mapped_alike condition h.1 i)
  mapped_alike no_arguments h = refl
  mapped_alike (some_arguments e es) h = λ i. some_arguments (mapped_alike e h.0 i) (mapped_alike es h.1 i)
  mapped_alike (comma_then_argument e) h = λ i. comma_then_argument (mapped_alike e h i)
  mapped_alike (runs first statements) h = λ i. runs (mapped_alike first h.0 i) (mapped_alike statements h.1 i)
  mapped_alike (semicolon_then_statement s) h = λ i. semicolon_then_statement (mapped_alike s h i)
  mapped_alike (elsif_branch condition s) h = λ i. elsif_branch (mapped_alike condition h.0 i) (mapped_alike s h.1 i)
  mapped_alike (else_branch s) h = λ i. else_branch (mapped_alike s h i)
  mapped_alike (listed name others) h = λ i. listed (names name h.0 i) (mapped_alike others h.1 i)
  mapped_alike (comma_then_name name) h = λ i. comma_then_name (names name h i)
  mapped_alike (named_type name) h = λ i. named_type (names name h i)
  mapped_alike (array_type size t) h = λ i. array_type (mapped_alike size h.0 i) (mapped_alike t h.1 i)
  mapped_alike (record_type first others) h = λ i. record_type (mapped_alike first h.0 i) (mapped_alike others h.1 i)
  mapped_alike no_fields h = refl
  mapped_alike (some_fields ns t) h = λ i. some_fields (mapped_alike ns h.0 i) (mapped_alike t h.1 i)
  mapped_alike (semicolon_then_fields fs) h = λ i. semicolon_then_fields (mapped_alike fs h i)
  mapped_alike no_formals h = refl
  mapped_alike (some_formals first others) h = λ i. some_formals (mapped_alike first h.0 i) (mapped_alike others h.1 i)
  mapped_alike (value_section ns t) h = λ i. value_section (mapped_alike ns h.0 i) (mapped_alike t h.1 i)
  mapped_alike (variable_section ns t) h = λ i. variable_section (mapped_alike ns h.0 i) (mapped_alike t h.1 i)
  mapped_alike (semicolon_then_section s) h = λ i. semicolon_then_section (mapped_alike s h i)
  mapped_alike (declares_constant name e) h = λ i. declares_constant (names name h.0 i) (mapped_alike e h.1 i)
  mapped_alike (declares_const_section cs) h = λ i. declares_const_section (mapped_alike cs h i)
  mapped_alike (declares_type name t) h = λ i. declares_type (names name h.0 i) (mapped_alike t h.1 i)
  mapped_alike (declares_type_section ts) h = λ i. declares_type_section (mapped_alike ts h i)
  mapped_alike (declares_variable ns t) h = λ i. declares_variable (mapped_alike ns h.0 i) (mapped_alike t h.1 i)
  mapped_alike (declares_var_section vs) h = λ i. declares_var_section (mapped_alike vs h i)
  mapped_alike (declares_procedure name fs b closing) h = λ i. declares_procedure (names name h.0 i) (mapped_alike fs h.1 i) (mapped_alike b h.2 i) (names closing h.3 i)
  mapped_alike (declares cs ts vs ps) h = λ i. declares (mapped_alike cs h.0 i) (mapped_alike ts h.1 i) (mapped_alike vs h.2 i) (mapped_alike ps h.3 i)
  mapped_alike (begins s) h = λ i. begins (mapped_alike s h i)
  mapped_alike (forms_block ds b) h = λ i. forms_block (mapped_alike ds h.0 i) (mapped_alike b h.1 i)
  mapped_alike (forms_module name b closing) h = λ i. forms_module (names name h.0 i) (mapped_alike b h.1 i) (names closing h.2 i)
