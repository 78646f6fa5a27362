-- Proves that two trees of one shape are equal if their leaves have the same names.
use Rattle.std.proofs.Common.{◌≡◌, ℕ, List, [], ◌∷◌, ◌++◌, refl}
use Rattle.ob0_tree.specs.declared.tree.Role.{Role}
use Rattle.ob0_tree.specs.declared.tree.Role.TheVariants as role
use Rattle.ob0_tree.specs.Tree.{Sort, Tree, identifiers, mapped_tree, adds, array_type, assigns, begins, branches, calls, compares, declares, declares_constant, declares_const_section, declares_procedure, declares_type, declares_type_section, declares_variable, declares_var_section, designator, else_branch, elsif_branch, empty, end, field, forms_block, index, integer, forms_module, listed, more, multiplies, named_type, negation, no_arguments, no_fields, no_formals, none, one, parenthesised, product, record_type, relates, repeat_loop, runs, some_arguments, some_fields, some_formals, sum, comma_then_argument, semicolon_then_fields, comma_then_name, semicolon_then_section, semicolon_then_statement, value_section, variable_section, while_loop}

pub record Two (P Q : Type 0) : Type 0 where
  pub first : P
  pub second : Q

module _ {M : Type 0} (f f' : ℕ → M) (g : ℕ → ℕ) where
  abbrev pub AllAlike : List (Role × ℕ) → Type 0
  AllAlike [] = Unit {0}
  AllAlike (x ∷ xs) = (f x.1 ≡ f' x.1) × AllAlike xs

  alike_first : (xs ys : List (Role × ℕ)) → AllAlike (xs ++ ys) → AllAlike xs × AllAlike ys
  alike_first [] ys h = (tt, h)
  alike_first (x ∷ xs) ys h = let rest = alike_first xs ys h.1 in ((h.0, rest.0), rest.1)

  -- states that P holds if these leaves have the same names
  pub record Reads (xs : List (Role × ℕ)) (P : Type 0) : Type 0 where
    pub reads : AllAlike xs → P

  nothing : {P : Type 0} → P → Reads [] P
  nothing p = record { reads = λ h. p }

  both : {P Q : Type 0} {xs ys : List (Role × ℕ)} → Reads xs P → Reads ys Q → Reads (xs ++ ys) (Two P Q)
  both {xs = xs} {ys = ys} p q = record { reads = λ h. let s = alike_first xs ys h in record { first = p.reads s.0; second = q.reads s.1 } }

  first : {P : Type 0} {r : Role} {x : ℕ} {xs : List (Role × ℕ)} → Reads xs P → Reads ((r, x) ∷ xs) (Two (f x ≡ f' x) P)
  first p = record { reads = λ h. record { first = h.0; second = p.reads h.1 } }

  to : {P Q : Type 0} {xs : List (Role × ℕ)} → Reads xs P → (P → Q) → Reads xs Q
  to p s = record { reads = λ h. s (p.reads h) }

  pub alike : {s : Sort} (r : Role) (t : Tree ℕ s) → Reads (identifiers r t) (mapped_tree f g t ≡ mapped_tree f' g t)
  alike r none = nothing refl
  alike r (one a) = to (alike r a) (λ p i. one (p i))
  alike r end = nothing refl
  alike r (more a b) = to (both (alike r a) (alike r b)) (λ p i. more (p.first i) (p.second i))
  alike r (compares a b) = to (both (alike r a) (alike r b)) (λ p i. compares (p.first i) (p.second i))
  alike r (relates a b) = to (alike r b) (λ p i. relates a (p i))
  alike r (sum a b c) = to (both (alike r b) (alike r c)) (λ p i. sum a (p.first i) (p.second i))
  alike r (adds a b) = to (alike r b) (λ p i. adds a (p i))
  alike r (product a b) = to (both (alike r a) (alike r b)) (λ p i. product (p.first i) (p.second i))
  alike r (multiplies a b) = to (alike r b) (λ p i. multiplies a (p i))
  alike r (designator a b) = to (first (alike r b)) (λ p i. designator (p.first i) (p.second i))
  alike r (integer a) = nothing refl
  alike r (parenthesised a) = to (alike r a) (λ p i. parenthesised (p i))
  alike r (negation a) = to (alike r a) (λ p i. negation (p i))
  alike r (field a) = to (first (nothing {P = Unit {0}} tt)) (λ p i. field (p.first i))
  alike r (index a) = to (alike r a) (λ p i. index (p i))
  alike r empty = nothing refl
  alike r (assigns a b c) = to (first (both (alike r b) (alike r c))) (λ p i. assigns (p.first i) (p.second.first i) (p.second.second i))
  alike r (calls a b) = to (first (alike r b)) (λ p i. calls (p.first i) (p.second i))
  alike r (branches a b c d) = to (both (alike r a) (both (alike r b) (both (alike r c) (alike r d)))) (λ p i. branches (p.first i) (p.second.first i) (p.second.second.first i) (p.second.second.second i))
  alike r (while_loop a b) = to (both (alike r a) (alike r b)) (λ p i. while_loop (p.first i) (p.second i))
  alike r (repeat_loop a b) = to (both (alike r a) (alike r b)) (λ p i. repeat_loop (p.first i) (p.second i))
  alike r no_arguments = nothing refl
  alike r (some_arguments a b) = to (both (alike r a) (alike r b)) (λ p i. some_arguments (p.first i) (p.second i))
  alike r (comma_then_argument a) = to (alike r a) (λ p i. comma_then_argument (p i))
  alike r (runs a b) = to (both (alike r a) (alike r b)) (λ p i. runs (p.first i) (p.second i))
  alike r (semicolon_then_statement a) = to (alike r a) (λ p i. semicolon_then_statement (p i))
  alike r (elsif_branch a b) = to (both (alike r a) (alike r b)) (λ p i. elsif_branch (p.first i) (p.second i))
  alike r (else_branch a) = to (alike r a) (λ p i. else_branch (p i))
  alike r (listed a b) = to (first (alike r b)) (λ p i. listed (p.first i) (p.second i))
  alike r (comma_then_name a) = to (first (nothing {P = Unit {0}} tt)) (λ p i. comma_then_name (p.first i))
  alike r (named_type a) = to (first (nothing {P = Unit {0}} tt)) (λ p i. named_type (p.first i))
  alike r (array_type a b) = to (both (alike r a) (alike r b)) (λ p i. array_type (p.first i) (p.second i))
  alike r (record_type a b) = to (both (alike r a) (alike r b)) (λ p i. record_type (p.first i) (p.second i))
  alike r no_fields = nothing refl
  alike r (some_fields a b) = to (both (alike role.FieldName a) (alike r b)) (λ p i. some_fields (p.first i) (p.second i))
  alike r (semicolon_then_fields a) = to (alike r a) (λ p i. semicolon_then_fields (p i))
  alike r no_formals = nothing refl
  alike r (some_formals a b) = to (both (alike r a) (alike r b)) (λ p i. some_formals (p.first i) (p.second i))
  alike r (value_section a b) = to (both (alike role.DeclaringName a) (alike r b)) (λ p i. value_section (p.first i) (p.second i))
  alike r (variable_section a b) = to (both (alike role.DeclaringName a) (alike r b)) (λ p i. variable_section (p.first i) (p.second i))
  alike r (semicolon_then_section a) = to (alike r a) (λ p i. semicolon_then_section (p i))
  alike r (declares_constant a b) = to (first (alike r b)) (λ p i. declares_constant (p.first i) (p.second i))
  alike r (declares_const_section a) = to (alike r a) (λ p i. declares_const_section (p i))
  alike r (declares_type a b) = to (first (alike r b)) (λ p i. declares_type (p.first i) (p.second i))
  alike r (declares_type_section a) = to (alike r a) (λ p i. declares_type_section (p i))
  alike r (declares_variable a b) = to (both (alike role.DeclaringName a) (alike r b)) (λ p i. declares_variable (p.first i) (p.second i))
  alike r (declares_var_section a) = to (alike r a) (λ p i. declares_var_section (p i))
  alike r (declares_procedure a b c d) = to (first (both (alike r b) (both (alike r c) (first (nothing {P = Unit {0}} tt))))) (λ p i. declares_procedure (p.first i) (p.second.first i) (p.second.second.first i) (p.second.second.second.first i))
  alike r (declares a b c d) = to (both (alike r a) (both (alike r b) (both (alike r c) (alike r d)))) (λ p i. declares (p.first i) (p.second.first i) (p.second.second.first i) (p.second.second.second i))
  alike r (begins a) = to (alike r a) (λ p i. begins (p i))
  alike r (forms_block a b) = to (both (alike r a) (alike r b)) (λ p i. forms_block (p.first i) (p.second i))
  alike r (forms_module a b c) = to (first (both (alike r b) (first (nothing {P = Unit {0}} tt)))) (λ p i. forms_module (p.first i) (p.second.first i) (p.second.second.first i))
