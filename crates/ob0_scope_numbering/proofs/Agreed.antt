-- Proves that if a table agrees with the bindings of a part's names, numbering the part gives the
-- part with the table's ordinals. The part's numbers don't matter.
use Rattle.std.proofs.Common.{◌≡◌, ℕ, Option, None, List, [], ◌∷◌, ◌++◌, refl, sym}
use Rattle.ob0_tree.specs.declared.tree.Role.{Role}
use Rattle.ob0_tree.specs.declared.tree.Role.TheVariants as role
use Rattle.ob0_tree.specs.Tree.{Sort, Tree, identifiers, mapped_tree, adds, array_type, assigns, begins, branches, calls, compares, declares, declares_constant, declares_const_section, declares_procedure, declares_type, declares_type_section, declares_variable, declares_var_section, designator, else_branch, elsif_branch, empty, end, field, forms_block, index, integer, forms_module, listed, more, multiplies, named_type, negation, no_arguments, no_fields, no_formals, none, one, parenthesised, product, record_type, relates, repeat_loop, runs, some_arguments, some_fields, some_formals, sum, comma_then_argument, semicolon_then_fields, comma_then_name, semicolon_then_section, semicolon_then_statement, value_section, variable_section, while_loop}
use Rattle.ob0_scope_numbering.specs.IdentifierSpellings.{Spellings, spelling_at_token}
use Rattle.ob0_language_names.specs.Names.{Name, naming_by_spelling}
use Rattle.ob0_language_names.specs.Scopes.{Labelling, Scope, ordinal_in_scope, relabel_uses}
use Rattle.ob0_language_names.proofs.Peeling.{Two}

-- holds if the table's entry for an identifier is right, in a part that declares nothing
abbrev pub Fits : (ℕ → Option ℕ) → Spellings → Scope Name → Role → ℕ → Type 0
Fits table src scope role.LookedUpName i = table i ≡ ordinal_in_scope naming_by_spelling scope (spelling_at_token src i)
Fits table src scope role.DeclaringName i = table i ≡ None
Fits table src scope role.ClosingName i = table i ≡ None
Fits table src scope role.FieldName i = table i ≡ None
Fits table src scope role.ModuleName i = table i ≡ None

abbrev pub AllFit : (ℕ → Option ℕ) → Spellings → Scope Name → List (Role × ℕ) → Type 0
AllFit table src scope [] = Unit {0}
AllFit table src scope (x ∷ xs) = Fits table src scope x.0 x.1 × AllFit table src scope xs

fit_first : (table : ℕ → Option ℕ) (src : Spellings) (scope : Scope Name) (xs ys : List (Role × ℕ)) → AllFit table src scope (xs ++ ys) → AllFit table src scope xs × AllFit table src scope ys
fit_first table src scope [] ys h = (tt, h)
fit_first table src scope (x ∷ xs) ys h = let rest = fit_first table src scope xs ys h.1 in ((h.0, rest.0), rest.1)

module _ {M : Type 0} (table : ℕ → Option ℕ) (label : Labelling Name M) (src : Spellings) (scope : Scope Name) (value : ℕ → ℕ) where
  -- states that P holds if the table fits these identifiers
  pub record Reads (xs : List (Role × ℕ)) (P : Type 0) : Type 0 where
    pub reads : AllFit table src scope xs → P

  nothing : {P : Type 0} → P → Reads [] P
  nothing p = record { reads = λ h. p }

  both : {P Q : Type 0} {xs ys : List (Role × ℕ)} → Reads xs P → Reads ys Q → Reads (xs ++ ys) (Two P Q)
  both {xs = xs} {ys = ys} p q = record { reads = λ h. let f = fit_first table src scope xs ys h in record { first = p.reads f.0; second = q.reads f.1 } }

  first : {P : Type 0} {r : Role} {x : ℕ} {xs : List (Role × ℕ)} → Reads xs P → Reads ((r, x) ∷ xs) (Two (Fits table src scope r x) P)
  first p = record { reads = λ h. record { first = h.0; second = p.reads h.1 } }

  to : {P Q : Type 0} {xs : List (Role × ℕ)} → Reads xs P → (P → Q) → Reads xs Q
  to p f = record { reads = λ h. f (p.reads h) }

  pub agreed : {s : Sort} (r : Role) → ((i : ℕ) → Fits table src scope r i → table i ≡ None) → (t : Tree ℕ s)
      → Reads (identifiers r t) (relabel_uses naming_by_spelling label scope (mapped_tree (spelling_at_token src) value t) ≡ mapped_tree (λ i. label (table i) (spelling_at_token src i)) value t)
  agreed r other none = nothing refl
  agreed r other (one a) = to (agreed r other a) (λ p i. one (p i))
  agreed r other end = nothing refl
  agreed r other (more a b) = to (both (agreed r other a) (agreed r other b)) (λ p i. more (p.first i) (p.second i))
  agreed r other (compares a b) = to (both (agreed r other a) (agreed r other b)) (λ p i. compares (p.first i) (p.second i))
  agreed r other (relates a b) = to (agreed r other b) (λ p i. relates a (p i))
  agreed r other (sum a b c) = to (both (agreed r other b) (agreed r other c)) (λ p i. sum a (p.first i) (p.second i))
  agreed r other (adds a b) = to (agreed r other b) (λ p i. adds a (p i))
  agreed r other (product a b) = to (both (agreed r other a) (agreed r other b)) (λ p i. product (p.first i) (p.second i))
  agreed r other (multiplies a b) = to (agreed r other b) (λ p i. multiplies a (p i))
  agreed r other (designator a b) = to (first (agreed r other b)) (λ p i. designator (label (sym p.first i) (spelling_at_token src a)) (p.second i))
  agreed r other (integer a) = nothing refl
  agreed r other (parenthesised a) = to (agreed r other a) (λ p i. parenthesised (p i))
  agreed r other (negation a) = to (agreed r other a) (λ p i. negation (p i))
  agreed r other (field a) = to (first (nothing {P = Unit {0}} tt)) (λ p i. field (label (sym p.first i) (spelling_at_token src a)))
  agreed r other (index a) = to (agreed r other a) (λ p i. index (p i))
  agreed r other empty = nothing refl
  agreed r other (assigns a b c) = to (first (both (agreed r other b) (agreed r other c))) (λ p i. assigns (label (sym p.first i) (spelling_at_token src a)) (p.second.first i) (p.second.second i))
  agreed r other (calls a b) = to (first (agreed r other b)) (λ p i. calls (label (sym p.first i) (spelling_at_token src a)) (p.second i))
  agreed r other (branches a b c d) = to (both (agreed r other a) (both (agreed r other b) (both (agreed r other c) (agreed r other d)))) (λ p i. branches (p.first i) (p.second.first i) (p.second.second.first i) (p.second.second.second i))
  agreed r other (while_loop a b) = to (both (agreed r other a) (agreed r other b)) (λ p i. while_loop (p.first i) (p.second i))
  agreed r other (repeat_loop a b) = to (both (agreed r other a) (agreed r other b)) (λ p i. repeat_loop (p.first i) (p.second i))
  agreed r other no_arguments = nothing refl
  agreed r other (some_arguments a b) = to (both (agreed r other a) (agreed r other b)) (λ p i. some_arguments (p.first i) (p.second i))
  agreed r other (comma_then_argument a) = to (agreed r other a) (λ p i. comma_then_argument (p i))
  agreed r other (runs a b) = to (both (agreed r other a) (agreed r other b)) (λ p i. runs (p.first i) (p.second i))
  agreed r other (semicolon_then_statement a) = to (agreed r other a) (λ p i. semicolon_then_statement (p i))
  agreed r other (elsif_branch a b) = to (both (agreed r other a) (agreed r other b)) (λ p i. elsif_branch (p.first i) (p.second i))
  agreed r other (else_branch a) = to (agreed r other a) (λ p i. else_branch (p i))
  agreed r other (listed a b) = to (first (agreed r other b)) (λ p i. listed (label (sym (other a p.first) i) (spelling_at_token src a)) (p.second i))
  agreed r other (comma_then_name a) = to (first (nothing {P = Unit {0}} tt)) (λ p i. comma_then_name (label (sym (other a p.first) i) (spelling_at_token src a)))
  agreed r other (named_type a) = to (first (nothing {P = Unit {0}} tt)) (λ p i. named_type (label (sym p.first i) (spelling_at_token src a)))
  agreed r other (array_type a b) = to (both (agreed r other a) (agreed r other b)) (λ p i. array_type (p.first i) (p.second i))
  agreed r other (record_type a b) = to (both (agreed r other a) (agreed r other b)) (λ p i. record_type (p.first i) (p.second i))
  agreed r other no_fields = nothing refl
  agreed r other (some_fields a b) = to (both (agreed role.FieldName (λ i e. e) a) (agreed r other b)) (λ p i. some_fields (p.first i) (p.second i))
  agreed r other (semicolon_then_fields a) = to (agreed r other a) (λ p i. semicolon_then_fields (p i))
  agreed r other no_formals = nothing refl
  agreed r other (some_formals a b) = to (both (agreed r other a) (agreed r other b)) (λ p i. some_formals (p.first i) (p.second i))
  agreed r other (value_section a b) = to (both (agreed role.DeclaringName (λ i e. e) a) (agreed r other b)) (λ p i. value_section (p.first i) (p.second i))
  agreed r other (variable_section a b) = to (both (agreed role.DeclaringName (λ i e. e) a) (agreed r other b)) (λ p i. variable_section (p.first i) (p.second i))
  agreed r other (semicolon_then_section a) = to (agreed r other a) (λ p i. semicolon_then_section (p i))
  agreed r other (declares_constant a b) = to (first (agreed r other b)) (λ p i. declares_constant (label (sym p.first i) (spelling_at_token src a)) (p.second i))
  agreed r other (declares_const_section a) = to (agreed r other a) (λ p i. declares_const_section (p i))
  agreed r other (declares_type a b) = to (first (agreed r other b)) (λ p i. declares_type (label (sym p.first i) (spelling_at_token src a)) (p.second i))
  agreed r other (declares_type_section a) = to (agreed r other a) (λ p i. declares_type_section (p i))
  agreed r other (declares_variable a b) = to (both (agreed role.DeclaringName (λ i e. e) a) (agreed r other b)) (λ p i. declares_variable (p.first i) (p.second i))
  agreed r other (declares_var_section a) = to (agreed r other a) (λ p i. declares_var_section (p i))
  agreed r other (declares_procedure a b c d) = to (first (both (agreed r other b) (both (agreed r other c) (first (nothing {P = Unit {0}} tt))))) (λ p i. declares_procedure (label (sym p.first i) (spelling_at_token src a)) (p.second.first i) (p.second.second.first i) (label (sym p.second.second.second.first i) (spelling_at_token src d)))
  agreed r other (declares a b c d) = to (both (agreed r other a) (both (agreed r other b) (both (agreed r other c) (agreed r other d)))) (λ p i. declares (p.first i) (p.second.first i) (p.second.second.first i) (p.second.second.second i))
  agreed r other (begins a) = to (agreed r other a) (λ p i. begins (p i))
  agreed r other (forms_block a b) = to (both (agreed r other a) (agreed r other b)) (λ p i. forms_block (p.first i) (p.second i))
  agreed r other (forms_module a b c) = to (first (both (agreed r other b) (first (nothing {P = Unit {0}} tt)))) (λ p i. forms_module (label (sym p.first i) (spelling_at_token src a)) (p.second.first i) (label (sym p.second.second.first i) (spelling_at_token src c)))
