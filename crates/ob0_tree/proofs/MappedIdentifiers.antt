-- Proves that replacing the names of a tree replaces the names of its identifiers, and keeps their
-- roles.
use Rattle.std.proofs.Common.{◌≡◌, ℕ, List, [], ◌∷◌, ◌++◌, map, refl, ap, sym, ◌∙◌}
use Rattle.std.proofs.lemmas.List.{map-append}
use Rattle.ob0_tree.specs.declared.tree.Role.{Role}
use Rattle.ob0_tree.specs.declared.tree.Role.TheVariants as role
use Rattle.ob0_tree.specs.Terminals.{EndOfText, WordOrSymbol, Name, Number, Terminal, mapped_terminal}
use Rattle.ob0_tree.specs.IdentifierIndexes.{identifier_names}
use Rattle.ob0_tree.specs.Tree.{Sort, Tree, identifiers, mapped_tree, spell, adds, array_type, assigns, begins, branches, calls, compares, declares, declares_constant, declares_const_section, declares_procedure, declares_type, declares_type_section, declares_variable, declares_var_section, designator, else_branch, elsif_branch, empty, end, field, forms_block, index, integer, forms_module, listed, more, multiplies, named_type, negation, no_arguments, no_fields, no_formals, none, one, parenthesised, product, record_type, relates, repeat_loop, runs, some_arguments, some_fields, some_formals, sum, comma_then_argument, semicolon_then_fields, comma_then_name, semicolon_then_section, semicolon_then_statement, value_section, variable_section, while_loop}
use Rattle.ob0_tree.proofs.Leaves.{leaves_spelled, lexeme_names}
use Rattle.ob0_tree.proofs.Mapped.{spell_mapped}

-- If two lists are mapped, their concatenation is mapped as well.
pub both : {A B : Type 0} (p : A → B) {us vs : List B} (xs ys : List A) → us ≡ map p xs → vs ≡ map p ys → us ++ vs ≡ map p (xs ++ ys)
both p xs ys e h = (λ i. e i ++ h i) ∙ sym (map-append p xs ys)

abbrev pub beside_role : {N M : Type 0} → (N → M) → Role × N → Role × M
beside_role f x = (x.0, f x.1)

pub identifiers-mapped_tree : {N M : Type 0} {s : Sort} (f : N → M) (g : ℕ → ℕ) (r : Role) (t : Tree N s) → identifiers r (mapped_tree f g t) ≡ map (beside_role f) (identifiers r t)
identifiers-mapped_tree f g r none = refl
identifiers-mapped_tree f g r (one a) = identifiers-mapped_tree f g r a
identifiers-mapped_tree f g r end = refl
identifiers-mapped_tree f g r (more a b) = both (beside_role f) (identifiers r a) (identifiers r b) (identifiers-mapped_tree f g r a) (identifiers-mapped_tree f g r b)
identifiers-mapped_tree f g r (compares a b) = both (beside_role f) (identifiers r a) (identifiers r b) (identifiers-mapped_tree f g r a) (identifiers-mapped_tree f g r b)
identifiers-mapped_tree f g r (relates o b) = identifiers-mapped_tree f g r b
identifiers-mapped_tree f g r (sum o b c) = both (beside_role f) (identifiers r b) (identifiers r c) (identifiers-mapped_tree f g r b) (identifiers-mapped_tree f g r c)
identifiers-mapped_tree f g r (adds o b) = identifiers-mapped_tree f g r b
identifiers-mapped_tree f g r (product a b) = both (beside_role f) (identifiers r a) (identifiers r b) (identifiers-mapped_tree f g r a) (identifiers-mapped_tree f g r b)
identifiers-mapped_tree f g r (multiplies o b) = identifiers-mapped_tree f g r b
identifiers-mapped_tree f g r (designator x b) = ap (λ z. (role.LookedUpName, f x) ∷ z) (identifiers-mapped_tree f g r b)
identifiers-mapped_tree f g r (integer n) = refl
identifiers-mapped_tree f g r (parenthesised a) = identifiers-mapped_tree f g r a
identifiers-mapped_tree f g r (negation a) = identifiers-mapped_tree f g r a
identifiers-mapped_tree f g r (field x) = refl
identifiers-mapped_tree f g r (index a) = identifiers-mapped_tree f g r a
identifiers-mapped_tree f g r empty = refl
identifiers-mapped_tree f g r (assigns x b c) = ap (λ z. (role.LookedUpName, f x) ∷ z) (both (beside_role f) (identifiers r b) (identifiers r c) (identifiers-mapped_tree f g r b) (identifiers-mapped_tree f g r c))
identifiers-mapped_tree f g r (calls x b) = ap (λ z. (role.LookedUpName, f x) ∷ z) (identifiers-mapped_tree f g r b)
identifiers-mapped_tree f g r (branches a b c d) = both (beside_role f) (identifiers r a) (identifiers r b ++ (identifiers r c ++ (identifiers r d))) (identifiers-mapped_tree f g r a) (both (beside_role f) (identifiers r b) (identifiers r c ++ (identifiers r d)) (identifiers-mapped_tree f g r b) (both (beside_role f) (identifiers r c) (identifiers r d) (identifiers-mapped_tree f g r c) (identifiers-mapped_tree f g r d)))
identifiers-mapped_tree f g r (while_loop a b) = both (beside_role f) (identifiers r a) (identifiers r b) (identifiers-mapped_tree f g r a) (identifiers-mapped_tree f g r b)
identifiers-mapped_tree f g r (repeat_loop a b) = both (beside_role f) (identifiers r a) (identifiers r b) (identifiers-mapped_tree f g r a) (identifiers-mapped_tree f g r b)
identifiers-mapped_tree f g r no_arguments = refl
identifiers-mapped_tree f g r (some_arguments a b) = both (beside_role f) (identifiers r a) (identifiers r b) (identifiers-mapped_tree f g r a) (identifiers-mapped_tree f g r b)
identifiers-mapped_tree f g r (comma_then_argument a) = identifiers-mapped_tree f g r a
identifiers-mapped_tree f g r (runs a b) = both (beside_role f) (identifiers r a) (identifiers r b) (identifiers-mapped_tree f g r a) (identifiers-mapped_tree f g r b)
identifiers-mapped_tree f g r (semicolon_then_statement a) = identifiers-mapped_tree f g r a
identifiers-mapped_tree f g r (elsif_branch a b) = both (beside_role f) (identifiers r a) (identifiers r b) (identifiers-mapped_tree f g r a) (identifiers-mapped_tree f g r b)
identifiers-mapped_tree f g r (else_branch a) = identifiers-mapped_tree f g r a
identifiers-mapped_tree f g r (listed x b) = ap (λ z. (r, f x) ∷ z) (identifiers-mapped_tree f g r b)
identifiers-mapped_tree f g r (comma_then_name x) = refl
identifiers-mapped_tree f g r (named_type x) = refl
identifiers-mapped_tree f g r (array_type a b) = both (beside_role f) (identifiers r a) (identifiers r b) (identifiers-mapped_tree f g r a) (identifiers-mapped_tree f g r b)
identifiers-mapped_tree f g r (record_type a b) = both (beside_role f) (identifiers r a) (identifiers r b) (identifiers-mapped_tree f g r a) (identifiers-mapped_tree f g r b)
identifiers-mapped_tree f g r no_fields = refl
identifiers-mapped_tree f g r (some_fields a b) = both (beside_role f) (identifiers role.FieldName a) (identifiers r b) (identifiers-mapped_tree f g role.FieldName a) (identifiers-mapped_tree f g r b)
identifiers-mapped_tree f g r (semicolon_then_fields a) = identifiers-mapped_tree f g r a
identifiers-mapped_tree f g r no_formals = refl
identifiers-mapped_tree f g r (some_formals a b) = both (beside_role f) (identifiers r a) (identifiers r b) (identifiers-mapped_tree f g r a) (identifiers-mapped_tree f g r b)
identifiers-mapped_tree f g r (value_section a b) = both (beside_role f) (identifiers role.DeclaringName a) (identifiers r b) (identifiers-mapped_tree f g role.DeclaringName a) (identifiers-mapped_tree f g r b)
identifiers-mapped_tree f g r (variable_section a b) = both (beside_role f) (identifiers role.DeclaringName a) (identifiers r b) (identifiers-mapped_tree f g role.DeclaringName a) (identifiers-mapped_tree f g r b)
identifiers-mapped_tree f g r (semicolon_then_section a) = identifiers-mapped_tree f g r a
identifiers-mapped_tree f g r (declares_constant x b) = ap (λ z. (role.DeclaringName, f x) ∷ z) (identifiers-mapped_tree f g r b)
identifiers-mapped_tree f g r (declares_const_section a) = identifiers-mapped_tree f g r a
identifiers-mapped_tree f g r (declares_type x b) = ap (λ z. (role.DeclaringName, f x) ∷ z) (identifiers-mapped_tree f g r b)
identifiers-mapped_tree f g r (declares_type_section a) = identifiers-mapped_tree f g r a
identifiers-mapped_tree f g r (declares_variable a b) = both (beside_role f) (identifiers role.DeclaringName a) (identifiers r b) (identifiers-mapped_tree f g role.DeclaringName a) (identifiers-mapped_tree f g r b)
identifiers-mapped_tree f g r (declares_var_section a) = identifiers-mapped_tree f g r a
identifiers-mapped_tree f g r (declares_procedure x a b c) = ap (λ z. (role.DeclaringName, f x) ∷ z) (both (beside_role f) (identifiers r a) (identifiers r b ++ ((role.ClosingName, c) ∷ [])) (identifiers-mapped_tree f g r a) (both (beside_role f) (identifiers r b) ((role.ClosingName, c) ∷ []) (identifiers-mapped_tree f g r b) refl))
identifiers-mapped_tree f g r (declares a b c d) = both (beside_role f) (identifiers r a) (identifiers r b ++ (identifiers r c ++ (identifiers r d))) (identifiers-mapped_tree f g r a) (both (beside_role f) (identifiers r b) (identifiers r c ++ (identifiers r d)) (identifiers-mapped_tree f g r b) (both (beside_role f) (identifiers r c) (identifiers r d) (identifiers-mapped_tree f g r c) (identifiers-mapped_tree f g r d)))
identifiers-mapped_tree f g r (begins a) = identifiers-mapped_tree f g r a
identifiers-mapped_tree f g r (forms_block a b) = both (beside_role f) (identifiers r a) (identifiers r b) (identifiers-mapped_tree f g r a) (identifiers-mapped_tree f g r b)
identifiers-mapped_tree f g r (forms_module x b c) = ap (λ z. (role.ModuleName, f x) ∷ z) (both (beside_role f) (identifiers r b) ((role.ModuleName, c) ∷ []) (identifiers-mapped_tree f g r b) refl)

names_mapped : {N M : Type 0} (f : N → M) (g : ℕ → ℕ) (xs : List (Terminal N)) → lexeme_names (map (mapped_terminal f g) xs) ≡ map f (lexeme_names xs)
names_mapped f g [] = refl
names_mapped f g (Name n ∷ xs) = ap (λ z. f n ∷ z) (names_mapped f g xs)
names_mapped f g (Number n ∷ xs) = names_mapped f g xs
names_mapped f g (WordOrSymbol k ∷ xs) = names_mapped f g xs
names_mapped f g (EndOfText ∷ xs) = names_mapped f g xs

pub leaves_mapped : {N M : Type 0} {s : Sort} (f : N → M) (g : ℕ → ℕ) (t : Tree N s) → identifier_names (mapped_tree f g t) ≡ map f (identifier_names t)
leaves_mapped f g t =
    leaves_spelled role.DeclaringName (mapped_tree f g t)
    ∙ (ap lexeme_names (spell_mapped f g t) ∙ (names_mapped f g (spell t) ∙ ap (map f) (sym (leaves_spelled role.DeclaringName t))))
