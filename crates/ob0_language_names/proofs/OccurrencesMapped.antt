-- Replacing the names of a tree replaces the names of its occurrences in the same way.
use Rattle.std.proofs.Common.{◌≡◌, ℕ, map, refl}
use Rattle.std.proofs.lemmas.List.{map-append}
use Rattle.ob0_tree.specs.Tree.{Sort, Tree, mapped_leaves, occurrences, adds, array_type, assigns, begins, branches, calls, compares, declares, declares_constant, declares_const_section, declares_procedure, declares_type, declares_type_section, declares_variable, declares_var_section, designator, else_branch, elsif_branch, empty, end, field, forms_block, index, integer, forms_module, listed, more, multiplies, named_type, negation, no_arguments, no_fields, no_formals, none, one, parenthesised, product, record_type, relates, repeat_loop, runs, some_arguments, some_fields, some_formals, sum, comma_then_argument, semicolon_then_fields, comma_then_name, semicolon_then_section, semicolon_then_statement, value_section, variable_section, while_loop}

pub occurrences-mapped : {N M : Type 0} {s : Sort} (f h : N → M) (g : ℕ → ℕ) (t : Tree N s) → occurrences (mapped_leaves f h g t) ≡ map f (occurrences t)
occurrences-mapped f h g none = refl
occurrences-mapped f h g (one a) = simp (occurrences-mapped f h g a)
occurrences-mapped f h g end = refl
occurrences-mapped f h g (more a b) = simp (map-append, occurrences-mapped f h g a, occurrences-mapped f h g b)
occurrences-mapped f h g (compares a b) = simp (map-append, occurrences-mapped f h g a, occurrences-mapped f h g b)
occurrences-mapped f h g (relates a b) = simp (occurrences-mapped f h g b)
occurrences-mapped f h g (sum a b c) = simp (map-append, occurrences-mapped f h g b, occurrences-mapped f h g c)
occurrences-mapped f h g (adds a b) = simp (occurrences-mapped f h g b)
occurrences-mapped f h g (product a b) = simp (map-append, occurrences-mapped f h g a, occurrences-mapped f h g b)
occurrences-mapped f h g (multiplies a b) = simp (occurrences-mapped f h g b)
occurrences-mapped f h g (designator a b) = simp (occurrences-mapped f h g b)
occurrences-mapped f h g (integer a) = refl
occurrences-mapped f h g (parenthesised a) = simp (occurrences-mapped f h g a)
occurrences-mapped f h g (negation a) = simp (occurrences-mapped f h g a)
occurrences-mapped f h g (field a) = refl
occurrences-mapped f h g (index a) = simp (occurrences-mapped f h g a)
occurrences-mapped f h g empty = refl
occurrences-mapped f h g (assigns a b c) = simp (map-append, occurrences-mapped f h g b, occurrences-mapped f h g c)
occurrences-mapped f h g (calls a b) = simp (occurrences-mapped f h g b)
occurrences-mapped f h g (branches a b c d) = simp (map-append, occurrences-mapped f h g a, occurrences-mapped f h g b, occurrences-mapped f h g c, occurrences-mapped f h g d)
occurrences-mapped f h g (while_loop a b) = simp (map-append, occurrences-mapped f h g a, occurrences-mapped f h g b)
occurrences-mapped f h g (repeat_loop a b) = simp (map-append, occurrences-mapped f h g a, occurrences-mapped f h g b)
occurrences-mapped f h g no_arguments = refl
occurrences-mapped f h g (some_arguments a b) = simp (map-append, occurrences-mapped f h g a, occurrences-mapped f h g b)
occurrences-mapped f h g (comma_then_argument a) = simp (occurrences-mapped f h g a)
occurrences-mapped f h g (runs a b) = simp (map-append, occurrences-mapped f h g a, occurrences-mapped f h g b)
occurrences-mapped f h g (semicolon_then_statement a) = simp (occurrences-mapped f h g a)
occurrences-mapped f h g (elsif_branch a b) = simp (map-append, occurrences-mapped f h g a, occurrences-mapped f h g b)
occurrences-mapped f h g (else_branch a) = simp (occurrences-mapped f h g a)
occurrences-mapped f h g (listed a b) = refl
occurrences-mapped f h g (comma_then_name a) = refl
occurrences-mapped f h g (named_type a) = refl
occurrences-mapped f h g (array_type a b) = simp (map-append, occurrences-mapped f h g a, occurrences-mapped f h g b)
occurrences-mapped f h g (record_type a b) = simp (map-append, occurrences-mapped f h g a, occurrences-mapped f h g b)
occurrences-mapped f h g no_fields = refl
occurrences-mapped f h g (some_fields a b) = simp (occurrences-mapped f h g b)
occurrences-mapped f h g (semicolon_then_fields a) = simp (occurrences-mapped f h g a)
occurrences-mapped f h g no_formals = refl
occurrences-mapped f h g (some_formals a b) = simp (map-append, occurrences-mapped f h g a, occurrences-mapped f h g b)
occurrences-mapped f h g (value_section a b) = simp (occurrences-mapped f h g b)
occurrences-mapped f h g (variable_section a b) = simp (occurrences-mapped f h g b)
occurrences-mapped f h g (semicolon_then_section a) = simp (occurrences-mapped f h g a)
occurrences-mapped f h g (declares_constant a b) = simp (occurrences-mapped f h g b)
occurrences-mapped f h g (declares_const_section a) = simp (occurrences-mapped f h g a)
occurrences-mapped f h g (declares_type a b) = simp (occurrences-mapped f h g b)
occurrences-mapped f h g (declares_type_section a) = simp (occurrences-mapped f h g a)
occurrences-mapped f h g (declares_variable a b) = simp (occurrences-mapped f h g b)
occurrences-mapped f h g (declares_var_section a) = simp (occurrences-mapped f h g a)
occurrences-mapped f h g (declares_procedure a b c d) = simp (map-append, occurrences-mapped f h g b, occurrences-mapped f h g c)
occurrences-mapped f h g (declares a b c d) = simp (map-append, occurrences-mapped f h g a, occurrences-mapped f h g b, occurrences-mapped f h g c, occurrences-mapped f h g d)
occurrences-mapped f h g (begins a) = simp (occurrences-mapped f h g a)
occurrences-mapped f h g (forms_block a b) = simp (map-append, occurrences-mapped f h g a, occurrences-mapped f h g b)
occurrences-mapped f h g (forms_module a b c) = simp (occurrences-mapped f h g b)
