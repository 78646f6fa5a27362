-- Defines the bindings that all declarations of a module make, newest first. A binding has a name
-- and an object. The object is the declaration's meaning in the environment before it.
-- Rule: docs/LANGUAGE.md, Scopes 2 to 4.
use Rattle.std.specs.Prelude.{ℕ, ◌+◌, ◌-◌, List, [], ◌++◌, length, take, Some, None, Option}
use Rattle.ob0_tree.specs.Tree.{Tree, block, declares, declares_procedure, end, forms_block, item, items, module_text, more, procedure}
use Rattle.ob0_language_names.specs.Names.{Label, Name, Naming, naming_by_label, declared}
use Rattle.ob0_language_names.specs.BlockParts.{formal_parameter_sections, module_block}
use Rattle.ob0_language_names.specs.Scopes.{numbered}
use Rattle.ob0_language_types.specs.BlockDeclarations.{declare_block, declare_procedure}
use Rattle.ob0_language_types.specs.Declarations.{constructor_count_before_procedures, formals_constructor_count, procedure_constructor_count}
use Rattle.ob0_language_types.specs.Environments.{suffix_from_newest_binding, newest_object, outermost_environment}
use Rattle.ob0_language_types.specs.Expressions.{Object, a_variable}
use Rattle.ob0_language_types.specs.WellTyped.{Signature, TypeEnvironment, bind_typed_parameters, bind_procedure, typed_parameters}
use Rattle.ob0_language_values.specs.Values.{Shape}

-- Returns the bindings that were added to the list `before` to get the list `now`. They are the first items of `now`,
-- because the newest binding comes first.
abbrev pub added_bindings : {A : Type 0} → List A → List A → List A
added_bindings before now = take (length now - length before) now

-- returns the list that the function `list` makes from an optional value; an empty list if the value is None
abbrev pub list_if_some : {A B : Type 0} → Option A → (A → List B) → List B
list_if_some None list = []
list_if_some (Some a) list = list a

-- Returns the bindings that the declarations of a block or of procedures make, including all declarations inside
-- procedures.
unfoldable mutual
  unfolding declare_procedure typed_parameters

  -- Returns the bindings that the declarations of a block make, including the declarations in its
  -- procedures, newest first. The block's array and record types are numbered from `k`, the count
  -- of words ARRAY and RECORD before the block. Returns an empty list if a constant, type or
  -- variable of the block has an error.
  pub block_bindings : {N : Type 0}
      → Naming N
      → TypeEnvironment N
      → ℕ
      → Tree N block
      → TypeEnvironment N
  block_bindings naming env k (forms_block (declares cs ts vs ps) statements) =
      list_if_some (declare_block naming env k (forms_block (declares cs ts vs ps) statements))
      (λ inner. procedure_list_bindings naming inner
      (constructor_count_before_procedures k (forms_block (declares cs ts vs ps) statements)) ps
      ++ added_bindings env inner)

  -- Returns the bindings of a list of procedures, from the last procedure to the first. Leaves out
  -- the first procedure that isn't well-typed and all later procedures. Array and record types are
  -- numbered from `k`, the count of words ARRAY and RECORD before the procedures.
  pub procedure_list_bindings : {N : Type 0}
      → Naming N
      → TypeEnvironment N
      → ℕ
      → Tree N (items procedure)
      → TypeEnvironment N
  procedure_list_bindings naming env k end = []
  procedure_list_bindings naming env k (more p rest) =
      list_if_some (declare_procedure naming env k p) (λ later. procedure_list_bindings naming later
      (k + procedure_constructor_count p) rest
      ++ procedure_bindings naming env k p)

  -- Returns the bindings of a procedure: first the bindings of its block, then of its parameters,
  -- then of its name. The procedure's array and record types are numbered from `k`, the count of
  -- words ARRAY and RECORD before the procedure. Returns an empty list if a parameter's type has an
  -- error.
  pub procedure_bindings : {N : Type 0}
      → Naming N
      → TypeEnvironment N
      → ℕ
      → Tree N (item procedure)
      → TypeEnvironment N
  procedure_bindings naming env k (declares_procedure x fs b closing) =
      list_if_some (typed_parameters naming env k (formal_parameter_sections fs))
      (λ ps. block_bindings naming (bind_typed_parameters ps (bind_procedure x ps env))
      (k + formals_constructor_count (formal_parameter_sections fs)) b
      ++ bind_typed_parameters ps (bind_procedure x ps []))

-- returns the bindings of a whole module, newest first, followed by the bindings of the predeclared names
abbrev pub module_bindings : {N : Type 0} → Naming N → Tree N module_text → TypeEnvironment N
module_bindings naming m =
    block_bindings naming (outermost_environment naming) 0 (module_block m) ++ outermost_environment naming

-- returns the object in the newest binding of the ordinal `k`; None if `k` has no binding
abbrev pub object_of_ordinal : TypeEnvironment Label → ℕ → Option (Object Shape Signature)
object_of_ordinal bindings k = newest_object (suffix_from_newest_binding naming_by_label bindings (declared k))

-- Returns the object of the declaration with ordinal `k`. A declaration's ordinal is its number in
-- text order, after the predeclared names 0 to 6. Looks for `k` in the bindings of the numbered
-- tree, in which ordinals replace names. Returns None if these bindings don't contain `k`.
abbrev pub declared_object : Tree Name module_text → ℕ → Option (Object Shape Signature)
declared_object m k = object_of_ordinal (module_bindings naming_by_label (numbered m)) k

-- returns the type of a variable or parameter; None for any other object
abbrev pub variable_shape : {P : Type 0} → Option (Object Shape P) → Option Shape
variable_shape (Some (a_variable s)) = Some s
variable_shape _ = None
