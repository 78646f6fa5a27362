-- Defines the bodies of a module: the statements of each block, with the environment in which they
-- are checked.
-- Rule: docs/LANGUAGE.md, Scopes 2.
use Rattle.std.specs.Prelude.{◌≡◌, ℕ, ◌+◌, List, [], ◌∷◌, ◌++◌, Some, All}
use Rattle.ob0_tree.specs.Tree.{Tree, block, body, declares, declares_procedure, end, forms_block, item, items, maybe, module_text, more, procedure}
use Rattle.ob0_language_names.specs.Names.{Label, Name, Naming, naming_by_label}
use Rattle.ob0_language_names.specs.BlockParts.{formal_parameter_sections, module_block, procedure_formals, procedure_name}
use Rattle.ob0_language_names.specs.Scopes.{numbered}
use Rattle.ob0_language_types.specs.Bindings.{declared_object, list_if_some, object_of_ordinal}
use Rattle.ob0_language_types.specs.BlockDeclarations.{declare_block}
use Rattle.ob0_language_types.specs.Declarations.{constructor_count_before_procedures, formals_constructor_count, procedure_constructor_count}
use Rattle.ob0_language_types.specs.Environments.{outermost_environment}
use Rattle.ob0_language_types.specs.Expressions.{Object}
use Rattle.ob0_language_types.specs.WellTyped.{Signature, TypeEnvironment, TypedParameter, WellTyped, bind_typed_parameters, bind_procedure, typed_parameters}
use Rattle.ob0_language_values.specs.Values.{Shape}

-- the statements of a block (its body), with the environment in which they are checked
pub record BodyWithEnvironment (N : Type 0) : Type 0 where
  pub environment : TypeEnvironment N
  pub statements : Tree N (maybe body)

-- Returns the bodies of a block. The body of a block comes after the bodies of its procedures.
unfoldable mutual
  unfolding typed_parameters

  -- Returns the bodies of a block's procedures, then the block's own body. The block's array and
  -- record types are numbered from `k`, the count of words ARRAY and RECORD before the block.
  -- Returns an empty list if a constant, type or variable of the block has an error.
  pub block_bodies : {N : Type 0}
      → Naming N
      → TypeEnvironment N
      → ℕ
      → Tree N block
      → List (BodyWithEnvironment N)
  block_bodies naming env k (forms_block (declares cs ts vs ps) statements) =
      list_if_some (declare_block naming env k (forms_block (declares cs ts vs ps) statements))
      (λ inner. procedure_list_bodies naming inner
      (constructor_count_before_procedures k (forms_block (declares cs ts vs ps) statements)) statements ps)

  -- Returns the bodies of a list of procedures in text order, then the body `statements` of the
  -- block that contains these procedures. Array and record types are numbered from `k`, the count
  -- of words ARRAY and RECORD before the procedures. If a parameter's type has an error, the bodies
  -- of its procedure and all bodies after them are left out.
  pub procedure_list_bodies : {N : Type 0}
      → Naming N
      → TypeEnvironment N
      → ℕ
      → Tree N (maybe body)
      → Tree N (items procedure)
      → List (BodyWithEnvironment N)
  procedure_list_bodies naming env k statements end =
      record { environment = env; statements = statements } ∷ []
  procedure_list_bodies naming env k statements (more p rest) =
      list_if_some (typed_parameters naming env k (procedure_formals p))
      (λ ps. procedure_bodies naming (bind_typed_parameters ps (bind_procedure (procedure_name p) ps env)) k p
      ++ procedure_list_bodies naming (bind_procedure (procedure_name p) ps env)
      (k + procedure_constructor_count p) statements rest)

  -- Returns the bodies of a procedure's block. `env` already binds the procedure's name and
  -- parameters. The procedure's array and record types are numbered from `k`, the count of words
  -- ARRAY and RECORD before the procedure.
  pub procedure_bodies : {N : Type 0}
      → Naming N
      → TypeEnvironment N
      → ℕ
      → Tree N (item procedure)
      → List (BodyWithEnvironment N)
  procedure_bodies naming env k (declares_procedure x fs b closing) =
      block_bodies naming env (k + formals_constructor_count (formal_parameter_sections fs)) b

-- returns the bodies of a module, each with the environment in which its statements are checked
abbrev pub module_bodies : {N : Type 0} → Naming N → Tree N module_text → List (BodyWithEnvironment N)
module_bodies naming m = block_bodies naming (outermost_environment naming) 0 (module_block m)

-- States that the property `Q` holds for a block's environments: after its variables, at the start
-- of each procedure's block, and after its procedures. The same must hold inside each procedure.
abbrev mutual
  -- States that `Q` holds for the environment after a block's constants, types and variables.
  -- `HoldsForProcedureListEnvironments` must also hold for the block's procedures in this
  -- environment. The block's array and record types are numbered from `k`, the count of words ARRAY
  -- and RECORD before the block. States nothing if a constant, type or variable has an error.
  pub HoldsForBlockEnvironments : (TypeEnvironment Label → Type 0)
      → TypeEnvironment Label
      → ℕ
      → Tree Label block
      → Type 0
  HoldsForBlockEnvironments Q env k (forms_block (declares cs ts vs ps) statements) =
      (inner : TypeEnvironment Label)
      → declare_block naming_by_label env k (forms_block (declares cs ts vs ps) statements) ≡ Some inner
      → Q inner
      × HoldsForProcedureListEnvironments Q inner (constructor_count_before_procedures k (forms_block (declares cs ts vs ps) statements)) ps

  -- States that `Q` holds for the environment at the start of each procedure's block and for the
  -- environments inside that block. `Q` must also hold for the environment after all procedures.
  -- Array and record types are numbered from `k`, the count of words ARRAY and RECORD before the
  -- procedures. If a parameter's type has an error, states nothing about that parameter's procedure
  -- and the environments after it.
  pub HoldsForProcedureListEnvironments : (TypeEnvironment Label → Type 0)
      → TypeEnvironment Label
      → ℕ
      → Tree Label (items procedure)
      → Type 0
  HoldsForProcedureListEnvironments Q env k end = Q env
  HoldsForProcedureListEnvironments Q env k (more p rest) =
      (ps : List (TypedParameter Label))
      → typed_parameters naming_by_label env k (procedure_formals p) ≡ Some ps
      → Q (bind_typed_parameters ps (bind_procedure (procedure_name p) ps env))
      × HoldsForProcedureEnvironments Q (bind_typed_parameters ps (bind_procedure (procedure_name p) ps env)) k p
      × HoldsForProcedureListEnvironments Q (bind_procedure (procedure_name p) ps env) (k + procedure_constructor_count p) rest

  -- States that `HoldsForBlockEnvironments` holds for a procedure's block. The procedure's array
  -- and record types are numbered from `k`, the count of words ARRAY and RECORD before the
  -- procedure.
  pub HoldsForProcedureEnvironments : (TypeEnvironment Label → Type 0)
      → TypeEnvironment Label
      → ℕ
      → Tree Label (item procedure)
      → Type 0
  HoldsForProcedureEnvironments Q env k (declares_procedure x fs b closing) =
      HoldsForBlockEnvironments Q env (k + formals_constructor_count (formal_parameter_sections fs)) b

-- States that environments agree with declarations in a well-typed module. If the environment in
-- which a block's statements are checked binds an ordinal to an object, `declared_object` returns
-- the same object for this ordinal. An ordinal is the number of a declaration in text order.
abbrev pub BindingsMatchDeclarations : Type 0
BindingsMatchDeclarations =
    (m : Tree Name module_text) → WellTyped m
    → All (λ place. (k : ℕ) (o : Object Shape Signature)
    → object_of_ordinal place.environment k ≡ Some o
    → declared_object m k ≡ Some o) (module_bodies naming_by_label (numbered m))
