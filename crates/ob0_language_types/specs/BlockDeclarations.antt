-- Defines the environments after the declarations of a procedure and of a block.
-- Rule: none; used in definitions of bindings, and in laws about inlining and renaming.
use Rattle.std.specs.Prelude.{ℕ, if◌then◌else◌, Some, None, Option}
use Rattle.ob0_tree.specs.Tree.{Tree, block, item, procedure}
use Rattle.ob0_language_names.specs.Names.{Naming}
use Rattle.ob0_language_names.specs.BlockParts.{block_variables, procedure_formals, procedure_name}
use Rattle.ob0_language_types.specs.Declarations.{constructor_count_before_variables, declare_constants_and_types}
use Rattle.ob0_language_types.specs.Typing.{◌>>=◌}
use Rattle.ob0_language_types.specs.WellTyped.{TypeEnvironment, bind_typed_parameters, declare_typed_variables, bind_procedure, procedure_is_well_typed, typed_parameters}

-- Returns the environment `env` with the name of the procedure `p` added. The procedure's array and
-- record types are numbered from `k`, the count of words ARRAY and RECORD before the procedure.
-- Returns None if the procedure isn't well-typed.
unfoldable pub declare_procedure : {N : Type 0}
    → Naming N
    → TypeEnvironment N
    → ℕ
    → Tree N (item procedure)
    → Option (TypeEnvironment N)
unfolding typed_parameters procedure_is_well_typed
declare_procedure naming env k p = do
  ps ← typed_parameters naming env k (procedure_formals p)
  if procedure_is_well_typed naming (bind_typed_parameters ps (bind_procedure (procedure_name p) ps env)) k p
      then Some (bind_procedure (procedure_name p) ps env)
      else None

-- Returns the environment `env` with a block's constants, types and variables added. The block's
-- array and record types are numbered from `k`, the count of words ARRAY and RECORD before the
-- block. Returns None if one of these declarations has an error.
abbrev pub declare_block : {N : Type 0}
    → Naming N
    → TypeEnvironment N
    → ℕ
    → Tree N block
    → Option (TypeEnvironment N)
declare_block naming env k b =
    declare_constants_and_types naming env k b >>= declare_typed_variables naming (constructor_count_before_variables k b) (block_variables b)
