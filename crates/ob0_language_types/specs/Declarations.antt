-- Defines the environments after declarations of constants and types, both in the checker and in a
-- run. Counts the words ARRAY and RECORD in declarations, because array and record types are
-- numbered by these words.
-- Rule: docs/LANGUAGE.md, Scopes 2, Types 1.
use Rattle.std.specs.Prelude.{ℕ, ◌+◌, ◌∷◌, Some, Option}
use Rattle.ob0_tree.specs.Tree.{Tree, block, constant, declares, declares_constant, declares_procedure, declares_type, declares_variable, end, section_after_semicolon, forms_block, item, items, more, procedure, semicolon_then_section, type_definition, variable}
use Rattle.ob0_language_names.specs.Names.{Naming}
use Rattle.ob0_language_names.specs.BlockParts.{block_constants, block_types, block_variables, formal_parameter_sections, procedure_formals, parameter_section_type, section_types, section_variables}
use Rattle.ob0_language_types.specs.Environments.{Environment, meanings}
use Rattle.ob0_language_types.specs.Expressions.{a_constant, a_type}
use Rattle.ob0_language_types.specs.Typing.{constant_expression_value, constructor_count, denoted_type, ◌>>=◌}

-- Returns the environment `env` with constants added. A constant is visible only after its own
-- declaration. Returns None if the right side of a declaration isn't a constant expression with a
-- value.
unfoldable pub declare_constants : {N V P : Type 0}
    → Naming N
    → Environment N V P
    → Tree N (items constant)
    → Option (Environment N V P)
unfolding constant_expression_value
declare_constants naming env end = Some env
declare_constants naming env (more (declares_constant x e) cs) = do
  v ← constant_expression_value (meanings naming env) e
  declare_constants naming ((x, a_constant v) ∷ env) cs

-- Returns the environment `env` with types added. A type is visible only after its own declaration.
-- Array and record types are numbered from `k`, the count of words ARRAY and RECORD before these
-- declarations. Returns None if the right side of a declaration denotes no type.
unfoldable pub declare_types : {N V P : Type 0}
    → Naming N
    → Environment N V P
    → ℕ
    → Tree N (items type_definition)
    → Option (Environment N V P)
unfolding denoted_type
declare_types naming env k end = Some env
declare_types naming env k (more (declares_type x u) ds) = do
  s ← denoted_type (meanings naming env) k u
  declare_types naming ((x, a_type s) ∷ env) (k + constructor_count u) ds

-- Returns the environment `env` with a block's constants and then its types added. Array and record
-- types are numbered from `k`, the count of words ARRAY and RECORD before the block. Returns None
-- if one of these declarations has an error.
unfoldable pub declare_constants_and_types : {N V P : Type 0}
    → Naming N
    → Environment N V P
    → ℕ
    → Tree N block
    → Option (Environment N V P)
unfolding declare_constants declare_types
declare_constants_and_types naming env k b = do
  with_constants ← declare_constants naming env (block_constants b)
  declare_types naming with_constants k (block_types b)

-- counts the words ARRAY and RECORD in declarations of types
abbrev pub types_constructor_count : {N : Type 0} → Tree N (items type_definition) → ℕ
types_constructor_count end = 0
types_constructor_count (more (declares_type x u) ds) = constructor_count u + types_constructor_count ds

-- counts the words ARRAY and RECORD in declarations of variables
abbrev pub variables_constructor_count : {N : Type 0} → Tree N (items variable) → ℕ
variables_constructor_count end = 0
variables_constructor_count (more (declares_variable ns u) gs) =
    constructor_count u + variables_constructor_count gs

-- counts the words ARRAY and RECORD in the types of formal parameters
abbrev pub formals_constructor_count : {N : Type 0} → Tree N (items section_after_semicolon) → ℕ
formals_constructor_count end = 0
formals_constructor_count (more (semicolon_then_section f) fs) =
    constructor_count (parameter_section_type f) + formals_constructor_count fs

-- Counts the words ARRAY and RECORD in a block, including its procedures.
abbrev mutual
  -- counts the words ARRAY and RECORD in the types, variables and procedures of a block
  pub block_constructor_count : {N : Type 0} → Tree N block → ℕ
  block_constructor_count (forms_block (declares cs ts vs ps) statements) =
      types_constructor_count (section_types ts)
      + (variables_constructor_count (section_variables vs) + procedure_list_constructor_count ps)

  -- counts the words ARRAY and RECORD in procedures
  pub procedure_list_constructor_count : {N : Type 0} → Tree N (items procedure) → ℕ
  procedure_list_constructor_count end = 0
  procedure_list_constructor_count (more p rest) = procedure_constructor_count p + procedure_list_constructor_count rest

  -- counts the words ARRAY and RECORD in the parameters and the block of a procedure
  pub procedure_constructor_count : {N : Type 0} → Tree N (item procedure) → ℕ
  procedure_constructor_count (declares_procedure x fs b closing) =
      formals_constructor_count (formal_parameter_sections fs) + block_constructor_count b

-- Counts the words ARRAY and RECORD before a block's variables, `k` of which are before the block.
-- The array and record types of the variables are numbered from this count.
abbrev pub constructor_count_before_variables : {N : Type 0} → ℕ → Tree N block → ℕ
constructor_count_before_variables k b = k + types_constructor_count (block_types b)

-- Counts the words ARRAY and RECORD before a block's procedures, `k` of which are before the block.
-- The array and record types of the procedures are numbered from this count.
abbrev pub constructor_count_before_procedures : {N : Type 0} → ℕ → Tree N block → ℕ
constructor_count_before_procedures k b = constructor_count_before_variables k b + variables_constructor_count (block_variables b)

-- Counts the words ARRAY and RECORD before a procedure's block, `k` of which are before the
-- procedure. The block's array and record types are numbered from this count.
abbrev pub constructor_count_before_procedure_block : {N : Type 0} → ℕ → Tree N (item procedure) → ℕ
constructor_count_before_procedure_block k p = k + formals_constructor_count (procedure_formals p)
