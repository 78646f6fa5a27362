-- Defines well-typed modules, by the type checks of statements, declarations, blocks and modules.
-- Rule: docs/LANGUAGE.md, Types 8.
use Rattle.std.specs.Prelude.{ℕ, ◌+◌, Bool, true, false, ◌&&◌, List, [], ◌∷◌, ◌++◌, map, IsTrue, ◌==◌, Some, None, Option}
use Rattle.ob0_tree.specs.Tree.{Tree, assigns, begins, block, body, branches, calls, declares, declares_procedure, declares_variable, else_branch, else_part, elsif_branch, elsif_part, empty, end, expression, section_after_semicolon, statement_after_semicolon, forms_block, item, items, maybe, module_text, more, none, one, procedure, repeat_loop, runs, section, selector, sequence, statement, semicolon_then_section, semicolon_then_statement, value_section, variable, variable_section, while_loop}
use Rattle.ob0_language_names.specs.ConsistentNames.{has_consistent_names}
use Rattle.ob0_language_names.specs.Names.{Name, Naming, naming_by_spelling, same_name}
use Rattle.ob0_language_names.specs.BlockParts.{formal_parameter_sections, module_block, names_in_list, procedure_formals, procedure_name, parameter_section_names, parameter_section_type, section_variables}
use Rattle.ob0_language_types.specs.Arguments.{call_arguments}
use Rattle.ob0_language_types.specs.Declarations.{constructor_count_before_variables, constructor_count_before_procedures, declare_constants_and_types, formals_constructor_count, procedure_constructor_count}
use Rattle.ob0_language_types.specs.Environments.{Environment, meanings, outermost_environment}
use Rattle.ob0_language_types.specs.Expressions.{Meanings, Object, a_procedure, a_standard_procedure, a_variable, read_procedure, write_procedure, write_line_procedure}
use Rattle.ob0_language_types.specs.Typing.{constructor_count, denoted_type, lone_designator, type_after_selectors, type_of_expression, ◌>>=◌}
use Rattle.ob0_language_values.specs.Values.{FieldShapes, Shape, array_shape, boolean_shape, integer_shape, next_field_shape, no_field_shape, record_shape}

-- Returns whether two types are equal.
abbrev mutual
  -- Returns whether two types are equal. Scalar types are equal if both are INTEGER or both are
  -- BOOLEAN. Array types, and record types, are equal if both come from the same word ARRAY or
  -- RECORD of the text and their parts are equal.
  pub same_shape : Shape → Shape → Bool
  same_shape integer_shape integer_shape = true
  same_shape boolean_shape boolean_shape = true
  same_shape (array_shape k n s) (array_shape j m t) = (k == j) && ((n == m) && same_shape s t)
  same_shape (record_shape k fs) (record_shape j gs) = (k == j) && same_fields fs gs
  same_shape _ _ = false

  -- returns whether two lists of fields have the same names and types, in the same order
  pub same_fields : FieldShapes → FieldShapes → Bool
  same_fields no_field_shape no_field_shape = true
  same_fields (next_field_shape x s rest) (next_field_shape y t others) =
      same_name x y && (same_shape s t && same_fields rest others)
  same_fields _ _ = false

-- the mode of a parameter: a VAR parameter gets the place of its argument, any other parameter gets the argument's
-- value
pub data ParameterMode : Type 0 where
  by_value by_place : ParameterMode

-- returns the mode of a section of parameters: by place if the section begins with VAR, otherwise by value
abbrev pub parameter_section_mode : {N : Type 0} → Tree N section → ParameterMode
parameter_section_mode (value_section ns t) = by_value
parameter_section_mode (variable_section ns t) = by_place

-- a formal parameter: its mode and its type
pub record FormalParameter : Type 0 where
  pub mode : ParameterMode
  pub shape : Shape

-- the modes and types of a procedure's parameters
abbrev pub Signature : Type 0
Signature = List FormalParameter

-- the meanings of names in the checker, which knows the type of each variable and the signature of each procedure
abbrev pub TypeMeanings : Type 0 → Type 0
TypeMeanings N = Meanings N Shape Signature

-- the environments of the checker, which bind variables to their types and procedures to their
-- signatures
abbrev pub TypeEnvironment : Type 0 → Type 0
TypeEnvironment N = Environment N Shape Signature

-- returns whether both types exist (neither is None) and are equal
abbrev pub same_known_shape : Option Shape → Option Shape → Bool
same_known_shape (Some s) (Some t) = same_shape s t
same_known_shape _ _ = false

-- Returns the type of a designator that may be assigned to or passed as a VAR argument: a variable or parameter,
-- possibly followed by selectors. Returns None if there is no designator, its name isn't a variable or parameter, or
-- its selectors have an error.
unfoldable pub assignable_type : {N P : Type 0}
    → Meanings N Shape P
    → Option (N × Tree N (items selector))
    → Option Shape
unfolding type_of_expression
assignable_type meaning None = None
assignable_type meaning (Some (x, path)) =
    elim (meaning.object_for x) [ Some (a_variable s) ↦ type_after_selectors meaning s path | _ ↦ None ]

-- returns the signature of a procedure or a standard procedure; None for any other object
abbrev pub signature_of : Option (Object Shape Signature) → Option Signature
signature_of (Some (a_procedure signature)) = Some signature
signature_of (Some (a_standard_procedure read_procedure)) =
    Some (record { mode = by_place; shape = integer_shape } ∷ [])
signature_of (Some (a_standard_procedure write_procedure)) =
    Some (record { mode = by_value; shape = integer_shape } ∷ [])
signature_of (Some (a_standard_procedure write_line_procedure)) = Some []
signature_of _ = None

-- Returns whether an argument has its parameter's type. For a VAR parameter, the argument must also be a variable or
-- parameter, possibly followed by selectors, without parentheses.
unfoldable pub argument_matches_parameter : {N P : Type 0}
    → Meanings N Shape P
    → FormalParameter
    → Tree N expression
    → Bool
unfolding type_of_expression assignable_type
argument_matches_parameter meaning f e =
    same_known_shape (Some f.shape) (elim f.mode
    [ by_value ↦ type_of_expression meaning e | by_place ↦ assignable_type meaning (lone_designator e) ])

-- Returns whether there are as many arguments as parameters, and each argument has the type and
-- form that its parameter requires. See docs/LANGUAGE.md, Types 2 and 5.
unfoldable pub arguments_match_signature : {N P : Type 0}
    → Meanings N Shape P
    → Signature
    → List (Tree N expression)
    → Bool
unfolding argument_matches_parameter
arguments_match_signature meaning [] [] = true
arguments_match_signature meaning (f ∷ fs) (e ∷ es) = argument_matches_parameter meaning f e && arguments_match_signature meaning fs es
arguments_match_signature meaning _ _ = false

-- returns whether there is a signature and the arguments match it; the signature is None if the called name isn't the
-- name of a procedure
unfoldable pub call_is_well_typed : {N P : Type 0}
    → Meanings N Shape P
    → Option Signature
    → List (Tree N expression)
    → Bool
unfolding arguments_match_signature
call_is_well_typed meaning None es = false
call_is_well_typed meaning (Some signature) es = arguments_match_signature meaning signature es

-- returns whether an expression has the type BOOLEAN, as a condition must
unfoldable pub condition_is_boolean : {N P : Type 0} → Meanings N Shape P → Tree N expression → Bool
unfolding type_of_expression
condition_is_boolean meaning e = same_known_shape (Some boolean_shape) (type_of_expression meaning e)

-- Returns whether a statement is well-typed. Both sides of an assignment must have the same type.
-- The arguments of a call must match the procedure's parameters. Conditions must be BOOLEAN.
unfoldable mutual
  unfolding condition_is_boolean call_is_well_typed

  -- returns whether a statement and the statements inside it are well-typed
  pub statement_is_well_typed : {N : Type 0} → TypeMeanings N → Tree N statement → Bool
  statement_is_well_typed meaning empty = true
  statement_is_well_typed meaning (assigns x path e) =
      same_known_shape (assignable_type meaning (Some (x, path))) (type_of_expression meaning e)
  statement_is_well_typed meaning (calls x es) =
      call_is_well_typed meaning (signature_of (meaning.object_for x)) (call_arguments es)
  statement_is_well_typed meaning (branches e statements rest last) =
      condition_is_boolean meaning e
      && (sequence_is_well_typed meaning statements && (elsifs_are_well_typed meaning rest && else_is_well_typed meaning last))
  statement_is_well_typed meaning (while_loop e statements) =
      condition_is_boolean meaning e && sequence_is_well_typed meaning statements
  statement_is_well_typed meaning (repeat_loop statements e) =
      sequence_is_well_typed meaning statements && condition_is_boolean meaning e

  -- returns whether each statement of a sequence is well-typed
  pub sequence_is_well_typed : {N : Type 0} → TypeMeanings N → Tree N sequence → Bool
  sequence_is_well_typed meaning (runs a rest) = statement_is_well_typed meaning a && further_statements_are_well_typed meaning rest

  -- returns whether each statement of a sequence after the first one is well-typed
  pub further_statements_are_well_typed : {N : Type 0} → TypeMeanings N → Tree N (items statement_after_semicolon) → Bool
  further_statements_are_well_typed meaning end = true
  further_statements_are_well_typed meaning (more (semicolon_then_statement a) rest) =
      statement_is_well_typed meaning a && further_statements_are_well_typed meaning rest

  -- returns whether the condition and the statements of each ELSIF part are well-typed
  pub elsifs_are_well_typed : {N : Type 0} → TypeMeanings N → Tree N (items elsif_part) → Bool
  elsifs_are_well_typed meaning end = true
  elsifs_are_well_typed meaning (more (elsif_branch e statements) rest) =
      condition_is_boolean meaning e && (sequence_is_well_typed meaning statements && elsifs_are_well_typed meaning rest)

  -- returns whether the statements of the ELSE part are well-typed; true if there is no ELSE part
  pub else_is_well_typed : {N : Type 0} → TypeMeanings N → Tree N (maybe else_part) → Bool
  else_is_well_typed meaning none = true
  else_is_well_typed meaning (one (else_branch statements)) = sequence_is_well_typed meaning statements

-- returns the environment `env` with each of these names bound to the object `o`
abbrev pub bind_names : {N V P : Type 0}
    → List N
    → Object V P
    → Environment N V P
    → Environment N V P
bind_names [] o env = env
bind_names (x ∷ xs) o env = bind_names xs o ((x, o) ∷ env)

-- Returns the environment `env` with variables added. The variables of a group (`x, y: T`) are
-- visible only after the group's type. Array and record types are numbered from `k`, the count of
-- words ARRAY and RECORD before these declarations. Returns None if a type has an error.
unfoldable pub declare_typed_variables : {N : Type 0}
    → Naming N
    → ℕ
    → Tree N (items variable)
    → TypeEnvironment N
    → Option (TypeEnvironment N)
unfolding denoted_type
declare_typed_variables naming k end env = Some env
declare_typed_variables naming k (more (declares_variable ns u) gs) env = do
  s ← denoted_type (meanings naming env) k u
  declare_typed_variables naming (k + constructor_count u) gs (bind_names (names_in_list ns) (a_variable s) env)

-- a formal parameter with its name, mode and type
pub record TypedParameter (N : Type 0) : Type 0 where
  pub name : N
  pub formal : FormalParameter

-- Returns the parameters of a procedure heading, with their names, modes and types. The names of a
-- section are visible in the later sections. The procedure's name isn't visible yet. Array and
-- record types are numbered from `k`, the count of words ARRAY and RECORD before the parameters.
-- Returns None if a type has an error.
unfoldable pub typed_parameters : {N : Type 0}
    → Naming N
    → TypeEnvironment N
    → ℕ
    → Tree N (items section_after_semicolon)
    → Option (List (TypedParameter N))
unfolding denoted_type
typed_parameters naming env k end = Some []
typed_parameters naming env k (more (semicolon_then_section f) fs) = do
  s ← denoted_type (meanings naming env) k (parameter_section_type f)
  rest ← typed_parameters naming (bind_names (parameter_section_names f) (a_variable s) env)
      (k + constructor_count (parameter_section_type f)) fs
  Some (map (λ x. record { name = x; formal = record { mode = parameter_section_mode f; shape = s } })
      (parameter_section_names f)
      ++ rest)

-- returns the environment `env` with these parameters added, each bound as a variable of its type
abbrev pub bind_typed_parameters : {N : Type 0}
    → List (TypedParameter N)
    → TypeEnvironment N
    → TypeEnvironment N
bind_typed_parameters [] env = env
bind_typed_parameters (p ∷ ps) env = bind_typed_parameters ps ((p.name, a_variable p.formal.shape) ∷ env)

-- returns the environment `env` with the procedure `x` bound to the modes and types of its parameters `ps`
abbrev pub bind_procedure : {N : Type 0}
    → N
    → List (TypedParameter N)
    → TypeEnvironment N
    → TypeEnvironment N
bind_procedure x ps env = (x, a_procedure (map (λ p. p.formal) ps)) ∷ env

-- returns whether the statements of a block (its body) are well-typed; true if the block has no statements
unfoldable pub body_is_well_typed : {N : Type 0} → Naming N → TypeEnvironment N → Tree N (maybe body) → Bool
unfolding statement_is_well_typed
body_is_well_typed naming env none = true
body_is_well_typed naming env (one (begins statements)) = sequence_is_well_typed (meanings naming env) statements

-- returns whether an optional value isn't None and the function `test` returns true for it
abbrev pub option_satisfies : {A : Type 0} → Option A → (A → Bool) → Bool
option_satisfies None test = false
option_satisfies (Some a) test = test a

-- Returns whether a block is well-typed. The check covers its declarations, then each procedure, then its statements. A
-- procedure is checked in the environment that has the block's earlier procedures. The statements are checked in the
-- environment that has all the block's declarations.
unfoldable mutual
  unfolding declare_constants_and_types declare_typed_variables typed_parameters body_is_well_typed

  -- returns whether a block is well-typed; its array and record types are numbered from `k`, the
  -- count of words ARRAY and RECORD before the block
  pub block_is_well_typed : {N : Type 0} → Naming N → TypeEnvironment N → ℕ → Tree N block → Bool
  block_is_well_typed naming env k (forms_block (declares cs ts vs ps) statements) =
      option_satisfies (do
        first ← declare_constants_and_types naming env k (forms_block (declares cs ts vs ps) statements)
        declare_typed_variables naming (constructor_count_before_variables k (forms_block (declares cs ts vs ps) statements))
            (section_variables vs) first)
      (λ inner. procedures_and_body_are_well_typed naming inner
      (constructor_count_before_procedures k (forms_block (declares cs ts vs ps) statements)) statements ps)

  -- Returns whether each procedure of a block is well-typed in the environment that has the earlier
  -- procedures. The block's body `statements` must also be well-typed in the environment that has
  -- all procedures. Array and record types are numbered from `k`, the count of words ARRAY and
  -- RECORD before the procedures.
  pub procedures_and_body_are_well_typed : {N : Type 0}
      → Naming N
      → TypeEnvironment N
      → ℕ
      → Tree N (maybe body)
      → Tree N (items procedure)
      → Bool
  procedures_and_body_are_well_typed naming env k statements end = body_is_well_typed naming env statements
  procedures_and_body_are_well_typed naming env k statements (more p rest) =
      option_satisfies (typed_parameters naming env k (procedure_formals p))
      (λ ps. procedure_is_well_typed naming (bind_typed_parameters ps (bind_procedure (procedure_name p) ps env)) k p
      && procedures_and_body_are_well_typed naming (bind_procedure (procedure_name p) ps env) (k + procedure_constructor_count p)
      statements rest)

  -- Returns whether a procedure's block is well-typed. `env` already binds the procedure's name and
  -- parameters. Array and record types are numbered from `k`, the count of words ARRAY and RECORD
  -- before the procedure.
  pub procedure_is_well_typed : {N : Type 0}
      → Naming N
      → TypeEnvironment N
      → ℕ
      → Tree N (item procedure)
      → Bool
  procedure_is_well_typed naming env k (declares_procedure x fs b closing) =
      block_is_well_typed naming env (k + formals_constructor_count (formal_parameter_sections fs)) b

-- returns whether a module passes the type check; this check ignores names that are declared twice and wrong closing
-- names
unfoldable pub passes_type_check : {N : Type 0} → Naming N → Tree N module_text → Bool
unfolding block_is_well_typed
passes_type_check naming m = block_is_well_typed naming (outermost_environment naming) 0 (module_block m)

-- States that a module is well-typed. It passes the type check, declares no name twice in a block
-- or record, and has the right closing names.
unfoldable pub WellTyped : Tree Name module_text → Type 0
unfolding passes_type_check
WellTyped m = IsTrue (has_consistent_names m) × IsTrue (passes_type_check naming_by_spelling m)
