-- Defines the walk over a module's identifiers in text order. Each visiting function returns the
-- state after a part of the module, given the state before that part. The walk gives each
-- identifier the ordinal of its declaration, which is the declaration's number in text order. The
-- function `put_ordinal` says how the ordinals are collected. This function is a parameter of the
-- state's type (`WalkState`), so it needn't be an argument of the functions below.
-- Rule: none; used in contracts of the walk over identifiers.
use Rattle.std.specs.Prelude.{ℕ, ◌+◌, ◌-◌, List, [], ◌∷◌, ◌++◌, Option, Some, None, map, length, drop}
use Rattle.ob0_tree.specs.declared.tree.Role.{Role}
use Rattle.ob0_tree.specs.declared.tree.Role.TheVariants as role
use Rattle.ob0_tree.specs.Tree.{Sort, Tree, block, constant, constants, declares, declares_constant, declares_const_section, declares_procedure, declares_type, declares_type_section, declares_variable, declares_var_section, end, formals, section_after_semicolon, forms_block, forms_module, item, items, maybe, module_text, more, no_formals, none, one, procedure, section, some_formals, semicolon_then_section, type_definition, type_definitions, value_section, variable, variable_section, variables}
use Rattle.ob0_tree.specs.VisitorStates.{state_after_visit, state_after_identifiers}
use Rattle.ob0_scope_numbering.specs.IdentifierSpellings.{Spellings, spelling_at_token}
use Rattle.ob0_language_names.specs.Names.{Name, naming_by_spelling}
use Rattle.ob0_language_names.specs.BlockParts.{names_in_list}
use Rattle.ob0_language_names.specs.Scopes.{Scope, declare_names, ordinal_in_scope, predeclared_count, predeclared_scope}

-- The state of the walk over a module's identifiers. `spellings` has the spellings of all
-- identifiers, and `scope` the names that are visible at the next identifier. The other fields are
-- about the identifiers visited so far. `declaration_tokens` has the tokens of declaring names, and
-- `uses` the tokens of looked-up names. `marks` has the ordinals of all these identifiers, in a
-- collection of the type `M`. The function `put_ordinal` adds the ordinal of the identifier at a
-- token (None if it has no ordinal) to the collection.
pub record WalkState {M : Type 0} (put_ordinal : ℕ → Option ℕ → M → M) : Type 0 where
  pub spellings : Spellings
  pub scope : Scope Name
  pub declaration_tokens : List ℕ
  pub uses : List ℕ
  pub marks : M

module _ {M : Type 0} {put_ordinal : ℕ → Option ℕ → M → M} where
  -- returns the state before the first identifier of a module, with this collection of ordinals
  abbrev pub state_before_module : Spellings → M → WalkState put_ordinal
  state_before_module spellings marks =
      record {
        spellings = spellings;
        scope = predeclared_scope naming_by_spelling;
        declaration_tokens = [];
        uses = [];
        marks = marks;
      }

  -- makes the name at the token `i` visible, bound to the declaration with this ordinal
  abbrev pub with_visible_name : ℕ → ℕ → WalkState put_ordinal → WalkState put_ordinal
  with_visible_name i ordinal v = record v { scope = (spelling_at_token v.spellings i, ordinal) ∷ v.scope }

  -- Makes the names of the declarations so far visible, in order, but skips the first `first`
  -- declarations. Predeclared names don't count as declarations here.
  abbrev pub with_names_visible_from_index : ℕ → WalkState put_ordinal → WalkState put_ordinal
  with_names_visible_from_index first v =
      record v {
        scope
            = declare_names (predeclared_count + first) (map (spelling_at_token v.spellings) (drop first v.declaration_tokens)) v.scope;
      }

  -- removes all bindings of the scope except the oldest `len`
  abbrev pub with_oldest_bindings : ℕ → WalkState put_ordinal → WalkState put_ordinal
  with_oldest_bindings len v = record v { scope = drop (length v.scope - len) v.scope }

  -- Returns the state after the heading of a procedure, given the state after its last parameter.
  -- First, the bindings of the parameters are removed. Then the procedure and its parameters are
  -- bound, in this order. `own` is the number of declarations before the procedure, and `outside`
  -- the number of bindings before the procedure.
  abbrev pub state_after_heading : ℕ → ℕ → WalkState put_ordinal → WalkState put_ordinal
  state_after_heading own outside v = with_names_visible_from_index own (with_oldest_bindings outside v)

  -- Returns the state after the block of the procedure whose name is at the token `x`. Only the
  -- `outside` oldest bindings are kept: the bindings that existed before the procedure. Then the
  -- procedure's name is bound to `ordinal`, so that it's visible after the procedure.
  abbrev pub state_after_procedure_block : ℕ → ℕ → ℕ → WalkState put_ordinal → WalkState put_ordinal
  state_after_procedure_block x ordinal outside v = with_visible_name x ordinal (with_oldest_bindings outside v)

  -- gives the identifier at the token `i` this ordinal, or no ordinal (None)
  abbrev pub with_mark : ℕ → Option ℕ → WalkState put_ordinal → WalkState put_ordinal
  with_mark i ordinal v = record v { marks = put_ordinal i ordinal v.marks }

  -- appends the token `i` of a declaring name to the declarations, and gives this name the next
  -- ordinal
  abbrev pub number_declaration : ℕ → WalkState put_ordinal → WalkState put_ordinal
  number_declaration i v =
      record v {
        declaration_tokens = v.declaration_tokens ++ (i ∷ []);
        marks = put_ordinal i (Some (predeclared_count + length v.declaration_tokens)) v.marks;
      }

  abbrev pub number_declarations : List ℕ → WalkState put_ordinal → WalkState put_ordinal
  number_declarations [] v = v
  number_declarations (i ∷ is) v = number_declarations is (number_declaration i v)

  -- Visits the identifier at the token `i` in a tree that declares nothing. A looked-up name gets
  -- the ordinal of its declaration, or None if the name is unbound. Any other identifier gets None.
  abbrev pub visit_identifier : Role → ℕ → WalkState put_ordinal → WalkState put_ordinal
  visit_identifier role.LookedUpName i v =
      record v {
        uses = v.uses ++ (i ∷ []);
        marks = put_ordinal i (ordinal_in_scope naming_by_spelling v.scope (spelling_at_token v.spellings i)) v.marks;
      }
  visit_identifier role.DeclaringName i v = with_mark i None v
  visit_identifier role.ClosingName i v = with_mark i None v
  visit_identifier role.FieldName i v = with_mark i None v
  visit_identifier role.ModuleName i v = with_mark i None v

  abbrev pub visit_identifiers : List (Role × ℕ) → WalkState put_ordinal → WalkState put_ordinal
  visit_identifiers xs v = state_after_identifiers visit_identifier xs v

  -- visits the identifiers of a tree that declares nothing: an expression, a type or statements
  abbrev pub visit_nondeclaring_tree : {s : Sort} → Tree ℕ s → WalkState put_ordinal → WalkState put_ordinal
  visit_nondeclaring_tree t v = state_after_visit visit_identifier t v

  -- visits the declaration of a constant, and then makes the constant's name visible
  abbrev pub visit_constant : Tree ℕ (item constant) → WalkState put_ordinal → WalkState put_ordinal
  visit_constant (declares_constant x e) v =
      with_names_visible_from_index (length v.declaration_tokens) (visit_nondeclaring_tree e (number_declaration x v))

  abbrev pub visit_constants : Tree ℕ (items constant) → WalkState put_ordinal → WalkState put_ordinal
  visit_constants end v = v
  visit_constants (more c cs) v = visit_constants cs (visit_constant c v)

  abbrev pub visit_type : Tree ℕ (item type_definition) → WalkState put_ordinal → WalkState put_ordinal
  visit_type (declares_type x t) v = with_names_visible_from_index (length v.declaration_tokens) (visit_nondeclaring_tree t (number_declaration x v))

  abbrev pub visit_types : Tree ℕ (items type_definition) → WalkState put_ordinal → WalkState put_ordinal
  visit_types end v = v
  visit_types (more t ts) v = visit_types ts (visit_type t v)

  abbrev pub visit_variable : Tree ℕ (item variable) → WalkState put_ordinal → WalkState put_ordinal
  visit_variable (declares_variable ns t) v =
      with_names_visible_from_index (length v.declaration_tokens) (visit_nondeclaring_tree t (number_declarations (names_in_list ns) v))

  abbrev pub visit_variables : Tree ℕ (items variable) → WalkState put_ordinal → WalkState put_ordinal
  visit_variables end v = v
  visit_variables (more g gs) v = visit_variables gs (visit_variable g v)

  abbrev pub visit_parameter_section : Tree ℕ section → WalkState put_ordinal → WalkState put_ordinal
  visit_parameter_section (value_section ns t) v =
      with_names_visible_from_index (length v.declaration_tokens) (visit_nondeclaring_tree t (number_declarations (names_in_list ns) v))
  visit_parameter_section (variable_section ns t) v =
      with_names_visible_from_index (length v.declaration_tokens) (visit_nondeclaring_tree t (number_declarations (names_in_list ns) v))

  abbrev pub visit_parameter_sections : Tree ℕ (items section_after_semicolon) → WalkState put_ordinal → WalkState put_ordinal
  visit_parameter_sections end v = v
  visit_parameter_sections (more (semicolon_then_section s) rest) v = visit_parameter_sections rest (visit_parameter_section s v)

  abbrev pub visit_formals : Tree ℕ (maybe formals) → WalkState put_ordinal → WalkState put_ordinal
  visit_formals none v = v
  visit_formals (one no_formals) v = v
  visit_formals (one (some_formals s rest)) v = visit_parameter_sections rest (visit_parameter_section s v)

  abbrev pub visit_constant_section : Tree ℕ (maybe constants) → WalkState put_ordinal → WalkState put_ordinal
  visit_constant_section none v = v
  visit_constant_section (one (declares_const_section cs)) v = visit_constants cs v

  abbrev pub visit_type_section : Tree ℕ (maybe type_definitions) → WalkState put_ordinal → WalkState put_ordinal
  visit_type_section none v = v
  visit_type_section (one (declares_type_section ts)) v = visit_types ts v

  abbrev pub visit_variable_section : Tree ℕ (maybe variables) → WalkState put_ordinal → WalkState put_ordinal
  visit_variable_section none v = v
  visit_variable_section (one (declares_var_section vs)) v = visit_variables vs v

  abbrev mutual
    -- visits a block: its sections, its procedures and its statements, in text order
    pub visit_block : Tree ℕ block → WalkState put_ordinal → WalkState put_ordinal
    visit_block (forms_block (declares cs ts vs ps) statements) v =
        visit_nondeclaring_tree statements (visit_procedure_list ps
        (visit_variable_section vs (visit_type_section ts (visit_constant_section cs v))))

    -- visits the procedures of a block, in order
    pub visit_procedure_list : Tree ℕ (items procedure) → WalkState put_ordinal → WalkState put_ordinal
    visit_procedure_list end v = v
    visit_procedure_list (more p ps) v = visit_procedure_list ps (visit_procedure p v)

    -- visits a procedure: its name, its parameters, its block and its closing name
    pub visit_procedure : Tree ℕ (item procedure) → WalkState put_ordinal → WalkState put_ordinal
    visit_procedure (declares_procedure x fs b closing) v =
        with_mark closing (Some (predeclared_count + length v.declaration_tokens))
        (state_after_procedure_block x (predeclared_count + length v.declaration_tokens) (length v.scope)
        (visit_block b (state_after_heading (length v.declaration_tokens) (length v.scope)
        (visit_formals fs (number_declaration x v)))))

  abbrev pub visit_module : Tree ℕ module_text → WalkState put_ordinal → WalkState put_ordinal
  visit_module (forms_module x b closing) v = with_mark closing None (visit_block b (with_mark x None v))
