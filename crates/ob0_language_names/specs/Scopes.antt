-- Defines scopes, the declaration to which each name is bound, and trees in which labels replace
-- the names.
-- Rule: docs/LANGUAGE.md, Scopes 1 to 6.
use Rattle.std.specs.Prelude.{ℕ, suc, Bool, true, false, List, [], ◌∷◌, map, if◌then◌else◌, ◌==◌, Some, None, Option}
use Rattle.ob0_tree.specs.Tree.{Sort, Tree, block, constant, constants, declares, declares_constant, declares_const_section, declares_procedure, declares_type, declares_type_section, declares_variable, declares_var_section, end, formals, name_after_comma, section_after_semicolon, forms_block, forms_module, item, items, listed, maybe, module_text, more, names, no_formals, none, one, procedure, section, some_formals, comma_then_name, semicolon_then_section, type_definition, type_definitions, value_section, variable, variable_section, variables}
use Rattle.ob0_language_names.specs.MappedNames.{map_names}
use Rattle.ob0_language_names.specs.Names.{Label, Name, Naming, naming_by_spelling, as_written, declared}
use Rattle.ob0_language_names.specs.BlockParts.{block_constants, block_procedures, block_types, block_variables, constant_names, formal_parameter_names, formal_parameter_sections, declared_type_names, names_in_list, procedure_name, section_constants, parameter_section_names, section_types, section_variables, variable_names}

-- The bindings that are visible at a place in the text: names with the ordinals of their declarations. The newest
-- binding comes first, and the predeclared names come last.
abbrev pub Scope : Type 0 → Type 0
Scope N = List (N × ℕ)

-- returns the ordinal of the declaration that the name `x` is bound to: the first declaration with this name in the
-- scope; None if the scope doesn't have this name
abbrev pub ordinal_in_scope : {N : Type 0} → Naming N → Scope N → N → Option ℕ
ordinal_in_scope naming [] x = None
ordinal_in_scope naming (b ∷ scope) x =
    elim (naming.same x b.0) [ true ↦ Some b.1 | false ↦ ordinal_in_scope naming scope x ]

-- Returns the scope with these names added. The first name gets the ordinal `k`, and each further
-- name gets the next ordinal. The declarations of a module are numbered in text order, after the
-- predeclared names, which have the ordinals 0 to 6.
abbrev pub declare_names : {N : Type 0} → ℕ → List N → Scope N → Scope N
declare_names k [] scope = scope
declare_names k (x ∷ xs) scope = declare_names (suc k) xs ((x, k) ∷ scope)

-- the number of predeclared names; it is also the ordinal of a module's first declaration
abbrev pub predeclared_count : ℕ
predeclared_count = 7

-- returns the scope of the outermost block, which has the predeclared names
abbrev pub predeclared_scope : {N : Type 0} → Naming N → Scope N
predeclared_scope naming =
    declare_names 0 (map naming.predeclared (0 ∷ 1 ∷ 2 ∷ 3 ∷ 4 ∷ 5 ∷ 6 ∷ [])) []

-- returns the ordinal of the first declaration after these names, whose ordinals count up from `k`
abbrev pub ordinal_after_names : {N : Type 0} → ℕ → List N → ℕ
ordinal_after_names k [] = k
ordinal_after_names k (x ∷ xs) = ordinal_after_names (suc k) xs

-- Returns the ordinal of the next declaration after a block, after a list of procedures, or after a
-- procedure.
abbrev mutual
  -- returns the ordinal of the next declaration after a block whose first declaration has ordinal
  -- `k`
  pub ordinal_after_block : {N : Type 0} → ℕ → Tree N block → ℕ
  ordinal_after_block k (forms_block (declares cs ts vs ps) statements) =
      ordinal_after_procedure_list (ordinal_after_names (ordinal_after_names
      (ordinal_after_names k (constant_names (section_constants cs))) (declared_type_names (section_types ts)))
      (variable_names (section_variables vs))) ps

  -- returns the ordinal of the next declaration after procedures, the first of which has ordinal
  -- `k`
  pub ordinal_after_procedure_list : {N : Type 0} → ℕ → Tree N (items procedure) → ℕ
  ordinal_after_procedure_list k end = k
  ordinal_after_procedure_list k (more p rest) = ordinal_after_procedure_list (ordinal_after_procedure (suc k) p) rest

  -- Returns the ordinal of the next declaration after a procedure. The procedure's name has ordinal
  -- `k - 1`. Its first parameter, or the first declaration in its block if it has no parameters,
  -- has ordinal `k`.
  pub ordinal_after_procedure : {N : Type 0} → ℕ → Tree N (item procedure) → ℕ
  ordinal_after_procedure k (declares_procedure x fs b closing) =
      ordinal_after_block (ordinal_after_names k (formal_parameter_names (formal_parameter_sections fs))) b

-- A function that returns the label that replaces a name. The first argument is the ordinal of the
-- name's declaration, or None if the name is unbound. The second argument is the name itself.
abbrev pub Labelling : Type 0 → Type 0 → Type 0
Labelling N M = Option ℕ → N → M

-- returns the label of the looked-up name `x`; `scope` is the scope at the name's place in the text
abbrev pub label_in_scope : {N M : Type 0} → Naming N → Labelling N M → Scope N → N → M
label_in_scope naming label scope x = label (ordinal_in_scope naming scope x) x

-- Returns an expression, statements or a written type, with labels instead of names. Its names are
-- looked up in `scope`. The names of fields aren't looked up: they get the labels of unbound names.
abbrev pub relabel_uses : {N M : Type 0} {s : Sort}
    → Naming N
    → Labelling N M
    → Scope N
    → Tree N s
    → Tree M s
relabel_uses naming label scope = map_names (label_in_scope naming label scope) (label None)

-- returns the labels of declared names, whose ordinals count up from `k`
abbrev pub labels_of_declared_names : {N M : Type 0} → Labelling N M → ℕ → List N → List M
labels_of_declared_names label k [] = []
labels_of_declared_names label k (x ∷ xs) = label (Some k) x ∷ labels_of_declared_names label (suc k) xs

-- returns the rest of a list of declared names, after the first name, with labels instead of names;
-- the ordinals of these names count up from `k`
abbrev pub relabel_names_after_first : {N M : Type 0}
    → Labelling N M
    → ℕ
    → Tree N (items name_after_comma)
    → Tree M (items name_after_comma)
relabel_names_after_first label k end = end
relabel_names_after_first label k (more (comma_then_name x) rest) =
    more (comma_then_name (label (Some k) x)) (relabel_names_after_first label (suc k) rest)

-- returns a list of declared names, with labels instead of names; the ordinals of these names count up from `k`
abbrev pub relabel_names : {N M : Type 0} → Labelling N M → ℕ → Tree N names → Tree M names
relabel_names label k (listed x rest) =
    listed (label (Some k) x) (relabel_names_after_first label (suc k) rest)

-- returns declarations of constants with labels instead of names; the constants' ordinals count up from `k`, and each
-- constant is visible only after its own declaration
abbrev pub relabel_constants : {N M : Type 0}
    → Naming N
    → Labelling N M
    → Scope N
    → ℕ
    → Tree N (items constant)
    → Tree M (items constant)
relabel_constants naming label scope k end = end
relabel_constants naming label scope k (more (declares_constant x e) cs) =
    more (declares_constant (label (Some k) x) (relabel_uses naming label scope e))
    (relabel_constants naming label ((x, k) ∷ scope) (suc k) cs)

-- returns declarations of types with labels instead of names; the types' ordinals count up from `k`, and each type is
-- visible only after its own declaration
abbrev pub relabel_types : {N M : Type 0}
    → Naming N
    → Labelling N M
    → Scope N
    → ℕ
    → Tree N (items type_definition)
    → Tree M (items type_definition)
relabel_types naming label scope k end = end
relabel_types naming label scope k (more (declares_type x t) ds) =
    more (declares_type (label (Some k) x) (relabel_uses naming label scope t))
    (relabel_types naming label ((x, k) ∷ scope) (suc k) ds)

-- returns declarations of variables with labels instead of names; the variables' ordinals count up
-- from `k`, and the variables of a group are visible only after the group
abbrev pub relabel_variables : {N M : Type 0}
    → Naming N
    → Labelling N M
    → Scope N
    → ℕ
    → Tree N (items variable)
    → Tree M (items variable)
relabel_variables naming label scope k end = end
relabel_variables naming label scope k (more (declares_variable ns t) gs) =
    more (declares_variable (relabel_names label k ns) (relabel_uses naming label scope t))
    (relabel_variables naming label (declare_names k (names_in_list ns) scope)
    (ordinal_after_names k (names_in_list ns)) gs)

-- returns a section of parameters with labels instead of names; the parameters' ordinals count up from `k`
abbrev pub relabel_parameter_section : {N M : Type 0}
    → Naming N
    → Labelling N M
    → Scope N
    → ℕ
    → Tree N section
    → Tree M section
relabel_parameter_section naming label scope k (value_section ns t) =
    value_section (relabel_names label k ns) (relabel_uses naming label scope t)
relabel_parameter_section naming label scope k (variable_section ns t) =
    variable_section (relabel_names label k ns) (relabel_uses naming label scope t)

-- returns a list of sections of parameters with labels instead of names; the parameters' ordinals
-- count up from `k`, and each parameter is visible only after its own section
abbrev pub relabel_parameter_section_list : {N M : Type 0}
    → Naming N
    → Labelling N M
    → Scope N
    → ℕ
    → Tree N (items section_after_semicolon)
    → Tree M (items section_after_semicolon)
relabel_parameter_section_list naming label scope k end = end
relabel_parameter_section_list naming label scope k (more (semicolon_then_section s) fs) =
    more (semicolon_then_section (relabel_parameter_section naming label scope k s))
    (relabel_parameter_section_list naming label (declare_names k (parameter_section_names s) scope)
    (ordinal_after_names k (parameter_section_names s)) fs)

-- returns formal parameters with labels instead of names; the parameters' ordinals count up from `k`
abbrev pub relabel_formals : {N M : Type 0}
    → Naming N
    → Labelling N M
    → Scope N
    → ℕ
    → Tree N (maybe formals)
    → Tree M (maybe formals)
relabel_formals naming label scope k none = none
relabel_formals naming label scope k (one no_formals) = one no_formals
relabel_formals naming label scope k (one (some_formals s fs)) =
    one (some_formals (relabel_parameter_section naming label scope k s)
    (relabel_parameter_section_list naming label (declare_names k (parameter_section_names s) scope)
    (ordinal_after_names k (parameter_section_names s)) fs))

-- returns a CONST section with labels instead of names; the ordinals of its constants count up from
-- `k`
abbrev pub relabel_constant_section : {N M : Type 0}
    → Naming N
    → Labelling N M
    → Scope N
    → ℕ
    → Tree N (maybe constants)
    → Tree M (maybe constants)
relabel_constant_section naming label scope k none = none
relabel_constant_section naming label scope k (one (declares_const_section cs)) =
    one (declares_const_section (relabel_constants naming label scope k cs))

-- returns a TYPE section with labels instead of names; the ordinals of its types count up from `k`
abbrev pub relabel_type_section : {N M : Type 0}
    → Naming N
    → Labelling N M
    → Scope N
    → ℕ
    → Tree N (maybe type_definitions)
    → Tree M (maybe type_definitions)
relabel_type_section naming label scope k none = none
relabel_type_section naming label scope k (one (declares_type_section ts)) =
    one (declares_type_section (relabel_types naming label scope k ts))

-- returns a VAR section with labels instead of names; the ordinals of its variables count up from
-- `k`
abbrev pub relabel_variable_section : {N M : Type 0}
    → Naming N
    → Labelling N M
    → Scope N
    → ℕ
    → Tree N (maybe variables)
    → Tree M (maybe variables)
relabel_variable_section naming label scope k none = none
relabel_variable_section naming label scope k (one (declares_var_section vs)) =
    one (declares_var_section (relabel_variables naming label scope k vs))

-- returns the scope with the names of a block's procedures added; `k` is the ordinal of the first procedure
abbrev pub declare_procedure_names : {N : Type 0} → ℕ → Tree N (items procedure) → Scope N → Scope N
declare_procedure_names k end scope = scope
declare_procedure_names k (more p rest) scope =
    declare_procedure_names (ordinal_after_procedure (suc k) p) rest ((procedure_name p, k) ∷ scope)

-- returns the ordinal of a block's first type; if the block has no types, the ordinal that its first type would have;
-- `k` is the ordinal of the block's first declaration
abbrev pub first_type_ordinal : {N : Type 0} → ℕ → Tree N block → ℕ
first_type_ordinal k b = ordinal_after_names k (constant_names (block_constants b))

-- returns the ordinal of a block's first variable; if the block has no variables, the ordinal that its first variable
-- would have; `k` is the ordinal of the block's first declaration
abbrev pub first_variable_ordinal : {N : Type 0} → ℕ → Tree N block → ℕ
first_variable_ordinal k b = ordinal_after_names (first_type_ordinal k b) (declared_type_names (block_types b))

-- returns the ordinal of a block's first procedure; if the block has no procedures, the ordinal that its first
-- procedure would have; `k` is the ordinal of the block's first declaration
abbrev pub first_procedure_ordinal : {N : Type 0} → ℕ → Tree N block → ℕ
first_procedure_ordinal k b = ordinal_after_names (first_variable_ordinal k b) (variable_names (block_variables b))

-- returns the scope at the start of a block's types; `k` is the ordinal of the block's first
-- declaration, and `scope` the scope around the block
abbrev pub scope_before_types : {N : Type 0} → ℕ → Tree N block → Scope N → Scope N
scope_before_types k b scope = declare_names k (constant_names (block_constants b)) scope

-- returns the scope at the start of a block's variables; `k` is the ordinal of the block's first
-- declaration, and `scope` the scope around the block
abbrev pub scope_before_variables : {N : Type 0} → ℕ → Tree N block → Scope N → Scope N
scope_before_variables k b scope =
    declare_names (first_type_ordinal k b) (declared_type_names (block_types b)) (scope_before_types k b scope)

-- returns the scope at the start of a block's procedures; `k` is the ordinal of the block's first
-- declaration, and `scope` the scope around the block
abbrev pub scope_before_procedures : {N : Type 0} → ℕ → Tree N block → Scope N → Scope N
scope_before_procedures k b scope =
    declare_names (first_variable_ordinal k b) (variable_names (block_variables b))
    (scope_before_variables k b scope)

-- returns the scope of a block's statements; `k` is the ordinal of the block's first declaration,
-- and `scope` the scope around the block
abbrev pub body_scope : {N : Type 0} → ℕ → Tree N block → Scope N → Scope N
body_scope k b scope =
    declare_procedure_names (first_procedure_ordinal k b) (block_procedures b) (scope_before_procedures k b scope)

-- Returns a block, a list of procedures or one procedure, with labels instead of names. `scope` has
-- the bindings that are visible just before this part of the text.
abbrev mutual
  -- returns a block with labels instead of names; its first declaration has ordinal `k`
  pub relabel_block : {N M : Type 0}
      → Naming N
      → Labelling N M
      → Scope N
      → ℕ
      → Tree N block
      → Tree M block
  relabel_block naming label scope k (forms_block (declares cs ts vs ps) statements) =
      forms_block
      (declares (relabel_constant_section naming label scope k cs)
      (relabel_type_section naming label
      (scope_before_types k (forms_block (declares cs ts vs ps) statements) scope)
      (first_type_ordinal k (forms_block (declares cs ts vs ps) statements)) ts)
      (relabel_variable_section naming label
      (scope_before_variables k (forms_block (declares cs ts vs ps) statements) scope)
      (first_variable_ordinal k (forms_block (declares cs ts vs ps) statements)) vs)
      (relabel_procedure_list naming label
      (scope_before_procedures k (forms_block (declares cs ts vs ps) statements) scope)
      (first_procedure_ordinal k (forms_block (declares cs ts vs ps) statements)) ps))
      (relabel_uses naming label (body_scope k (forms_block (declares cs ts vs ps) statements) scope)
      statements)

  -- returns procedures with labels instead of names; the first procedure has ordinal `k`, and each procedure is visible
  -- in the later procedures
  pub relabel_procedure_list : {N M : Type 0}
      → Naming N
      → Labelling N M
      → Scope N
      → ℕ
      → Tree N (items procedure)
      → Tree M (items procedure)
  relabel_procedure_list naming label scope k end = end
  relabel_procedure_list naming label scope k (more p rest) =
      more (relabel_procedure naming label scope k p)
      (relabel_procedure_list naming label ((procedure_name p, k) ∷ scope) (ordinal_after_procedure (suc k) p)
      rest)

  -- Returns a procedure with labels instead of names. The procedure has ordinal `k` and is visible in its own block.
  -- The closing name gets a label with the same ordinal as the procedure's name.
  pub relabel_procedure : {N M : Type 0}
      → Naming N
      → Labelling N M
      → Scope N
      → ℕ
      → Tree N (item procedure)
      → Tree M (item procedure)
  relabel_procedure naming label scope k (declares_procedure x fs b closing) =
      declares_procedure (label (Some k) x) (relabel_formals naming label scope (suc k) fs)
      (relabel_block naming label
      (declare_names (suc k) (formal_parameter_names (formal_parameter_sections fs)) ((x, k) ∷ scope))
      (ordinal_after_names (suc k) (formal_parameter_names (formal_parameter_sections fs))) b)
      (label (Some k) closing)

-- returns a module with labels instead of names; the name of the module gets the label of an unbound name, because it
-- is in no scope
abbrev pub relabel_module : {N M : Type 0}
    → Naming N
    → Labelling N M
    → Tree N module_text
    → Tree M module_text
relabel_module naming label (forms_module x b closing) =
    forms_module (label None x) (relabel_block naming label (predeclared_scope naming) predeclared_count b)
    (label None closing)

-- returns the label for a name in a numbered tree: the ordinal of its declaration, or the name as written if it is
-- unbound
abbrev pub label_from_ordinal : {N : Type 0} → Naming N → Labelling N Label
label_from_ordinal naming None x = as_written (naming.written x)
label_from_ordinal naming (Some k) x = declared k

-- Returns the numbered tree of a module. Each name that is bound to a declaration is replaced by
-- the declaration's ordinal. Any other name is kept as written. A declaration's ordinal is its
-- number in text order, after the predeclared names 0 to 6.
abbrev pub numbered : Tree Name module_text → Tree Label module_text
numbered = relabel_module naming_by_spelling (label_from_ordinal naming_by_spelling)

-- returns whether an optional ordinal is `k`; false for None
abbrev pub same_ordinal : Option ℕ → ℕ → Bool
same_ordinal None k = false
same_ordinal (Some j) k = j == k

-- Returns the module in which the declaration with ordinal `d` is renamed to `new`. A declaration's ordinal is its
-- number in text order, after the predeclared names 0 to 6. Each name that is bound to this declaration is also
-- renamed. If the declaration is a procedure, its closing name is also renamed.
abbrev pub renamed : Tree Name module_text → ℕ → Name → Tree Name module_text
renamed m d new = relabel_module naming_by_spelling (λ ordinal x. if same_ordinal ordinal d then new else x) m
