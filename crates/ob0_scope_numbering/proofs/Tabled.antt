-- Proves that visiting a module with a table gives the same result as entering the listed marks in
-- the table.
use Rattle.std.proofs.Common.{◌≡◌, ℕ, ◌+◌, Option, Some, None, List, [], ◌∷◌, ◌++◌, length, replicate, set, refl, ap, ◌∙◌}
use Rattle.ob0_scan.specs.TextWithTokens.{IsScan}
use Rattle.ob0_tree.specs.declared.tree.Role.{Role}
use Rattle.ob0_tree.specs.declared.tree.Role.TheVariants as role
use Rattle.ob0_tree.specs.Tree.{Sort, Tree, block, constant, constants, declares, declares_constant, declares_const_section, declares_procedure, declares_type, declares_type_section, declares_variable, declares_var_section, end, formals, section_after_semicolon, forms_block, identifiers, forms_module, item, items, maybe, module_text, more, no_formals, none, one, procedure, section, some_formals, semicolon_then_section, type_definition, type_definitions, value_section, variable, variable_section, variables}
use Rattle.ob0_tree.specs.ParsedModule.{TreeMatchesText, ParsedModule, tree_of}
use Rattle.ob0_scope_numbering.specs.MarkWalk as listing
use Rattle.ob0_scope_numbering.specs.IdentifierWalk.{number_declaration, number_declarations, state_after_heading, state_after_procedure_block, visit_block, visit_constant, visit_constant_section, visit_constants, visit_formals, visit_identifier, visit_identifiers, visit_module, visit_nondeclaring_tree, visit_procedure, visit_procedure_list, visit_parameter_section, visit_parameter_sections, visit_type, visit_type_section, visit_types, visit_variable, visit_variable_section, visit_variables, with_mark, with_names_visible_from_index}
use Rattle.ob0_scope_numbering.specs.OrdinalMarks.{OrdinalMark}
use Rattle.ob0_scope_table.specs.OrdinalEntries.{stored_ordinal}
use Rattle.ob0_language_names.specs.Names.{naming_by_spelling}
use Rattle.ob0_language_names.specs.BlockParts.{names_in_list}
use Rattle.ob0_language_names.specs.Scopes.{ordinal_in_scope}
use Rattle.ob0_scope_numbering.specs.TableWalk as tabling
use Rattle.ob0_scope_numbering.specs.TableWalk.{number_module}
use Rattle.ob0_scope_numbering.specs.IdentifierSpellings.{Spellings, spelling_at_token}
use Rattle.ob0_scope_numbering.proofs.Kept.{all_kept, with_entries}

with_entries-added : (table : List (Option ℕ)) (ms : List OrdinalMark) (i : ℕ) (ordinal : Option ℕ) → set (with_entries table ms) i (stored_ordinal ordinal) ≡ with_entries table (ms ++ (record { token = i; ordinal = ordinal } ∷ []))
with_entries-added table [] i ordinal = refl
with_entries-added table (m ∷ ms) i ordinal = with_entries-added (set table m.token (stored_ordinal m.ordinal)) ms i ordinal

-- returns the state with a table that has the entries of the listed marks
abbrev pub entered : List (Option ℕ) → listing.WalkState → tabling.WalkState
entered table v = record { spellings = v.spellings; scope = v.scope; declaration_tokens = v.declaration_tokens; uses = v.uses; marks = with_entries table v.marks }

module _ (table : List (Option ℕ)) where
  with_mark-entered : (i : ℕ) (ordinal : Option ℕ) (v : listing.WalkState) → with_mark i ordinal (entered table v) ≡ entered table (with_mark i ordinal v)
  with_mark-entered i ordinal v = ap (λ marks. record (entered table v) { marks = marks }) (with_entries-added table v.marks i ordinal)

  number_declaration-entered : (i : ℕ) (v : listing.WalkState) → number_declaration i (entered table v) ≡ entered table (number_declaration i v)
  number_declaration-entered i v = ap (λ marks. record (entered table v) { declaration_tokens = v.declaration_tokens ++ (i ∷ []); marks = marks }) (with_entries-added table v.marks i (Some (7 + length v.declaration_tokens)))

  number_declarations-entered : (is : List ℕ) (v : listing.WalkState) → number_declarations is (entered table v) ≡ entered table (number_declarations is v)
  number_declarations-entered [] v = refl
  number_declarations-entered (i ∷ is) v = ap (number_declarations is) (number_declaration-entered i v) ∙ number_declarations-entered is (number_declaration i v)

  visit_identifier-entered : (r : Role) (i : ℕ) (v : listing.WalkState) → visit_identifier r i (entered table v) ≡ entered table (visit_identifier r i v)
  visit_identifier-entered role.LookedUpName i v = ap (λ marks. record (entered table v) { uses = v.uses ++ (i ∷ []); marks = marks }) (with_entries-added table v.marks i (ordinal_in_scope naming_by_spelling v.scope (spelling_at_token v.spellings i)))
  visit_identifier-entered role.DeclaringName i v = with_mark-entered i None v
  visit_identifier-entered role.ClosingName i v = with_mark-entered i None v
  visit_identifier-entered role.FieldName i v = with_mark-entered i None v
  visit_identifier-entered role.ModuleName i v = with_mark-entered i None v

  visit_identifiers-entered : (xs : List (Role × ℕ)) (v : listing.WalkState) → visit_identifiers xs (entered table v) ≡ entered table (visit_identifiers xs v)
  visit_identifiers-entered [] v = refl
  visit_identifiers-entered (x ∷ xs) v = ap (visit_identifiers xs) (visit_identifier-entered x.0 x.1 v) ∙ visit_identifiers-entered xs (visit_identifier x.0 x.1 v)

  -- Visiting a part that declares nothing with a table enters its listed marks.
  pub used-entered : {s : Sort} (t : Tree ℕ s) (v : listing.WalkState) → visit_nondeclaring_tree t (entered table v) ≡ entered table (visit_nondeclaring_tree t v)
  used-entered t v = visit_identifiers-entered (identifiers role.DeclaringName t) v

  -- Visiting names and the part after them with a table enters their listed marks.
  names-entered : {s : Sort} (is : List ℕ) (t : Tree ℕ s) (v : listing.WalkState)
      → with_names_visible_from_index (length v.declaration_tokens) (visit_nondeclaring_tree t (number_declarations is (entered table v))) ≡ entered table (with_names_visible_from_index (length v.declaration_tokens) (visit_nondeclaring_tree t (number_declarations is v)))
  names-entered is t v = ap (with_names_visible_from_index (length v.declaration_tokens)) (ap (visit_nondeclaring_tree t) (number_declarations-entered is v) ∙ used-entered t (number_declarations is v))

  constant-entered : (c : Tree ℕ (item constant)) (v : listing.WalkState) → visit_constant c (entered table v) ≡ entered table (visit_constant c v)
  constant-entered (declares_constant x e) v = names-entered (x ∷ []) e v

  constants-entered : (cs : Tree ℕ (items constant)) (v : listing.WalkState) → visit_constants cs (entered table v) ≡ entered table (visit_constants cs v)
  constants-entered end v = refl
  constants-entered (more c cs) v = ap (visit_constants cs) (constant-entered c v) ∙ constants-entered cs (visit_constant c v)

  type-entered : (t : Tree ℕ (item type_definition)) (v : listing.WalkState) → visit_type t (entered table v) ≡ entered table (visit_type t v)
  type-entered (declares_type x t) v = names-entered (x ∷ []) t v

  types-entered : (ts : Tree ℕ (items type_definition)) (v : listing.WalkState) → visit_types ts (entered table v) ≡ entered table (visit_types ts v)
  types-entered end v = refl
  types-entered (more t ts) v = ap (visit_types ts) (type-entered t v) ∙ types-entered ts (visit_type t v)

  variable-entered : (g : Tree ℕ (item variable)) (v : listing.WalkState) → visit_variable g (entered table v) ≡ entered table (visit_variable g v)
  variable-entered (declares_variable ns t) v = names-entered (names_in_list ns) t v

  variables-entered : (gs : Tree ℕ (items variable)) (v : listing.WalkState) → visit_variables gs (entered table v) ≡ entered table (visit_variables gs v)
  variables-entered end v = refl
  variables-entered (more g gs) v = ap (visit_variables gs) (variable-entered g v) ∙ variables-entered gs (visit_variable g v)

  section-entered : (s : Tree ℕ section) (v : listing.WalkState) → visit_parameter_section s (entered table v) ≡ entered table (visit_parameter_section s v)
  section-entered (value_section ns t) v = names-entered (names_in_list ns) t v
  section-entered (variable_section ns t) v = names-entered (names_in_list ns) t v

  sections-entered : (ss : Tree ℕ (items section_after_semicolon)) (v : listing.WalkState) → visit_parameter_sections ss (entered table v) ≡ entered table (visit_parameter_sections ss v)
  sections-entered end v = refl
  sections-entered (more (semicolon_then_section s) rest) v = ap (visit_parameter_sections rest) (section-entered s v) ∙ sections-entered rest (visit_parameter_section s v)

  formals-entered : (fs : Tree ℕ (maybe formals)) (v : listing.WalkState) → visit_formals fs (entered table v) ≡ entered table (visit_formals fs v)
  formals-entered none v = refl
  formals-entered (one no_formals) v = refl
  formals-entered (one (some_formals s rest)) v = ap (visit_parameter_sections rest) (section-entered s v) ∙ sections-entered rest (visit_parameter_section s v)

  constant_section-entered : (cs : Tree ℕ (maybe constants)) (v : listing.WalkState) → visit_constant_section cs (entered table v) ≡ entered table (visit_constant_section cs v)
  constant_section-entered none v = refl
  constant_section-entered (one (declares_const_section cs)) v = constants-entered cs v

  type_section-entered : (ts : Tree ℕ (maybe type_definitions)) (v : listing.WalkState) → visit_type_section ts (entered table v) ≡ entered table (visit_type_section ts v)
  type_section-entered none v = refl
  type_section-entered (one (declares_type_section ts)) v = types-entered ts v

  variable_section-entered : (vs : Tree ℕ (maybe variables)) (v : listing.WalkState) → visit_variable_section vs (entered table v) ≡ entered table (visit_variable_section vs v)
  variable_section-entered none v = refl
  variable_section-entered (one (declares_var_section vs)) v = variables-entered vs v

  -- Visiting the declarations of a block before its procedures with a table enters their listed
  -- marks.
  declaration_tokens-entered : (cs : Tree ℕ (maybe constants)) (ts : Tree ℕ (maybe type_definitions)) (vs : Tree ℕ (maybe variables)) (v : listing.WalkState)
      → visit_variable_section vs (visit_type_section ts (visit_constant_section cs (entered table v)))
      ≡ entered table (visit_variable_section vs (visit_type_section ts (visit_constant_section cs v)))
  declaration_tokens-entered cs ts vs v =
      let v₁ = visit_constant_section cs v in
      let v₂ = visit_type_section ts v₁ in
      ap (visit_variable_section vs) (ap (visit_type_section ts) (constant_section-entered cs v) ∙ type_section-entered ts v₁) ∙ variable_section-entered vs v₂

  -- Visiting the heading before a procedure's block with a table enters its listed marks.
  heading-entered : (x : ℕ) (fs : Tree ℕ (maybe formals)) (v : listing.WalkState)
      → state_after_heading (length v.declaration_tokens) (length v.scope) (visit_formals fs (number_declaration x (entered table v)))
      ≡ entered table (state_after_heading (length v.declaration_tokens) (length v.scope) (visit_formals fs (number_declaration x v)))
  heading-entered x fs v =
      ap (state_after_heading (length v.declaration_tokens) (length v.scope)) (ap (visit_formals fs) (number_declaration-entered x v) ∙ formals-entered fs (number_declaration x v))

  mutual
    block-entered : (b : Tree ℕ block) (v : listing.WalkState) → visit_block b (entered table v) ≡ entered table (visit_block b v)
    block-entered (forms_block (declares cs ts vs ps) statements) v =
        let w = visit_variable_section vs (visit_type_section ts (visit_constant_section cs v)) in
        ap (visit_nondeclaring_tree statements) (ap (visit_procedure_list ps) (declaration_tokens-entered cs ts vs v) ∙ procedures-entered ps w) ∙ used-entered statements (visit_procedure_list ps w)

    procedures-entered : (ps : Tree ℕ (items procedure)) (v : listing.WalkState) → visit_procedure_list ps (entered table v) ≡ entered table (visit_procedure_list ps v)
    procedures-entered end v = refl
    procedures-entered (more p ps) v = ap (visit_procedure_list ps) (procedure-entered p v) ∙ procedures-entered ps (visit_procedure p v)

    procedure-entered : (p : Tree ℕ (item procedure)) (v : listing.WalkState) → visit_procedure p (entered table v) ≡ entered table (visit_procedure p v)
    procedure-entered (declares_procedure x fs b closing) v =
        let ordinal = 7 + length v.declaration_tokens in
        let outside = length v.scope in
        let w = state_after_heading (length v.declaration_tokens) outside (visit_formals fs (number_declaration x v)) in
        ap (λ w. with_mark closing (Some ordinal) (state_after_procedure_block x ordinal outside w)) (ap (visit_block b) (heading-entered x fs v) ∙ block-entered b w)
        ∙ with_mark-entered closing (Some ordinal) (state_after_procedure_block x ordinal outside (visit_block b w))

  text-entered : (m : Tree ℕ module_text) (v : listing.WalkState) → visit_module m (entered table v) ≡ entered table (visit_module m v)
  text-entered (forms_module x b closing) v =
      let w = with_mark x None v in
      ap (with_mark closing None) (ap (visit_block b) (with_mark-entered x None v) ∙ block-entered b w) ∙ with_mark-entered closing None (visit_block b w)

pub module_tabled : (m : ParsedModule) (w : Spellings) → TreeMatchesText m → IsScan m.source → visit_module (tree_of m) (tabling.initial_walk_state w) ≡ number_module (tree_of m) w
module_tabled m w parsed scan =
    let table : List (Option ℕ) = replicate (length w.source.tokens) None in
    let v = visit_module (tree_of m) (listing.initial_walk_state w) in
    text-entered table (tree_of m) (listing.initial_walk_state w) ∙ ap (λ marks. record (entered table v) { marks = marks }) (all_kept m w table parsed scan)
