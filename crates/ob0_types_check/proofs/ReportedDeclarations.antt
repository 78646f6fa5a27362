-- The code reports the faults of declarations and bodies part by part, as the definitions do.
use Rattle.std.proofs.Common.{◌≡◌, ◌<◌, ◌≤◌, ℕ, ◌+◌, Bool, true, false, if◌then◌else◌, List, [], ◌∷◌, ◌++◌, length, map, drop, refl, sym, ap, ◌∙◌, subst, arith, length-append}
use Rattle.std.proofs.lemmas.List.{map-append}
use Rattle.std.specs.List.{filter}
use Rattle.ob0_scope_table.specs.declared.faults.FaultAtTokens.{FaultAtTokens}
use Rattle.ob0_scope_table.specs.Resolution.{Resolution, is_undeclared_fault}
use Rattle.ob0_language_names.specs.BlockParts.{formal_parameter_sections, names_after_first, names_in_list, section_constants, section_types, section_variables}
use Rattle.ob0_types_table.specs.declared.declaration_table.FormalParameter as formal
use Rattle.ob0_types_table.specs.declared.types.TypeId.{TypeId}
use Rattle.ob0_tree.specs.Tree.{Tree, begins, block, body, constant, constants, declares, declares_constant, declares_procedure, declares_type, declares_variable, end, expression, formals, section_after_semicolon, forms_block, item, items, maybe, more, names, none, one, procedure, sequence, comma_then_name, semicolon_then_section, type_definition, type_definitions, value_section, variable, variable_section, variables, written_type}
use Rattle.ob0_tree.specs.View.{block_of, formals_of_list, formals_of, parameter_section_after_semicolon_of, items_of, names_of, procedure_of}
use Rattle.ob0_tree.specs.declared.tree.IdentifierList.{IdentifierList}
use Rattle.ob0_tree.specs.declared.tree.Procedure.{Procedure, out-Procedure, roll-out-Procedure}
use Rattle.ob0_tree.specs.declared.tree.ParameterSection.{ParameterSection}
use Rattle.ob0_tree.proofs.Viewed.{procedure_made}
use Rattle.ob0_types_check.specs.DeclarationFaults.{KnownHeading, WalkProgress, body_faults, includes_every_body, undeclared_name_and_type_faults, report_body_if_wanted, report_on_block, report_on_constant_declaration, report_on_constant_declarations, report_on_module, report_on_parameters_of_one_type, report_on_procedure, report_on_procedures, report_on_parameter_section, report_on_parameter_sections, report_on_type_declaration, report_on_type_declarations, report_on_variable_group, report_on_variable_declarations, declarations_after_heading, append_body_if_faulty, walk_with_declarations, heading_with_parameters}
use Rattle.ob0_types_check.specs.TypesAndMeanings.{Meaning, a_constant, a_type, a_variable}
use Rattle.ob0_types_check.specs.OperandFaults.{ReturnsAndReports, without_fault, ◌>>=◌}
use Rattle.ob0_types_check.specs.KnownDeclarations.{KnownDeclarations, define_name_at_token, define_listed_names, facts_from_declarations}
use Rattle.ob0_types_check.specs.StatementFaults.{sequence_faults}
use Rattle.ob0_types_check.specs.CheckerViews.{known_parameter_of}
use Rattle.ob0_types_check.specs.TypeFaults.{report_on_constant_expression}
use Rattle.ob0_types_check.specs.WrittenTypeFaults.{report_on_written_type}
use Rattle.ob0_types_check.proofs.Chains.{IsChain}

further_are : (xs : List ℕ) → names_after_first (items_of comma_then_name xs) ≡ xs
further_are [] = refl
further_are (x ∷ xs) = ap (λ ys. x ∷ ys) (further_are xs)

pub names_are : (ns : IdentifierList) → names_in_list (names_of ns) ≡ ns.first ∷ ns.more.items
names_are ns = ap (λ ys. ns.first ∷ ys) (further_are ns.more.items)

-- holds if declaring the remaining names gives the same state as declaring all names from the start
pub record DefinedSoFar (m : Meaning TypeId) (start : KnownDeclarations) (xs : List ℕ) (done : ℕ) (now : KnownDeclarations) : Type 0 where
  pub left : define_listed_names now m (drop done xs) ≡ define_listed_names start m xs

alike : (f : formal.FormalParameter) (xs : List ℕ) → map known_parameter_of (map (λ x. f) xs) ≡ map (λ x. known_parameter_of f) xs
alike f [] = refl
alike f (x ∷ xs) = ap (λ fs. known_parameter_of f ∷ fs) (alike f xs)

pub parameters_added : (old : List formal.FormalParameter) (f : formal.FormalParameter) (xs : List ℕ) → map known_parameter_of (old ++ map (λ x. f) xs) ≡ map known_parameter_of old ++ map (λ x. known_parameter_of f) xs
parameters_added old f xs = map-append known_parameter_of old (map (λ x. f) xs) ∙ ap (λ fs. map known_parameter_of old ++ fs) (alike f xs)

pub constant_reported : (p : KnownDeclarations) (x : ℕ) (e : Tree ℕ expression) → report_on_constant_declaration p (declares_constant x e) ≡ (report_on_constant_expression (facts_from_declarations p true) e >>= (λ v. without_fault (define_name_at_token p (a_constant v) x)))
unfolding report_on_constant_declaration
constant_reported p x e = refl

pub constants_ended : (p : KnownDeclarations) → report_on_constant_declarations p end ≡ without_fault p
unfolding report_on_constant_declarations
constants_ended p = refl

constants_stepped : (p : KnownDeclarations) (t : Tree ℕ (item constant)) (ts : Tree ℕ (items constant)) → report_on_constant_declarations p (more t ts) ≡ (report_on_constant_declaration p t >>= (λ q. report_on_constant_declarations q ts))
unfolding report_on_constant_declarations
constants_stepped p t ts = refl

pub constants_chain : IsChain report_on_constant_declarations report_on_constant_declaration
constants_chain = record { ended = constants_ended; stepped = constants_stepped }

pub type_reported : (p : KnownDeclarations) (x : ℕ) (t : Tree ℕ written_type) → report_on_type_declaration p (declares_type x t) ≡ (report_on_written_type 0 p t >>= (λ u. without_fault (define_name_at_token u.following (a_type u.of) x)))
unfolding report_on_type_declaration
type_reported p x t = refl

pub types_ended : (p : KnownDeclarations) → report_on_type_declarations p end ≡ without_fault p
unfolding report_on_type_declarations
types_ended p = refl

types_stepped : (p : KnownDeclarations) (t : Tree ℕ (item type_definition)) (ts : Tree ℕ (items type_definition)) → report_on_type_declarations p (more t ts) ≡ (report_on_type_declaration p t >>= (λ q. report_on_type_declarations q ts))
unfolding report_on_type_declarations
types_stepped p t ts = refl

pub types_chain : IsChain report_on_type_declarations report_on_type_declaration
types_chain = record { ended = types_ended; stepped = types_stepped }

pub variables_reported : (p : KnownDeclarations) (ns : IdentifierList) (t : Tree ℕ written_type) → report_on_variable_group p (declares_variable (names_of ns) t) ≡ (report_on_written_type 0 p t >>= (λ u. without_fault (define_listed_names u.following (a_variable u.of) (ns.first ∷ ns.more.items))))
unfolding report_on_variable_group
variables_reported p ns t = ap (λ xs. report_on_written_type 0 p t >>= (λ u. without_fault (define_listed_names u.following (a_variable u.of) xs))) (names_are ns)

pub variables_ended : (p : KnownDeclarations) → report_on_variable_declarations p end ≡ without_fault p
unfolding report_on_variable_declarations
variables_ended p = refl

variables_stepped : (p : KnownDeclarations) (t : Tree ℕ (item variable)) (ts : Tree ℕ (items variable)) → report_on_variable_declarations p (more t ts) ≡ (report_on_variable_group p t >>= (λ q. report_on_variable_declarations q ts))
unfolding report_on_variable_declarations
variables_stepped p t ts = refl

pub variables_chain : IsChain report_on_variable_declarations report_on_variable_group
variables_chain = record { ended = variables_ended; stepped = variables_stepped }

parameters_reported : (h : KnownHeading) (b : Bool) (ns : Tree ℕ names) (t : Tree ℕ written_type) → report_on_parameter_section h (semicolon_then_section (if b then variable_section ns t else value_section ns t)) ≡ (report_on_written_type 0 h.following t >>= (λ u. without_fault (heading_with_parameters h b (names_in_list ns) u)))
unfolding report_on_parameter_section report_on_parameters_of_one_type
parameters_reported h true ns t = refl
parameters_reported h false ns t = refl

pub section_reported : (h : KnownHeading) (b : Bool) (ns : IdentifierList) (t : Tree ℕ written_type)
    → report_on_parameter_section h (semicolon_then_section (if b then variable_section (names_of ns) t else value_section (names_of ns) t)) ≡ (report_on_written_type 0 h.following t >>= (λ u. without_fault (heading_with_parameters h b (ns.first ∷ ns.more.items) u)))
section_reported h b ns t = parameters_reported h b (names_of ns) t ∙ ap (λ xs. report_on_written_type 0 h.following t >>= (λ u. without_fault (heading_with_parameters h b xs u))) (names_are ns)

pub sections_listed : (ss : List ParameterSection) → formal_parameter_sections (one (formals_of_list ss)) ≡ items_of parameter_section_after_semicolon_of ss
sections_listed [] = refl
sections_listed (s ∷ ss) = refl

pub sections_ended : (h : KnownHeading) → report_on_parameter_sections h end ≡ without_fault h
unfolding report_on_parameter_sections
sections_ended h = refl

sections_stepped : (h : KnownHeading) (t : Tree ℕ (item section_after_semicolon)) (ts : Tree ℕ (items section_after_semicolon)) → report_on_parameter_sections h (more t ts) ≡ (report_on_parameter_section h t >>= (λ g. report_on_parameter_sections g ts))
unfolding report_on_parameter_sections
sections_stepped h t ts = refl

pub sections_chain : IsChain report_on_parameter_sections report_on_parameter_section
sections_chain = record { ended = sections_ended; stepped = sections_stepped }

pub no_body_faults : (p : KnownDeclarations) → body_faults p none ≡ []
unfolding body_faults
no_body_faults p = refl

pub some_body_faults : (p : KnownDeclarations) (a : Tree ℕ sequence) → body_faults p (one (begins a)) ≡ sequence_faults (facts_from_declarations p false) a
unfolding body_faults
some_body_faults p a = refl

module _ (wanted : ℕ → Bool) where
  pub block_reported : (own : ℕ) (w : WalkProgress) (cs : Tree ℕ (maybe constants)) (ts : Tree ℕ (maybe type_definitions)) (vs : Tree ℕ (maybe variables)) (ps : Tree ℕ (items procedure)) (a : Tree ℕ (maybe body))
      → report_on_block wanted own w (forms_block (declares cs ts vs ps) a)
      ≡ (report_on_constant_declarations w.so_far (section_constants cs) >>= (λ q. report_on_type_declarations q (section_types ts) >>= (λ r. report_on_variable_declarations r (section_variables vs) >>= (λ s. report_on_procedures wanted (walk_with_declarations w s) ps >>= (λ t. report_body_if_wanted (wanted own) own t a)))))
  unfolding report_on_block
  block_reported own w cs ts vs ps a = refl

  procedures_ended : (w : WalkProgress) → report_on_procedures wanted w end ≡ without_fault w
  unfolding report_on_block
  procedures_ended w = refl

  procedures_stepped : (w : WalkProgress) (t : Tree ℕ (item procedure)) (ts : Tree ℕ (items procedure)) → report_on_procedures wanted w (more t ts) ≡ (report_on_procedure wanted w t >>= (λ v. report_on_procedures wanted v ts))
  unfolding report_on_block
  procedures_stepped w t ts = refl

  pub procedures_chain : IsChain (report_on_procedures wanted) (report_on_procedure wanted)
  procedures_chain = record { ended = procedures_ended; stepped = procedures_stepped }

  with_parts : (w : WalkProgress) (x : ℕ) (fs : Tree ℕ (maybe formals)) (b : Tree ℕ block) (closing : ℕ)
      → report_on_procedure wanted w (declares_procedure x fs b closing) ≡ (report_on_parameter_sections (record { formals = []; following = w.so_far }) (formal_parameter_sections fs) >>= (λ h. report_on_block wanted closing (walk_with_declarations w (declarations_after_heading x h)) b))
  unfolding report_on_block
  with_parts w x fs b closing = refl

  pub procedure_reported : (w : WalkProgress) (d : Procedure)
      → report_on_procedure wanted w (procedure_of d)
      ≡ (report_on_parameter_sections (record { formals = []; following = w.so_far }) (formal_parameter_sections (formals_of (out-Procedure d).formals)) >>= (λ h. report_on_block wanted (out-Procedure d).closing (walk_with_declarations w (declarations_after_heading (out-Procedure d).name h)) (block_of (out-Procedure d).block)))
  procedure_reported w d =
      let x = out-Procedure d in
      ap (report_on_procedure wanted w) (sym (ap procedure_of (roll-out-Procedure d)) ∙ procedure_made x) ∙ with_parts w x.name (formals_of x.formals) (block_of x.block) x.closing

pub module_reported : (r : Resolution) → undeclared_name_and_type_faults r ≡ filter is_undeclared_fault r.faults ++ (report_on_module includes_every_body r).faults
unfolding undeclared_name_and_type_faults
module_reported r = refl

-- ---- one body

with_some : (faults : List FaultAtTokens) (own : ℕ) (xs : List ℕ) → 0 < length faults → append_body_if_faulty faults own xs ≡ xs ++ own ∷ []
with_some [] own xs less = absurd (omega (arith, less))
with_some (fault ∷ faults) own xs less = refl

with_none : (faults : List FaultAtTokens) (own : ℕ) (xs : List ℕ) → length faults ≤ 0 → append_body_if_faulty faults own xs ≡ xs
with_none [] own xs le = refl
with_none (fault ∷ faults) own xs le = absurd (omega (arith, le))

module _ (wanted : Bool) (own : ℕ) (w : WalkProgress) (a : Tree ℕ (maybe body)) (before after : List FaultAtTokens) (is_wanted : wanted ≡ true) (r : after ≡ before ++ body_faults w.so_far a) where
  body_if_with : (bodies_with_faults : List ℕ) → bodies_with_faults ≡ append_body_if_faulty (body_faults w.so_far a) own w.bodies_with_faults → ReturnsAndReports before after (record { so_far = w.so_far; bodies_with_faults = bodies_with_faults }) (report_body_if_wanted wanted own w a)
  body_if_with bodies_with_faults e =
      subst (λ b. ReturnsAndReports before after (record { so_far = w.so_far; bodies_with_faults = bodies_with_faults }) (report_body_if_wanted b own w a)) (sym is_wanted)
      (record { known = λ i. record { so_far = w.so_far; bodies_with_faults = e i }; reported = r })

  count : length after ≡ length before + length (body_faults w.so_far a)
  count = ap length r ∙ length-append before (body_faults w.so_far a)

  -- A body is appended to the list of faulty bodies exactly if it has a fault.
  pub body_faulty : (bodies_with_faults : List ℕ) → length before < length after → bodies_with_faults ≡ w.bodies_with_faults ++ own ∷ [] → ReturnsAndReports before after (record { so_far = w.so_far; bodies_with_faults = bodies_with_faults }) (report_body_if_wanted wanted own w a)
  body_faulty bodies_with_faults less e = body_if_with bodies_with_faults (e ∙ sym (with_some (body_faults w.so_far a) own w.bodies_with_faults (omega (arith, less, count))))

  pub body_faultless : length after ≤ length before → ReturnsAndReports before after w (report_body_if_wanted wanted own w a)
  body_faultless le = body_if_with w.bodies_with_faults (sym (with_none (body_faults w.so_far a) own w.bodies_with_faults (omega (arith, le, count))))
