use Rattle.std.proofs.Common.{◌≡◌, List, [], ◌∷◌, ◌++◌, ◌+◌, true, false, if◌then◌else◌, refl, sym, ap, ◌∙◌, ℕ}
use Rattle.ob0_tree.specs.declared.tree.ParameterSection.{ParameterSection}
use Rattle.ob0_tree.specs.Tree.{value_section, variable_section}
use Rattle.ob0_tree.specs.View.{formals_of, formals_of_list, items_of, names_of, parameter_section_after_semicolon_of, parameter_section_of, type_of}
use Rattle.ob0_language_names.specs.BlockParts.{formal_parameter_sections, parameter_section_type}
use Rattle.ob0_language_types.specs.Declarations.{formals_constructor_count}
use Rattle.ob0_language_types.specs.Typing.{constructor_count}
use Rattle.ob0_tree.specs.Tree.{one}
use Rattle.ob0_types_fields.proofs.written_type_fields.visit_parameter_type_fields.Goals as goal
use Rattle.ob0_language_fields.specs.MarkedFields.{mark_all_names, no_field}
use Rattle.ob0_types_fields.specs.IdentifierOwners.{declared_identifiers, section_identifiers}
use Rattle.ob0_types_fields.proofs.FieldVisits.{declaration_visited, declarations_visited, visits_as, visits_nothing, visits_plain}

-- The type of a section doesn't depend on the word VAR.
typed : (s : ParameterSection) → parameter_section_type (parameter_section_of s) ≡ type_of s.written
typed s = elim s.by_reference as (λ b. parameter_section_type (if b then variable_section (names_of s.names) (type_of s.written) else value_section (names_of s.names) (type_of s.written)) ≡ type_of s.written) [ true ↦ refl | false ↦ refl ]

shaped : (n : ℕ) (s : ParameterSection) → declared_identifiers (mark_all_names no_field (names_of s.names)) ++ section_identifiers n (type_of s.written) ≡ section_identifiers n (parameter_section_of s)
shaped n s = elim s.by_reference as (λ b. declared_identifiers (mark_all_names no_field (names_of s.names)) ++ section_identifiers n (type_of s.written) ≡ section_identifiers n (if b then variable_section (names_of s.names) (type_of s.written) else value_section (names_of s.names) (type_of s.written))) [ true ↦ refl | false ↦ refl ]

sections_listed : (k : ℕ) (ss : List ParameterSection) → section_identifiers k (items_of parameter_section_after_semicolon_of ss) ≡ section_identifiers k (one (formals_of_list ss))
sections_listed k [] = refl
sections_listed k (s ∷ ss) = refl

sections_counted : (ss : List ParameterSection) → items_of parameter_section_after_semicolon_of ss ≡ formal_parameter_sections (one (formals_of_list ss))
sections_counted [] = refl
sections_counted (s ∷ ss) = refl

pub loop-d-preserved : goal.loop-d-preserved
loop-d-preserved g c =
    let d = c.d-item.result in
    declaration_visited parameter_section_after_semicolon_of section_identifiers formals_constructor_count d (λ n. section_identifiers n (parameter_section_of d)) (constructor_count (type_of d.written))
    (λ n rest. λ z. section_identifiers n (parameter_section_of d) ++ section_identifiers (n + constructor_count (typed d z)) rest) (λ rest. λ z. constructor_count (typed d z) + formals_constructor_count rest)
    c.loop-d.invariant c.loop-d-test.true c.d-item.is (visits_as (shaped _ d) refl (visits_plain (names_of d.names) c.in_ok-visit_type_fields.ensures))

pub returns-in_default : goal.returns-in_default
returns-in_default g c =
    let none = sym c.in_default.is in
    visits_as (ap (λ o. section_identifiers c.args.word_count.now (formals_of o)) none) (ap (λ o. formals_constructor_count (formal_parameter_sections (formals_of o))) none) (visits_nothing g.V.FieldVisitor.state_after_one_field c.args.word_count.now c.args.visitor.now)

pub returns : goal.returns
returns g c =
    let k = c.args.word_count.now in
    let listed = c.deref-d-items.ensures.value in
    let some = sym c.in-Some.is in
    visits_as (ap (λ xs. section_identifiers k (items_of parameter_section_after_semicolon_of xs)) listed ∙ (sections_listed k c.in-Some.listed.items ∙ ap (λ o. section_identifiers k (formals_of o)) some))
    (ap formals_constructor_count (ap (items_of parameter_section_after_semicolon_of) listed ∙ (sections_counted c.in-Some.listed.items ∙ ap (λ o. formal_parameter_sections (formals_of o)) some)))
    (declarations_visited parameter_section_after_semicolon_of section_identifiers formals_constructor_count (λ n. refl) refl c.loop-d.invariant c.loop-d-test.false)
