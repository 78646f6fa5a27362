use Rattle.std.proofs.Common.{refl, sym, ap, ◌∙◌}
use Rattle.ob0_tree.specs.View.{variable_section_of, variable_declaration_of, items_of, type_of, names_of}
use Rattle.ob0_language_names.specs.BlockParts.{section_variables}
use Rattle.ob0_language_types.specs.Declarations.{variables_constructor_count}
use Rattle.ob0_language_types.specs.Typing.{constructor_count}
use Rattle.ob0_types_fields.proofs.written_type_fields.visit_variable_section_fields.Goals as goal
use Rattle.ob0_types_fields.specs.IdentifierOwners.{section_identifiers}
use Rattle.ob0_types_fields.proofs.FieldVisits.{declaration_visited, declarations_visited, visits_as, visits_nothing, visits_plain}

pub loop-d-preserved : goal.loop-d-preserved
loop-d-preserved g c =
    let d = c.d-item.result in
    declaration_visited variable_declaration_of section_identifiers variables_constructor_count d (λ n. section_identifiers n (variable_declaration_of d)) (constructor_count (type_of d.written))
    (λ n rest. refl) (λ rest. refl) c.loop-d.invariant c.loop-d-test.true c.d-item.is (visits_plain (names_of d.names) c.in_ok-visit_type_fields.ensures)

pub returns-in_default : goal.returns-in_default
returns-in_default g c =
    let none = sym c.in_default.is in
    visits_as (ap (λ o. section_identifiers c.args.word_count.now (variable_section_of o)) none) (ap (λ o. variables_constructor_count (section_variables (variable_section_of o))) none) (visits_nothing g.V.FieldVisitor.state_after_one_field c.args.word_count.now c.args.visitor.now)

pub returns : goal.returns
returns g c =
    let k = c.args.word_count.now in
    let listed = c.deref-d-items.ensures.value in
    let some = sym c.in-Some.is in
    visits_as (ap (λ xs. section_identifiers k (items_of variable_declaration_of xs)) listed ∙ ap (λ o. section_identifiers k (variable_section_of o)) some) (ap (λ xs. variables_constructor_count (items_of variable_declaration_of xs)) listed ∙ ap (λ o. variables_constructor_count (section_variables (variable_section_of o))) some)
    (declarations_visited variable_declaration_of section_identifiers variables_constructor_count (λ n. refl) refl c.loop-d.invariant c.loop-d-test.false)
