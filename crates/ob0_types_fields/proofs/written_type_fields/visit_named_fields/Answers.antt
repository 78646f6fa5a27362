use Rattle.std.proofs.Common.{get_or, sym, ◌∙◌}
use Rattle.std.proofs.lemmas.List.{get_or_default}
use Rattle.ob0_types_fields.proofs.written_type_fields.visit_named_fields.Goals as goal
use Rattle.ob0_types_fields.specs.IdentifierOwners.{fields_at_tokens, owner}
use Rattle.ob0_types_fields.specs.FieldWalks.{state_after_fields}
use Rattle.ob0_types_fields.proofs.FieldVisits.{further_listed, name_visited, names_visited}

pub loop-name-preserved : goal.loop-name-preserved
loop-name-preserved g c =
    let xs = c.deref-name-items.result.now in
    name_visited (get_or xs c.loop-name.name-index 0) _ c.loop-name.invariant c.loop-name-test.true (get_or_default xs c.loop-name.name-index 0 _ c.loop-name-test.true) c.in_ok-visit_one_field-2.ensures

pub returns : goal.returns
returns g c =
    let step = g.V.FieldVisitor.state_after_one_field in
    let further = c.deref-name-items.ensures.value ∙ sym (further_listed c.args.listed.now.more.items) in
    names_visited c.loop-name.invariant c.loop-name-test.false
    ∙ (λ z. state_after_fields step (fields_at_tokens c.args.owner (further z)) (c.in_ok-visit_one_field.ensures z))
