use Rattle.std.proofs.Common.{None, sym, ap, ◌∙◌}
use Rattle.ob0_tree.specs.ParsedModule.{ParsedModule}
use Rattle.ob0_tree.specs.View.{block_of}
use Rattle.ob0_scope_table.specs.Resolution.{Resolution}
use Rattle.ob0_types.specs.OneBody.{body_with_token_in_block}
use Rattle.ob0_types.proofs.FieldsOfOneBody.{field_of_one_body, or_else}
use Rattle.ob0_types.proofs.fields.field_at_token.Goals as goal
use Rattle.ob0_types_fields.specs.IdentifierOwners.{fields_with_owners, meanings_by_token, selected_identifiers}
use Rattle.ob0_types_fields.specs.FieldIdentifiers.{declared_fields, field_at_token}

pub returns-in-Some : goal.returns-in-Some
returns-in-Some c =
    let r = c.args.well_typed.now in
    let t = c.args.token in
    let here = c.body_with_token_in_block-body.ensures ∙ (ap (λ b. body_with_token_in_block t (block_of b)) c.block.ensures ∙ ap (λ (m : ParsedModule). body_with_token_in_block t (block_of m.block)) (c.module.ensures.value ∙ ap (λ (q : Resolution). q.module_read) c.resolved-names.ensures.value)) in
    let selected = c.in-Some.ensures ∙ (λ i. field_at_token t (fields_with_owners (selected_identifiers (meanings_by_token (λ k. c.declarations.ensures k i) (c.resolved-names.ensures.value i)) None (here i)))) in
    ap (λ o. or_else o (field_at_token t (declared_fields r.module_read))) selected ∙ sym (field_of_one_body r t c.resolved-names.ensures.well_typed.resolved.parsed)

pub returns-in-None : goal.returns-in-None
returns-in-None c =
    let r = c.args.well_typed.now in
    let t = c.args.token in
    let here = c.body_with_token_in_block-body.ensures ∙ (ap (λ b. body_with_token_in_block t (block_of b)) c.block.ensures ∙ ap (λ (m : ParsedModule). body_with_token_in_block t (block_of m.block)) (c.module.ensures.value ∙ ap (λ (q : Resolution). q.module_read) c.resolved-names.ensures.value)) in
    let selected = c.in-None.ensures ∙ (λ i. field_at_token t (fields_with_owners (selected_identifiers (meanings_by_token (λ k. c.declarations.ensures k i) (c.resolved-names.ensures.value i)) None (here i)))) in
    c.declared_field_at_token.ensures
    ∙ (ap (λ (q : Resolution). field_at_token t (declared_fields q.module_read)) c.resolved-names.ensures.value
    ∙ (ap (λ o. or_else o (field_at_token t (declared_fields r.module_read))) selected ∙ sym (field_of_one_body r t c.resolved-names.ensures.well_typed.resolved.parsed)))
