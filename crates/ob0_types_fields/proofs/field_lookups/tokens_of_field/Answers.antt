use Rattle.std.proofs.Common.{ℕ, List, [], ap, ◌∙◌}
use Rattle.ob0_tree.specs.ParsedModule.{tree_of}
use Rattle.ob0_types_table.specs.DeclarationTables.{declared_object_in}
use Rattle.ob0_scan.specs.TextWithTokens.{TextWithTokens}
use Rattle.ob0_types_fields.proofs.FieldsVisited.{collected}
use Rattle.ob0_types_fields.proofs.field_lookups.tokens_of_field.Goals as goal
use Rattle.ob0_types_fields.specs.IdentifierOwners.{fields_with_owners, meanings_by_token, module_identifiers, owner}
use Rattle.ob0_types_fields.specs.FieldWalks.{state_after_fields}
use Rattle.ob0_types_fields.proofs.OwnersByToken.{tokens}
use Rattle.ob0_types_fields.proofs.FieldVisits.{fields_visited}
use Rattle.ob0_types_fields.specs.FieldVisitors.{FieldTokenCollection, collection_after_field}

pub returns : goal.returns
returns c =
    let r = c.args.resolved.now in
    let all = module_identifiers (meanings_by_token (declared_object_in c.args.table.now) r) (tree_of r.module_read) in
    let fields = fields_with_owners all in
    let collection : TextWithTokens → List ℕ → FieldTokenCollection = λ source before. record { source = source; owner = c.args.owner; name = c.args.name.now; collected = before } in
    c.into_tokens.ensures
    ∙ (ap (λ (s : FieldTokenCollection). s.collected) (c.in_ok-visit_module_fields.ensures ∙ fields_visited collection_after_field all _)
    ∙ ((λ i. (state_after_fields collection_after_field fields (collection (c.tokens.ensures i) (c.new.ensures.items i))).collected)
    ∙ collected r.module_read.source c.args.owner c.args.name.now fields []))
