use Rattle.std.proofs.Common.{ap, ◌∙◌, None}
use Rattle.ob0_tree.specs.View.{body_of}
use Rattle.ob0_types_table.specs.DeclarationTables.{declared_object_in}
use Rattle.ob0_types_fields.specs.declared.field_visitors.FieldSearch.{FieldSearch}
use Rattle.ob0_types_fields.proofs.FieldsVisited.{searched}
use Rattle.ob0_types_fields.proofs.field_lookups.selected_field_at_token.Goals as goal
use Rattle.ob0_types_fields.specs.IdentifierOwners.{fields_with_owners, meanings_by_token, selected_identifiers}
use Rattle.ob0_types_fields.proofs.FieldVisits.{fields_visited}
use Rattle.ob0_types_fields.specs.FieldVisitors.{search_after_field}

pub returns : goal.returns
returns c =
    ap (λ (s : FieldSearch). s.found) (c.in-Ok.ensures ∙ (fields_visited search_after_field (selected_identifiers (meanings_by_token (declared_object_in c.args.table.now) c.args.resolved.now) None (body_of c.args.statements.now)) _ ∙ searched c.args.token (fields_with_owners (selected_identifiers (meanings_by_token (declared_object_in c.args.table.now) c.args.resolved.now) None (body_of c.args.statements.now)))))
