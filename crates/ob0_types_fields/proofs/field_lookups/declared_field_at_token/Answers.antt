use Rattle.std.proofs.Common.{ap, ◌∙◌}
use Rattle.ob0_types_fields.specs.declared.field_visitors.FieldSearch.{FieldSearch}
use Rattle.ob0_types_fields.proofs.FieldsVisited.{searched}
use Rattle.ob0_types_fields.proofs.field_lookups.declared_field_at_token.Goals as goal
use Rattle.ob0_types_fields.specs.FieldIdentifiers.{declared_fields}

pub returns : goal.returns
returns c = ap (λ (s : FieldSearch). s.found) (c.in-Ok.ensures.visited ∙ searched c.args.token (declared_fields c.args.resolved.now.module_read))
