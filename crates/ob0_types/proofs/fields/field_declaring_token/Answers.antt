use Rattle.std.proofs.Common.{◌∙◌, ap, sym, option_map}
use Rattle.ob0_scope_table.specs.Resolution.{Resolution}
use Rattle.ob0_types_fields.specs.FieldIdentifiers.{field_declaring_token}
use Rattle.ob0_types_fields.specs.FieldVisitors.{declared_token}
use Rattle.ob0_types.proofs.fields.field_declaring_token.Goals as goal

pub returns-in-Some : goal.returns-in-Some
returns-in-Some c =
    ap (option_map declared_token) (sym c.in-Some.is) ∙ (c.declared_field.ensures.token ∙ ap (λ (r : Resolution). field_declaring_token r.module_read c.args.owner c.args.name.now) c.resolved.ensures.value)

pub returns-in-None : goal.returns-in-None
returns-in-None c =
    ap (option_map declared_token) (sym c.in-None.is) ∙ (c.declared_field.ensures.token ∙ ap (λ (r : Resolution). field_declaring_token r.module_read c.args.owner c.args.name.now) c.resolved.ensures.value)
