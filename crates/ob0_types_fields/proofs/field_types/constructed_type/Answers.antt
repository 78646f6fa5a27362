use Rattle.std.proofs.Common.{None, get_or, sym, ap, ◌∙◌}
use Rattle.ob0_tree.specs.ParsedModule.{ParsedModule}
use Rattle.ob0_tree.specs.View.{block_of}
use Rattle.ob0_types_table.specs.DeclarationTables.{declared_object_in, shapes_of}
use Rattle.ob0_types_fields.specs.FieldTypes.{constructed_types}
use Rattle.ob0_types_fields.specs.TypeConstructorSearch.{found_type, search_view}
use Rattle.ob0_types_fields.proofs.ConstructorWalks.{found_at}
use Rattle.ob0_types_fields.proofs.field_types.constructed_type.Goals as goal
use Rattle.ob0_types_fields.specs.IdentifierOwners.{meanings_by_token}

pub returns-in-Found : goal.returns-in-Found
returns-in-Found c =
    let m = meanings_by_token (declared_object_in c.args.table.now) c.args.resolved.now in
    ap (λ s. found_type (search_view (shapes_of c.args.table.now) s)) (sym c.in-Found.is)
    ∙ (ap found_type c.search_block.ensures
    ∙ (found_at c.args.ordinal (constructed_types m None (block_of c.block.result.now))
    ∙ ap (λ b. get_or (constructed_types m None (block_of b)) c.args.ordinal None) (c.block.ensures ∙ ap (λ (p : ParsedModule). p.block) c.module.ensures.value)))

pub returns-in-Skipping : goal.returns-in-Skipping
returns-in-Skipping c =
    let m = meanings_by_token (declared_object_in c.args.table.now) c.args.resolved.now in
    ap (λ s. found_type (search_view (shapes_of c.args.table.now) s)) (sym c.in-Skipping.is)
    ∙ (ap found_type c.search_block.ensures
    ∙ (found_at c.args.ordinal (constructed_types m None (block_of c.block.result.now))
    ∙ ap (λ b. get_or (constructed_types m None (block_of b)) c.args.ordinal None) (c.block.ensures ∙ ap (λ (p : ParsedModule). p.block) c.module.ensures.value)))
