use Rattle.std.proofs.Common.{ap, ◌∙◌}
use Rattle.ob0_tree.specs.View.{type_of}
use Rattle.ob0_types_fields.specs.FieldTypes.{constructed_types}
use Rattle.ob0_types_fields.specs.TypeConstructorSearch.{state_after_constructors, constructor_walk_meanings, search_view_in_walk}
use Rattle.ob0_types_fields.proofs.ConstructorWalks.{items_go_on}
use Rattle.ob0_types_fields.proofs.field_types.TypeConstructorWalk.search_type_section.Goals as goal

pub loop-d-preserved : goal.loop-d-preserved
loop-d-preserved c =
    items_go_on c.d-item.result (search_view_in_walk c.args.self.now c.search_type-search.result) c.loop-d.invariant c.loop-d-test.true c.d-item.is
    (c.search_type-search.ensures ∙ ap (λ t. state_after_constructors (search_view_in_walk c.args.self.now c.loop-d.search) (constructed_types (constructor_walk_meanings c.args.self.now) t (type_of c.d-item.result.written))) c.declared_type.ensures)
