use Rattle.std.proofs.Common.{ap, ◌∙◌}
use Rattle.ob0_tree.specs.View.{type_of}
use Rattle.ob0_types_fields.specs.FieldTypes.{constructed_types}
use Rattle.ob0_types_fields.specs.TypeConstructorSearch.{state_after_constructors, constructor_walk_meanings, search_view_in_walk}
use Rattle.ob0_types_fields.proofs.ConstructorWalks.{items_go_on}
use Rattle.ob0_types_fields.proofs.field_types.TypeConstructorWalk.search_variable_section.Goals as goal

pub loop-v-preserved : goal.loop-v-preserved
loop-v-preserved c =
    items_go_on c.v-item.result (search_view_in_walk c.args.self.now c.search_type-search.result) c.loop-v.invariant c.loop-v-test.true c.v-item.is
    (c.search_type-search.ensures ∙ ap (λ t. state_after_constructors (search_view_in_walk c.args.self.now c.loop-v.search) (constructed_types (constructor_walk_meanings c.args.self.now) t (type_of c.v-item.result.written))) c.declared_type.ensures)
