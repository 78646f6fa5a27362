use Rattle.std.proofs.Common.{sym, ap, ◌∙◌}
use Rattle.ob0_tree.proofs.Viewed.{made_record_type}
use Rattle.ob0_tree.specs.View.{field_group_after_semicolon_of, items_of, type_of}
use Rattle.ob0_types_fields.specs.FieldTypes.{constructed_types}
use Rattle.ob0_types_fields.specs.TypeConstructorSearch.{state_after_constructors, constructor_walk_meanings, search_view_in_walk, shape_in_walk}
use Rattle.ob0_types_table.specs.DeclarationTables.{shapes_of}
use Rattle.ob0_types_fields.proofs.ConstructorWalks.{items_end, items_go_on, record_walked}
use Rattle.ob0_types_fields.proofs.field_types.TypeConstructorWalk.+types.Goals as goal

pub search_type-returns-in-Record : goal.search_type-returns-in-Record
search_type-returns-in-Record t c =
    let w = c.args.self.now in
    c.search_record.ensures
    ∙ ap (λ z. state_after_constructors (search_view_in_walk w c.args.search) (constructed_types (constructor_walk_meanings w) (shape_in_walk w c.args.of) z)) (sym (made_record_type c.in-Record.r) ∙ sym (ap type_of c.in-Record.is))

pub search_record-loop-group-preserved : goal.search_record-loop-group-preserved
search_record-loop-group-preserved t c =
    items_go_on c.group-item.result (search_view_in_walk c.args.self.now c.search_group-search.result) c.loop-group.invariant c.loop-group-test.true c.group-item.is c.search_group-search.ensures

pub search_record-returns : goal.search_record-returns
search_record-returns t c =
    let w = c.args.self.now in
    let m = constructor_walk_meanings w in
    let of = shape_in_walk w c.args.of in
    let gs = c.args.r.now.groups.items in
    items_end c.loop-group.invariant c.loop-group-test.false
    ∙ (λ i. state_after_constructors (c.after_constructor-search.ensures (shapes_of w.table.now) i) (constructed_types m of (items_of field_group_after_semicolon_of (c.deref-group-items.ensures.value i))))
    ∙ ap (state_after_constructors (search_view_in_walk w c.args.search)) (sym (record_walked m of gs))
