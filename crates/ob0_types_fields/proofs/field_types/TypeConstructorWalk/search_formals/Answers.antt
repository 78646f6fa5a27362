use Rattle.ob0_types_fields.specs.TypeConstructorSearch.{search_view_in_walk}
use Rattle.ob0_types_fields.proofs.ConstructorWalks.{items_go_on}
use Rattle.ob0_types_fields.proofs.field_types.TypeConstructorWalk.search_formals.Goals as goal

pub loop-s-preserved : goal.loop-s-preserved
loop-s-preserved c =
    items_go_on c.s-item.result (search_view_in_walk c.args.self.now c.search_parameter_section-search.result) c.loop-s.invariant c.loop-s-test.true c.s-item.is
    c.search_parameter_section-search.ensures
