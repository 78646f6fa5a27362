use Rattle.ob0_tree.specs.View.{field_group_after_semicolon_of}
use Rattle.ob0_types_fields.specs.TypeConstructorSearch.{constructor_walk_meanings, search_view_in_walk, shape_in_walk}
use Rattle.ob0_types_fields.proofs.ConstructorWalks.{OverItems}
use Rattle.ob0_types_fields.proofs.field_types.TypeConstructorWalk.+types.Given as goal

abbrev pub invariant-search_record-loop-group : goal.invariant-search_record-loop-group
invariant-search_record-loop-group l = OverItems field_group_after_semicolon_of (constructor_walk_meanings l.self) (shape_in_walk l.self l.of) (search_view_in_walk l.self l.initial.search) l.group-items l.group-index (search_view_in_walk l.self l.search)
