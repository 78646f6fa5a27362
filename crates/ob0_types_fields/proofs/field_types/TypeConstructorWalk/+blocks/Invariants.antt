use Rattle.std.proofs.Common.{None}
use Rattle.ob0_tree.specs.View.{procedure_of}
use Rattle.ob0_types_fields.specs.TypeConstructorSearch.{constructor_walk_meanings, search_view_in_walk}
use Rattle.ob0_types_fields.proofs.ConstructorWalks.{OverItems}
use Rattle.ob0_types_fields.proofs.field_types.TypeConstructorWalk.+blocks.Given as goal

abbrev pub invariant-search_block-loop-p : goal.invariant-search_block-loop-p
invariant-search_block-loop-p l = OverItems procedure_of (constructor_walk_meanings l.self) None (search_view_in_walk l.self l.initial.search) l.p-items l.p-index (search_view_in_walk l.self l.search)
