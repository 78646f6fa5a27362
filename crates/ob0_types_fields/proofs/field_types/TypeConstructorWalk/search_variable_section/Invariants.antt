use Rattle.std.proofs.Common.{None}
use Rattle.ob0_tree.specs.View.{variable_declaration_of}
use Rattle.ob0_types_fields.specs.TypeConstructorSearch.{constructor_walk_meanings, search_view_in_walk}
use Rattle.ob0_types_fields.proofs.ConstructorWalks.{OverItems}
use Rattle.ob0_types_fields.proofs.field_types.TypeConstructorWalk.search_variable_section.Given as goal

abbrev pub invariant-loop-v : goal.invariant-loop-v
invariant-loop-v l = OverItems variable_declaration_of (constructor_walk_meanings l.self) None (search_view_in_walk l.self l.initial.search) l.v-items l.v-index (search_view_in_walk l.self l.search)
