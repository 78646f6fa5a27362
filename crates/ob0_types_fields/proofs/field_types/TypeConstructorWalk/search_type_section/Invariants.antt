use Rattle.std.proofs.Common.{None}
use Rattle.ob0_tree.specs.View.{type_declaration_of}
use Rattle.ob0_types_fields.specs.TypeConstructorSearch.{constructor_walk_meanings, search_view_in_walk}
use Rattle.ob0_types_fields.proofs.ConstructorWalks.{OverItems}
use Rattle.ob0_types_fields.proofs.field_types.TypeConstructorWalk.search_type_section.Given as goal

abbrev pub invariant-loop-d : goal.invariant-loop-d
invariant-loop-d l = OverItems type_declaration_of (constructor_walk_meanings l.self) None (search_view_in_walk l.self l.initial.search) l.d-items l.d-index (search_view_in_walk l.self l.search)
