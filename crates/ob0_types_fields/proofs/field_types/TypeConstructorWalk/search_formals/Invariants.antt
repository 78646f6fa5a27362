use Rattle.std.proofs.Common.{None}
use Rattle.ob0_tree.specs.View.{parameter_section_after_semicolon_of}
use Rattle.ob0_types_fields.specs.TypeConstructorSearch.{constructor_walk_meanings, search_view_in_walk}
use Rattle.ob0_types_fields.proofs.ConstructorWalks.{OverItems}
use Rattle.ob0_types_fields.proofs.field_types.TypeConstructorWalk.search_formals.Given as goal

abbrev pub invariant-loop-s : goal.invariant-loop-s
invariant-loop-s l = OverItems parameter_section_after_semicolon_of (constructor_walk_meanings l.self) None (search_view_in_walk l.self l.initial.search) l.s-items l.s-index (search_view_in_walk l.self l.search)
