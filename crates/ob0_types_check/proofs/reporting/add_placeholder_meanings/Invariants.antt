use Rattle.std.proofs.Common.{map, option_map, None}
use Rattle.ob0_types_check.specs.CheckerViews.{meaning_view}
use Rattle.ob0_types_check.proofs.Listed.{RepeatedSoFar}
use Rattle.ob0_types_check.proofs.reporting.add_placeholder_meanings.Given as goal

abbrev pub invariant-loop-declaration : goal.invariant-loop-declaration
invariant-loop-declaration l =
    RepeatedSoFar None (map (option_map meaning_view) l.initial.meanings.items) l.declarations l._declaration-index (map (option_map meaning_view) l.meanings.items)
