use Rattle.std.proofs.Common.{◌≡◌, ◌||◌, drop, None}
use Rattle.std.specs.List.{list_any}
use Rattle.ob0_scope.specs.NamesakeSearches.{is_bound_to_declaration, last_namesake}
use Rattle.ob0_scope.proofs.name_conflicts.NamesakeSearch.find_namesake_among.Given as goal

abbrev pub invariant-loop-token : goal.invariant-loop-token
invariant-loop-token l =
    (last_namesake l.self l.found (drop l.token-index l.tokens) ≡ last_namesake l.self None l.tokens)
    × ((l.is_here || list_any (is_bound_to_declaration l.self) (drop l.token-index l.tokens)) ≡ list_any (is_bound_to_declaration l.self) l.tokens)
