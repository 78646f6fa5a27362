use Rattle.std.proofs.Common.{ℕ, List, Option, not, option_map, sym, ap, ◌∙◌}
use Rattle.std.specs.List.{position_from}
use Rattle.ob0_scope.specs.declared.name_conflicts.FirstConflict.TheVariants.{Occurrence}
use Rattle.ob0_scope.specs.Renames.{have_same_binding}
use Rattle.ob0_scope_table.specs.Resolution.{ordinal_in}
use Rattle.ob0_scope.proofs.Renumbered.{first_changed_is}
use Rattle.ob0_scope.proofs.name_conflicts.first_occurrence_conflict.Goals as goal

pub returns-in-Some : goal.returns-in-Some
returns-in-Some c =
    let r = c.args.names.now in
    let table = c.in_ok-ordinals in
    let changed = ap (λ (os : List (Option ℕ)). position_from (λ token. not (have_same_binding (ordinal_in os token) (ordinal_in r.ordinals token))) 0 r.uses) c.deref.ensures.value
    ∙ first_changed_is r c.args.declaration c.args.new.now table.ordinals.items table.ensures.resolved table.ensures.renumbered in
    ap (option_map Occurrence) (sym c.in-Some.is ∙ (c.first_rebound_occurrence.ensures ∙ changed))

pub returns : goal.returns
returns c =
    let r = c.args.names.now in
    let table = c.in_ok-ordinals in
    let changed = ap (λ (os : List (Option ℕ)). position_from (λ token. not (have_same_binding (ordinal_in os token) (ordinal_in r.ordinals token))) 0 r.uses) c.deref.ensures.value
    ∙ first_changed_is r c.args.declaration c.args.new.now table.ordinals.items table.ensures.resolved table.ensures.renumbered in
    ap (option_map Occurrence) (sym c.in-None.is ∙ (c.first_rebound_occurrence.ensures ∙ changed))
