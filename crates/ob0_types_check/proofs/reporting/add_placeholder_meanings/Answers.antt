use Rattle.std.proofs.Common.{◌∷◌, [], map, option_map, None, ap, ◌∙◌}
use Rattle.std.proofs.lemmas.List.{map-append}
use Rattle.ob0_types_check.specs.CheckerViews.{meaning_view}
use Rattle.ob0_types_check.proofs.Listed.{repeated_ends, repeated_on}
use Rattle.ob0_types_check.proofs.reporting.add_placeholder_meanings.Goals as goal

pub loop-declaration-preserved : goal.loop-declaration-preserved
loop-declaration-preserved c =
    repeated_on 0 c.loop-declaration.invariant c.loop-declaration-test.true
    (ap (map (option_map meaning_view)) c.in_ok-push.ensures.items ∙ map-append (option_map meaning_view) c.loop-declaration.meanings.items (None ∷ []))

pub returns : goal.returns
returns c = repeated_ends c.loop-declaration.invariant c.loop-declaration-test.false
