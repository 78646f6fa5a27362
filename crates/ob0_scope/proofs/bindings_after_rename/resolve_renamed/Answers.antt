use Rattle.std.proofs.Common.{map, ◌∙◌}
use Rattle.std.proofs.lemmas.Result.{MatchResult-weaker}
use Rattle.ob0_scope_table.specs.Resolution.{ordinal_in}
use Rattle.ob0_scope.proofs.Renumbered.{ordinals_renamed}
use Rattle.ob0_scope.proofs.bindings_after_rename.resolve_renamed.Goals as goal

pub returns : goal.returns
returns c =
    let table = c.in_ok-ordinals.ordinals.items in
    let renamed = ordinals_renamed c.args.names.now c.args.declaration c.args.new.now table c.in_ok-ordinals.ensures.resolved c.in_ok-ordinals.ensures.renumbered in
    MatchResult-weaker c.ordinals_at_tokens.result c.ordinals_at_tokens.ensures (λ found e. e ∙ ((λ i. map (ordinal_in (c.deref.ensures.value i)) (c.occurrences.ensures i)) ∙ renamed)) (λ y h. h)
