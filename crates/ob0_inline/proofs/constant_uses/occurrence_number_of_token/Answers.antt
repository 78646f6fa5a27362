use Rattle.std.proofs.Common.{◌==◌, length, subst, sym, ap, ◌∙◌}
use Rattle.std.specs.List.{position_from}
use Rattle.ob0_tree.specs.IdentifierIndexes.{AreAscendingWithin}
use Rattle.ob0_inline.proofs.OccurrenceAt.{halved}
use Rattle.ob0_inline.proofs.UsesAreIdentifiers.{uses_ascend}
use Rattle.ob0_inline.proofs.constant_uses.occurrence_number_of_token.Goals as goal

pub returns : goal.returns
returns c =
    let r = c.args.names.now in
    let high = length r.module_read.source.tokens in
    c.ok.ensures.value
    ∙ halved high c.occurrences.result.now c.args.token c.binary_search.result (subst (λ us. AreAscendingWithin 0 us high) (sym c.occurrences.ensures) (uses_ascend r c.module-module.ensures.resolved)) c.binary_search.ensures.position
    ∙ ap (position_from (λ other. other == c.args.token) 0) c.occurrences.ensures
