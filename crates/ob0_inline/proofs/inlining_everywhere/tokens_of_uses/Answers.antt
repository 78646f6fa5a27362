use Rattle.std.proofs.Common.{arith, length, ap, sym, ◌∙◌, ◌≤◌, ◌++◌, append-nil}
use Rattle.std.proofs.lemmas.List.{drop_all}
use Rattle.ob0_inline.proofs.Ended.{uses_by_table}
use Rattle.ob0_inline.proofs.EverywhereAt.{bound_tokens}
use Rattle.ob0_inline.proofs.inlining_everywhere.tokens_of_uses.Goals as goal

pub returns : goal.returns
returns c =
    let r = c.args.names.now in
    let d = c.args.constant in
    let items = c.occurrences-token-items.result.now in
    let at_end : length items ≤ c.loop-token.token-index = omega (arith, c.loop-token-test.false) in
    sym (append-nil c.loop-token.uses.items)
    ∙ (ap (λ xs. c.loop-token.uses.items ++ bound_tokens r.ordinals d xs) (sym (drop_all c.loop-token.token-index items at_end))
    ∙ (c.loop-token.invariant
    ∙ (ap (bound_tokens r.ordinals d) c.occurrences-token-items.ensures ∙ uses_by_table r c.module-module.ensures.resolved d)))
