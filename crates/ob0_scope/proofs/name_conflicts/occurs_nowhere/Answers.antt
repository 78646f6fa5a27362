use Rattle.std.proofs.Common.{◌≤◌, List, length, arith, ap, sym, subst, ◌∙◌}
use Rattle.ob0_scan.specs.declared.lexeme.Token.{Token}
use Rattle.ob0_language_names.specs.Names.{Name, same_name}
use Rattle.ob0_scope.proofs.Nowhere.{nowhere, one_more}
use Rattle.ob0_scope.proofs.name_conflicts.occurs_nowhere.Goals as goal

pub loop-index-init : goal.loop-index-init
loop-index-init c i h = absurd (omega (arith, h))

pub loop-index-preserved : goal.loop-index-preserved
loop-index-preserved c =
    one_more c.args.tokens.now c.args.name.now c.loop-index.index c.loop-index.invariant
    (ap (λ (x : Name). same_name x c.args.name.now) (sym c.token_text_at.ensures) ∙ (sym c.eq.ensures ∙ c.if-eq.false))

pub returns : goal.returns
returns c holds =
    nowhere c.args.tokens.now c.args.name.now c.loop-index.index (sym c.is_empty.ensures ∙ c.if-is_empty.false)
    (subst (λ (ts : List Token). length ts ≤ c.loop-index.index) c.tokens-index-end.ensures c.loop-index-test.false) c.loop-index.invariant
