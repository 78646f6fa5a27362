use Rattle.std.proofs.Common.{List, sym, subst}
use Rattle.ob0_scan.specs.declared.lexeme.Span.{Span}
use Rattle.ob0_scan.specs.declared.lexeme.Token.{Token}
use Rattle.ob0_scan.specs.RescanState.{SpansAreInOrder}
use Rattle.ob0_scan.proofs.Halved.{in_order}
use Rattle.ob0_scan.proofs.tokens.Tokens.lexeme_slices.Goals as goal

pub returns-clause-order : goal.returns-clause-order
returns-clause-order c =
    subst (λ (tokens : List Token). SpansAreInOrder tokens c.deref-2.result.now) (sym c.deref.ensures.value)
    (subst (λ (comments : List Span). SpansAreInOrder c.self.inside.tokens.items comments) (sym c.deref-2.ensures.value)
    (in_order _ c.self.invariant))
