use Rattle.std.proofs.Common.{◌∷◌, sym, ap, ◌∙◌}
use Rattle.ob0_scope_numbering.specs.IdentifierWalk.{number_declarations}
use Rattle.ob0_scope_numbering.proofs.Going.{gone_through}
use Rattle.ob0_scope_numbering.proofs.Declaring.{names_further}
use Rattle.ob0_scope_numbering.proofs.numbering.NumberingWalk.number_declarations.Goals as goal

pub returns : goal.returns
returns c =
    let ns = c.args.ns.now in
    gone_through number_declarations c.loop-name.invariant c.loop-name-test.false
    ∙ (ap (λ v. number_declarations c.deref-name-items.result.now v) c.in_ok-number_declaration.ensures.numbered
    ∙ ap (λ xs. number_declarations (ns.first ∷ xs) c.args.self.now) (c.deref-name-items.ensures.value ∙ sym (names_further ns.more.items)))
