use Rattle.std.proofs.Common.{rules}
use Rattle.std.proofs.lemmas.List.Sorted.{answers_always}
use Rattle.ob0_text.specs.Units.{width_of}
use Rattle.ob0_text.proofs.CutOrder.{sorted_cuts_are}
use Rattle.ob0_text.proofs.byte_edits.sorted_byte_edits.Goals as goal

pub returns : goal.returns
returns g c =
    let text = g.T.TextStore.content c.args.store.now in
    let width = width_of (g.T.TextStore.unit_of c.args.store.now) in
    sorted_cuts_are text width c.args.edits.now c.in_ok-cuts.cuts.items c.sort_by_key.new.self.items
    (c.in_ok-sort_by_key.ensures.sorted (λ x. (x.start, x.end)) (answers_always _ _ _ (λ f a r f2 q. search rules)))
    (c.in_ok-sort_by_key.ensures.stable (λ x. (x.start, x.end)) (answers_always _ _ _ (λ f a r f2 q. search rules)))
    c.in_ok-cuts.ensures
