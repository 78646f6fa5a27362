use Rattle.std.proofs.Common.{ℕ, List, sym}
use Rattle.std.proofs.lemmas.Result.{IfOk-weaker}
use Rattle.ob0_text.specs.Texts.{offset_of}
use Rattle.ob0_text.specs.Units.{width_of}
use Rattle.ob0_edits.proofs.Inlined.{inlinings_found}
use Rattle.ob0_edits.proofs.inline_question.inlining_edits.Goals as goal

pub returns : goal.returns
returns g c =
    let unit = g.T.TextStore.unit_of c.args.store.now in
    let text : List ℕ = g.T.TextStore.content c.args.store.now in
    let offset : ℕ = offset_of (width_of unit) text c.args.place in
    IfOk-weaker c.ask.result _ _ (λ found h. inlinings_found unit c.args.analysis.now text offset found c.ask.ensures.utf8 (sym c.requires) h) c.ask.ensures.found
