use Rattle.std.proofs.Common.{ℕ, List, sym}
use Rattle.std.proofs.lemmas.Result.{IfOk-weaker}
use Rattle.ob0_edits.proofs.LaidOut.{layout_found}
use Rattle.ob0_edits.proofs.format_question.formatting_edits.Goals as goal

pub returns : goal.returns
returns g c =
    let text : List ℕ = g.T.TextStore.content c.args.store.now in
    IfOk-weaker c.ask.result _ _ (λ found h. layout_found (g.T.TextStore.unit_of c.args.store.now) c.args.indent c.args.analysis.now text found c.ask.ensures.utf8 (sym c.requires) h) c.ask.ensures.found
