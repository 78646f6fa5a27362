use Rattle.std.proofs.Common.{ℕ, List, sym}
use Rattle.std.proofs.lemmas.Result.{IfOk-weaker}
use Rattle.ob0_edits.proofs.Renamings.{new_name_found}
use Rattle.ob0_edits.proofs.rename_question.renaming_edits.Goals as goal

pub returns : goal.returns
returns g c =
    let text : List ℕ = g.T.TextStore.content c.args.store.now in
    IfOk-weaker c.ask.result _ _ (λ found h.
    new_name_found (g.T.TextStore.unit_of c.args.store.now) c.args.analysis.now text c.args.place c.args.new.now found c.ask.ensures.utf8 (sym c.requires) h) c.ask.ensures.found
