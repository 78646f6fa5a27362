use Rattle.std.proofs.lemmas.Result.{IfOk-weaker}
use Rattle.ob0_rename.specs.Renaming.{renaming_at_place}
use Rattle.ob0_edits.proofs.Renamings.{settled}
use Rattle.ob0_edits.proofs.rename_question.RenameQuestionQuestion.answer.Goals as goal

pub returns : goal.returns
returns g c =
    let q = c.args.self.now in
    let r = renaming_at_place (g.T.TextStore.unit_of q.store.now) (g.T.TextStore.content q.store.now) c.args.module.now q.place q.new.now in
    IfOk-weaker c.memory_refusal_as_error.result _ _ (λ kept both. settled r c.rename.result kept c.rename.ensures.answers both.0 both.1) c.memory_refusal_as_error.ensures
