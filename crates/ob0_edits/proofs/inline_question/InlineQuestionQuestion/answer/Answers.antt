use Rattle.ob0_text.specs.Texts.{offset_of}
use Rattle.ob0_text.specs.Units.{width_of}
use Rattle.ob0_edits.specs.declared.inline_question.InliningKind.TheVariants.{OneUse, Everywhere}
use Rattle.ob0_edits.proofs.Inlined.{offered_of}
use Rattle.ob0_edits.proofs.inline_question.InlineQuestionQuestion.answer.Goals as goal

pub returns : goal.returns
returns g c =
    let q = c.args.self.now in
    let unit = g.T.TextStore.unit_of q.store.now in
    let text = g.T.TextStore.content q.store.now in
    let m = c.args.module.now.module_read in
    let offset = offset_of (width_of unit) text q.place in
    (offered_of OneUse unit text m offset _ _ c.inline_here.ensures c.in_ok-here.ensures, offered_of Everywhere unit text m offset _ _ c.inline_all.ensures c.in_ok-everywhere.ensures)
