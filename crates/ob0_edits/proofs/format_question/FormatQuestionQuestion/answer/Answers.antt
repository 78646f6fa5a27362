use Rattle.std.proofs.Common.{◌≡◌, ◌∙◌, ap, sym, subst, Result, Vec, Global, IfErr}
use Rattle.std.proofs.lemmas.Result.{IfOk-weaker}
use Rattle.ob0_scope_table.specs.Resolution.{Resolution}
use Rattle.ob0_text.specs.declared.edits.Edit.{Edit}
use Rattle.ob0_text.specs.declared.refusals.EditRefusal.{EditRefusal}
use Rattle.ob0_text.specs.declared.refusals.EditRefusal.TheVariants.{Memory}
use Rattle.ob0_edits.specs.FormattingEdits.{IsFormatResult}
use Rattle.ob0_edits.proofs.LaidOut.{formats_or_not}
use Rattle.ob0_edits.proofs.format_question.FormatQuestionQuestion.answer.Goals as goal

pub returns : goal.returns
returns g c =
    let is = c.module-module.ensures.value ∙ ap (λ (r : Resolution). r.module_read) c.resolved.ensures.value in
    let store = c.args.self.now.store.now in
    let unit = g.T.TextStore.unit_of store in
    let indent = c.args.self.now.indent in
    let text = g.T.TextStore.content store in
    let P : Result (Vec Edit Global) EditRefusal → Type 0 = λ r. IsFormatResult unit indent text r in
    let Q : Result (Vec Edit Global) EditRefusal → Type 0 = λ r. IfErr r (λ refusal. refusal ≡ Memory → ⊥) in
    IfOk-weaker c.memory_refusal_as_error.result _ _ (λ kept both h same.
    subst P (sym both.0)
    (formats_or_not unit indent text c.args.module.now c.module-module.result.now c.format.result is h same
    c.format.ensures.edits c.format.ensures.fits c.format.ensures.patched_text c.format.ensures.too_long c.format.ensures.refusals (subst Q both.0 both.1)
    c.replacing_gaps_gives_formatted_text.ensures.utf8 c.formatting_keeps_tokens_and_comments.ensures.lexed c.formatting_keeps_module_tree.ensures)) c.memory_refusal_as_error.ensures
