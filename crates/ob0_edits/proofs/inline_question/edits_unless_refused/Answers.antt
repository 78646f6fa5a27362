use Rattle.std.proofs.Common.{◌≡◌, ◌∙◌, sym, subst, Result, Vec, Global, IfErr}
use Rattle.ob0_text.specs.declared.edits.Edit.{Edit}
use Rattle.ob0_text.specs.declared.refusals.EditRefusal.{EditRefusal}
use Rattle.ob0_text.specs.declared.refusals.EditRefusal.TheVariants.{Memory}
use Rattle.ob0_edits.proofs.inline_question.edits_unless_refused.Goals as goal

pub returns-in-Ok : goal.returns-in-Ok
returns-in-Ok c = sym c.in_ok-kept.ensures.0 ∙ c.in-Ok.is

pub returns-in-Err : goal.returns-in-Err
returns-in-Err c =
    let P : Result (Vec Edit Global) EditRefusal → Type 0 = λ r. IfErr r (λ refusal. refusal ≡ Memory → ⊥) in
    (c.in-Err._refusal, subst P c.in-Err.is c.in_ok-kept.ensures.1, sym c.in_ok-kept.ensures.0 ∙ c.in-Err.is)
