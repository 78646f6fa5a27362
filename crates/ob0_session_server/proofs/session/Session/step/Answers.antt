use Rattle.std.proofs.Common.{◌≡◌, ◌≢◌, ◌∙◌, true, false, ap, sym, refl}
use Rattle.ob0_session_server.specs.Answers.{ServerState}
use Rattle.ob0_session_server.specs.declared.session.Phase.TheVariants.{Failed}
use Rattle.ob0_session_server.proofs.Answering.{ended_step, going_on}
use Rattle.ob0_session_server.proofs.session.Session.step.Goals as goal

pub returns-in-End-clause-ok : goal.returns-in-End-clause-ok
returns-in-End-clause-ok g c =
    ended_step c.args.self.now c.args.content.now _ c.in-End.status c.new.ensures.items refl c.in-End.ensures

pub returns-in-Ok-clause-ok : goal.returns-in-Ok-clause-ok
returns-in-Ok-clause-ok g c =
    let before : ServerState = c.args.self.now in
    let works : before.phase ≢ Failed = λ failed.
    let alike = rw (ap (λ s. s.phase) c.self.view_is ∙ failed) at c.eq.ensures in let both : true ≡ false = sym alike ∙ c.if-eq.false in cc in
    record { answers = going_on before.phase before c.args.content.now _ c.reply_to_content_as_list.new.self (sym c.next_in_phase.ensures ∙ c.in-Continue.is) works c.in-Ok.ensures; next = c.next_in_phase-in-Ok.ensures }

pub returns-in-Err-clause-err : goal.returns-in-Err-clause-err
returns-in-Err-clause-err g c = (
  sym c.next_in_phase.ensures ∙ c.in-Continue.is,
  (λ failed.
      let alike = rw (ap (λ s. s.phase) c.self.view_is ∙ failed) at c.eq.ensures in let both : true ≡ false = sym alike ∙ c.if-eq.false in cc),
  refl,
)
