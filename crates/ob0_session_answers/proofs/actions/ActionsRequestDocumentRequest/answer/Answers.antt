use Rattle.std.proofs.Common.{◌∙◌, ℕ, List, Option, inl, inr, refl, subst, sym}
use Rattle.std.proofs.Math.Facts.{to_z-of_z}
use Rattle.std.proofs.lemmas.Result.{IfOk-weaker}
use Rattle.ob0_text.specs.Texts.{offset_of}
use Rattle.ob0_text.specs.Units.{width_of}
use Rattle.ob0_edits.specs.InliningEdits.{AreOptionalInlineResults}
use Rattle.ob0_edits.specs.declared.inline_question.InliningEdits.{InliningEdits}
use Rattle.ob0_session_answers.specs.Actions.{actions_request_view, first_offset_in_range}
use Rattle.ob0_session_answers.proofs.actions.ActionsRequestDocumentRequest.answer.Goals as goal

pub returns-then-not-wants_inlining : goal.returns-then-not-wants_inlining
returns-then-not-wants_inlining g c = IfOk-weaker c.answer_without_actions.result _ _ (λ bytes sent. (_, (_, inr (inl (sym c.wants_inlining.ensures ∙ c.if-not-wants_inlining.true), refl), refl), sent)) c.answer_without_actions.ensures

pub returns-in-Some : goal.returns-in-Some
returns-in-Some g c =
    let unit = g.T.TextStore.unit_of c.args.text.now in
    let text : List ℕ = g.T.TextStore.content c.args.text.now in
    let requested = actions_request_view c.args.self.now c.args.version in
    let offset = first_offset_in_range unit text requested.range in
    let there = subst (λ (o : ℕ). AreOptionalInlineResults unit text o c.in_ok-found.field-0) c.first_position_in_range-place.ensures c.in_ok-found.ensures in
    let found = subst (λ (a : Option InliningEdits). AreOptionalInlineResults unit text offset a) c.in-Some.is there in
    IfOk-weaker c.answer_with_actions.result _ _ (λ bytes sent. (
      _,
      (_, inl (record { here = c.in-Some.found.here; everywhere = c.in-Some.found.everywhere; wanted = sym c.wants_inlining.ensures ∙ c.if-not-wants_inlining.false; offers_here = found.0; offers_everywhere = found.1; listed = refl }), refl),
      sent,
    )) (rw (to_z-of_z c.ranges.version) at c.answer_with_actions.ensures)

pub returns-in-None : goal.returns-in-None
returns-in-None g c =
    let unit = g.T.TextStore.unit_of c.args.text.now in
    let text : List ℕ = g.T.TextStore.content c.args.text.now in
    let unfit = subst (λ (a : Option InliningEdits). AreOptionalInlineResults unit text (offset_of (width_of unit) text c.first_position_in_range-place.result) a) c.in-None.is c.in_ok-found.ensures in
    IfOk-weaker c.answer_without_actions-in-None.result _ _ (λ bytes sent. (_, (_, inr (inr unfit, refl), refl), sent)) c.answer_without_actions-in-None.ensures
