use Rattle.std.proofs.Common.{◌≡◌, ◌∙◌, ℕ, List, Option, ap, option_map, inl, inr, refl, subst, sym}
use Rattle.std.proofs.lemmas.Result.{IfOk-weaker}
use Rattle.ob0_scan.specs.declared.lexeme.Span.{Span}
use Rattle.ob0_refs.specs.Questions.{definition_at_offset}
use Rattle.ob0_scope_table.specs.Resolution.{Resolution}
use Rattle.serde_json.specs.Data.{null}
use Rattle.ob0_session_answers.specs.Questions.{location_value_of_span, value_or_null}
use Rattle.ob0_session_answers.proofs.Naming.{FoundOf, found_of, null_can_be_sent}
use Rattle.ob0_session_answers.proofs.questions.DefinitionRequestDocumentRequest.answer.Goals as goal

pub returns-in-Some : goal.returns-in-Some
returns-in-Some g c =
    let unit = g.T.TextStore.unit_of c.args.text.now in
    let text : List ℕ = g.T.TextStore.content c.args.text.now in
    let is = λ (r : Resolution) (found : Option Span). found ≡ definition_at_offset r c.offset-offset.result in
    let found = found_of c.args.analysis.now text is c.in_ok-found.field-0 c.in_ok-found.ensures.utf8 (sym c.requires) c.in_ok-found.ensures.found in
    let there = subst (λ (a : Option (Option Span)). FoundOf text is a) c.in-Some.is found in
    let same = there.2 ∙ ap (definition_at_offset there.0) c.offset-offset.ensures in
    IfOk-weaker c.definition_answer.result _ _ (λ bytes sent. (
      _,
      inl (there.0, there.1, (λ i. value_or_null (option_map (location_value_of_span unit (c.as_str.ensures.value i) text) (same i)))),
      sent,
    )) c.definition_answer.ensures

pub returns-in-None : goal.returns-in-None
returns-in-None g c =
    let text : List ℕ = g.T.TextStore.content c.args.text.now in
    let is = λ (r : Resolution) (found : Option Span). found ≡ definition_at_offset r c.offset-offset.result in
    let found = found_of c.args.analysis.now text is c.in_ok-found.field-0 c.in_ok-found.ensures.utf8 (sym c.requires) c.in_ok-found.ensures.found in
    IfOk-weaker c.success_response_text.result _ _ (λ bytes sent. (null, inr (subst (λ (a : Option (Option Span)). FoundOf text is a) c.in-None.is found, refl), sent null_can_be_sent)) c.success_response_text.ensures
