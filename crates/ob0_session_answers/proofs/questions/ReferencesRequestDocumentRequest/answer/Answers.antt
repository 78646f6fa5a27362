use Rattle.std.proofs.Common.{◌≡◌, ℕ, List, Option, Vec, Global, map, inl, inr, refl, subst, sym}
use Rattle.std.proofs.lemmas.Result.{IfOk-weaker}
use Rattle.serde_json.specs.Data.{Data, array}
use Rattle.serde_json.specs.View.{items_of}
use Rattle.ob0_rpc.specs.MessageViews.{document_place_view, json_of_id}
use Rattle.ob0_rpc.specs.JsonShapes.{result_message}
use Rattle.ob0_rpc.specs.WrittenMessages.{Writes}
use Rattle.ob0_scan.specs.declared.lexeme.Span.{Span}
use Rattle.ob0_refs.specs.Questions.{AreReferencesAtOffset}
use Rattle.ob0_scope_table.specs.Resolution.{Resolution}
use Rattle.ob0_session_answers.specs.Questions.{location_value_of_span}
use Rattle.ob0_session_answers.proofs.Naming.{FoundOf, found_of}
use Rattle.ob0_session_answers.proofs.questions.ReferencesRequestDocumentRequest.answer.Goals as goal

pub returns-in-Some : goal.returns-in-Some
returns-in-Some g c =
    let unit = g.T.TextStore.unit_of c.args.text.now in
    let text : List ℕ = g.T.TextStore.content c.args.text.now in
    let at = document_place_view c.args.self.now.place.now in
    let id = json_of_id c.args.self.now.id.now in
    let is = λ (r : Resolution) (found : Vec Span Global). AreReferencesAtOffset r c.offset.result c.args.self.now.include_declaration found.items in
    let found = found_of c.args.analysis.now text is c.in_ok-found.field-0 c.in_ok-found.ensures.utf8 (sym c.requires) c.in_ok-found.ensures.found in
    let there = subst (λ (a : Option (Vec Span Global)). FoundOf text is a) c.in-Some.is found in
    let spans = c.in-Some.found.items in
    let are = subst (λ (offset : ℕ). AreReferencesAtOffset there.0 offset c.args.self.now.include_declaration spans) c.offset.ensures there.2 in
    let same : array (items_of (map (location_value_of_span unit c.as_str-uri.result.now text) c.as_slice.result.now)) ≡ array (items_of (map (location_value_of_span unit at.uri text) spans)) = (λ i. array (items_of (map (location_value_of_span unit (c.as_str-uri.ensures.value i) text) (c.as_slice.ensures.value i)))) in
    IfOk-weaker c.references_answer.result _ _ (λ bytes sent. (
      array (items_of (map (location_value_of_span unit at.uri text) spans)),
      inl (there.0, there.1, (spans, are, refl)),
      subst (λ (d : Data). Writes (result_message id d) bytes.items) same sent,
    )) c.references_answer.ensures

pub returns-in-None : goal.returns-in-None
returns-in-None g c =
    let text : List ℕ = g.T.TextStore.content c.args.text.now in
    let is = λ (r : Resolution) (found : Vec Span Global). AreReferencesAtOffset r c.offset.result c.args.self.now.include_declaration found.items in
    let found = found_of c.args.analysis.now text is c.in_ok-found.field-0 c.in_ok-found.ensures.utf8 (sym c.requires) c.in_ok-found.ensures.found in
    IfOk-weaker c.references_answer-in-None.result _ _ (λ bytes sent. (_, inr (subst (λ (a : Option (Vec Span Global)). FoundOf text is a) c.in-None.is found, refl), sent)) c.references_answer-in-None.ensures
