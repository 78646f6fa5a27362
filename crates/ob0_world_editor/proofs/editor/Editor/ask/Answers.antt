use Rattle.std.proofs.Common.{◌≡◌, ◌∙◌, ap, sym, map, Some}
use Rattle.ob0_world_rules.specs.ClientAndServer.{Editor, editor_document_with_uri}
use Rattle.ob0_world_editor.specs.StoredDocuments.{model_document_of}
use Rattle.ob0_world_editor.specs.ModelValues.{model_ask_of, model_sent_ask_of}
use Rattle.ob0_world_editor.proofs.Moving.{asks_once_more}
use Rattle.ob0_world_editor.proofs.editor.Editor.ask.Goals as goal

pub returns-clause-ok : goal.returns-clause-ok
returns-clause-ok c =
    let at : editor_document_with_uri c.args.self.now c.args.uri.now ≡ Some (model_document_of c.in-Some.open.now) = sym (c.in-Some.ensures ∙ ap (λ (e : Editor). editor_document_with_uri e c.args.uri.now) c.self.view_is) in
    asks_once_more c.args.self.now _ c.args.uri.now (model_ask_of c.args.ask.now) (model_document_of c.in-Some.open.now) c.in_ok-content.content c.len.result c.self.inside.requested.items
    c.in_ok-sent.sent at (ap (λ (e : Editor). e.requested) c.self.view_is) (c.len.ensures ∙ c.self.inside.requested.ok.0) c.in_ok-sent.ensures
    ((λ i. record (c.self.view_is i) { requested = map model_sent_ask_of (c.in_ok-push.ensures.items i) }))
    c.in_ok-content.ensures
