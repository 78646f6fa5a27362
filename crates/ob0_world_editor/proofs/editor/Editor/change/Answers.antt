use Rattle.std.proofs.Common.{◌≡◌, ◌∙◌, ◌<◌, ◌-◌, ◌^◌, ap, sym, arith, Some}
use Rattle.ob0_world_rules.specs.ClientAndServer.{Editor, editor_document_with_uri}
use Rattle.ob0_world_editor.specs.StoredDocuments.{model_document_of}
use Rattle.ob0_world_editor.proofs.editor.Editor.change.Goals as goal

pub overflow_add-version : goal.overflow_add-version
overflow_add-version c =
    let at : editor_document_with_uri c.args.self.now c.args.uri.now ≡ Some (model_document_of c.in-Some.open.now) = sym (c.in-Some.ensures ∙ ap (λ (e : Editor). editor_document_with_uri e c.args.uri.now) c.self.view_is) in
    let few : c.in-Some.open.now.version < 2 ^ 63 - 1 = c.requires.versions _ _ at in
    record { fits = omega arith }

pub did_change_notification-requires : goal.did_change_notification-requires
did_change_notification-requires c =
    let at : editor_document_with_uri c.args.self.now c.args.uri.now ≡ Some (model_document_of c.in-Some.open.now) = sym (c.in-Some.ensures ∙ ap (λ (e : Editor). editor_document_with_uri e c.args.uri.now) c.self.view_is) in
    let few : c.in-Some.open.now.version < 2 ^ 63 - 1 = c.requires.versions _ _ at in
    omega arith
