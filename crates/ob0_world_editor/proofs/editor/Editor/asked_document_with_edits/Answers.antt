use Rattle.std.proofs.Common.{◌≡◌, ◌∙◌, ap, sym, Some}
use Rattle.ob0_world_rules.specs.ClientAndServer.{Editor, editor_document_with_uri}
use Rattle.ob0_world_editor.specs.StoredDocuments.{model_document_of}
use Rattle.ob0_world_editor.proofs.editor.Editor.asked_document_with_edits.Goals as goal

pub document_with_edits-requires : goal.document_with_edits-requires
document_with_edits-requires c =
    let at : editor_document_with_uri c.args.self.now c.as_str.result.now ≡ Some (model_document_of c.in-Some-get.document.now) = sym (c.in-Some-get.ensures ∙ ap (λ (e : Editor). editor_document_with_uri e c.as_str.result.now) c.self.view_is) in
    c.requires.versions _ _ at
