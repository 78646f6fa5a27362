use Rattle.std.proofs.Common.{◌∙◌, ap}
use Rattle.std.specs.Prelude.{string_bytes}
use Rattle.std.specs.FinMap as map_of
use Rattle.ob0_world_rules.specs.ClientAndServer.{EditorDocuments}
use Rattle.ob0_world_editor.specs.StoredDocuments.{model_document_of}
use Rattle.ob0_world_editor.proofs.EntryLaws.{documents-insert, documents-unchanged}
use Rattle.ob0_world_editor.proofs.documents.OpenDocuments.open_or_replace.Goals as goal

pub returns-clause-ok : goal.returns-clause-ok
returns-clause-ok c =
    documents-insert (string_bytes c.in_ok-uri.uri) c.self.inside.by_uri c.insert.new.self _ c.in_ok-insert.ensures.updates
    ∙ ap (λ (m : EditorDocuments). map_of.insert m (string_bytes c.in_ok-uri.uri) (model_document_of c.args.document)) c.self.view_is
    ∙ ap (λ uri. map_of.insert c.args.self.now uri (model_document_of c.args.document)) c.in_ok-uri.ensures.ok

pub returns-in_err-insert-clause-err : goal.returns-in_err-insert-clause-err
returns-in_err-insert-clause-err c =
    documents-unchanged c.self.inside.by_uri c.insert.new.self c.from_residual-in_err-insert.result c.args.self.now c.in_err-insert.ensures.err c.self.view_is
