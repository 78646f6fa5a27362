use Rattle.std.proofs.Common.{◌∙◌, ap}
use Rattle.std.specs.FinMap as map_of
use Rattle.ob0_world_rules.specs.ClientAndServer.{EditorDocuments}
use Rattle.ob0_world_editor.proofs.EntryLaws.{documents-remove}
use Rattle.ob0_world_editor.proofs.documents.OpenDocuments.close.Goals as goal

pub returns : goal.returns
returns c =
    documents-remove c.args.uri.now c.self.inside.by_uri c.remove.new.self c.remove.ensures.updates
    ∙ ap (λ (m : EditorDocuments). map_of.remove m c.args.uri.now) c.self.view_is
