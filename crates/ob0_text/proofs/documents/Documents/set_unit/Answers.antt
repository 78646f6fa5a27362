use Rattle.std.proofs.Common.{ap, ◌∙◌}
use Rattle.ob0_text.specs.OpenDocuments.{OpenDocuments, document_at}
use Rattle.ob0_text.proofs.EntryLaws.{counted_where_none}
use Rattle.ob0_text.proofs.documents.Documents.set_unit.Goals as goal

pub invariant_of-self : goal.invariant_of-self
invariant_of-self g c =
    counted_where_none g.T.TextStore.content g.T.TextStore.unit_of _ c.self.inside.by_uri
    (λ uri. ap (λ (m : OpenDocuments). document_at m uri) c.self.view_is ∙ c.requires uri)
