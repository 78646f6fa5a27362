use Rattle.std.proofs.Common.{sym, subst}
use Rattle.std.specs.Cmp.Lexicographic.{slice_cmp}
use Rattle.std.specs.Ordering.{nat_cmp}
use Rattle.std.specs.FinMap.{get-empty}
use Rattle.ob0_text.specs.OpenDocuments.{OpenDocuments, NoDocumentIsOpen}
use Rattle.ob0_tests_surface.proofs.texts.new_documents_keep_document.Goals as goal

pub set_unit-requires : goal.set_unit-requires
set_unit-requires g c =
    subst (λ (m : OpenDocuments). NoDocumentIsOpen m) (sym c.new-documents.ensures) (λ uri. get-empty (slice_cmp nat_cmp) uri)
