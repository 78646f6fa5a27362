use Rattle.std.proofs.Common.{◌≡◌, ◌∙◌, sym, ap, Option, Some, None, refl}
use Rattle.std.specs.Option.{option_map}
use Rattle.std.specs.FinMap as map_of
use Rattle.ob0_world_rules.specs.ClientAndServer.{EditorDocuments}
use Rattle.ob0_world_editor.specs.StoredDocuments.{model_document_of}
use Rattle.ob0_world_editor.proofs.EntryLaws.{get-documents}
use Rattle.ob0_world_editor.proofs.documents.OpenDocuments.get.Goals as goal

twice : {A B C : Type 0} (f : A → B) (g : B → C) (o : Option A) → option_map (λ x. g (f x)) o ≡ option_map g (option_map f o)
twice f g None = refl
twice f g (Some x) = refl

pub returns : goal.returns
returns c =
    twice (λ d. d.now) model_document_of c.get.result ∙ ap (option_map model_document_of) c.get.ensures.value
    ∙ sym (get-documents c.self.inside.by_uri c.args.uri.now)
    ∙ ap (λ (m : EditorDocuments). map_of.get m c.args.uri.now) c.self.view_is
