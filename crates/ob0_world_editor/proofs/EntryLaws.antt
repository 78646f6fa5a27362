-- Proves that changing the stored documents changes the model's documents in the same way.
use Rattle.std.proofs.Common.{◌≡◌, ℕ, Bool, true, false, cond, List, [], ◌∷◌, map, refl, sym, ap, ◌∙◌}
use Rattle.std.specs.Prelude.{Option, Some, None, Result, Ok, Err, OnErr, String, string_bytes}
use Rattle.std.specs.Option.{option_map}
use Rattle.std.specs.Ordering.{nat_cmp, is_eq, eq_by_cmp}
use Rattle.std.specs.Cmp.{eq_by_cmp_equiv}
use Rattle.std.specs.Cmp.Lexicographic.{slice_cmp, nat_list_cmp_total}
use Rattle.std.specs.Str.{bytes_eq}
use Rattle.std.specs.String.{string_cmp}
use Rattle.std.specs.Map.{lookup}
use Rattle.std.specs.BTreeMap.{BTreeMap, is_at}
use Rattle.std.specs.BTreeMap as tree
use Rattle.std.specs.FinMap as map_of
use Rattle.std.proofs.lemmas.Map.Text.{btree_map_updates_text, is_eq-slice_cmp}
use Rattle.ob0_world_rules.specs.ClientAndServer.{EditorDocuments}
use Rattle.ob0_world_editor.specs.declared.documents.OpenDocument as stored
use Rattle.ob0_world_editor.specs.StoredDocuments.{model_document_of, model_documents_of}

same_key : (bs q : List ℕ) → eq_by_cmp (slice_cmp nat_cmp) q bs ≡ bytes_eq bs q
same_key bs q = (eq_by_cmp_equiv nat_list_cmp_total).symm q bs ∙ is_eq-slice_cmp bs q

module _ {A : Type 0} where
  -- Looking up a uri in the model finds the document that is stored for it.
  find-entries : (q : List ℕ) (es : List (String A × stored.OpenDocument)) → map_of.find (slice_cmp nat_cmp) q (map (λ e. (string_bytes e.0, model_document_of e.1)) es) ≡ option_map model_document_of (lookup (is_at (λ k. slice_cmp nat_cmp q (string_bytes k))) es)
  find-entries q [] = refl
  find-entries q (e ∷ es) =
      ap (cond (is_eq (slice_cmp nat_cmp q (string_bytes e.0))) (Some (model_document_of e.1))) (find-entries q es) ∙ picked (is_eq (slice_cmp nat_cmp q (string_bytes e.0))) _ _
    where
      picked : (b : Bool) (x : stored.OpenDocument) (o : Option stored.OpenDocument) → cond b (Some (model_document_of x)) (option_map model_document_of o) ≡ option_map model_document_of (cond b (Some x) o)
      picked true x o = refl
      picked false x o = refl

  pub get-documents : (m : BTreeMap (String A) stored.OpenDocument) (q : List ℕ) → map_of.get (model_documents_of m.entries) q ≡ option_map model_document_of (tree.get_by_text m q)
  get-documents m q = map_of.get-from_entries nat_list_cmp_total _ q ∙ find-entries q m.entries

  module _ (bs : List ℕ) (m n : BTreeMap (String A) stored.OpenDocument) where
    picked_after : (b : Bool) (w o : Option stored.OpenDocument) → option_map model_document_of (cond b w o) ≡ cond b (option_map model_document_of w) (option_map model_document_of o)
    picked_after true w o = refl
    picked_after false w o = refl

    -- After an entry was set or removed, the model has that entry at its uri and is unchanged at all other uris.
    get_after : (w : Option stored.OpenDocument) → tree.UpdatesBy string_cmp (λ k. slice_cmp nat_cmp bs (string_bytes k)) m n w → (q : List ℕ)
        → map_of.get (model_documents_of n.entries) q ≡ cond (eq_by_cmp (slice_cmp nat_cmp) q bs) (option_map model_document_of w) (map_of.get (model_documents_of m.entries) q)
    get_after w u q =
        get-documents n q ∙ ap (option_map model_document_of) (btree_map_updates_text bs m n w u q) ∙ picked_after (bytes_eq bs q) w _
        ∙ ap (λ o. cond (bytes_eq bs q) (option_map model_document_of w) o) (sym (get-documents m q))
        ∙ ap (λ b. cond b (option_map model_document_of w) (map_of.get (model_documents_of m.entries) q)) (sym (same_key bs q))

    pub documents-insert : (w : stored.OpenDocument) → tree.UpdatesBy string_cmp (λ k. slice_cmp nat_cmp bs (string_bytes k)) m n (Some w) → model_documents_of n.entries ≡ map_of.insert (model_documents_of m.entries) bs (model_document_of w)
    documents-insert w u =
        map_of.same_map nat_list_cmp_total (map_of.slice_cmp-IsAntisymmetric map_of.nat_cmp-IsAntisymmetric) _ _
        (λ q. get_after (Some w) u q ∙ sym (map_of.get-insert nat_list_cmp_total _ bs (model_document_of w) q))

    pub documents-remove : tree.UpdatesBy string_cmp (λ k. slice_cmp nat_cmp bs (string_bytes k)) m n None → model_documents_of n.entries ≡ map_of.remove (model_documents_of m.entries) bs
    documents-remove u =
        map_of.same_map nat_list_cmp_total (map_of.slice_cmp-IsAntisymmetric map_of.nat_cmp-IsAntisymmetric) _ _
        (λ q. get_after None u q ∙ sym (map_of.get-remove nat_list_cmp_total _ bs q))

  -- If an insertion fails, the model's documents are unchanged.
  pub documents-unchanged : {T E : Type 0} (m n : BTreeMap (String A) stored.OpenDocument) (r : Result T E) (old : EditorDocuments) → tree.IsUnchanged m n → model_documents_of m.entries ≡ old → OnErr r (model_documents_of n.entries ≡ old)
  documents-unchanged m n (Ok x) old same is = tt
  documents-unchanged m n (Err e) old same is = ap (λ es. model_documents_of es) same ∙ is
