-- Proves facts about lists that are read item by item.
use Rattle.std.proofs.Common.{◌≡◌, ◌∙◌, List, [], ◌∷◌, ◌++◌, length, Option, Some, None, option_map, arith, refl, ap, sym}
use Rattle.std.proofs.lemmas.List.{append_assoc, append-nil}
use Rattle.serde_json.specs.View.{view, items_view}
use Rattle.serde_json.specs.declared.value.Value.{Value}
use Rattle.ob0_text.specs.OpenDocuments.{TextChange}
use Rattle.ob0_rpc.specs.Notifications.{content_change_from_json, content_changes_of_items}

abbrev pub Values : Type 0
Values = List Value

abbrev pub Changes : Type 0
Changes = List TextChange

regroup : (done : Changes) (change : TextChange) (r : Option Changes) → option_map (λ ts. done ++ ts) (option_map (λ ts. change ∷ ts) r) ≡ option_map (λ ts. (done ++ change ∷ []) ++ ts) r
regroup done change None = refl
regroup done change (Some ts) = ap Some (sym (append_assoc done (change ∷ []) ts))

pub changes_more : (all : Option Changes) (done : Changes) (xs rest : Values) (v : Value) (change : TextChange) → xs ≡ v ∷ rest
    → all ≡ option_map (λ ts. done ++ ts) (content_changes_of_items (items_view xs)) → content_change_from_json (view v) ≡ Some change
    → all ≡ option_map (λ ts. (done ++ change ∷ []) ++ ts) (content_changes_of_items (items_view rest))
changes_more all done xs rest v change begins e is = e ∙ rw (begins, is) (regroup done change (content_changes_of_items (items_view rest)))

pub changes_none : (all : Option Changes) (done : Changes) (xs rest : Values) (v : Value) → xs ≡ v ∷ rest
    → all ≡ option_map (λ ts. done ++ ts) (content_changes_of_items (items_view xs)) → content_change_from_json (view v) ≡ None
    → all ≡ None
changes_none all done xs rest v begins e is = e ∙ rw (begins, is) refl

pub changes_all : (all : Option Changes) (done : Changes) (xs : Values) → xs ≡ []
    → all ≡ option_map (λ ts. done ++ ts) (content_changes_of_items (items_view xs))
    → all ≡ Some done
changes_all all done xs none e = e ∙ rw (none, append-nil done) refl

pub no_value : (xs : Values) → length xs ≡ 0 → xs ≡ []
no_value [] h = refl
no_value (x ∷ xs) h = absurd (omega arith)
