-- Proves the invariant of the loop that reads a list of edits: the edits of the list are the edits
-- that have been read, followed by the edits of the remaining values.
use Rattle.std.proofs.Common.{◌≡◌, ◌∙◌, ◌<◌, ◌≤◌, ◌+◌, ℕ, zero, suc, List, [], ◌∷◌, ◌++◌, length, drop, get_or, Option, Some, None, option_map, option_and_then, refl, sym, ap, append_assoc, append-nil, add-one, arith}
use Rattle.std.proofs.lemmas.List.{map-append}
use Rattle.std.proofs.Math.Seq.{drop-cons}
use Rattle.serde_json.specs.View.{view, items_view}
use Rattle.serde_json.specs.declared.value.Value.{Value}
use Rattle.ob0_text.specs.declared.edits.Edit.{Edit}
use Rattle.ob0_world_rules.specs.TextEdits.{Replacement, replacement_of_edit, replacements_of_edits}
use Rattle.ob0_world_editor.specs.MessagesToEditor.{edit_of_value, edits_of_items}

abbrev pub HasRead : List Value → ℕ → List Edit → Type 0
HasRead values i edits = edits_of_items (items_view values) ≡ option_map (λ es. replacements_of_edits edits ++ es) (edits_of_items (items_view (drop i values)))

regrouped : (before : List Replacement) (e : Replacement) (o : Option (List Replacement)) → option_map (λ es. before ++ es) (option_map (λ es. e ∷ es) o) ≡ option_map (λ es. (before ++ e ∷ []) ++ es) o
regrouped before e None = refl
regrouped before e (Some es) = ap Some (sym (append_assoc before (e ∷ []) es))

-- Reading one more edit extends the edits that were read so far.
pub read_one : (values : List Value) (i : ℕ) (v : Value) (edits after : List Edit) (edit : Edit) → i < length values → v ≡ get_or values i v → Some (replacement_of_edit edit) ≡ edit_of_value (view v) → after ≡ edits ++ edit ∷ [] → HasRead values i edits → HasRead values (i + 1) after
read_one values i v edits after edit within at is grown read =
    let cut : drop i values ≡ v ∷ drop (suc i) values = drop-cons values i v within ∙ ap (λ x. x ∷ drop (suc i) values) (sym at) in
    let rest : Option (List Replacement) = edits_of_items (items_view (drop (suc i) values)) in
    let more : replacements_of_edits after ≡ replacements_of_edits edits ++ replacement_of_edit edit ∷ [] = ap replacements_of_edits grown ∙ map-append replacement_of_edit edits (edit ∷ []) in
    rw add-one (
    read
    ∙ ap (λ vs. option_map (λ es. replacements_of_edits edits ++ es) (edits_of_items (items_view vs))) cut
    ∙ ap (λ o. option_map (λ es. replacements_of_edits edits ++ es) (option_and_then (λ e. option_map (λ es. e ∷ es) rest) o)) (sym is)
    ∙ regrouped (replacements_of_edits edits) (replacement_of_edit edit) rest
    ∙ ap (λ rs. option_map (λ es. rs ++ es) rest) (sym more)
    )

same : (o : Option (List Replacement)) → o ≡ option_map (λ es. es) o
same None = refl
same (Some es) = refl

-- Before the first value no edit is read.
pub nothing_read : (values : List Value) (edits : List Edit) → edits ≡ [] → HasRead values 0 edits
nothing_read values edits none = same (edits_of_items (items_view values)) ∙ ap (λ (es : List Edit). option_map (λ rs. replacements_of_edits es ++ rs) (edits_of_items (items_view values))) (sym none)

-- If one of the values is no edit, the list of edits can't be read.
pub none_read : (values : List Value) (i : ℕ) (v : Value) (edits : List Edit) → i < length values → v ≡ get_or values i v → None ≡ edit_of_value (view v) → HasRead values i edits → None ≡ edits_of_items (items_view values)
none_read values i v edits within at is read =
    let cut : drop i values ≡ v ∷ drop (suc i) values = drop-cons values i v within ∙ ap (λ x. x ∷ drop (suc i) values) (sym at) in
    let rest : Option (List Replacement) = edits_of_items (items_view (drop (suc i) values)) in
    sym (
    read
    ∙ ap (λ vs. option_map (λ es. replacements_of_edits edits ++ es) (edits_of_items (items_view vs))) cut
    ∙ ap (λ o. option_map (λ es. replacements_of_edits edits ++ es) (option_and_then (λ e. option_map (λ es. e ∷ es) rest) o)) (sym is)
    )

past_end : (values : List Value) (i : ℕ) → length values ≤ i → drop i values ≡ []
past_end [] zero h = refl
past_end [] (suc i) h = refl
past_end (v ∷ values) zero h = absurd (omega arith)
past_end (v ∷ values) (suc i) h = past_end values i (omega arith)

-- After the last value all edits are read.
pub all_read : (values : List Value) (i : ℕ) (edits : List Edit) → length values ≤ i → HasRead values i edits → Some (replacements_of_edits edits) ≡ edits_of_items (items_view values)
all_read values i edits past read =
    sym (
    read ∙ ap (λ vs. option_map (λ es. replacements_of_edits edits ++ es) (edits_of_items (items_view vs))) (past_end values i past)
    ∙ ap Some (append-nil (replacements_of_edits edits))
    )
