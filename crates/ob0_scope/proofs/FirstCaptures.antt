-- Proves that a first capture exists exactly if the new name isn't free.
use Rattle.std.proofs.Common.{List, None, Option, Some, [], ap, arith, eq-eqb, eqb-true, false, if◌then◌else◌, length, option_map, refl, suc, sym, true, ℕ, ◌∙◌, ◌∷◌, ◌≡◌}
use Rattle.ob0_tree.specs.Tree.{Tree, module_text}
use Rattle.ob0_language_names.specs.Occurrences.{IsFreeName, at_declaration, at_occurrence, labels_of_occurrences, first_binding_difference, is_duplicate_name, same_binding}
use Rattle.ob0_language_names.specs.RenamingLaws.{NameIsFreeIffNoConflict}
use Rattle.ob0_language_names.specs.Scopes.{label_from_ordinal, renamed, same_ordinal}
use Rattle.ob0_language_names.proofs.OccurrenceNames.{as_many-module}
use Rattle.ob0_language_names.specs.Names.{Label, Name, naming_by_spelling, as_written, declared}
use Rattle.std.proofs.lemmas.Slice.Eq.{bytes_eq-Decides}

pub same_binding-equal : (a b : Label) → same_binding a b ≡ true → a ≡ b
same_binding-equal (declared j) (declared k) h = ap declared (eqb-true j k h)
same_binding-equal (declared j) (as_written y) h = absurd (cc)
same_binding-equal (as_written x) (declared k) h = absurd (cc)
same_binding-equal (as_written x) (as_written y) h = ap as_written ((bytes_eq-Decides x y).0 h)

pub same_binding-refl : (a : Label) → same_binding a a ≡ true
same_binding-refl (declared j) = eq-eqb j j refl
same_binding-refl (as_written x) = (bytes_eq-Decides x x).1 refl

pub no_difference : (as₁ bs : List Label) → length as₁ ≡ length bs → first_binding_difference as₁ bs ≡ None → as₁ ≡ bs
no_difference [] [] n h = refl
no_difference [] (b ∷ bs) n h = absurd (cc)
no_difference (a ∷ as₁) [] n h = absurd (cc)
no_difference (a ∷ as₁) (b ∷ bs) n h =
    (elim (same_binding a b) as (λ v. same_binding a b ≡ v → (if v then option_map suc (first_binding_difference as₁ bs) else Some 0) ≡ None → a ∷ as₁ ≡ b ∷ bs) [
      | true ↦ λ e o i. same_binding-equal a b e i ∷ no_difference as₁ bs (omega (arith, n)) (no_later (first_binding_difference as₁ bs) o) i
      | false ↦ λ e o. absurd (cc)
    ]) refl h
  where
    no_later : (o : Option ℕ) → option_map suc o ≡ None → o ≡ None
    no_later None h = refl
    no_later (Some k) h = absurd (cc)

pub no_difference-refl : (as₁ : List Label) → first_binding_difference as₁ as₁ ≡ None
no_difference-refl [] = refl
no_difference-refl (a ∷ as₁) =
    ap (λ v. if v then option_map suc (first_binding_difference as₁ as₁) else Some 0) (same_binding-refl a) ∙ ap (option_map suc) (no_difference-refl as₁)

pub as_many-bindings : (m : Tree Name module_text) (d : ℕ) (new : Name) → length (labels_of_occurrences (renamed m d new)) ≡ length (labels_of_occurrences m)
as_many-bindings m d new =
    as_many-module naming_by_spelling (label_from_ordinal naming_by_spelling) (renamed m d new)
    ∙ (as_many-module naming_by_spelling (λ ordinal x. if same_ordinal ordinal d then new else x) m ∙ sym (as_many-module naming_by_spelling (label_from_ordinal naming_by_spelling) m))

no_occurrence : (o : Option ℕ) → option_map at_occurrence o ≡ None → o ≡ None
no_occurrence None h = refl
no_occurrence (Some k) h = absurd (cc)

pub name_is_free_iff_no_conflict-holds : NameIsFreeIffNoConflict
name_is_free_iff_no_conflict-holds m d new = (
  (elim (is_duplicate_name m d new) as (λ v. is_duplicate_name m d new ≡ v → (if v then Some at_declaration else option_map at_occurrence (first_binding_difference (labels_of_occurrences (renamed m d new)) (labels_of_occurrences m))) ≡ None → IsFreeName m d new) [
    | true ↦ λ e h. absurd (cc)
    | false ↦ λ e h. (e, no_difference (labels_of_occurrences (renamed m d new)) (labels_of_occurrences m) (as_many-bindings m d new) (no_occurrence (first_binding_difference (labels_of_occurrences (renamed m d new)) (labels_of_occurrences m)) h))
  ]) refl,
  λ free. ap (λ v. if v then Some at_declaration else option_map at_occurrence (first_binding_difference (labels_of_occurrences (renamed m d new)) (labels_of_occurrences m))) free.0
      ∙ ap (option_map at_occurrence) (ap (λ l. first_binding_difference l (labels_of_occurrences m)) free.1 ∙ no_difference-refl (labels_of_occurrences m)),
)
