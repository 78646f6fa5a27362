-- Proves that the reported capture is the first capture.
use Rattle.std.proofs.Common.{◌≡◌, ◌↔◌, ℕ, Bool, true, false, not, ◌&&◌, ◌||◌, ◌==◌, if◌then◌else◌, Option, Some, None, List, [], ◌∷◌, is_some, option_map, refl, sym, ap, ◌∙◌}
use Rattle.std.specs.List.{list_any}
use Rattle.std.specs.Option.{option_or}
use Rattle.ob0_tree.specs.Tree.{Tree, module_text}
use Rattle.ob0_scope.specs.declared.name_conflicts.FirstConflict as reported
use Rattle.ob0_scope.specs.declared.name_conflicts.FirstConflict.TheVariants as reports
use Rattle.ob0_language_names.specs.Names.{Name, same_name}
use Rattle.ob0_language_names.specs.Occurrences.{IsFreeName, at_declaration, at_occurrence, labels_of_occurrences, scopes_in_block, declares_ordinal, first_name_conflict, first_binding_difference, is_duplicate_name, another_declaration_has_name}
use Rattle.ob0_language_names.specs.BlockParts.{module_block}
use Rattle.ob0_scope.specs.Renames.{namesake_ordinal, namesake_in_scopes, other_declaration_with_name, conflict_of}
use Rattle.ob0_language_names.specs.Scopes.{Scope, renamed}
use Rattle.ob0_scope.proofs.FirstCaptures.{name_is_free_iff_no_conflict-holds}

other_is : (own : Scope Name) (d : ℕ) (new : Name) → is_some (other_declaration_with_name own d new) ≡ another_declaration_has_name own d new
other_is [] d new = refl
other_is (b ∷ own) d new = one (same_name b.0 new && not (b.1 == d)) (other_declaration_with_name own d new) (another_declaration_has_name own d new) (other_is own d new)
  where
    one : (c : Bool) (found : Option ℕ) (rest : Bool) → is_some found ≡ rest → is_some (if c then Some b.1 else found) ≡ (c || rest)
    one true found rest e = refl
    one false found rest e = e

namesake_is : (blocks : List (Scope Name)) (d : ℕ) (new : Name) → is_some (namesake_in_scopes blocks d new) ≡ list_any (λ own. declares_ordinal own d && another_declaration_has_name own d new) blocks
namesake_is [] d new = refl
namesake_is (own ∷ blocks) d new =
    both (if declares_ordinal own d then other_declaration_with_name own d new else None) (namesake_in_scopes blocks d new)
    ∙ (λ i. (here (declares_ordinal own d) ∙ ap (λ b. declares_ordinal own d && b) (other_is own d new)) i || namesake_is blocks d new i)
  where
    both : (o p : Option ℕ) → is_some (option_or o p) ≡ (is_some o || is_some p)
    both None p = refl
    both (Some k) p = refl

    here : (c : Bool) → is_some (if c then other_declaration_with_name own d new else None) ≡ (c && is_some (other_declaration_with_name own d new))
    here true = refl
    here false = refl

duplicate_is : (m : Tree Name module_text) (d : ℕ) (new : Name) (o : Option ℕ) → o ≡ namesake_ordinal m d new → is_duplicate_name m d new ≡ is_some o
duplicate_is m d new o e = sym (namesake_is (scopes_in_block 7 [] (module_block m)) d new) ∙ ap is_some (sym e)

pub captured_there : (m : Tree Name module_text) (d : ℕ) (new : Name) (other : ℕ) → Some other ≡ namesake_ordinal m d new → Some at_declaration ≡ first_name_conflict m d new
captured_there m d new other e =
    sym (ap (λ b. if b then Some at_declaration else option_map at_occurrence (first_binding_difference (labels_of_occurrences (renamed m d new)) (labels_of_occurrences m))) (duplicate_is m d new (Some other) e))

pub captured_later : (m : Tree Name module_text) (d : ℕ) (new : Name) (found : Option reported.FirstConflict) → None ≡ namesake_ordinal m d new
    → found ≡ option_map reports.Occurrence (first_binding_difference (labels_of_occurrences (renamed m d new)) (labels_of_occurrences m)) → option_map conflict_of found ≡ first_name_conflict m d new
captured_later m d new found e f =
    ap (option_map conflict_of) f
    ∙ (placed (first_binding_difference (labels_of_occurrences (renamed m d new)) (labels_of_occurrences m))
    ∙ sym (ap (λ b. if b then Some at_declaration else option_map at_occurrence (first_binding_difference (labels_of_occurrences (renamed m d new)) (labels_of_occurrences m))) (duplicate_is m d new None e)))
  where
    placed : (o : Option ℕ) → option_map conflict_of (option_map reports.Occurrence o) ≡ option_map at_occurrence o
    placed None = refl
    placed (Some k) = refl

pub free_where_none : (m : Tree Name module_text) (d : ℕ) (new : Name) (found : Option reported.FirstConflict) → option_map conflict_of found ≡ first_name_conflict m d new → found ≡ None ↔ IsFreeName m d new
free_where_none m d new found e = (
  λ none. (name_is_free_iff_no_conflict-holds m d new).0 (sym e ∙ ap (option_map conflict_of) none),
  λ free. nothing found (e ∙ (name_is_free_iff_no_conflict-holds m d new).1 free),
)
  where
    nothing : (o : Option reported.FirstConflict) → option_map conflict_of o ≡ None → o ≡ None
    nothing None h = refl
    nothing (Some c) h = absurd (cc)

-- If no other declaration of the block has the name, the search finds none.
pub no_namesake : (m : Tree Name module_text) (d : ℕ) (new : Name) → is_duplicate_name m d new ≡ false → None ≡ namesake_ordinal m d new
no_namesake m d new e = nothing (namesake_ordinal m d new) (sym (duplicate_is m d new (namesake_ordinal m d new) refl) ∙ e)
  where
    nothing : (o : Option ℕ) → is_some o ≡ false → None ≡ o
    nothing None h = refl
    nothing (Some k) h = absurd (cc)
