-- Renaming a field to a free name gives the same module as exchanging the two names. The renaming
-- isn't injective: both the field's name and the new name become the new name. The exchange keeps
-- different names different. If the new name is free, the renaming and the exchange agree on every
-- field that a record of the module declares. Two renamings that agree on these fields give the
-- same module, if the module is well-typed.
use Rattle.std.proofs.Common.{◌≡◌, ℕ, Bool, true, false, not, ◌&&◌, List, [], ◌∷◌, if◌then◌else◌, ◌==◌, sym, refl, ap, ◌∙◌, subst}
use Rattle.std.proofs.lemmas.Slice.Eq.{bytes_eq-Decides}
use Rattle.std.proofs.lemmas.Bool.{or_parts}
use Rattle.ob0_tree.specs.declared.tree.Role.{Role}
use Rattle.ob0_tree.specs.Tree.{Tree, module_text}
use Rattle.ob0_language_names.specs.Names.{Name, same_name}
use Rattle.ob0_language_names.specs.Scopes.{same_ordinal}
use Rattle.ob0_language_names.proofs.NameEquality.{same_name-refl}
use Rattle.ob0_language_types.specs.WellTyped.{WellTyped}
use Rattle.ob0_language_runs.specs.EditLaws.{HaveSameRuns}
use Rattle.ob0_language_field_laws.specs.FieldLaws.{RenamingFieldToFreeNameKeepsTypingAndRuns, KeepsFieldsDistinct}
use Rattle.ob0_language_field_laws.proofs.Proved.{field_renaming_keeps_typing_and_runs-holds}
use Rattle.ob0_language_fields.specs.MarkedFields.{UsedName, declares_field, mark_module, marking_declarations, no_field, selects_field, used_names}
use Rattle.ob0_language_fields.specs.RenamedFields.{FieldRenaming, rename_fields_in_module}
use Rattle.ob0_language_fields.specs.SingleFieldRenaming.{IsFreeFieldName, has_another_field_named, module_with_renamed_field, names_declared_in_record, single_field_renaming}
use Rattle.ob0_language_fields.proofs.MarkedNames.{EachName, IsDeclaration, module-declares}
use Rattle.ob0_language_fields.proofs.KnownFields.{KnownName, RenamedAlike, module-alike}

same_name-is : (x y : Name) → same_name x y ≡ true → x ≡ y
same_name-is x y e = (bytes_eq-Decides x y).0 e

-- exchanges two names and leaves all others unchanged
abbrev pub exchange : Name → Name → Name → Name
exchange f new x = if same_name x f then new else if same_name x new then f else x

exchange-at : (f new x : Name) (a b : Bool) → same_name x f ≡ a → same_name x new ≡ b → exchange f new x ≡ (if a then new else if b then f else x)
exchange-at f new x a b e₁ e₂ = λ i. if e₁ i then new else if e₂ i then f else x

exchange-old : (f new : Name) → exchange f new f ≡ new
exchange-old f new = exchange-at f new f true (same_name f new) (same_name-refl f) refl

exchange-new : (f new : Name) → exchange f new new ≡ f
exchange-new f new = go (same_name new f) refl
  where
    go : (a : Bool) → same_name new f ≡ a → exchange f new new ≡ f
    go true e = exchange-at f new new true true e (same_name-refl new) ∙ same_name-is new f e
    go false e = exchange-at f new new false true e (same_name-refl new)

exchange-twice : (f new x : Name) → exchange f new (exchange f new x) ≡ x
exchange-twice f new x = go (same_name x f) (same_name x new) refl refl
  where
    go : (a b : Bool) → same_name x f ≡ a → same_name x new ≡ b → exchange f new (exchange f new x) ≡ x
    go true b e₁ e₂ = ap (exchange f new) (exchange-at f new x true b e₁ e₂) ∙ (exchange-new f new ∙ sym (same_name-is x f e₁))
    go false true e₁ e₂ = ap (exchange f new) (exchange-at f new x false true e₁ e₂) ∙ (exchange-old f new ∙ sym (same_name-is x new e₂))
    go false false e₁ e₂ = ap (exchange f new) (exchange-at f new x false false e₁ e₂) ∙ exchange-at f new x false false e₁ e₂

both-ways : (a b : Bool) → (a ≡ true → b ≡ true) → (b ≡ true → a ≡ true) → a ≡ b
both-ways true false h k = sym (h refl)
both-ways false true h k = k refl
both-ways _ _ h k = refl

exchange-apart : (f new x y : Name) → same_name (exchange f new x) (exchange f new y) ≡ same_name x y
exchange-apart f new x y =
    both-ways (same_name (exchange f new x) (exchange f new y)) (same_name x y)
    (λ e. (bytes_eq-Decides x y).1 (sym (exchange-twice f new x) ∙ (ap (exchange f new) (same_name-is (exchange f new x) (exchange f new y) e) ∙ exchange-twice f new y)))
    (λ e. (bytes_eq-Decides (exchange f new x) (exchange f new y)).1 (ap (exchange f new) (same_name-is x y e)))

abbrev pub exchanged : ℕ → Name → Name → FieldRenaming
exchanged r f new owner x = if same_ordinal owner r then exchange f new x else x

pub exchanged-apart : (r : ℕ) (f new : Name) → KeepsFieldsDistinct (exchanged r f new)
exchanged-apart r f new k x y =
    elim (k == r) as (λ b. same_name (if b then exchange f new x else x) (if b then exchange f new y else y) ≡ same_name x y) [ true ↦ exchange-apart f new x y | false ↦ refl ]

-- Renaming and exchanging give a field the same name, unless the field is another field of the record that already has
-- the new name.

agree-cases : (f new x : Name) (c a b : Bool) → (c && (b && not a)) ≡ false → (if c && a then new else x) ≡ (if c then (if a then new else if b then f else x) else x)
agree-cases f new x true false true h = absurd (cc)
agree-cases f new x _ _ _ h = refl

names-agree : (r : ℕ) (f new : Name) (xs : List (Role × UsedName Name)) → EachName IsDeclaration xs → has_another_field_named (names_declared_in_record r xs) f new ≡ false → EachName (KnownName (RenamedAlike (single_field_renaming r f new) (exchanged r f new))) xs
names-agree r f new [] d h = tt
names-agree r f new ((_, (x, no_field)) ∷ xs) d h = (tt, names-agree r f new xs d.1 h)
names-agree r f new ((_, (x, declares_field k)) ∷ xs) d h = go (k == r) h (names-agree r f new xs d.1)
  where
    go : (c : Bool) → has_another_field_named (if c then x ∷ names_declared_in_record r xs else names_declared_in_record r xs) f new ≡ false
        → (has_another_field_named (names_declared_in_record r xs) f new ≡ false → EachName (KnownName (RenamedAlike (single_field_renaming r f new) (exchanged r f new))) xs)
        → ((if c && same_name x f then new else x) ≡ (if c then exchange f new x else x)) × EachName (KnownName (RenamedAlike (single_field_renaming r f new) (exchanged r f new))) xs
    go true h later =
        let g = or_parts (same_name x new && not (same_name x f)) (has_another_field_named (names_declared_in_record r xs) f new) h in
        (agree-cases f new x true (same_name x f) (same_name x new) g.0, later g.1)
    go false h later = (refl, later h)
names-agree r f new ((_, (x, selects_field s)) ∷ xs) d h = absurd d.0

pub renamed-exchanged : (m : Tree Name module_text) (r : ℕ) (f new : Name) → IsFreeFieldName m r f new → WellTyped m → module_with_renamed_field m r f new ≡ rename_fields_in_module (exchanged r f new) m
unfolding WellTyped
renamed-exchanged m r f new free well = module-alike (single_field_renaming r f new) (exchanged r f new) m (names-agree r f new (used_names (mark_module marking_declarations tt m)) (module-declares m) free) well.1

pub renaming_field_to_free_name_keeps_typing_and_runs-holds : RenamingFieldToFreeNameKeepsTypingAndRuns
renaming_field_to_free_name_keeps_typing_and_runs-holds m r f new free well =
    subst (λ a. WellTyped a × HaveSameRuns a m) (sym (renamed-exchanged m r f new free well)) (field_renaming_keeps_typing_and_runs-holds (exchanged r f new) m (exchanged-apart r f new) well)
