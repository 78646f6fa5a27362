-- Proves that a renaming is made in at most one way: two lists of edits are equal, and there are no
-- edits if the new name is refused.
use Rattle.std.proofs.Common.{◌≡◌, ◌∙◌, ℕ, ◌<◌, ◌≤◌, Bool, true, false, Some, None, List, [], map, length, refl, sym, ap, arith, subst, inl, inr, if◌then◌else◌}
use Rattle.std.specs.Prelude.{◌⊎◌, option_and_then, option_map, slice_get}
use Rattle.std.specs.List.{filter}
use Rattle.ob0_scan.specs.LexemeClasses.{IsIdentifier}
use Rattle.ob0_scan.specs.TextWithTokens.{TextWithTokens, max_text_length}
use Rattle.ob0_text.specs.declared.edits.Edit.{Edit}
use Rattle.ob0_text.specs.declared.position_types.Position.{Position}
use Rattle.ob0_text.specs.declared.position_types.Range.{Range}
use Rattle.ob0_text.specs.declared.position_types.Unit.{Unit}
use Rattle.ob0_text.specs.declared.refusals.EditRefusal.{EditRefusal}
use Rattle.ob0_text.specs.declared.refusals.EditRefusal.TheVariants as refusal
use Rattle.ob0_text.specs.Texts.{offset_of}
use Rattle.ob0_text.specs.Units.{width_of}
use Rattle.ob0_tree.specs.declared.tree.Role.TheVariants as role
use Rattle.ob0_tree.specs.ParsedModule.{named_tree_of}
use Rattle.ob0_tree.specs.TokenIndexLeaves.{tree_with_names, token_text_at}
use Rattle.ob0_tree.specs.Tree.{Tree, identifiers, module_text, occurrences}
use Rattle.ob0_edits_tokens.specs.Replacements.{replacement_at_token, range_and_text, text_after_replacement}
use Rattle.ob0_language_names.specs.Names.{Name, same_name}
use Rattle.ob0_language_names.specs.Occurrences.{NameConflict, IsFreeName, at_declaration, at_occurrence, first_name_conflict}
use Rattle.ob0_scope_table.specs.Resolution.{Resolution, declaring_names, token_span, declaration_token}
use Rattle.ob0_scope.proofs.FirstCaptures.{name_is_free_iff_no_conflict-holds}
use Rattle.ob0_scope.specs.Renames.{namesake_ordinal}
use Rattle.ob0_scope.specs.NamesAtPlaces.{identifier_is_bound_to_declaration}
use Rattle.ob0_edits_tokens.specs.Ranges.{range_of}
use Rattle.ob0_language_fields.specs.SingleFieldRenaming.{is_duplicate_field_name}
use Rattle.ob0_types_fields.specs.IdentifierOwners.{fields_with_owners}
use Rattle.ob0_types_fields.specs.FieldIdentifiers.{identifiers_declared_in_module, field_identifiers, field_at_offset, first_token, tokens_of_field}
use Rattle.ob0_edits.specs.AnalysisAnswers.{IsResolvedWellTypedModule}
use Rattle.ob0_edits.specs.TextBytes.{utf8}
use Rattle.ob0_rename.specs.Renaming.{Renaming, RenameTarget, declaration, record_field, field_tokens_to_rename, renaming_target, target_of_name_or_field, nothing, occurrence_range, conflicting_field_range, conflicting_declaration_range, predeclared, renaming_at_place, text_after_renaming, tokens_to_rename}
use Rattle.ob0_rename.specs.Answers.{AreRenameEdits, IsRenameRefusal, IsFirstRefusalForDeclaration, IsFirstRefusalForField, IsFirstRefusalForTarget, RenamesDeclaration, RenamesField, WritesNewName}
use Rattle.ob0_edits.specs.Renamings.{IsRenameRefusedInText, RenamesInText}
use Rattle.ob0_world_rules.specs.TextEdits.{replacements_of_edits}
use Rattle.ob0_world_rules.proofs.OneModule.{Same, same_module, one_named_tree, one_name, identifiers_of, same_parts}
use Rattle.ob0_world_rules.proofs.OneFields.{one_list_of_fields}

-- holds if the declaration of d has this new name at its declaring token, by the tokens and the tree over them
abbrev is_declared_in : TextWithTokens → Tree ℕ module_text → ℕ → Name → Bool
is_declared_in s t d new = elim (declaration_token (declaring_names (identifiers role.DeclaringName t)) d) [ Some token ↦ same_name (token_text_at s token) new | None ↦ false ]

abbrev tokens_in : TextWithTokens → Tree ℕ module_text → ℕ → Name → List ℕ
tokens_in s t d new = if is_declared_in s t d new then [] else map (λ x. x.0.1) (filter (identifier_is_bound_to_declaration true d) (identifiers_of s t))

-- ---- the refusals, by their reasons

module _ (unit : Unit) (text : List ℕ) (place : Position) (new : Name) (names : Resolution) where
  abbrev of_names : Renaming
  of_names = renaming_at_place unit text names place new

  abbrev here : Tree Name module_text
  here = named_tree_of names.module_read

  abbrev IsBadName : EditRefusal → Type 0
  IsBadName why = ¬ IsIdentifier new × (why ≡ refusal.BadName)

  abbrev IsTwice : ℕ → EditRefusal → Type 0
  IsTwice d why = (range : Range) × (first_name_conflict here d new ≡ Some at_declaration) × (conflicting_declaration_range of_names d ≡ Some range) × (why ≡ refusal.Duplicate range)

  abbrev IsCaptured : ℕ → EditRefusal → Type 0
  IsCaptured d why = (k : ℕ) × (range : Range) × (first_name_conflict here d new ≡ Some (at_occurrence k)) × (occurrence_range of_names k ≡ Some range) × (why ≡ refusal.Captures range)

  abbrev IsLong : ℕ → EditRefusal → Type 0
  IsLong d why = IsFreeName here d new × (why ≡ refusal.TooLong)

  declared_view : (d : ℕ) (why : EditRefusal) → IsFirstRefusalForDeclaration of_names d why → IsBadName why ⊎ (IsIdentifier new × (IsTwice d why ⊎ (IsCaptured d why ⊎ IsLong d why)))
  declared_view d refusal.NoName h = absurd h
  declared_view d refusal.Predeclared h = absurd h
  declared_view d refusal.BadName h = inl (h, refl)
  declared_view d (refusal.Duplicate range) h = inr (h.0, inl (range, h.1, h.2, refl))
  declared_view d (refusal.Captures range) h = inr (h.0, inr (inl (h.1.0, range, h.1.1, h.1.2, refl)))
  declared_view d refusal.TooLong h = inr (h.0, inr (inr (h.1, refl)))
  declared_view d refusal.TooDeep h = absurd h
  declared_view d refusal.Shadowed h = absurd h
  declared_view d refusal.CommentInside h = absurd h
  declared_view d refusal.Memory h = absurd h

  abbrev IsTwiceField : ℕ → Name → EditRefusal → Type 0
  IsTwiceField k f why = (range : Range) × (is_duplicate_field_name here k f new ≡ true) × (conflicting_field_range of_names k ≡ Some range) × (why ≡ refusal.Duplicate range)

  abbrev IsLongField : ℕ → Name → EditRefusal → Type 0
  IsLongField k f why = (is_duplicate_field_name here k f new ≡ false) × (why ≡ refusal.TooLong)

  field_view : (k : ℕ) (f : Name) (why : EditRefusal) → IsFirstRefusalForField of_names k f why → IsBadName why ⊎ (IsIdentifier new × (IsTwiceField k f why ⊎ IsLongField k f why))
  field_view k f refusal.NoName h = absurd h
  field_view k f refusal.Predeclared h = absurd h
  field_view k f refusal.BadName h = inl (h, refl)
  field_view k f (refusal.Duplicate range) h = inr (h.0, inl (range, h.1, h.2, refl))
  field_view k f (refusal.Captures range) h = absurd h
  field_view k f refusal.TooLong h = inr (h.0, inr (h.1, refl))
  field_view k f refusal.TooDeep h = absurd h
  field_view k f refusal.Shadowed h = absurd h
  field_view k f refusal.CommentInside h = absurd h
  field_view k f refusal.Memory h = absurd h

  refused_view : (why : EditRefusal) → IsRenameRefusal of_names why
      → ((renaming_target of_names ≡ nothing) × (why ≡ refusal.NoName)) ⊎ (((renaming_target of_names ≡ predeclared) × (why ≡ refusal.Predeclared)) ⊎ IsFirstRefusalForTarget of_names why)
  refused_view refusal.NoName h = inl (h, refl)
  refused_view refusal.Predeclared h = inr (inl (h, refl))
  refused_view refusal.BadName h = inr (inr h)
  refused_view (refusal.Duplicate range) h = inr (inr h)
  refused_view (refusal.Captures range) h = inr (inr h)
  refused_view refusal.TooLong h = inr (inr h)
  refused_view refusal.TooDeep h = absurd h
  refused_view refusal.Shadowed h = absurd h
  refused_view refusal.CommentInside h = absurd h
  refused_view refusal.Memory h = absurd h

module _ (unit : Unit) (text : List ℕ) (place : Position) (new : Name) (names others : Resolution) (read : IsResolvedWellTypedModule (utf8 text) names) (again : IsResolvedWellTypedModule (utf8 text) others) where
  abbrev r : Renaming
  r = renaming_at_place unit text names place new

  abbrev q : Renaming
  q = renaming_at_place unit text others place new

  e : Same names.module_read others.module_read
  e = same_module (utf8 text) names.module_read others.module_read read.scan read.well_typed.resolved.parsed again.scan again.well_typed.resolved.parsed

  tree_is_unique : named_tree_of names.module_read ≡ named_tree_of others.module_read
  tree_is_unique = one_named_tree e

  fields : field_identifiers names ≡ field_identifiers others
  fields = one_list_of_fields names others read.well_typed again.well_typed e

  one_meaning : renaming_target r ≡ renaming_target q
  one_meaning = λ i. target_of_name_or_field (e.source i) (one_name e (offset_of (width_of unit) text place) i) (field_at_offset (e.source i) (offset_of (width_of unit) text place) (fields i))

  one_place_list : (d : ℕ) → tokens_to_rename names.module_read d new ≡ tokens_to_rename others.module_read d new
  one_place_list d = λ i. tokens_in (e.source i) (e.tree i) d new

  one_field_list : (k : ℕ) (f : Name) → field_tokens_to_rename names k f new ≡ field_tokens_to_rename others k f new
  one_field_list k f = λ i. if same_name new f then [] else tokens_of_field (e.source i) k f (fields i)

  one_text : (xs ys : List ℕ) → xs ≡ ys → text_after_renaming r xs ≡ text_after_renaming q ys
  one_text xs ys same = λ i. text_after_replacement (e.source i) (same i) new

  -- Edits that write the new name at the same tokens are equal.
  one_writing : (xs ys : List ℕ) (t u : Tree Name module_text) (es fs : List Edit) → xs ≡ ys → WritesNewName r xs t es → WritesNewName q ys u fs → map range_and_text es ≡ map range_and_text fs
  one_writing xs ys t u es fs same h k =
      h.changes ∙ ((λ i. map (replacement_at_token unit text ((e.source i).tokens) new) (same i)) ∙ sym k.changes)

  one_declaration : {c d : ℕ} → declaration c ≡ declaration d → c ≡ d
  one_declaration h = cc

  one_record : {k l : ℕ} {f g : Name} → record_field k f ≡ record_field l g → k ≡ l
  one_record h = cc

  one_field : {k l : ℕ} {f g : Name} → record_field k f ≡ record_field l g → f ≡ g
  one_field h = cc

  edits_one : (es fs : List Edit) → AreRenameEdits r es → AreRenameEdits q fs → map range_and_text es ≡ map range_and_text fs
  edits_one es fs (inl (c, means, h)) (inl (d, also, k)) =
      let same : c ≡ d = one_declaration (sym means ∙ (one_meaning ∙ also)) in
      one_writing _ _ _ _ es fs (one_place_list c ∙ ap (λ x. tokens_to_rename others.module_read x new) same) h.writes k.writes
  edits_one es fs (inl (c, means, h)) (inr (l, (g, also, k))) = let both : declaration c ≡ record_field l g = sym means ∙ (one_meaning ∙ also) in absurd (cc)
  edits_one es fs (inr (l, (g, means, h))) (inl (d, also, k)) = let both : record_field l g ≡ declaration d = sym means ∙ (one_meaning ∙ also) in absurd (cc)
  edits_one es fs (inr (l, (g, means, h))) (inr (l₂, (g₂, also, k))) =
      let both : record_field l g ≡ record_field l₂ g₂ = sym means ∙ (one_meaning ∙ also) in
      one_writing _ _ _ _ es fs (one_field_list l g ∙ (λ i. field_tokens_to_rename others (one_record both i) (one_field both i) new)) h.writes k.writes

  -- ---- edits, or a refusal

  too_long : (xs ys : List ℕ) (t : Tree Name module_text) (es : List Edit) → xs ≡ ys → WritesNewName r xs t es → max_text_length < length (text_after_renaming q ys) → ⊥
  too_long xs ys t es same h long =
      let short : length (text_after_renaming q ys) ≤ max_text_length = subst (λ x. length x ≤ max_text_length) (one_text xs ys same) h.short in
      omega (arith, short, long)

  not_captured : (d : ℕ) (x : NameConflict) → IsFreeName (named_tree_of names.module_read) d new → first_name_conflict (named_tree_of others.module_read) d new ≡ Some x → ⊥
  not_captured d x free captured =
      let none : first_name_conflict (named_tree_of others.module_read) d new ≡ None = ap (λ t. first_name_conflict t d new) (sym tree_is_unique) ∙ (name_is_free_iff_no_conflict-holds (named_tree_of names.module_read) d new).1 free in
      let both : None ≡ Some x = sym none ∙ captured in cc

  declared_refused : (d : ℕ) (es : List Edit) (why : EditRefusal) → RenamesDeclaration r d es → IsFirstRefusalForDeclaration q d why → ⊥
  declared_refused d es refusal.NoName h bad = bad
  declared_refused d es refusal.Predeclared h bad = bad
  declared_refused d es refusal.BadName h bad = bad h.identifier
  declared_refused d es (refusal.Duplicate range) h bad = not_captured d at_declaration h.free bad.1
  declared_refused d es (refusal.Captures range) h bad = not_captured d _ h.free bad.1.1
  declared_refused d es refusal.TooLong h bad = too_long _ _ _ es (one_place_list d) h.writes bad.2
  declared_refused d es refusal.TooDeep h bad = bad
  declared_refused d es refusal.Shadowed h bad = bad
  declared_refused d es refusal.CommentInside h bad = bad
  declared_refused d es refusal.Memory h bad = bad

  field_refused : (k : ℕ) (f : Name) (es : List Edit) (why : EditRefusal) → RenamesField r k f es → IsFirstRefusalForField q k f why → ⊥
  field_refused k f es refusal.NoName h bad = bad
  field_refused k f es refusal.Predeclared h bad = bad
  field_refused k f es refusal.BadName h bad = bad h.identifier
  field_refused k f es (refusal.Duplicate range) h bad =
      let free : is_duplicate_field_name (named_tree_of others.module_read) k f new ≡ false = ap (λ t. is_duplicate_field_name t k f new) (sym tree_is_unique) ∙ h.free in
      let both : false ≡ true = sym free ∙ bad.1 in cc
  field_refused k f es (refusal.Captures range) h bad = bad
  field_refused k f es refusal.TooLong h bad = too_long _ _ _ es (one_field_list k f) h.writes bad.2
  field_refused k f es refusal.TooDeep h bad = bad
  field_refused k f es refusal.Shadowed h bad = bad
  field_refused k f es refusal.CommentInside h bad = bad
  field_refused k f es refusal.Memory h bad = bad

  named_refused : (es : List Edit) (why : EditRefusal) → AreRenameEdits r es → IsFirstRefusalForTarget q why → ⊥
  named_refused es why (inl (c, means, h)) (inl (d, also, bad)) =
      let same : c ≡ d = one_declaration (sym means ∙ (one_meaning ∙ also)) in
      declared_refused c es why h (subst (λ x. IsFirstRefusalForDeclaration q x why) (sym same) bad)
  named_refused es why (inl (c, means, h)) (inr (l, (g, also, bad))) = let both : declaration c ≡ record_field l g = sym means ∙ (one_meaning ∙ also) in cc
  named_refused es why (inr (l, (g, means, h))) (inl (d, also, bad)) = let both : record_field l g ≡ declaration d = sym means ∙ (one_meaning ∙ also) in cc
  named_refused es why (inr (l, (g, means, h))) (inr (l₂, (g₂, also, bad))) =
      let both : record_field l g ≡ record_field l₂ g₂ = sym means ∙ (one_meaning ∙ also) in
      field_refused l g es why h (subst (λ x. IsFirstRefusalForField q l x why) (sym (one_field both)) (subst (λ x. IsFirstRefusalForField q x g₂ why) (sym (one_record both)) bad))

  meant_other : (es : List Edit) (m : RenameTarget) → AreRenameEdits r es → renaming_target q ≡ m → (m ≡ nothing) ⊎ (m ≡ predeclared) → ⊥
  meant_other es m (inl (c, means, h)) is (inl none) = let both : declaration c ≡ nothing = sym means ∙ (one_meaning ∙ (is ∙ none)) in cc
  meant_other es m (inl (c, means, h)) is (inr none) = let both : declaration c ≡ predeclared = sym means ∙ (one_meaning ∙ (is ∙ none)) in cc
  meant_other es m (inr (l, (g, means, h))) is (inl none) = let both : record_field l g ≡ nothing = sym means ∙ (one_meaning ∙ (is ∙ none)) in cc
  meant_other es m (inr (l, (g, means, h))) is (inr none) = let both : record_field l g ≡ predeclared = sym means ∙ (one_meaning ∙ (is ∙ none)) in cc

  edits_or_refused : (es : List Edit) (why : EditRefusal) → AreRenameEdits r es → IsRenameRefusal q why → ⊥
  edits_or_refused es refusal.NoName h bad = meant_other es nothing h bad (inl refl)
  edits_or_refused es refusal.Predeclared h bad = meant_other es predeclared h bad (inr refl)
  edits_or_refused es refusal.BadName h bad = named_refused es refusal.BadName h bad
  edits_or_refused es (refusal.Duplicate range) h bad = named_refused es (refusal.Duplicate range) h bad
  edits_or_refused es (refusal.Captures range) h bad = named_refused es (refusal.Captures range) h bad
  edits_or_refused es refusal.TooLong h bad = named_refused es refusal.TooLong h bad
  edits_or_refused es refusal.TooDeep h bad = bad
  edits_or_refused es refusal.Shadowed h bad = bad
  edits_or_refused es refusal.CommentInside h bad = bad
  edits_or_refused es refusal.Memory h bad = bad

  -- ---- one refusal

  same_other : (d : ℕ) → conflicting_declaration_range r d ≡ conflicting_declaration_range q d
  same_other d = λ i.
      option_map (λ token. range_of (width_of unit) text (token_span (e.source i) token))
      (option_and_then (declaration_token (declaring_names (identifiers role.DeclaringName (e.tree i)))) (namesake_ordinal (tree_with_names (e.source i) (e.tree i)) d new))

  same_occurrence : (k : ℕ) → occurrence_range r k ≡ occurrence_range q k
  same_occurrence k = λ i. option_map (λ token. range_of (width_of unit) text (token_span (e.source i) token)) (slice_get (occurrences (e.tree i)) k)

  same_other_field : (k : ℕ) → conflicting_field_range r k ≡ conflicting_field_range q k
  same_other_field k = λ i.
      option_map (λ token. range_of (width_of unit) text (token_span (e.source i) token)) (first_token (tokens_of_field (e.source i) k new (fields_with_owners (identifiers_declared_in_module (e.tree i)))))

  same_captured : (d : ℕ) → first_name_conflict (named_tree_of names.module_read) d new ≡ first_name_conflict (named_tree_of others.module_read) d new
  same_captured d = ap (λ t. first_name_conflict t d new) tree_is_unique

  one_range : {x y : Range} → Some x ≡ Some y → x ≡ y
  one_range h = cc

  one_index : {k l : ℕ} → Some (at_occurrence k) ≡ Some (at_occurrence l) → k ≡ l
  one_index h = cc

  not_both : (k : ℕ) → Some at_declaration ≡ Some (at_occurrence k) → ⊥
  not_both k h = cc

  not_free : (d : ℕ) (x : NameConflict) → first_name_conflict (named_tree_of others.module_read) d new ≡ Some x → IsFreeName (named_tree_of others.module_read) d new → ⊥
  not_free d x captured free = let both : None ≡ Some x = sym ((name_is_free_iff_no_conflict-holds (named_tree_of others.module_read) d new).1 free) ∙ captured in cc

  declared_refusal : (d : ℕ) (why other : EditRefusal) → IsFirstRefusalForDeclaration r d why → IsFirstRefusalForDeclaration q d other → why ≡ other
  declared_refusal d why other h k = go (declared_view unit text place new names d why h) (declared_view unit text place new others d other k)
    where
      go : IsBadName unit text place new names why ⊎ (IsIdentifier new × (IsTwice unit text place new names d why ⊎ (IsCaptured unit text place new names d why ⊎ IsLong unit text place new names d why)))
          → IsBadName unit text place new others other ⊎ (IsIdentifier new × (IsTwice unit text place new others d other ⊎ (IsCaptured unit text place new others d other ⊎ IsLong unit text place new others d other)))
          → why ≡ other
      go (inl (bad, is)) (inl (also, too)) = is ∙ sym too
      go (inl (bad, is)) (inr (good, more)) = absurd (bad good)
      go (inr (good, more)) (inl (bad, is)) = absurd (bad good)
      go (inr (good, inl (x, twice, at, is))) (inr (fine, inl (y, also, there, too))) = is ∙ ap refusal.Duplicate (one_range (sym at ∙ same_other d ∙ there)) ∙ sym too
      go (inr (good, inl (x, twice, at, is))) (inr (fine, inr (inl (n, y, also, there, too)))) = absurd (not_both n (sym twice ∙ same_captured d ∙ also))
      go (inr (good, inl (x, twice, at, is))) (inr (fine, inr (inr (free, too)))) = absurd (not_free d at_declaration (sym (same_captured d) ∙ twice) free)
      go (inr (good, inr (inl (n, x, captured, at, is)))) (inr (fine, inl (y, also, there, too))) = absurd (not_both n (sym also ∙ sym (same_captured d) ∙ captured))
      go (inr (good, inr (inl (n, x, captured, at, is)))) (inr (fine, inr (inl (l, y, also, there, too)))) =
          let index : n ≡ l = one_index (sym captured ∙ same_captured d ∙ also) in
          is ∙ ap refusal.Captures (one_range (sym at ∙ same_occurrence n ∙ ap (occurrence_range q) index ∙ there)) ∙ sym too
      go (inr (good, inr (inl (n, x, captured, at, is)))) (inr (fine, inr (inr (free, too)))) = absurd (not_free d (at_occurrence n) (sym (same_captured d) ∙ captured) free)
      go (inr (good, inr (inr (free, is)))) (inr (fine, inl (y, also, there, too))) = absurd (not_captured d at_declaration free also)
      go (inr (good, inr (inr (free, is)))) (inr (fine, inr (inl (n, y, also, there, too)))) = absurd (not_captured d (at_occurrence n) free also)
      go (inr (good, inr (inr (free, is)))) (inr (fine, inr (inr (free_too, too)))) = is ∙ sym too

  field_refusal : (k : ℕ) (f : Name) (why other : EditRefusal) → IsFirstRefusalForField r k f why → IsFirstRefusalForField q k f other → why ≡ other
  field_refusal k f why other h l = go (field_view unit text place new names k f why h) (field_view unit text place new others k f other l)
    where
      same_duplicate : is_duplicate_field_name (named_tree_of names.module_read) k f new ≡ is_duplicate_field_name (named_tree_of others.module_read) k f new
      same_duplicate = ap (λ t. is_duplicate_field_name t k f new) tree_is_unique

      apart : {A : Type 0} → true ≡ false → A
      apart h = absurd (cc)

      go : IsBadName unit text place new names why ⊎ (IsIdentifier new × (IsTwiceField unit text place new names k f why ⊎ IsLongField unit text place new names k f why))
          → IsBadName unit text place new others other ⊎ (IsIdentifier new × (IsTwiceField unit text place new others k f other ⊎ IsLongField unit text place new others k f other)) → why ≡ other
      go (inl (bad, is)) (inl (also, too)) = is ∙ sym too
      go (inl (bad, is)) (inr (good, more)) = absurd (bad good)
      go (inr (good, more)) (inl (bad, is)) = absurd (bad good)
      go (inr (good, inl (x, twice, at, is))) (inr (fine, inl (y, also, there, too))) = is ∙ ap refusal.Duplicate (one_range (sym at ∙ same_other_field k ∙ there)) ∙ sym too
      go (inr (good, inl (x, twice, at, is))) (inr (fine, inr (free, too))) = apart (sym twice ∙ same_duplicate ∙ free)
      go (inr (good, inr (free, is))) (inr (fine, inl (y, also, there, too))) = apart (sym also ∙ sym same_duplicate ∙ free)
      go (inr (good, inr (free, is))) (inr (fine, inr (free_too, too))) = is ∙ sym too

  named_refusal : (why other : EditRefusal) → IsFirstRefusalForTarget r why → IsFirstRefusalForTarget q other → why ≡ other
  named_refusal why other (inl (c, means, h)) (inl (d, also, k)) =
      let same : c ≡ d = one_declaration (sym means ∙ (one_meaning ∙ also)) in
      declared_refusal c why other h (subst (λ x. IsFirstRefusalForDeclaration q x other) (sym same) k)
  named_refusal why other (inl (c, means, h)) (inr (l, (g, also, k))) = let both : declaration c ≡ record_field l g = sym means ∙ (one_meaning ∙ also) in absurd (cc)
  named_refusal why other (inr (l, (g, means, h))) (inl (d, also, k)) = let both : record_field l g ≡ declaration d = sym means ∙ (one_meaning ∙ also) in absurd (cc)
  named_refusal why other (inr (l, (g, means, h))) (inr (l₂, (g₂, also, k))) =
      let both : record_field l g ≡ record_field l₂ g₂ = sym means ∙ (one_meaning ∙ also) in
      field_refusal l g why other h (subst (λ x. IsFirstRefusalForField q l x other) (sym (one_field both)) (subst (λ x. IsFirstRefusalForField q x g₂ other) (sym (one_record both)) k))

  unnamed : {A : Type 0} (why : EditRefusal) (m : RenameTarget) → IsFirstRefusalForTarget q why → renaming_target r ≡ m → (m ≡ nothing) ⊎ (m ≡ predeclared) → A
  unnamed why m (inl (d, also, k)) is (inl none) = let both : declaration d ≡ nothing = sym also ∙ (sym one_meaning ∙ (is ∙ none)) in absurd (cc)
  unnamed why m (inl (d, also, k)) is (inr none) = let both : declaration d ≡ predeclared = sym also ∙ (sym one_meaning ∙ (is ∙ none)) in absurd (cc)
  unnamed why m (inr (l, (g, also, k))) is (inl none) = let both : record_field l g ≡ nothing = sym also ∙ (sym one_meaning ∙ (is ∙ none)) in absurd (cc)
  unnamed why m (inr (l, (g, also, k))) is (inr none) = let both : record_field l g ≡ predeclared = sym also ∙ (sym one_meaning ∙ (is ∙ none)) in absurd (cc)

  unnamed_too : {A : Type 0} (why : EditRefusal) (m : RenameTarget) → IsFirstRefusalForTarget r why → renaming_target q ≡ m → (m ≡ nothing) ⊎ (m ≡ predeclared) → A
  unnamed_too why m (inl (d, means, k)) is (inl none) = let both : declaration d ≡ nothing = sym means ∙ (one_meaning ∙ (is ∙ none)) in absurd (cc)
  unnamed_too why m (inl (d, means, k)) is (inr none) = let both : declaration d ≡ predeclared = sym means ∙ (one_meaning ∙ (is ∙ none)) in absurd (cc)
  unnamed_too why m (inr (l, (g, means, k))) is (inl none) = let both : record_field l g ≡ nothing = sym means ∙ (one_meaning ∙ (is ∙ none)) in absurd (cc)
  unnamed_too why m (inr (l, (g, means, k))) is (inr none) = let both : record_field l g ≡ predeclared = sym means ∙ (one_meaning ∙ (is ∙ none)) in absurd (cc)

  refusal_is_unique : (why other : EditRefusal) → IsRenameRefusal r why → IsRenameRefusal q other → why ≡ other
  refusal_is_unique why other h k = go (refused_view unit text place new names why h) (refused_view unit text place new others other k)
    where
      apart : {A : Type 0} → nothing ≡ predeclared → A
      apart h = absurd (cc)

      go : ((renaming_target r ≡ nothing) × (why ≡ refusal.NoName)) ⊎ (((renaming_target r ≡ predeclared) × (why ≡ refusal.Predeclared)) ⊎ IsFirstRefusalForTarget r why)
          → ((renaming_target q ≡ nothing) × (other ≡ refusal.NoName)) ⊎ (((renaming_target q ≡ predeclared) × (other ≡ refusal.Predeclared)) ⊎ IsFirstRefusalForTarget q other) → why ≡ other
      go (inl (none, is)) (inl (nor, too)) = is ∙ sym too
      go (inl (none, is)) (inr (inl (before, too))) = apart (sym none ∙ (one_meaning ∙ before))
      go (inl (none, is)) (inr (inr b)) = unnamed other nothing b none (inl refl)
      go (inr (inl (before, is))) (inl (none, too)) = apart (sym none ∙ (sym one_meaning ∙ before))
      go (inr (inl (before, is))) (inr (inl (also, too))) = is ∙ sym too
      go (inr (inl (before, is))) (inr (inr b)) = unnamed other predeclared b before (inr refl)
      go (inr (inr a)) (inl (none, too)) = unnamed_too why nothing a none (inl refl)
      go (inr (inr a)) (inr (inl (before, too))) = unnamed_too why predeclared a before (inr refl)
      go (inr (inr a)) (inr (inr b)) = named_refusal why other a b

-- ---- in a text

-- Two renamings of one place have equal edits, by the bytes of their texts.
pub renames_parts : (unit : Unit) (text : List ℕ) (place : Position) (new : Name) (es fs : List Edit) → RenamesInText unit text place new es → RenamesInText unit text place new fs → map range_and_text es ≡ map range_and_text fs
renames_parts unit text place new es fs h k = edits_one unit text place new h.names k.names h.read k.read es fs h.are_edits k.are_edits

pub renames_one : (unit : Unit) (text : List ℕ) (place : Position) (new : Name) (es fs : List Edit) → RenamesInText unit text place new es → RenamesInText unit text place new fs → replacements_of_edits es ≡ replacements_of_edits fs
renames_one unit text place new es fs h k = same_parts es fs (renames_parts unit text place new es fs h k)

pub renames_or_refused : (unit : Unit) (text : List ℕ) (place : Position) (new : Name) (es : List Edit) (why : EditRefusal) → RenamesInText unit text place new es → IsRenameRefusedInText unit text place new why → ⊥
renames_or_refused unit text place new es why h k = edits_or_refused unit text place new h.names k.names h.read k.read es why h.are_edits k.refused

pub refuses_one : (unit : Unit) (text : List ℕ) (place : Position) (new : Name) (why other : EditRefusal) → IsRenameRefusedInText unit text place new why → IsRenameRefusedInText unit text place new other → why ≡ other
refuses_one unit text place new why other h k = refusal_is_unique unit text place new h.names k.names h.read k.read why other h.refused k.refused
