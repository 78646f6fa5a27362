-- Proves that the tokens that are bound to a declaration are those at which the table has its
-- ordinal. The declaring token is the first of them. A table has no ordinals at tokens that aren't
-- names (`ordinals_only_at_names`). Each declaring identifier has the next ordinal, and every other one has
-- the ordinal of an earlier declaration or none (`AreInOrder`). So the first of the identifiers
-- with an ordinal is the declaring one.
use Rattle.std.proofs.Common.{◌≡◌, ◌≢◌, ◌==◌, ◌<◌, ◌≤◌, ℕ, zero, suc, ◌+◌, ◌-◌, Bool, true, false, not, cond, ◌&&◌, ◌||◌, if◌then◌else◌, Option, Some, None, List, [], ◌∷◌, map, length, drop, get_or, refl, sym, ap, ◌∙◌, subst, arith, append-nil, replicate, slice_get, eq-eqb, eqb-true, le_refl}
use Rattle.std.proofs.Math.Dec.{ltb}
use Rattle.std.proofs.lemmas.Bool.{eqb-false, ltb-false, ltb-true}
use Rattle.std.proofs.lemmas.List.{drop_more, get_or-drop, get_or_past}
use Rattle.std.specs.List.{filter, list_any}
use Rattle.ob0_tree.specs.declared.tree.Role.{Role}
use Rattle.ob0_tree.specs.declared.tree.Role.TheVariants as role
use Rattle.ob0_tree.specs.IdentifierIndexes.{AreAscendingWithin, identifier_names, names_without_roles}
use Rattle.ob0_tree.specs.ParsedModule.{tree_of}
use Rattle.ob0_tree.specs.TokenIndexLeaves.{token_text_at, token_value_at}
use Rattle.ob0_tree.specs.Tree.{identifiers, mapped_tree}
use Rattle.ob0_tree.proofs.Leaves.{leaves_ascend}
use Rattle.ob0_tree.proofs.MappedIdentifiers.{leaves_mapped}
use Rattle.ob0_language_names.specs.Names.{naming_by_spelling}
use Rattle.ob0_language_names.specs.Occurrences.{label_ordinal}
use Rattle.ob0_scope_table.specs.Resolution.{IsResolution, Resolution, declaring_names, label_from_table, ordinal_in, declaration_token}
use Rattle.ob0_language_names.specs.Scopes.{label_from_ordinal, same_ordinal}
use Rattle.ob0_scope.specs.BoundTokens.{first_bound_token, omitted_token, tokens_bound_in_table, tokens_with_ordinal}
use Rattle.ob0_scope_numbering.specs.MarkWalk.{initial_walk_state}
use Rattle.ob0_scope_numbering.specs.IdentifierWalk.{visit_module}
use Rattle.ob0_scope_numbering.specs.OrdinalMarks.{OrdinalMark, table_with_marks}
use Rattle.ob0_scope.specs.NamesAtPlaces.{is_declaring_role, tokens_bound_to_declaration}
use Rattle.ob0_scope_numbering.specs.IdentifierSpellings.{original_spellings}
use Rattle.ob0_scope_numbering.proofs.Passing.{AreInOrder, HasMarks, IsBefore, at_start, module_passed, tokens_of}
use Rattle.ob0_scope.proofs.Placed.{bound_listed, is_listed, tokens_listed}
use Rattle.ob0_scope.proofs.Renumbered.{ordinals_back}
use Rattle.ob0_scope_numbering.proofs.Tables.{marks_in_table}

-- ---- the ordinals of a resolution are in order

pub marks_same : (f g : ℕ → Option ℕ) (ms : List OrdinalMark) → map f (tokens_of ms) ≡ map g (tokens_of ms) → HasMarks f ms → HasMarks g ms
marks_same f g [] e h = tt
marks_same f g (m ∷ ms) e h = (sym (ap (λ l. get_or l 0 None) e) ∙ h.0, marks_same f g ms (ap (drop 1) e) h.1)

-- The table of a resolution has all marks of its module.
pub marks_resolved : (r : Resolution) → IsResolution r → HasMarks (ordinal_in r.ordinals) (visit_module (tree_of r.module_read) (initial_walk_state (original_spellings r.module_read.source))).marks
marks_resolved r is =
    let m = r.module_read in
    let w = original_spellings m.source in
    let marks = (visit_module (tree_of m) (initial_walk_state w)).marks in
    let made = table_with_marks (replicate (length m.source.tokens) None) marks in
    let are_there = marks_in_table m w (visit_module (tree_of m) (initial_walk_state w)) made is.parsed refl refl in
    let passed = module_passed (ordinal_in made) (label_from_ordinal naming_by_spelling) w (tree_of m) (initial_walk_state w) (at_start w) in
    let same : mapped_tree (label_from_table m.source made) (token_value_at m.source) (tree_of m) ≡ mapped_tree (label_from_table m.source r.ordinals) (token_value_at m.source) (tree_of m) = sym (passed.agree are_there).1 ∙ is.numbering in
    let read : (ordinals : List (Option ℕ)) → map label_ordinal (identifier_names (mapped_tree (label_from_table m.source ordinals) (token_value_at m.source) (tree_of m))) ≡ map (ordinal_in ordinals) (identifier_names (tree_of m)) =
    λ ordinals. ap (map label_ordinal) (leaves_mapped (label_from_table m.source ordinals) (token_value_at m.source) (tree_of m)) ∙ ordinals_back (λ i. token_text_at m.source i) ordinals (identifier_names (tree_of m)) in
    let each : map (ordinal_in made) (identifier_names (tree_of m)) ≡ map (ordinal_in r.ordinals) (identifier_names (tree_of m)) = sym (read made) ∙ (ap (λ t. map label_ordinal (identifier_names t)) same ∙ read r.ordinals) in
    marks_same (ordinal_in made) (ordinal_in r.ordinals) marks (subst (λ ts. map (ordinal_in made) ts ≡ map (ordinal_in r.ordinals) ts) (sym passed.tokens) each) are_there

in_order : (r : Resolution) → IsResolution r → AreInOrder (ordinal_in r.ordinals) 7 (identifiers role.DeclaringName (tree_of r.module_read))
in_order r is =
    let m = r.module_read in
    let w = original_spellings m.source in
    let ids = identifiers role.DeclaringName (tree_of m) in
    let all = (module_passed (ordinal_in r.ordinals) (label_from_ordinal naming_by_spelling) w (tree_of m) (initial_walk_state w) (at_start w)).in_order (marks_resolved r is) [] tt in
    subst (AreInOrder (ordinal_in r.ordinals) 7) (append-nil ids) all

-- ---- the entries of a table at identifiers that ascend; it has no other entries

-- holds if numbers ascend, starting at or above a number
abbrev Rising : ℕ → List ℕ → Type 0
Rising low [] = Unit {0}
Rising low (x ∷ xs) = (low ≤ x) × Rising (x + 1) xs

rising : (low : ℕ) (xs : List ℕ) (high : ℕ) → AreAscendingWithin low xs high → Rising low xs
rising low [] high h = tt
rising low (x ∷ xs) high h = (h.0, rising (x + 1) xs high h.1)

not_below : (low j : ℕ) (xs : List ℕ) → j < low → Rising low xs → list_any (λ i. i == j) xs ≡ false
not_below low j [] less h = refl
not_below low j (x ∷ xs) less h = one (x == j) refl ∙ not_below (x + 1) j xs (omega (arith, less, h.0)) h.1
  where
    one : (b : Bool) → (x == j) ≡ b → (b || list_any (λ i. i == j) xs) ≡ list_any (λ i. i == j) xs
    one true e = absurd (omega (arith, less, h.0, eqb-true x j e))
    one false e = refl

some_none : {x : ℕ} → Some x ≡ None → ⊥
some_none e = absurd (cc)

abbrev number_in : Option ℕ → ℕ
number_in None = 0
number_in (Some x) = x

some_is : {x y : ℕ} → Some x ≡ Some y → x ≡ y
some_is e = ap number_in e

in_table : (os : List (Option ℕ)) (i d : ℕ) → ordinal_in os i ≡ Some d → i < length os
in_table os i d e = one (ltb i (length os)) refl
  where
    one : (b : Bool) → ltb i (length os) ≡ b → i < length os
    one true less = ltb-true i (length os) less
    one false less = absurd (some_none (sym e ∙ get_or_past os i None (ltb-false i (length os) less)))

module _ (ordinals : List (Option ℕ)) (d : ℕ) where
  -- holds if the table has no ordinals at other tokens, starting at a token
  abbrev Alone : ℕ → List ℕ → Type 0
  Alone low xs = (j : ℕ) → low ≤ j → list_any (λ i. i == j) xs ≡ false → ordinal_in ordinals j ≡ None

  alone_after : (low x : ℕ) (xs : List ℕ) → low ≤ x → Alone low (x ∷ xs) → Alone (x + 1) xs
  alone_after low x xs le alone = λ j after e. alone j (omega (arith, le, after)) (ap (λ b. b || list_any (λ i. i == j) xs) (apart j after) ∙ e)
    where
      apart : (j : ℕ) → x + 1 ≤ j → (x == j) ≡ false
      apart j after = one (x == j) refl
        where
          one : (b : Bool) → (x == j) ≡ b → b ≡ false
          one false e = refl
          one true e = absurd (omega (arith, after, eqb-true x j e))

  -- holds if these are the table's entries, starting at a token
  abbrev Are : ℕ → List (Option ℕ) → Type 0
  Are i os = (k : ℕ) → ordinal_in os k ≡ ordinal_in ordinals (i + k)

  are_after : (i : ℕ) (o : Option ℕ) (os : List (Option ℕ)) → Are i (o ∷ os) → Are (i + 1) os
  are_after i o os h = λ k. let next : i + suc k ≡ i + 1 + k = omega arith in h (suc k) ∙ ap (ordinal_in ordinals) next

  here_is : (i : ℕ) (o : Option ℕ) (os : List (Option ℕ)) → Are i (o ∷ os) → o ≡ ordinal_in ordinals i
  here_is i o os h = let here : i + 0 ≡ i = omega arith in h 0 ∙ ap (ordinal_in ordinals) here

  with_none : (i : ℕ) (o : Option ℕ) (os : List (Option ℕ)) → o ≡ None → tokens_with_ordinal None d i (o ∷ os) ≡ tokens_with_ordinal None d (i + 1) os
  with_none i o os e = ap (λ o. tokens_with_ordinal None d i (o ∷ os)) e

  -- An identifier without the ordinal of the declaration isn't listed.
  passed_over : (include : Bool) (x : Role × ℕ) (xs : List (Role × ℕ)) → same_ordinal (ordinal_in ordinals x.1) d ≡ false → tokens_listed ordinals include d (x ∷ xs) ≡ tokens_listed ordinals include d xs
  passed_over include x xs e =
      let kept = filter (is_listed ordinals include d) xs in
      ap (λ b. map (λ (x : Role × ℕ). x.1) (cond (b && (include || not (is_declaring_role x.0))) (x ∷ kept) kept)) e

  all_none : (i : ℕ) (xs : List (Role × ℕ)) → Are i [] → Rising i (names_without_roles xs) → [] ≡ tokens_listed ordinals true d xs
  all_none i [] h rise = refl
  all_none i (x ∷ xs) h rise =
      let there : i + (x.1 - i) ≡ x.1 = omega (arith, rise.0) in
      let nothing : ordinal_in ordinals x.1 ≡ None = ap (ordinal_in ordinals) (sym there) ∙ sym (h (x.1 - i)) in
      let later : Are (x.1 + 1) [] = λ k. let far : i + (x.1 + 1 - i + k) ≡ x.1 + 1 + k = omega (arith, rise.0) in h (x.1 + 1 - i + k) ∙ ap (ordinal_in ordinals) far in
      all_none (x.1 + 1) xs later rise.1 ∙ sym (passed_over true x xs (ap (λ o. same_ordinal o d) nothing))

  all_from : (os : List (Option ℕ)) (i : ℕ) (xs : List (Role × ℕ)) → Are i os → Rising i (names_without_roles xs) → Alone i (names_without_roles xs) → tokens_with_ordinal None d i os ≡ tokens_listed ordinals true d xs
  all_from [] i xs h rise alone = all_none i xs h rise
  all_from (o ∷ os) i [] h rise alone =
      with_none i o os (here_is i o os h ∙ alone i (le_refl i) refl) ∙ all_from os (i + 1) [] (are_after i o os h) tt (λ j le e. alone j (omega (arith, le)) e)
  all_from (o ∷ os) i (x ∷ xs) h rise alone = one (all_from os (i + 1)) (x.1 == i) refl
    where
      same : (b : Bool) → same_ordinal (ordinal_in ordinals x.1) d ≡ b → tokens_with_ordinal None d (i + 1) os ≡ tokens_listed ordinals true d xs → x.1 ≡ i
          → tokens_with_ordinal None d i (o ∷ os) ≡ tokens_listed ordinals true d (x ∷ xs)
      same b e later here =
          let kept = filter (is_listed ordinals true d) xs in
          let at : same_ordinal o d ≡ b = ap (λ o. same_ordinal o d) (here_is i o os h ∙ ap (ordinal_in ordinals) (sym here)) ∙ e in
          ap (λ b. if b && true then i ∷ tokens_with_ordinal None d (i + 1) os else tokens_with_ordinal None d (i + 1) os) at
          ∙ (both b later ∙ ap (λ b. map (λ (x : Role × ℕ). x.1) (cond (b && true) (x ∷ kept) kept)) (sym e))
        where
          both : (b : Bool) → tokens_with_ordinal None d (i + 1) os ≡ tokens_listed ordinals true d xs
              → (if b && true then i ∷ tokens_with_ordinal None d (i + 1) os else tokens_with_ordinal None d (i + 1) os) ≡ map (λ (x : Role × ℕ). x.1) (cond (b && true) (x ∷ filter (is_listed ordinals true d) xs) (filter (is_listed ordinals true d) xs))
          both true later = λ j. sym here j ∷ later j
          both false later = later

      one : ((ys : List (Role × ℕ)) → Are (i + 1) os → Rising (i + 1) (names_without_roles ys) → Alone (i + 1) (names_without_roles ys) → tokens_with_ordinal None d (i + 1) os ≡ tokens_listed ordinals true d ys)
          → (b : Bool) → (x.1 == i) ≡ b → tokens_with_ordinal None d i (o ∷ os) ≡ tokens_listed ordinals true d (x ∷ xs)
      one rest true e =
          let here : x.1 ≡ i = eqb-true x.1 i e in
          let next : x.1 + 1 ≡ i + 1 = ap (λ n. n + 1) here in
          same (same_ordinal (ordinal_in ordinals x.1) d) refl
          (rest xs (are_after i o os h) (subst (λ n. Rising n (names_without_roles xs)) next rise.1) (subst (λ n. Alone n (names_without_roles xs)) next (alone_after i x.1 (names_without_roles xs) rise.0 alone))) here
      one rest false e =
          let other : x.1 ≢ i = eqb-false x.1 i e in
          let above : i + 1 ≤ x.1 = omega (arith, rise.0, other) in
          let absent : list_any (λ j. j == i) (names_without_roles (x ∷ xs)) ≡ false = not_below (i + 1) i (names_without_roles (x ∷ xs)) (omega arith) (above, rise.1) in
          with_none i o os (here_is i o os h ∙ alone i (le_refl i) absent)
          ∙ rest (x ∷ xs) (are_after i o os h) (above, rise.1) (λ j le e. alone j (omega (arith, le)) e)

  -- ---- with and without the declaring one

  before_other : (k : ℕ) (o : Option ℕ) → k ≤ d → IsBefore k o → same_ordinal o d ≡ false
  before_other k None le h = refl
  before_other k (Some j) le h = one (j == d) refl
    where
      one : (b : Bool) → (j == d) ≡ b → b ≡ false
      one false e = refl
      one true e = absurd (omega (arith, le, h, eqb-true j d e))

  same_but : (x : Role × ℕ) (xs : List (Role × ℕ)) → is_declaring_role x.0 ≡ false → tokens_listed ordinals false d xs ≡ tokens_listed ordinals true d xs → tokens_listed ordinals false d (x ∷ xs) ≡ tokens_listed ordinals true d (x ∷ xs)
  same_but x xs e later =
      let without = filter (is_listed ordinals false d) xs in
      ap (λ b. map (λ (x : Role × ℕ). x.1) (cond (same_ordinal (ordinal_in ordinals x.1) d && not b) (x ∷ without) without)) e ∙ one (same_ordinal (ordinal_in ordinals x.1) d)
    where
      one : (b : Bool) → map (λ (x : Role × ℕ). x.1) (cond (b && true) (x ∷ filter (is_listed ordinals false d) xs) (filter (is_listed ordinals false d) xs)) ≡ map (λ (x : Role × ℕ). x.1) (cond (b && true) (x ∷ filter (is_listed ordinals true d) xs) (filter (is_listed ordinals true d) xs))
      one true = λ i. x.1 ∷ later i
      one false = later

  -- If no identifier declares d, the list is the same with and without the declaring one.
  none_declares : (k : ℕ) (xs : List (Role × ℕ)) → AreInOrder (ordinal_in ordinals) k xs → ((i : ℕ) → k + i ≡ d → slice_get (declaring_names xs) i ≡ None) → tokens_listed ordinals false d xs ≡ tokens_listed ordinals true d xs
  none_declares k [] h none = refl
  none_declares k ((role.LookedUpName, x) ∷ xs) h none = same_but (role.LookedUpName, x) xs refl (none_declares k xs h.1 none)
  none_declares k ((role.ClosingName, x) ∷ xs) h none = same_but (role.ClosingName, x) xs refl (none_declares k xs h.1 none)
  none_declares k ((role.FieldName, x) ∷ xs) h none = same_but (role.FieldName, x) xs refl (none_declares k xs h.1 none)
  none_declares k ((role.ModuleName, x) ∷ xs) h none = same_but (role.ModuleName, x) xs refl (none_declares k xs h.1 none)
  none_declares k ((role.DeclaringName, x) ∷ xs) h none = one (none_declares (suc k) xs h.1) (k == d) refl
    where
      one : (((i : ℕ) → suc k + i ≡ d → slice_get (declaring_names xs) i ≡ None) → tokens_listed ordinals false d xs ≡ tokens_listed ordinals true d xs)
          → (b : Bool) → (k == d) ≡ b → tokens_listed ordinals false d ((role.DeclaringName, x) ∷ xs) ≡ tokens_listed ordinals true d ((role.DeclaringName, x) ∷ xs)
      one later true e = absurd (some_none (none 0 (omega (arith, eqb-true k d e))))
      one later false e =
          let other : same_ordinal (ordinal_in ordinals x) d ≡ false = ap (λ o. same_ordinal o d) h.0 ∙ e in
          passed_over false (role.DeclaringName, x) xs other ∙ (later (λ i at. none (suc i) (omega (arith, at))) ∙ sym (passed_over true (role.DeclaringName, x) xs other))

  past : (x : ℕ) (i : ℕ) (os : List (Option ℕ)) → x < i → tokens_with_ordinal (Some x) d i os ≡ tokens_with_ordinal None d i os
  past x i [] less = refl
  past x i (o ∷ os) less =
      (λ j. if same_ordinal o d && not (apart j) then i ∷ past x (i + 1) os (omega (arith, less)) j else past x (i + 1) os (omega (arith, less)) j)
    where
      apart : (x == i) ≡ false
      apart = one (x == i) refl
        where
          one : (b : Bool) → (x == i) ≡ b → b ≡ false
          one false e = refl
          one true e = absurd (omega (arith, less, eqb-true x i e))

  are_dropped : (i : ℕ) → Are i (drop i ordinals)
  are_dropped i = λ k. get_or-drop i ordinals k None

  -- The entries of the table from the declaring token onwards list all identifiers of the
  -- declaration.
  from_declaring : (include : Bool) (k i low : ℕ) (xs : List (Role × ℕ)) (t : ℕ) → AreInOrder (ordinal_in ordinals) k xs → k + i ≡ d → slice_get (declaring_names xs) i ≡ Some t → Rising low (names_without_roles xs) → Alone low (names_without_roles xs)
      → tokens_bound_in_table (omitted_token include (Some t)) d t ordinals ≡ tokens_listed ordinals include d xs
  from_declaring include k i low [] t h at is rise alone = absurd (some_none (sym is))
  from_declaring include k i low ((role.LookedUpName, x) ∷ xs) t h at is rise alone = from_declaring include k i (x + 1) xs t h.1 at is rise.1 (alone_after low x (names_without_roles xs) rise.0 alone) ∙ sym (passed_over include (role.LookedUpName, x) xs (before_other k (ordinal_in ordinals x) (omega (arith, at)) h.0))
  from_declaring include k i low ((role.ClosingName, x) ∷ xs) t h at is rise alone = from_declaring include k i (x + 1) xs t h.1 at is rise.1 (alone_after low x (names_without_roles xs) rise.0 alone) ∙ sym (passed_over include (role.ClosingName, x) xs (before_other k (ordinal_in ordinals x) (omega (arith, at)) h.0))
  from_declaring include k i low ((role.FieldName, x) ∷ xs) t h at is rise alone = from_declaring include k i (x + 1) xs t h.1 at is rise.1 (alone_after low x (names_without_roles xs) rise.0 alone) ∙ sym (passed_over include (role.FieldName, x) xs (before_other k (ordinal_in ordinals x) (omega (arith, at)) h.0))
  from_declaring include k i low ((role.ModuleName, x) ∷ xs) t h at is rise alone = from_declaring include k i (x + 1) xs t h.1 at is rise.1 (alone_after low x (names_without_roles xs) rise.0 alone) ∙ sym (passed_over include (role.ModuleName, x) xs (before_other k (ordinal_in ordinals x) (omega (arith, at)) h.0))
  from_declaring include k (suc i) low ((role.DeclaringName, x) ∷ xs) t h at is rise alone =
      from_declaring include (suc k) i (x + 1) xs t h.1 (omega (arith, at)) is rise.1 (alone_after low x (names_without_roles xs) rise.0 alone)
      ∙ sym (passed_over include (role.DeclaringName, x) xs (ap (λ o. same_ordinal o d) h.0 ∙ before_other (suc k) (Some k) (omega (arith, at)) (omega arith)))
  from_declaring include k zero low ((role.DeclaringName, x) ∷ xs) t h at is rise alone = subst (λ t. tokens_bound_in_table (omitted_token include (Some t)) d t ordinals ≡ tokens_listed ordinals include d ((role.DeclaringName, x) ∷ xs)) (some_is is) (one include)
    where
      own : ordinal_in ordinals x ≡ Some d
      own = h.0 ∙ ap Some (omega (arith, at))

      within : x < length ordinals
      within = in_table ordinals x d own

      split : drop x ordinals ≡ Some d ∷ drop (x + 1) ordinals
      split = drop_more ordinals x None within ∙ ap (λ o. o ∷ drop (x + 1) ordinals) own

      it : (d == d) ≡ true
      it = eq-eqb d d refl

      later : tokens_with_ordinal None d (x + 1) (drop (x + 1) ordinals) ≡ tokens_listed ordinals true d xs
      later = all_from (drop (x + 1) ordinals) (x + 1) xs (are_dropped (x + 1)) rise.1 (alone_after low x (names_without_roles xs) rise.0 alone)

      one : (include : Bool) → tokens_bound_in_table (omitted_token include (Some x)) d x ordinals ≡ tokens_listed ordinals include d ((role.DeclaringName, x) ∷ xs)
      one true =
          let kept = filter (is_listed ordinals true d) xs in
          ap (tokens_with_ordinal None d x) split
          ∙ (ap (λ b. if b && true then x ∷ tokens_with_ordinal None d (x + 1) (drop (x + 1) ordinals) else tokens_with_ordinal None d (x + 1) (drop (x + 1) ordinals)) it
          ∙ (ap (λ l. x ∷ l) later ∙ ap (λ b. map (λ (x : Role × ℕ). x.1) (cond (b && true) ((role.DeclaringName, x) ∷ kept) kept)) (sym (ap (λ o. same_ordinal o d) own ∙ it))))
      one false =
          let kept = filter (is_listed ordinals false d) xs in
          ap (tokens_with_ordinal (Some x) d x) split
          ∙ ((λ j. if it j && not (eq-eqb x x refl j) then x ∷ tokens_with_ordinal (Some x) d (x + 1) (drop (x + 1) ordinals) else tokens_with_ordinal (Some x) d (x + 1) (drop (x + 1) ordinals))
          ∙ (past x (x + 1) (drop (x + 1) ordinals) (omega arith)
          ∙ (later
          ∙ (sym (none_declares (suc k) xs h.1 (λ i more. absurd (omega (arith, more, at))))
          ∙ ap (λ b. map (λ (x : Role × ℕ). x.1) (cond (b && false) ((role.DeclaringName, x) ∷ kept) kept)) (sym (ap (λ o. same_ordinal o d) own ∙ it))))))

-- ---- the tokens of a declaration

pub bound_with : (r : Resolution) (d : ℕ) (include : Bool) → IsResolution r
    → tokens_bound_in_table (omitted_token include (declaration_token r.declaration_tokens d)) d (first_bound_token (declaration_token r.declaration_tokens d)) r.ordinals ≡ tokens_bound_to_declaration r.module_read d include
bound_with r d include is =
    let ids = identifiers role.DeclaringName (tree_of r.module_read) in
    one (ltb d 7) refl ids (in_order r is) (rising 0 (names_without_roles ids) (length r.module_read.source.tokens) (leaves_ascend r.module_read is.parsed)) (λ j le. is.ordinals_only_at_names j) is.declaring ∙ bound_listed r d include is
  where
    all_of : (ids : List (Role × ℕ)) → Rising 0 (names_without_roles ids) → Alone r.ordinals d 0 (names_without_roles ids) → tokens_with_ordinal None d 0 r.ordinals ≡ tokens_listed r.ordinals true d ids
    all_of ids rise alone = all_from r.ordinals d r.ordinals 0 ids (λ k. let same : k ≡ 0 + k = omega arith in ap (ordinal_in r.ordinals) same) rise alone

    everywhere : (ids : List (Role × ℕ)) → AreInOrder (ordinal_in r.ordinals) 7 ids → Rising 0 (names_without_roles ids) → Alone r.ordinals d 0 (names_without_roles ids) → ((i : ℕ) → 7 + i ≡ d → slice_get (declaring_names ids) i ≡ None) → (include : Bool)
        → tokens_with_ordinal (omitted_token include None) d 0 r.ordinals ≡ tokens_listed r.ordinals include d ids
    everywhere ids order rise alone none true = all_of ids rise alone
    everywhere ids order rise alone none false = all_of ids rise alone ∙ sym (none_declares r.ordinals d 7 ids order none)

    placed : (ids : List (Role × ℕ)) → AreInOrder (ordinal_in r.ordinals) 7 ids → Rising 0 (names_without_roles ids) → Alone r.ordinals d 0 (names_without_roles ids) → 7 ≤ d → (found : Option ℕ) → slice_get (declaring_names ids) (d - 7) ≡ found
        → tokens_bound_in_table (omitted_token include found) d (first_bound_token found) r.ordinals ≡ tokens_listed r.ordinals include d ids
    placed ids order rise alone above None e = everywhere ids order rise alone (λ i at. let back : i ≡ d - 7 = omega (arith, at) in ap (slice_get (declaring_names ids)) back ∙ e) include
    placed ids order rise alone above (Some t) e = from_declaring r.ordinals d include 7 (d - 7) 0 ids t order (omega (arith, above)) e rise alone

    one : (b : Bool) → ltb d 7 ≡ b → (ids : List (Role × ℕ)) → AreInOrder (ordinal_in r.ordinals) 7 ids → Rising 0 (names_without_roles ids) → Alone r.ordinals d 0 (names_without_roles ids) → r.declaration_tokens ≡ declaring_names ids
        → tokens_bound_in_table (omitted_token include (declaration_token r.declaration_tokens d)) d (first_bound_token (declaration_token r.declaration_tokens d)) r.ordinals ≡ tokens_listed r.ordinals include d ids
    one true e ids order rise alone declaring =
        ap (λ b. let found = if b then None else slice_get r.declaration_tokens (d - 7) in tokens_bound_in_table (omitted_token include found) d (first_bound_token found) r.ordinals) e
        ∙ everywhere ids order rise alone (λ i at. absurd (omega (arith, at, ltb-true d 7 e))) include
    one false e ids order rise alone declaring =
        ap (λ b. let found = if b then None else slice_get r.declaration_tokens (d - 7) in tokens_bound_in_table (omitted_token include found) d (first_bound_token found) r.ordinals) e
        ∙ placed ids order rise alone (ltb-false d 7 e) (slice_get r.declaration_tokens (d - 7)) (ap (λ ds. slice_get ds (d - 7)) (sym declaring))
