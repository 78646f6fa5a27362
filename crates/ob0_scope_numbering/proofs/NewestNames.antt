-- Proves what a look-up finds after a name gets another newest binding, or after a name is added.
use Rattle.std.proofs.Common.{◌≡◌, ◌⊎◌, inl, inr, if◌then◌else◌, ℕ, zero, suc, ◌+◌, ◌<◌, Bool, true, false, cond, Option, Some, None, List, [], ◌∷◌, ◌++◌, map, length, get_or, set, option_map, refl, sym, ap, ◌∙◌, subst, arith, Bor, bytes_eq, is_eq, Ordering, Less, Equal, Greater, ⊎_elim}
use Rattle.std.proofs.Math.ListN.{get_or-append, get_or-map, length-set}
use Rattle.std.proofs.Math.Seq.{get_or-append_seam, map-set_same}
use Rattle.std.proofs.lemmas.List.{length-append}
use Rattle.std.proofs.lemmas.Bool.{cases_Bool}
use Rattle.std.proofs.lemmas.Map.Text.{is_eq-slice_cmp}
use Rattle.std.proofs.lemmas.Slice.Eq.{bytes_eq-Decides}
use Rattle.std.specs.BTreeMap.{BTreeMap, get_by, UpdatesBy}
use Rattle.std.specs.Cmp.{nat_cmp_is}
use Rattle.std.specs.Cmp.Lexicographic.{slice_cmp}
use Rattle.std.specs.Ordering.{nat_cmp, ordering_then}
use Rattle.ob0_scope_numbering.specs.declared.newest_bindings.NameEntry.{NameEntry}
use Rattle.ob0_scope_numbering.specs.NameKeys.{NameKey, compare_keys, compare_name_with_key, number_from_last_bytes}
use Rattle.ob0_language_names.specs.Names.{Name, same_name}
use Rattle.ob0_language_names.proofs.NameEquality.{same_name-comm, same_name-refl}
use Rattle.ob0_scope_numbering.specs.NewestBindingList.{AreNamePositions, SetsNewestBinding, KeepsNewestBindings, newest_binding_in, position_of_name}

-- If a look-up finds position 0, the first name is the one looked up.
first_place : (same : Bool) (o : Option ℕ) → (if same then Some zero else option_map suc o) ≡ Some zero → same ≡ true
first_place true o e = refl
first_place false None e = absurd (cc)
first_place false (Some k) e = absurd (cc)

later_place : (same : Bool) (o : Option ℕ) (i : ℕ) → (if same then Some zero else option_map suc o) ≡ Some (suc i) → (same ≡ false) × (o ≡ Some i)
later_place true o i e = absurd (cc)
later_place false None i e = absurd (cc)
later_place false (Some k) i e = (refl, cc)

no_place : (same : Bool) (o : Option ℕ) → (if same then Some zero else option_map suc o) ≡ None → (same ≡ false) × (o ≡ None)
no_place true o e = absurd (cc)
no_place false None e = (refl, refl)
no_place false (Some k) e = absurd (cc)

if_true : (same : Bool) (v w : Option ℕ) → same ≡ true → (if same then v else w) ≡ v
if_true true v w e = refl
if_true false v w e = absurd (cc)

if_false : (same : Bool) (v w : Option ℕ) → same ≡ false → (if same then v else w) ≡ w
if_false true v w e = absurd (cc)
if_false false v w e = refl

-- states that an entry is at a name's position
pub record IsAtIndex (es : List NameEntry) (x : Name) (i : ℕ) (d : NameEntry) : Type 0 where
  pub below : i < length es
  pub named : (get_or es i d).name.now ≡ x
  pub newest : newest_binding_in es x ≡ (get_or es i d).newest

pub place_holds : (es : List NameEntry) (x : Name) (i : ℕ) (d : NameEntry) → position_of_name es x ≡ Some i → IsAtIndex es x i d
place_holds [] x i d h = absurd (cc)
place_holds (e ∷ es) x zero d h =
    let same = first_place (same_name x e.name.now) (position_of_name es x) h in
    record { below = omega arith; named = sym ((bytes_eq-Decides x e.name.now).0 same); newest = if_true (same_name x e.name.now) e.newest (newest_binding_in es x) same }
place_holds (e ∷ es) x (suc i) d h =
    let later = later_place (same_name x e.name.now) (position_of_name es x) i h in
    let r = place_holds es x i d later.1 in
    record { below = let b = r.below in omega (arith, b); named = r.named; newest = if_false (same_name x e.name.now) e.newest (newest_binding_in es x) later.0 ∙ r.newest }

pub newest_none : (es : List NameEntry) (x : Name) → position_of_name es x ≡ None → newest_binding_in es x ≡ None
newest_none [] x h = refl
newest_none (e ∷ es) x h =
    let n = no_place (same_name x e.name.now) (position_of_name es x) h in
    if_false (same_name x e.name.now) e.newest (newest_binding_in es x) n.0 ∙ newest_none es x n.1

-- Setting an entry changes the look-up at that entry, and not at one before it.
here_renewed : (a b c : Bool) (v w r : Option ℕ) → a ≡ b → c ≡ b → (if a then v else r) ≡ (if b then v else (if c then w else r))
here_renewed true true true v w r f g = refl
here_renewed true true false v w r f g = refl
here_renewed true false c v w r f g = absurd (cc)
here_renewed false true c v w r f g = absurd (cc)
here_renewed false false true v w r f g = absurd (cc)
here_renewed false false false v w r f g = refl

there_renewed : (b c : Bool) (v w r s : Option ℕ) → (b ≡ true → c ≡ false) → s ≡ (if b then v else r) → (if c then w else s) ≡ (if b then v else (if c then w else r))
there_renewed true true v w r s f g = let e = f refl in absurd (cc)
there_renewed true false v w r s f g = g
there_renewed false true v w r s f g = refl
there_renewed false false v w r s f g = g

there_placed : (b c : Bool) (n : ℕ) (o s : Option ℕ) → (b ≡ true → c ≡ false) → s ≡ (if b then Some n else o)
    → (if c then Some zero else option_map suc s) ≡ (if b then Some (suc n) else (if c then Some zero else option_map suc o))
there_placed true true n o s f g = let e = f refl in absurd (cc)
there_placed true false n o s f g = ap (option_map suc) g
there_placed false true n o s f g = refl
there_placed false false n o s f g = ap (option_map suc) g

-- If x differs from a name, every name equal to x does.
apart : (x y n : Name) → same_name x n ≡ false → same_name x y ≡ true → same_name y n ≡ false
apart x y n e same = subst (λ z. same_name z n ≡ false) ((bytes_eq-Decides x y).0 same) e

pub renewed : (es : List NameEntry) (x : Name) (i : ℕ) (r : NameEntry) → r.name.now ≡ x → position_of_name es x ≡ Some i → SetsNewestBinding es (set es i r) x r.newest
renewed [] x i r named h = absurd (cc)
renewed (e ∷ es) x zero r named h = λ y.
    let is : x ≡ e.name.now = (bytes_eq-Decides x e.name.now).0 (first_place (same_name x e.name.now) (position_of_name es x) h) in
    here_renewed (same_name y r.name.now) (same_name x y) (same_name y e.name.now) r.newest e.newest (newest_binding_in es y)
    (ap (same_name y) named ∙ same_name-comm y x) (ap (same_name y) (sym is) ∙ same_name-comm y x)
renewed (e ∷ es) x (suc i) r named h = λ y.
    let later = later_place (same_name x e.name.now) (position_of_name es x) i h in
    there_renewed (same_name x y) (same_name y e.name.now) r.newest e.newest (newest_binding_in es y) (newest_binding_in (set es i r) y)
    (apart x y e.name.now later.0) (renewed es x i r named later.1 y)

pub place_renewed : (es : List NameEntry) (x : Name) (i : ℕ) (r : NameEntry) → r.name.now ≡ x → position_of_name es x ≡ Some i → (y : Name) → position_of_name (set es i r) y ≡ position_of_name es y
place_renewed [] x i r named h y = absurd (cc)
place_renewed (e ∷ es) x zero r named h y =
    let is : x ≡ e.name.now = (bytes_eq-Decides x e.name.now).0 (first_place (same_name x e.name.now) (position_of_name es x) h) in
    ap (λ n. if same_name y n then Some zero else option_map suc (position_of_name es y)) (named ∙ is)
place_renewed (e ∷ es) x (suc i) r named h y =
    let later = later_place (same_name x e.name.now) (position_of_name es x) i h in
    ap (λ o. if same_name y e.name.now then Some zero else option_map suc o) (place_renewed es x i r named later.1 y)

pub added : (es : List NameEntry) (r : NameEntry) → position_of_name es r.name.now ≡ None → SetsNewestBinding es (es ++ (r ∷ [])) r.name.now r.newest
added [] r h = λ y. ap (λ b. if b then r.newest else None) (same_name-comm y r.name.now)
added (e ∷ es) r h = λ y.
    let n = no_place (same_name r.name.now e.name.now) (position_of_name es r.name.now) h in
    there_renewed (same_name r.name.now y) (same_name y e.name.now) r.newest e.newest (newest_binding_in es y) (newest_binding_in (es ++ (r ∷ [])) y)
    (apart r.name.now y e.name.now n.0) (added es r n.1 y)

pub place_added : (es : List NameEntry) (r : NameEntry) → position_of_name es r.name.now ≡ None → (y : Name) → position_of_name (es ++ (r ∷ [])) y ≡ (if same_name r.name.now y then Some (length es) else position_of_name es y)
place_added [] r h y = ap (λ b. if b then Some zero else None) (same_name-comm y r.name.now)
place_added (e ∷ es) r h y =
    let n = no_place (same_name r.name.now e.name.now) (position_of_name es r.name.now) h in
    there_placed (same_name r.name.now y) (same_name y e.name.now) (length es) (position_of_name es y) (position_of_name (es ++ (r ∷ [])) y)
    (apart r.name.now y e.name.now n.0) (place_added es r n.1 y)

-- The map has the positions of the names after one gets another newest binding.
pub places_renewed : (name_positions : BTreeMap NameKey ℕ) (es : List NameEntry) (x : Name) (i : ℕ) (r : NameEntry) → r.name.now ≡ x → position_of_name es x ≡ Some i → AreNamePositions name_positions es → AreNamePositions name_positions (set es i r)
places_renewed name_positions es x i r named h w =
    let name : NameEntry → Name = λ (e : NameEntry). e.name.now in
    let names : map name (set es i r) ≡ map name es = map-set_same name es i r r (named ∙ sym (place_holds es x i r h).named) in
    record {
      placed = λ y. w.placed y ∙ sym (place_renewed es x i r named h y);
      distinct = λ j d less.
          let still : j < length es = subst (λ n. j < n) (length-set es i r) less in
          let same : (get_or (set es i r) j d).name.now ≡ (get_or es j d).name.now =
          sym (get_or-map name (set es i r) j d) ∙ (ap (λ l. get_or l j d.name.now) names ∙ get_or-map name es j d) in
          place_renewed es x i r named h (get_or (set es i r) j d).name.now ∙ (ap (position_of_name es) same ∙ w.distinct j d still);
    }

then_apart : (o p : Ordering) → is_eq p ≡ false → is_eq (ordering_then o p) ≡ false
then_apart Less p e = refl
then_apart Equal p e = e
then_apart Greater p e = refl

-- Two names have the same key exactly if they are equal.
same_key : (a x : Name) → is_eq (ordering_then (nat_cmp (number_from_last_bytes a) (number_from_last_bytes x)) (slice_cmp nat_cmp a x)) ≡ bytes_eq a x
same_key a x =
    ⊎_elim
    (λ y.
    let numbers : nat_cmp (number_from_last_bytes a) (number_from_last_bytes x) ≡ Equal = sym (nat_cmp_is (number_from_last_bytes a) (number_from_last_bytes x) Equal (ap number_from_last_bytes ((bytes_eq-Decides a x).0 y))) in
    ap (λ o. is_eq (ordering_then o (slice_cmp nat_cmp a x))) numbers ∙ is_eq-slice_cmp a x)
    (λ n. then_apart (nat_cmp (number_from_last_bytes a) (number_from_last_bytes x)) (slice_cmp nat_cmp a x) (is_eq-slice_cmp a x ∙ n) ∙ sym n)
    (cases_Bool (bytes_eq a x))

-- holds if a map results from setting the value of a key
abbrev pub Renews : NameKey → BTreeMap NameKey ℕ → BTreeMap NameKey ℕ → Option ℕ → Type 0
Renews key name_positions next value = UpdatesBy compare_keys (compare_keys key) name_positions next value

abbrev pub key_of_name : Bor Name → NameKey
key_of_name name = (number_from_last_bytes name.now, name)

renewed_at : (name : Bor Name) (name_positions next : BTreeMap NameKey ℕ) (value : Option ℕ) → Renews (key_of_name name) name_positions next value
    → (x : Name) → get_by (compare_name_with_key x) next ≡ cond (bytes_eq name.now x) value (get_by (compare_name_with_key x) name_positions)
renewed_at name name_positions next value h x =
    let key : NameKey = (number_from_last_bytes x, record { ref_ptr = name.ref_ptr; now = x }) in
    h.0 key ∙ ap (λ same. cond same value (get_by (compare_name_with_key x) name_positions)) (same_key name.now x)

some_apart : (o : Option ℕ) (i : ℕ) → o ≡ Some i → o ≡ None → false ≡ true
some_apart o i e f = absurd (cc)

not_same : (same : Bool) → (same ≡ true → false ≡ true) → same ≡ false
not_same true f = let e = f refl in absurd (cc)
not_same false f = refl

last_or_before : (j n : ℕ) → j < n + 1 → (j < n) ⊎ (j ≡ n)
last_or_before zero zero less = inr refl
last_or_before zero (suc n) less = inl (omega arith)
last_or_before (suc j) zero less = absurd (omega (arith, less))
last_or_before (suc j) (suc n) less =
    let l : j < n + 1 = omega (arith, less) in
    elim (last_or_before j n l) [ inl h ↦ inl (omega (arith, h)) | inr h ↦ inr (ap suc h) ]

pub places_added : (name_positions next : BTreeMap NameKey ℕ) (es : List NameEntry) (r : NameEntry) → position_of_name es r.name.now ≡ None → Renews (key_of_name r.name) name_positions next (Some (length es)) → AreNamePositions name_positions es → AreNamePositions next (es ++ (r ∷ []))
places_added name_positions next es r h renews w =
    record {
      placed = λ y. renewed_at r.name name_positions next (Some (length es)) renews y
          ∙ (ap (λ o. cond (bytes_eq r.name.now y) (Some (length es)) o) (w.placed y) ∙ sym (place_added es r h y));
      distinct = λ j d less.
          let count : length (es ++ (r ∷ [])) ≡ length es + 1 = length-append es (r ∷ []) in
          elim (last_or_before j (length es) (subst (λ n. j < n) count less)) [
            | inl before ↦
                let at : position_of_name es (get_or es j d).name.now ≡ Some j = w.distinct j d before in
                let other : same_name r.name.now (get_or es j d).name.now ≡ false = not_same (same_name r.name.now (get_or es j d).name.now)
                (λ e. some_apart (position_of_name es (get_or es j d).name.now) j at (ap (position_of_name es) (sym ((bytes_eq-Decides r.name.now (get_or es j d).name.now).0 e)) ∙ h)) in
                ap (λ (e : NameEntry). position_of_name (es ++ (r ∷ [])) e.name.now) (get_or-append es (r ∷ []) d j before)
                ∙ (place_added es r h (get_or es j d).name.now ∙ (if_false (same_name r.name.now (get_or es j d).name.now) (Some (length es)) (position_of_name es (get_or es j d).name.now) other ∙ at))
            | inr last ↦
                let here : get_or (es ++ (r ∷ [])) j d ≡ r = ap (λ n. get_or (es ++ (r ∷ [])) n d) last ∙ get_or-append_seam es r [] d in
                ap (λ (e : NameEntry). position_of_name (es ++ (r ∷ [])) e.name.now) here
                ∙ (place_added es r h r.name.now ∙ (if_true (same_name r.name.now r.name.now) (Some (length es)) (position_of_name es r.name.now) (same_name-refl r.name.now) ∙ ap (λ n. Some n) (sym last)))
          ];
    }

-- Adding a name without a binding keeps the newest bindings.
pub none_newer : (es : List NameEntry) (r : NameEntry) → r.newest ≡ None → position_of_name es r.name.now ≡ None → KeepsNewestBindings es (es ++ (r ∷ []))
none_newer es r e absent = λ y. added es r absent y ∙ one y (same_name r.name.now y) refl
  where
    one : (y : Name) (b : Bool) → same_name r.name.now y ≡ b → (if b then r.newest else newest_binding_in es y) ≡ newest_binding_in es y
    one y true same = e ∙ (sym (newest_none es r.name.now absent) ∙ ap (newest_binding_in es) ((bytes_eq-Decides r.name.now y).0 same))
    one y false same = refl
