-- Proves what a look-up finds after a binding that hides another is made or dropped.
use Rattle.std.proofs.Common.{◌≡◌, ◌⊎◌, inl, inr, if◌then◌else◌, ℕ, ◌<◌, Bool, true, false, Option, Some, None, List, [], ◌∷◌, ◌++◌, map, length, get_or, reverse, refl, sym, ap, ◌∙◌, subst, arith}
use Rattle.std.proofs.lemmas.List.{reverse-append, reverse-reverse, length-reverse}
use Rattle.std.proofs.Math.ListN.{get_or-append}
use Rattle.std.proofs.Math.Seq.{get_or-append_seam}
use Rattle.std.proofs.lemmas.Slice.Eq.{bytes_eq-Decides}
use Rattle.ob0_scope_numbering.specs.declared.newest_bindings.NameEntry.{NameEntry}
use Rattle.ob0_scope_numbering.specs.declared.scope_bindings.Binding.{Binding}
use Rattle.ob0_language_names.specs.Names.{Name, naming_by_spelling, same_name}
use Rattle.ob0_scope_numbering.specs.NewestBindingList.{SetsNewestBinding, KeepsNewestBindings, KeepsNamePositions, newest_binding_in, position_of_name}
use Rattle.ob0_language_names.specs.Scopes.{ordinal_in_scope}
use Rattle.ob0_scope_numbering.specs.StoredScopes.{HiddenBindingIndexesAreCorrect, EachBindingHasNamePosition, HasCorrectBindingIndexes, newest_binding_index, scope_of_bindings}
use Rattle.ob0_language_names.proofs.NameEquality.{same_name-comm}

abbrev pub shown : Binding → Name × ℕ
shown b = (b.name.now, b.ordinal)

latest_step : (same : Bool) (n i : ℕ) (rest : Option ℕ) → (if same then Some n else rest) ≡ Some i → ((same ≡ true) × (n ≡ i)) ⊎ ((same ≡ false) × (rest ≡ Some i))
latest_step true n i rest e = inl (refl, cc)
latest_step false n i rest e = inr (refl, e)

pub latest_below : (x : Name) (bs : List Binding) (i : ℕ) → newest_binding_index x bs ≡ Some i → i < length bs
latest_below x [] i e = absurd (cc)
latest_below x (b ∷ bs) i e =
    elim (latest_step (same_name x b.name.now) (length bs) i (newest_binding_index x bs) e) [ inl h ↦ omega arith | inr h ↦ let l = latest_below x bs i h.1 in omega arith ]

ordinal_here : (same : Bool) (k : ℕ) (rest : Option ℕ) → same ≡ true → (elim same [ true ↦ Some k | false ↦ rest ]) ≡ Some k
ordinal_here true k rest e = refl
ordinal_here false k rest e = absurd (cc)

ordinal_there : (same : Bool) (k : ℕ) (rest : Option ℕ) → same ≡ false → (elim same [ true ↦ Some k | false ↦ rest ]) ≡ rest
ordinal_there true k rest e = absurd (cc)
ordinal_there false k rest e = refl

none_step : (same : Bool) (n : ℕ) (rest : Option ℕ) → (if same then Some n else rest) ≡ None → (same ≡ false) × (rest ≡ None)
none_step true n rest e = absurd (cc)
none_step false n rest e = (refl, e)

flipped : (b : Binding) (bs : List Binding) → reverse (b ∷ bs) ≡ reverse bs ++ (b ∷ [])
flipped b bs = reverse-append (b ∷ []) bs

pub latest_ordinal : (x : Name) (bs : List Binding) (i : ℕ) (d : Binding) → newest_binding_index x bs ≡ Some i → ordinal_in_scope naming_by_spelling (map shown bs) x ≡ Some ((get_or (reverse bs) i d).ordinal)
latest_ordinal x [] i d e = absurd (cc)
latest_ordinal x (b ∷ bs) i d e =
    elim (latest_step (same_name x b.name.now) (length bs) i (newest_binding_index x bs) e) [
      | inl h ↦
          let here : get_or (reverse (b ∷ bs)) i d ≡ b =
          ap (λ l. get_or l i d) (flipped b bs) ∙ (ap (λ n. get_or (reverse bs ++ (b ∷ [])) n d) (sym (length-reverse bs ∙ h.1)) ∙ get_or-append_seam (reverse bs) b [] d) in
          ordinal_here (same_name x b.name.now) b.ordinal (ordinal_in_scope naming_by_spelling (map shown bs) x) h.0 ∙ ap (λ (z : Binding). Some z.ordinal) (sym here)
      | inr h ↦
          let below : i < length (reverse bs) = subst (λ n. i < n) (sym (length-reverse bs)) (latest_below x bs i h.1) in
          let there : get_or (reverse (b ∷ bs)) i d ≡ get_or (reverse bs) i d = ap (λ l. get_or l i d) (flipped b bs) ∙ get_or-append (reverse bs) (b ∷ []) d i below in
          ordinal_there (same_name x b.name.now) b.ordinal (ordinal_in_scope naming_by_spelling (map shown bs) x) h.0 ∙ (latest_ordinal x bs i d h.1 ∙ ap (λ (z : Binding). Some z.ordinal) (sym there))
    ]

pub latest_none : (x : Name) (bs : List Binding) → newest_binding_index x bs ≡ None → ordinal_in_scope naming_by_spelling (map shown bs) x ≡ None
latest_none x [] e = refl
latest_none x (b ∷ bs) e =
    let h = none_step (same_name x b.name.now) (length bs) (newest_binding_index x bs) e in
    ordinal_there (same_name x b.name.now) b.ordinal (ordinal_in_scope naming_by_spelling (map shown bs) x) h.0 ∙ latest_none x bs h.1

chosen : (p q : Bool) (a b c d : Option ℕ) → p ≡ q → a ≡ c → b ≡ d → (if p then a else b) ≡ (if q then c else d)
chosen true true a b c d e f g = f
chosen true false a b c d e f g = absurd (cc)
chosen false true a b c d e f g = absurd (cc)
chosen false false a b c d e f g = g

pub bound_again : (newest next : List NameEntry) (items : List Binding) (b : Binding) → HasCorrectBindingIndexes newest items → b.hidden_binding_index ≡ newest_binding_index b.name.now (reverse items)
    → SetsNewestBinding newest next b.name.now (Some (length items)) → HasCorrectBindingIndexes next (items ++ (b ∷ []))
bound_again newest next items b w hidden_binding_index renewed =
    let turned : reverse (items ++ (b ∷ [])) ≡ b ∷ reverse items = reverse-append items (b ∷ []) in
    record {
      found = λ x. renewed x
          ∙ (chosen (same_name b.name.now x) (same_name x b.name.now) (Some (length items)) (newest_binding_in newest x) (Some (length (reverse items))) (newest_binding_index x (reverse items)) (same_name-comm b.name.now x) (ap Some (sym (length-reverse items))) (w.found x)
          ∙ ap (newest_binding_index x) (sym turned));
      hidden_binding_index = subst HiddenBindingIndexesAreCorrect (sym turned) (hidden_binding_index, w.hidden_binding_index);
    }

left_step : (p q : Bool) (a b c : Option ℕ) (n : ℕ) → p ≡ q → (p ≡ true → a ≡ c) → b ≡ (if q then Some n else c) → (if p then a else b) ≡ c
left_step true true a b c n e f g = f refl
left_step true false a b c n e f g = absurd (cc)
left_step false true a b c n e f g = absurd (cc)
left_step false false a b c n e f g = g

pub binding_dropped : (newest next : List NameEntry) (items : List Binding) (b : Binding) → HasCorrectBindingIndexes newest (items ++ (b ∷ [])) → SetsNewestBinding newest next b.name.now b.hidden_binding_index → HasCorrectBindingIndexes next items
binding_dropped newest next items b w renewed =
    let turned : reverse (items ++ (b ∷ [])) ≡ b ∷ reverse items = reverse-append items (b ∷ []) in
    let trail : HiddenBindingIndexesAreCorrect (b ∷ reverse items) = subst HiddenBindingIndexesAreCorrect turned w.hidden_binding_index in
    record {
      found = λ x. renewed x
          ∙ left_step (same_name b.name.now x) (same_name x b.name.now) b.hidden_binding_index (newest_binding_in newest x) (newest_binding_index x (reverse items)) (length (reverse items)) (same_name-comm b.name.now x)
          (λ e. trail.0 ∙ ap (λ y. newest_binding_index y (reverse items)) ((bytes_eq-Decides b.name.now x).0 e)) (w.found x ∙ ap (newest_binding_index x) turned);
      hidden_binding_index = trail.1;
    }

-- Each binding still has its name's position after the list of names has changed.
pub still_placed : (before after : List NameEntry) (bs : List Binding) → KeepsNamePositions before after → EachBindingHasNamePosition before bs → EachBindingHasNamePosition after bs
still_placed before after [] kept h = tt
still_placed before after (b ∷ bs) kept h = (kept b.name.now b.name_position h.0, still_placed before after bs kept h.1)

pub one_more_placed : (newest : List NameEntry) (items : List Binding) (b : Binding) → EachBindingHasNamePosition newest items → position_of_name newest b.name.now ≡ Some b.name_position → EachBindingHasNamePosition newest (items ++ (b ∷ []))
one_more_placed newest [] b h at = (at, tt)
one_more_placed newest (x ∷ items) b h at = (h.0, one_more_placed newest items b h.1 at)

pub one_less_placed : (newest : List NameEntry) (items : List Binding) (b : Binding) → EachBindingHasNamePosition newest (items ++ (b ∷ [])) → EachBindingHasNamePosition newest items × (position_of_name newest b.name.now ≡ Some b.name_position)
one_less_placed newest [] b h = (tt, h.0)
one_less_placed newest (x ∷ items) b h = let rest = one_less_placed newest items b h.1 in ((h.0, rest.0), rest.1)

-- The newest bindings are right after names were added to the list.
pub still_newest : (before after : List NameEntry) (items : List Binding) → KeepsNewestBindings before after → HasCorrectBindingIndexes before items → HasCorrectBindingIndexes after items
still_newest before after items kept w = record { found = λ x. kept x ∙ w.found x; hidden_binding_index = w.hidden_binding_index }

pub looked_up_below : (newest : List NameEntry) (items : List Binding) (x : Name) (i : ℕ) → HasCorrectBindingIndexes newest items → Some i ≡ newest_binding_in newest x → i < length items
looked_up_below newest items x i w e = subst (λ n. i < n) (length-reverse items) (latest_below x (reverse items) i (sym (w.found x) ∙ sym e))

pub looked_up_some : (newest : List NameEntry) (items : List Binding) (x : Name) (i : ℕ) (b : Binding) → HasCorrectBindingIndexes newest items → Some i ≡ newest_binding_in newest x
    → b ≡ get_or items i b → Some b.ordinal ≡ ordinal_in_scope naming_by_spelling (scope_of_bindings items) x
looked_up_some newest items x i b w e here =
    ap (λ (z : Binding). Some z.ordinal) (here ∙ ap (λ l. get_or l i b) (sym (reverse-reverse items))) ∙ sym (latest_ordinal x (reverse items) i b (sym (w.found x) ∙ sym e))

pub looked_up_none : (newest : List NameEntry) (items : List Binding) (x : Name) → HasCorrectBindingIndexes newest items → None ≡ newest_binding_in newest x → None ≡ ordinal_in_scope naming_by_spelling (scope_of_bindings items) x
looked_up_none newest items x w e = sym (latest_none x (reverse items) (sym (w.found x) ∙ sym e))
