-- Proves which entries a cache has after a call.
use Rattle.std.proofs.Common.{◌≡◌, ◌∙◌, ℕ, ◌⊎◌, inl, inr, Bool, true, false, cond, take, List, [], ◌∷◌, Contains, IfSome, Bor, Option, option_copied, Some, None, String, string_bytes, Global, sym, ap, subst}
use Rattle.std.specs.Str.{bytes_eq}
use Rattle.std.specs.Map.{keys_of, lookup, remove_entry}
use Rattle.std.specs.List.{AllByRecursion, IsDistinct}
use Rattle.std.specs.String.{string_eq, string_eq_equiv}
use Rattle.std.proofs.lemmas.Slice.Eq.{bytes_eq-Decides}
use Rattle.std.proofs.lemmas.Map.{none_passes_from_lookup, lookup-remove_entry}
use Rattle.lru.specs.LruCache.{LruCache, promoted, put_entries}
use Rattle.lru.proofs.CallerLemmas.{Contains-lookup, Contains-promoted, Contains-remove_entry, Contains-put_entries, Contains-take}
use Rattle.lru.proofs.Splits.{Contains-cons, Contains-nil}
use Rattle.ob0_session_documents.specs.KeptAnalyses.{CacheContains}

abbrev Entries : Type 0
Entries = List (String Global × List ℕ)

abbrev pub is_uri : List ℕ → String Global → Bool
is_uri uri key = bytes_eq uri (string_bytes key)

one_key : (uri : List ℕ) (x y : String Global) → is_uri uri x ≡ true → is_uri uri y ≡ string_eq x y
one_key uri x y h = ap (λ u. bytes_eq u (string_bytes y)) ((bytes_eq-Decides uri (string_bytes x)).0 h)

passes_none : (test : String Global → Bool) (es : Entries) (e : String Global × List ℕ) → AllByRecursion (λ (x : String Global × List ℕ). test x.0 ≡ false) es → Contains es e → test e.0 ≡ false
passes_none test [] e h c = absurd (Contains-nil e c)
passes_none test (f ∷ es) e h c = elim (Contains-cons f es e c) [
  | inl same ↦ subst (λ (x : String Global × List ℕ). test x.0 ≡ false) same h.0
  | inr d ↦ passes_none test es e h.1 d
]

-- An analysis that was looked up under a uri is in the cache under that uri.
pub found_in : (uri : List ℕ) (cache : LruCache (String Global) (List ℕ)) (text : List ℕ) → lookup (is_uri uri) cache.entries ≡ Some text → CacheContains (Some cache) uri text
found_in uri cache text h =
    let at = Contains-lookup (is_uri uri) cache.entries text h in (at.0, at.1, sym ((bytes_eq-Decides uri (string_bytes at.0)).0 at.2))

-- An analysis that `peek` found under a uri is in the cache under that uri.
pub peeked_in : (uri : List ℕ) (cache : LruCache (String Global) (List ℕ)) (found : Option (Bor (List ℕ))) → option_copied found ≡ lookup (is_uri uri) cache.entries → IfSome found (λ a. CacheContains (Some cache) uri a.now)
peeked_in uri cache None h = tt
peeked_in uri cache (Some a) h = found_in uri cache a.now (sym h)

-- After an entry was promoted, every entry of the cache was in it before.
pub promoted_in : (document : List ℕ) (old new : LruCache (String Global) (List ℕ)) → new.entries ≡ promoted (is_uri document) old.entries → (u t : List ℕ) → CacheContains (Some new) u t → CacheContains (Some old) u t
promoted_in document old new is u t h =
    (h.0, Contains-promoted (is_uri document) old.entries (h.0, t) (subst (λ l. Contains l (h.0, t)) is h.1), h.2)

-- After the entry of a uri was removed, every entry of the cache was in it before and has another
-- uri.
pub left_in : (uri : List ℕ) (old new : LruCache (String Global) (List ℕ)) → IsDistinct string_eq (keys_of old.entries) → new.entries ≡ remove_entry (is_uri uri) old.entries
    → (u text : List ℕ) → CacheContains (Some new) u text → CacheContains (Some old) u text × (u ≡ uri → ⊥)
left_in uri old new distinct is u text h =
    let key : String Global = h.0 in
    let here : Contains (remove_entry (is_uri uri) old.entries) (key, text) = subst (λ l. Contains l (key, text)) is h.1 in (
      (key, Contains-remove_entry (is_uri uri) old.entries (key, text) here, h.2),
      λ same.
          let passes : is_uri uri key ≡ true = (bytes_eq-Decides uri (string_bytes key)).1 (sym (h.2 ∙ same)) in
          let none : lookup (string_eq key) (remove_entry (is_uri uri) old.entries) ≡ None =
          lookup-remove_entry string_eq_equiv (is_uri uri) (one_key uri) key old.entries distinct ∙ ap (λ b. cond b None (lookup (string_eq key) old.entries)) passes in
          let fails : string_eq key key ≡ false = passes_none (string_eq key) _ (key, text) (none_passes_from_lookup (string_eq key) _ none) here in
          let ties : string_eq key key ≡ true = string_eq_equiv.refl key in absurd cc,
    )

-- After an analysis was added, every entry of the cache was in it before or is the added one.
pub put_in : (old new : LruCache (String Global) (List ℕ)) (key : String Global) (text : List ℕ) → new.entries ≡ put_entries string_eq old key text
    → (u t : List ℕ) → CacheContains (Some new) u t → CacheContains (Some old) u t ⊎ ((u ≡ string_bytes key) × (t ≡ text))
put_in old new key text is u t h =
    elim (Contains-put_entries string_eq old key text (h.0, t) (subst (λ l. Contains l (h.0, t)) is h.1)) [
      | inl was ↦ inl (h.0, was, h.2)
      | inr put ↦ inr (
        elim put.1 [
          | inl same ↦ sym h.2 ∙ ap string_bytes same
          | inr tied ↦ sym h.2 ∙ sym ((bytes_eq-Decides (string_bytes key) (string_bytes h.0)).0 tied.2)
        ],
        put.0,
      )
    ]

-- After the oldest entries were removed, every entry of the cache was in it before.
pub older_in : (old new : LruCache (String Global) (List ℕ)) (n : ℕ) → new.entries ≡ take n old.entries → (u t : List ℕ) → CacheContains (Some new) u t → CacheContains (Some old) u t
older_in old new n is u t h = (h.0, Contains-take n old.entries (h.0, t) (subst (λ l. Contains l (h.0, t)) is h.1), h.2)
