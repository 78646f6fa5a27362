-- Proves that writing a new name at the tokens that are bound to a declaration gives the renamed
-- module.
use Rattle.std.proofs.Common.{◌≡◌, ℕ, ◌+◌, Bool, true, false, cond, ◌&&◌, ◌||◌, ◌==◌, if◌then◌else◌, List, [], ◌∷◌, Option, map, length, refl, sym, ap, ◌∙◌, subst, arith, eq-eqb, eqb-true}
use Rattle.std.specs.List.{filter}
use Rattle.ob0_scan.specs.declared.lexeme.Token.{Token}
use Rattle.ob0_tree.proofs.Leaves.{ascending_lower, leaves_are_identifiers, leaves_ascend}
use Rattle.ob0_tree.specs.IdentifierIndexes.{AreIdentifierTokens, AreAscendingWithin, names_without_roles}
use Rattle.ob0_tree.specs.ParsedModule.{tree_of}
use Rattle.ob0_tree.specs.TokenIndexLeaves.{token_text_at, token_value_at}
use Rattle.ob0_tree.specs.Tree.{identifiers}
use Rattle.ob0_tree.specs.declared.tree.Role.{Role}
use Rattle.ob0_tree.specs.declared.tree.Role.TheVariants as role
use Rattle.ob0_language_names.specs.Names.{Name}
use Rattle.ob0_scope.specs.Renames.{spellings_after_rename}
use Rattle.ob0_scope_table.specs.Resolution.{IsResolution, Resolution, ordinal_in}
use Rattle.ob0_language_names.specs.Scopes.{same_ordinal}
use Rattle.ob0_scope_numbering.specs.IdentifierSpellings.{spelling_at_token}
use Rattle.ob0_scope.proofs.Renumbered.{renamed_spelled}
use Rattle.ob0_scope.specs.NamesAtPlaces.{RenamingChangesExactlyTokens, is_among, tokens_bound_to_declaration}
use Rattle.ob0_scope.proofs.Alike.{AllAlike, alike}
use Rattle.ob0_scope.proofs.Placed.{bound_listed, is_listed, tokens_listed}

-- A selection of ascending tokens ascends, and a selection of identifiers has only identifiers.

kept_ascends : (test : Role × ℕ → Bool) (low : ℕ) (xs : List (Role × ℕ)) (high : ℕ) → AreAscendingWithin low (names_without_roles xs) high → AreAscendingWithin low (names_without_roles (filter test xs)) high
kept_ascends test low [] high h = h
kept_ascends test low (x ∷ xs) high h = one (test x) (kept_ascends test (x.1 + 1) xs high h.1)
  where
    one : (b : Bool) → AreAscendingWithin (x.1 + 1) (names_without_roles (filter test xs)) high → AreAscendingWithin low (names_without_roles (cond b (x ∷ filter test xs) (filter test xs))) high
    one true e = (h.0, e)
    one false e = ascending_lower low (x.1 + 1) (names_without_roles (filter test xs)) high (omega (arith, h.0)) e

kept_are_identifiers : (test : Role × ℕ → Bool) (ts : List Token) (xs : List (Role × ℕ)) → AreIdentifierTokens ts (names_without_roles xs) → AreIdentifierTokens ts (names_without_roles (filter test xs))
kept_are_identifiers test ts [] h = tt
kept_are_identifiers test ts (x ∷ xs) h = one (test x) (kept_are_identifiers test ts xs h.1)
  where
    one : (b : Bool) → AreIdentifierTokens ts (names_without_roles (filter test xs)) → AreIdentifierTokens ts (names_without_roles (cond b (x ∷ filter test xs) (filter test xs)))
    one true e = (h.0, e)
    one false e = e

pub bound_ascend : (r : Resolution) (d : ℕ) (include : Bool) → IsResolution r → AreAscendingWithin 0 (tokens_bound_to_declaration r.module_read d include) (length r.module_read.source.tokens)
bound_ascend r d include is =
    let m = r.module_read in
    subst (λ xs. AreAscendingWithin 0 xs (length m.source.tokens)) (bound_listed r d include is)
    (kept_ascends (is_listed r.ordinals include d) 0 (identifiers role.DeclaringName (tree_of m)) (length m.source.tokens) (leaves_ascend m is.parsed))

pub bound_are_identifiers : (r : Resolution) (d : ℕ) (include : Bool) → IsResolution r → AreIdentifierTokens r.module_read.source.tokens (tokens_bound_to_declaration r.module_read d include)
bound_are_identifiers r d include is =
    let m = r.module_read in
    subst (AreIdentifierTokens m.source.tokens) (bound_listed r d include is)
    (kept_are_identifiers (is_listed r.ordinals include d) m.source.tokens (identifiers role.DeclaringName (tree_of m)) (leaves_are_identifiers m is.parsed))

-- An identifier is in the selection if it is bound to d.

among_kept : (ordinals : List (Option ℕ)) (d i : ℕ) (xs : List (Role × ℕ)) → is_among i (tokens_listed ordinals true d xs) ≡ (same_ordinal (ordinal_in ordinals i) d && is_among i (names_without_roles xs))
among_kept ordinals d i [] = none (same_ordinal (ordinal_in ordinals i) d)
  where
    none : (b : Bool) → false ≡ (b && false)
    none true = refl
    none false = refl
among_kept ordinals d i (x ∷ xs) =
    one (same_ordinal (ordinal_in ordinals x.1) d) refl (i == x.1) refl (among_kept ordinals d i xs)
  where
    one : (b : Bool) → same_ordinal (ordinal_in ordinals x.1) d ≡ b → (c : Bool) → (i == x.1) ≡ c
        → is_among i (tokens_listed ordinals true d xs) ≡ (same_ordinal (ordinal_in ordinals i) d && is_among i (names_without_roles xs))
        → is_among i (map (λ (x : Role × ℕ). x.1) (cond (b && true) (x ∷ filter (is_listed ordinals true d) xs) (filter (is_listed ordinals true d) xs)))
        ≡ (same_ordinal (ordinal_in ordinals i) d && (c || is_among i (names_without_roles xs)))
    one true p true q e =
        let here : same_ordinal (ordinal_in ordinals i) d ≡ true = ap (λ k. same_ordinal (ordinal_in ordinals k) d) (eqb-true i x.1 q) ∙ p in
        ap (λ b. b || is_among i (tokens_listed ordinals true d xs)) q ∙ sym (ap (λ b. b && true) here)
    one true p false q e = ap (λ b. b || is_among i (tokens_listed ordinals true d xs)) q ∙ e
    one false p true q e =
        let here : same_ordinal (ordinal_in ordinals i) d ≡ false = ap (λ k. same_ordinal (ordinal_in ordinals k) d) (eqb-true i x.1 q) ∙ p in
        e ∙ ((λ j. here j && is_among i (names_without_roles xs)) ∙ sym (ap (λ b. b && true) here))
    one false p false q e = e

-- holds if all tokens of one list are in another
abbrev AllAmong : List ℕ → List ℕ → Type 0
AllAmong all [] = Unit {0}
AllAmong all (x ∷ xs) = (is_among x all ≡ true) × AllAmong all xs

among_more : (y : ℕ) (all xs : List ℕ) → AllAmong all xs → AllAmong (y ∷ all) xs
among_more y all [] h = tt
among_more y all (x ∷ xs) h = (either (x == y) h.0, among_more y all xs h.1)
  where
    either : (b : Bool) → is_among x all ≡ true → (b || is_among x all) ≡ true
    either true e = refl
    either false e = e

among_self : (xs : List ℕ) → AllAmong xs xs
among_self [] = tt
among_self (x ∷ xs) = (ap (λ b. b || is_among x xs) same, among_more x xs xs (among_self xs))
  where
    same : (x == x) ≡ true
    same = eq-eqb x x refl

all_alike : (r : Resolution) (d : ℕ) (new : Name) (places all : List ℕ) (xs : List (Role × ℕ))
    → ((i : ℕ) → is_among i places ≡ (same_ordinal (ordinal_in r.ordinals i) d && is_among i all)) → AllAmong all (names_without_roles xs)
    → AllAlike (spelling_at_token (spellings_after_rename r d new)) (λ i. if is_among i places then new else token_text_at r.module_read.source i) (token_value_at r.module_read.source) xs
all_alike r d new places all [] h among = tt
all_alike r d new places all (x ∷ xs) h among =
    let bound = same_ordinal (ordinal_in r.ordinals x.1) d in (
      ap (λ b. if b then new else token_text_at r.module_read.source x.1) (sym (h x.1 ∙ (ap (λ b. bound && b) among.0 ∙ and_true bound))),
      all_alike r d new places all xs h among.1,
    )
  where
    and_true : (b : Bool) → (b && true) ≡ b
    and_true true = refl
    and_true false = refl

pub renamed_there : (r : Resolution) (d : ℕ) → IsResolution r → RenamingChangesExactlyTokens r.module_read d (tokens_bound_to_declaration r.module_read d true)
renamed_there r d is new =
    let m = r.module_read in
    let ids = identifiers role.DeclaringName (tree_of m) in
    let places = tokens_bound_to_declaration m d true in
    let among = λ (i : ℕ). ap (is_among i) (sym (bound_listed r d true is)) ∙ among_kept r.ordinals d i ids in
    let f = spelling_at_token (spellings_after_rename r d new) in
    let f' = λ (i : ℕ). if is_among i places then new else token_text_at m.source i in
    renamed_spelled r d new is ∙ (alike f f' (token_value_at m.source) role.DeclaringName (tree_of m)).reads (all_alike r d new places (names_without_roles ids) ids among (among_self (names_without_roles ids)))
