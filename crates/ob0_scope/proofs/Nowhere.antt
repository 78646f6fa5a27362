-- Proves that if a search token by token finds no token with a name, no token has it, and that such
-- a name is free.
use Rattle.std.proofs.Common.{◌≡◌, ◌↔◌, ◌≤◌, ◌<◌, ◌+◌, ◌⊎◌, inl, inr, ◌∙◌, ◌∷◌, [], Option, None, false, ℕ, ◌==◌, length, refl, sym, ap, subst, arith}
use Rattle.std.proofs.lemmas.Bool.{cases_lt}
use Rattle.std.proofs.lemmas.Option.{slice_get_past}
use Rattle.ob0_scan.specs.TextWithTokens.{TextWithTokens}
use Rattle.ob0_tree.specs.ParsedModule.{ParsedModule, named_tree_of, tree_of}
use Rattle.ob0_tree.specs.TokenIndexLeaves.{token_text_at, token_text_or_empty, token_value_at}
use Rattle.ob0_language_names.specs.Names.{Name, same_name}
use Rattle.ob0_language_names.specs.Occurrences.{IsFreeName, first_name_conflict}
use Rattle.ob0_scope.specs.declared.name_conflicts.FirstConflict as reported
use Rattle.ob0_scope.specs.Renames.{OccursNowhere, namesake_ordinal}
use Rattle.ob0_scope.proofs.Captured.{free_where_none, no_namesake}
use Rattle.ob0_scope.proofs.FirstCaptures.{name_is_free_iff_no_conflict-holds}
use Rattle.ob0_scope.proofs.NewNames.{new_is_free}

pub one_more : (source : TextWithTokens) (x : Name) (n : ℕ) → ((i : ℕ) → i < n → same_name (token_text_at source i) x ≡ false) → same_name (token_text_at source n) x ≡ false
    → (i : ℕ) → i < n + 1 → same_name (token_text_at source i) x ≡ false
one_more source x n before here i h = last (cases_lt i n)
  where
    last : (i < n) ⊎ (n ≤ i) → same_name (token_text_at source i) x ≡ false
    last (inl less) = before i less
    last (inr more) = subst (λ j. same_name (token_text_at source j) x ≡ false) (omega (arith, h, more)) here

nameless : (x : Name) → (length x == 0) ≡ false → same_name [] x ≡ false
nameless [] h = absurd (cc)
nameless (c ∷ x) h = refl

pub nowhere : (source : TextWithTokens) (x : Name) (n : ℕ) → (length x == 0) ≡ false → length source.tokens ≤ n → ((i : ℕ) → i < n → same_name (token_text_at source i) x ≡ false) → OccursNowhere source x
nowhere source x n named all before i = each (cases_lt i n)
  where
    each : (i < n) ⊎ (n ≤ i) → same_name (token_text_at source i) x ≡ false
    each (inl less) = before i less
    each (inr more) = ap (λ t. same_name (token_text_or_empty source.text t) x) (slice_get_past source.tokens i (omega (arith, all, more))) ∙ nameless x named

-- A name that no token has is free.
nowhere_is_free : (m : ParsedModule) (source : TextWithTokens) (d : ℕ) (new : Name) → 7 ≤ d → source ≡ m.source → OccursNowhere source new → IsFreeName (named_tree_of m) d new
nowhere_is_free m source d new h is all =
    new_is_free d new (token_text_at m.source) (token_value_at m.source) (subst (λ (s : TextWithTokens). OccursNowhere s new) is all) h (tree_of m)

pub nowhere_captured : (m : ParsedModule) (source : TextWithTokens) (d : ℕ) (new : Name) → 7 ≤ d → source ≡ m.source → OccursNowhere source new → None ≡ first_name_conflict (named_tree_of m) d new
nowhere_captured m source d new h is all = sym ((name_is_free_iff_no_conflict-holds (named_tree_of m) d new).1 (nowhere_is_free m source d new h is all))

pub nowhere_namesake : (m : ParsedModule) (source : TextWithTokens) (d : ℕ) (new : Name) → 7 ≤ d → source ≡ m.source → OccursNowhere source new → None ≡ namesake_ordinal (named_tree_of m) d new
nowhere_namesake m source d new h is all = no_namesake (named_tree_of m) d new (nowhere_is_free m source d new h is all).0

pub free_nowhere : (m : ParsedModule) (source : TextWithTokens) (d : ℕ) (new : Name) → 7 ≤ d → source ≡ m.source → OccursNowhere source new
    → (let nothing : Option reported.FirstConflict = None in nothing) ≡ None ↔ IsFreeName (named_tree_of m) d new
free_nowhere m source d new h is all = free_where_none (named_tree_of m) d new None (nowhere_captured m source d new h is all)
