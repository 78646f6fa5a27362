-- Proves which new indexes the tokens outside the replaced range have.
use Rattle.std.proofs.Common.{◌≡◌, ◌<◌, ◌≤◌, ◌+◌, ◌-◌, ◌||◌, ◌⊎◌, ℕ, Bool, true, false, nat_le, nat_lt, if◌then◌else◌, refl, sym, ap, ◌∙◌, arith, inl, inr, leb-true, ltb-true}
use Rattle.std.proofs.lemmas.Bool.{le-leb, le-ltb, lt-ltb}
use Rattle.ob0_scan.specs.declared.tokens.CommonPrefixAndSuffix.{CommonPrefixAndSuffix}
use Rattle.ob0_scope_table.specs.BodyReplacement.{shifted_token_index}
use Rattle.ob0_scope_table.specs.SpellingChangesInOneBody.{is_outside_range}

-- A token outside a range is before it or after it.
pub out_cases : (low high k : ℕ) → is_outside_range low high k ≡ true → (k < low) ⊎ (high ≤ k)
out_cases low high k out = one (nat_lt k low) refl
  where
    one : (b : Bool) → nat_lt k low ≡ b → (k < low) ⊎ (high ≤ k)
    one true e = inl (ltb-true k low e)
    one false e = inr (leb-true high k (sym (ap (λ b. b || nat_le high k) e) ∙ out))

pub below_out : (low high k : ℕ) → k < low → is_outside_range low high k ≡ true
below_out low high k less = ap (λ b. b || nat_le high k) (lt-ltb k low less)

pub above_out : (low high k : ℕ) → high ≤ k → is_outside_range low high k ≡ true
above_out low high k le = one (nat_lt k low)
  where
    one : (b : Bool) → (b || nat_le high k) ≡ true
    one true = refl
    one false = le-leb high k le

module _ (s : CommonPrefixAndSuffix) where
  pub moved_below : (k : ℕ) → k < s.prefix → shifted_token_index s k ≡ k
  moved_below k less = ap (λ b. if b then k else s.new_suffix + (k - s.old_suffix)) (lt-ltb k s.prefix less)

  pub moved_above : (k : ℕ) → s.prefix ≤ s.old_suffix → s.old_suffix ≤ k → shifted_token_index s k ≡ s.new_suffix + (k - s.old_suffix)
  moved_above k range le = ap (λ b. if b then k else s.new_suffix + (k - s.old_suffix)) (le-ltb k s.prefix (omega (arith, range, le)))
