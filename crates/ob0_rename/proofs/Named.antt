-- Proves that the tokens of names are identifiers, and that their indexes ascend.
use Rattle.std.proofs.Common.{◌≡◌, ℕ, suc, ◌+◌, ◌==◌, ◌||◌, Result, Ok, Err, Vec, List, [], ◌∷◌, length, refl, ap, add-one, subst}
use Rattle.std.specs.Prelude.{IfOk}
use Rattle.std.specs.declared.alloc.Global.{Global}
use Rattle.ob0_scan.specs.declared.lexeme.Token.{Token}
use Rattle.ob0_tree.specs.IdentifierIndexes.{AreIdentifierTokens, AreAscendingWithin}
use Rattle.ob0_edits_tokens.specs.WordReplacements as changed
use Rattle.ob0_edits_tokens.specs.Replacements.{AreIdentifierIndexes}
use Rattle.ob0_scope.specs.NamesAtPlaces as names_at

pub are_names : (tokens : List Token) (low : ℕ) (places : List ℕ) (high : ℕ) → AreAscendingWithin low places high → AreIdentifierTokens tokens places → AreIdentifierIndexes tokens low places
are_names tokens low [] high up are = tt
are_names tokens low (p ∷ ps) high up are = (up.0, are.0.0, are.0.1 _, subst (λ n. AreIdentifierIndexes tokens n ps) (add-one p) (are_names tokens (p + 1) ps high up.1 are.1))

pub among_same : (k : ℕ) (places : List ℕ) → changed.is_in_list k places ≡ names_at.is_among k places
among_same k [] = refl
among_same k (p ∷ ps) = ap (λ b. (k == p) || b) (among_same k ps)

pub all_names : {E : Type 0} (tokens : List Token) (result : Result (Vec ℕ Global) E) → IfOk result (λ found. AreAscendingWithin 0 found.items (length tokens)) → IfOk result (λ found. AreIdentifierTokens tokens found.items)
    → IfOk result (λ found. AreIdentifierIndexes tokens 0 found.items)
all_names tokens (Ok found) up are = are_names tokens 0 found.items (length tokens) up are
all_names tokens (Err e) up are = tt
