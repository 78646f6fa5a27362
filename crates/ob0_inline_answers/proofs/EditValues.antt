-- Makes the edits that replace tokens of a text or remove a declaration, as values of the code, and
-- counts these edits.
use Rattle.std.proofs.Common.{◌≡◌, ◌+◌, ◌≤◌, ℕ, suc, List, [], ◌∷◌, String, map, length, refl, ap, arith}
use Rattle.std.proofs.lemmas.Str.{IsUtf8-nil}
use Rattle.std.specs.Str.{IsUtf8}
use Rattle.std.specs.declared.alloc.Global.{Global}
use Rattle.ob0_scan.specs.declared.lexeme.Token.{Token}
use Rattle.ob0_text.specs.declared.edits.Edit.{Edit}
use Rattle.ob0_text.specs.declared.position_types.Unit.{Unit}
use Rattle.ob0_text.specs.Units.{width_of}
use Rattle.ob0_tree_values.proofs.TreeValues.{vec_of}
use Rattle.ob0_edits_tokens.specs.Ranges.{range_of}
use Rattle.ob0_edits_tokens.specs.Removals.{span_of_tokens}
use Rattle.ob0_edits_tokens.specs.Replacements.{AreIdentifierIndexes, replacement_at_token, range_and_text, token_span_or_empty}

abbrev string_of : (bytes : List ℕ) → IsUtf8 bytes → length bytes ≤ 1048576 → String Global
string_of bytes u short = record { bytes = vec_of bytes (omega (arith, short)); ok = ∣ u ∣₁ }

-- There are at most as many places as tokens.
pub few_names : (tokens : List Token) (least : ℕ) (places : List ℕ) → least ≤ length tokens → AreIdentifierIndexes tokens least places → least + length places ≤ length tokens
few_names tokens least [] low names = omega (arith, low)
few_names tokens least (p ∷ ps) low names =
    let inside = names.1 in
    let more = few_names tokens (suc p) ps (omega (arith, inside)) names.3 in
    omega (arith, more, names.0)

module _ (unit : Unit) (text : List ℕ) (tokens : List Token) where
  -- returns the edit that removes the text from the token `first` to the token `last`
  abbrev pub removal_value : ℕ → ℕ → Edit
  removal_value first last = record { range = range_of (width_of unit) text (span_of_tokens tokens first last); text = string_of [] IsUtf8-nil (omega arith) }

  module _ (new : List ℕ) (good : IsUtf8 new) (short : length new ≤ 1048576) where
    -- returns the edit that writes the text `new` in place of a token
    abbrev pub edit_value : ℕ → Edit
    edit_value p = record { range = range_of (width_of unit) text (token_span_or_empty tokens p); text = string_of new good short }

    pub values_are : (places : List ℕ) → map range_and_text (map edit_value places) ≡ map (replacement_at_token unit text tokens new) places
    values_are [] = refl
    values_are (p ∷ ps) = ap (λ xs. replacement_at_token unit text tokens new p ∷ xs) (values_are ps)

    pub as_many_values : (places : List ℕ) → length (map edit_value places) ≡ length places
    as_many_values [] = refl
    as_many_values (p ∷ ps) = ap suc (as_many_values ps)
