-- Proves that there are edits that write a new name at some tokens, or that the edited text would
-- be too long.
use Rattle.std.proofs.Common.{◌≡◌, ◌∙◌, ◌++◌, ◌-◌, ◌<◌, ◌≤◌, ℕ, Bool, true, false, List, [], ◌∷◌, Result, Ok, Err, String, Vec, drop, get_or, length, map, take, inl, refl, ap, subst, sym, arith}
use Rattle.std.specs.Prelude.{IfErr, nat_lt}
use Rattle.std.specs.Str.{IsUtf8, chars}
use Rattle.std.specs.declared.alloc.Global.{Global}
use Rattle.std.proofs.lemmas.Bool.{ltb-false, ltb-true}
use Rattle.std.proofs.lemmas.List.{length-append, length-map}
use Rattle.std.proofs.lemmas.Str.{IsUtf8-from_ascii}
use Rattle.std.proofs.lemmas.Str.Ascii.{IsAscii-from_reads}
use Rattle.ob0_scan.specs.declared.lexeme.Token.{Token}
use Rattle.ob0_scan.specs.LexemeClasses.{IsIdentifier}
use Rattle.ob0_scan.specs.TextWithTokens.{IsScan, TextWithTokens, max_text_length}
use Rattle.ob0_scan.proofs.Runs.{ascii_letter_or_digit}
use Rattle.ob0_text.specs.declared.edits.Edit.{Edit}
use Rattle.ob0_text.specs.declared.position_types.Unit.{Unit}
use Rattle.ob0_text.specs.declared.refusals.EditRefusal.{EditRefusal}
use Rattle.ob0_text.specs.declared.refusals.EditRefusal.TheVariants as refusal
use Rattle.ob0_text.specs.Patches.{text_after_cuts_from_offset}
use Rattle.ob0_text.specs.Units.{width_of}
use Rattle.ob0_tree_values.proofs.TreeValues.{vec_of}
use Rattle.ob0_edits_tokens.specs.WordReplacements.{changes_at_indexes, changed_words, words_of_text}
use Rattle.ob0_edits_tokens.specs.Ranges.{range_of}
use Rattle.ob0_edits_tokens.specs.Replacements.{AreIdentifierIndexes, EditedTextHasWords, MayReplaceIdentifier, replacement_cut, replacement_at_token, range_and_text, token_span_or_empty, text_after_replacement}
use Rattle.ob0_edits_tokens.specs.Written.{name_word}
use Rattle.ob0_edits_tokens.proofs.Made.{leaves_words}
use Rattle.ob0_rename.proofs.Outcomes.{Edited}

identifier_utf8 : (new : List ℕ) → IsIdentifier new → IsUtf8 new
identifier_utf8 new id = IsUtf8-from_ascii new (IsAscii-from_reads new (length new) (omega arith) (λ k h. ascii_letter_or_digit (get_or new k 0) (id.word.all k 0 h)))

abbrev string_of : (bytes : List ℕ) → IsUtf8 bytes → length bytes ≤ 1048576 → String Global
string_of bytes u short = record { bytes = vec_of bytes (omega (arith, short)); ok = ∣ u ∣₁ }

-- ---- the edits at some places, and their number

module _ (unit : Unit) (content text : List ℕ) (tokens : List Token) (new : List ℕ) (u : IsUtf8 new) where
  name_edits : (at : ℕ) (places : List ℕ) → length (text_after_cuts_from_offset text at (map (replacement_cut tokens new) places)) ≤ 1048576 → (edits : List Edit) × (map range_and_text edits ≡ map (replacement_at_token unit content tokens new) places)
  unfolding text_after_cuts_from_offset
  name_edits at [] short = ([], refl)
  name_edits at (p ∷ ps) short =
      let back : List ℕ = text_after_cuts_from_offset text (token_span_or_empty tokens p).end (map (replacement_cut tokens new) ps) in
      let all = length-append (take ((token_span_or_empty tokens p).start - at) (drop at text)) (new ++ back) in
      let rest = length-append new back in
      let more = name_edits (token_span_or_empty tokens p).end ps (omega (arith, all, rest, short)) in
      let here : Edit = record { range = range_of (width_of unit) content (token_span_or_empty tokens p); text = string_of new u (omega (arith, all, rest, short)) } in
      (here ∷ more.0, ap (λ xs. replacement_at_token unit content tokens new p ∷ xs) more.1)

few_places : (text : List ℕ) (tokens : List Token) (new : List ℕ) → 0 < length new → (at : ℕ) (places : List ℕ) → length places ≤ length (text_after_cuts_from_offset text at (map (replacement_cut tokens new) places))
unfolding text_after_cuts_from_offset
few_places text tokens new some at [] = omega arith
few_places text tokens new some at (p ∷ ps) =
    let back : List ℕ = text_after_cuts_from_offset text (token_span_or_empty tokens p).end (map (replacement_cut tokens new) ps) in
    let all = length-append (take ((token_span_or_empty tokens p).start - at) (drop at text)) (new ++ back) in
    let rest = length-append new back in
    let more = few_places text tokens new some (token_span_or_empty tokens p).end ps in
    omega (arith, all, rest, some, more)

-- ---- the edits, or the refusal

abbrev pub NoMemory : Result (Vec Edit Global) EditRefusal → Type 0
NoMemory result = IfErr result (λ why. why ≡ refusal.Memory → ⊥)

too_long_other : refusal.TooLong ≡ refusal.Memory → ⊥
too_long_other e = cc

not_too_long : (edits : Vec Edit Global) → Ok edits ≡ Err refusal.TooLong → ⊥
not_too_long edits e = cc

-- edits, or the refusal of a text that would be too long, with what an answer needs to know of them
pub record Outcome (unit : Unit) (text new : List ℕ) (s : TextWithTokens) (places : List ℕ) : Type 0 where
  pub result : Result (Vec Edit Global) EditRefusal
  pub settles : NoMemory result
  pub edited : Edited unit text new s places result

module _ (unit : Unit) (text new : List ℕ) (s : TextWithTokens) (scan : IsScan s) (held : text ≡ chars s.text) (id : IsIdentifier new) (replaces : MayReplaceIdentifier new (name_word new ∷ [])) (places : List ℕ) (names : AreIdentifierIndexes s.tokens 0 places) where
  refused : max_text_length < length (text_after_replacement s places new) → Outcome unit text new s places
  refused long = record {
    result = Err refusal.TooLong;
    settles = too_long_other;
    edited = record { edits = tt; short = tt; leaves = λ ws h. tt; too_long = λ e. long; refusals = inl refl };
  }

  made : length (text_after_replacement s places new) ≤ max_text_length → Outcome unit text new s places
  made short =
      let u = identifier_utf8 new id in
      let found = name_edits unit text s.text s.tokens new u 0 places short in
      let edits : List Edit = found.0 in
      let e : map range_and_text edits ≡ map (replacement_at_token unit text s.tokens new) places = found.1 in
      let count : length edits ≡ length places = sym (length-map edits range_and_text) ∙ (ap length e ∙ length-map places (replacement_at_token unit text s.tokens new)) in
      let few = few_places s.text s.tokens new replaces.some 0 places in
      let given : Vec Edit Global = vec_of edits (omega (arith, count, few, short)) in
      let same : map range_and_text edits ≡ map (replacement_at_token unit (chars s.text) s.tokens new) places = subst (λ (t : List ℕ). map range_and_text edits ≡ map (replacement_at_token unit t s.tokens new) places) held e in
      record {
        result = Ok given;
        settles = tt;
        edited = record {
          edits = e;
          short = short;
          leaves = λ ws h. subst (λ (t : List ℕ). EditedTextHasWords unit t edits (changed_words (changes_at_indexes places ws) 0 (words_of_text s))) (sym held) (leaves_words s scan new u unit ws h places names edits same short);
          too_long = λ h. absurd (not_too_long given h);
          refusals = tt;
        };
      }

  pub outcome : Outcome unit text new s places
  outcome = by_length (nat_lt max_text_length (length (text_after_replacement s places new))) refl
    where
      by_length : (b : Bool) → nat_lt max_text_length (length (text_after_replacement s places new)) ≡ b → Outcome unit text new s places
      by_length true long = refused (ltb-true max_text_length (length (text_after_replacement s places new)) long)
      by_length false fits = made (ltb-false max_text_length (length (text_after_replacement s places new)) fits)
