-- Proves facts about tests of numbers, and that the tokens outside a range have the same spellings
-- as before.
use Rattle.std.proofs.Common.{◌≡◌, ℕ, zero, suc, slice_get, true, Option, Some, None, List, [], ◌∷◌, refl, sym, ap, ◌∙◌}
use Rattle.ob0_scan.specs.declared.lexeme.Token.{Token}
use Rattle.ob0_scan.specs.ReusedLexemes.{words_of_tokens}
use Rattle.ob0_scan.specs.TextWithTokens.{TextWithTokens, Word}
use Rattle.ob0_tree.specs.ParsedModule.{ParsedModule}
use Rattle.ob0_tree.specs.TokenIndexLeaves.{token_text_at, token_text_or_empty, token_value_or_zero, integer_value_or_zero}
use Rattle.ob0_scope_table.specs.SpellingChangesInOneBody.{ChangesSpellingsInOneBody, is_outside_range}

-- returns the spelling of a token's word
abbrev pub word_text : Option Word → List ℕ
word_text None = []
word_text (Some w) = w.text

abbrev pub word_value : Option Word → ℕ
word_value None = 0
word_value (Some w) = integer_value_or_zero w.kind

pub text_in_word : (text : List ℕ) (ts : List Token) (i : ℕ) → token_text_or_empty text (slice_get ts i) ≡ word_text (slice_get (words_of_tokens text ts) i)
text_in_word text [] i = refl
text_in_word text (t ∷ ts) zero = refl
text_in_word text (t ∷ ts) (suc i) = text_in_word text ts i

pub value_in_word : (text : List ℕ) (ts : List Token) (i : ℕ) → token_value_or_zero (slice_get ts i) ≡ word_value (slice_get (words_of_tokens text ts) i)
value_in_word text [] i = refl
value_in_word text (t ∷ ts) zero = refl
value_in_word text (t ∷ ts) (suc i) = value_in_word text ts i

pub text_out : (old : TextWithTokens) (m : ParsedModule) (low high : ℕ) → ChangesSpellingsInOneBody old m low high → (i : ℕ) → is_outside_range low high i ≡ true → token_text_at m.source i ≡ token_text_at old i
text_out old m low high change i e =
    text_in_word m.source.text m.source.tokens i ∙ (ap word_text (change.same_words i e) ∙ sym (text_in_word old.text old.tokens i))
