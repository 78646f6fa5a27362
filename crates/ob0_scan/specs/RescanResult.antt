-- Defines when the result of `rescan_in_place` is right. This function scans a changed text and
-- reuses the tokens of the old text.
-- Rule: none; used in contracts of `rescan_in_place`.
use Rattle.std.specs.Prelude.{◌≡◌, ℕ, List, true}
use Rattle.ob0_scan.specs.declared.tokens.RescanWithComparison.{RescanWithComparison}
use Rattle.ob0_scan.specs.TextWithTokens.{TextWithTokens, IsScanOf}
use Rattle.ob0_scan.specs.ReusedLexemes.{ReusesOldLexemes, token_kinds_without_values, spellings_of_identifiers_in, words_of_tokens}
use Rattle.ob0_scan.specs.SamePrefixAndSuffix.{PrefixAndSuffixHaveSameKinds, PrefixAndSuffixHaveSameWords}

-- States that `r` has the scan of the new text, reuses old tokens as `ReusesOldLexemes` says, and
-- compares the tokens correctly with the old ones. If `same_kinds` is true, all tokens have the
-- same kinds as the old tokens, except that the values of integers may differ. If `same_names` is
-- true, the identifiers have the same spellings as in the old text. If `same_words` is true, all
-- tokens have the same kinds and spellings as the old tokens. The tokens in the two parts that
-- `same` describes always have the same kinds and spellings as in the old text.
pub record IsRescanOf (old : TextWithTokens) (new : List ℕ) (from removed added : ℕ) (r : RescanWithComparison)
    : Type 0 where
  pub scan : IsScanOf new r.rescan.tokens
  pub reused : ReusesOldLexemes old r.rescan.tokens from removed added r.rescan.read
  pub same_kinds : r.same_kinds ≡ true → token_kinds_without_values r.rescan.tokens.tokens ≡ token_kinds_without_values old.tokens
  pub same_names : r.same_names ≡ true
      → spellings_of_identifiers_in r.rescan.tokens.text r.rescan.tokens.tokens ≡ spellings_of_identifiers_in old.text old.tokens
  pub same_words : r.same_words ≡ true
      → words_of_tokens r.rescan.tokens.text r.rescan.tokens.tokens ≡ words_of_tokens old.text old.tokens
  pub same : PrefixAndSuffixHaveSameKinds r.same old.tokens r.rescan.tokens.tokens
  pub written : PrefixAndSuffixHaveSameWords r.same old r.rescan.tokens
