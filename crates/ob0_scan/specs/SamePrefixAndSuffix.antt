-- Defines which tokens of a changed text have the same kinds and spellings as in the old text.
-- Rule: none; used in contracts of `rescan_in_place`.
use Rattle.std.specs.Prelude.{◌≡◌, ◌≤◌, List, length, take, drop}
use Rattle.ob0_scan.specs.declared.lexeme.Token.{Token}
use Rattle.ob0_scan.specs.declared.tokens.CommonPrefixAndSuffix.{CommonPrefixAndSuffix}
use Rattle.ob0_scan.specs.ReusedLexemes.{token_kinds_without_values, words_of_tokens}
use Rattle.ob0_scan.specs.TextWithTokens.{TextWithTokens}

-- States that two parts of the new tokens have the same kinds as in the old text. The first part is
-- the first `prefix` tokens of both texts. The second part reaches to the last token of each text.
-- It starts at the index `old_suffix` among the old tokens and at the index `new_suffix` among the
-- new tokens. No token is in both parts. The values of integers may differ.
pub record PrefixAndSuffixHaveSameKinds (s : CommonPrefixAndSuffix) (old new : List Token) : Type 0 where
  pub old_range : s.prefix ≤ s.old_suffix
  pub new_range : s.prefix ≤ s.new_suffix
  pub old_inside : s.old_suffix ≤ length old
  pub new_inside : s.new_suffix ≤ length new
  pub front : take s.prefix (token_kinds_without_values new) ≡ take s.prefix (token_kinds_without_values old)
  pub back : drop s.new_suffix (token_kinds_without_values new) ≡ drop s.old_suffix (token_kinds_without_values old)

-- States that the tokens in the two parts that `s` describes have the same kinds and spellings in
-- both texts.
pub record PrefixAndSuffixHaveSameWords (s : CommonPrefixAndSuffix) (old new : TextWithTokens) : Type 0 where
  pub front : take s.prefix (words_of_tokens new.text new.tokens)
      ≡ take s.prefix (words_of_tokens old.text old.tokens)
  pub back : drop s.new_suffix (words_of_tokens new.text new.tokens)
      ≡ drop s.old_suffix (words_of_tokens old.text old.tokens)
