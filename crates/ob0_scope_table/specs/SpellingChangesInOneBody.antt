-- Defines a change of the spellings of tokens inside one body (the statements of one block). The
-- tokens outside the changed range keep their spellings.
-- Rule: none; used in contracts about a change of spellings in one body.
use Rattle.std.specs.Prelude.{◌≡◌, ℕ, Bool, true, false, ◌&&◌, ◌||◌, nat_le, nat_lt, List, [], ◌∷◌, if◌then◌else◌, slice_get}
use Rattle.ob0_scan.specs.ReusedLexemes.{token_kinds_without_values, words_of_tokens}
use Rattle.ob0_scan.specs.TextWithTokens.{IsScan, TextWithTokens}
use Rattle.ob0_tree.specs.ParsedModule.{ParsedModule, tree_of}
use Rattle.ob0_tree.specs.Tree.{Tree, block, body, declares, declares_procedure, end, forms_block, identifiers, forms_module, item, items, maybe, module_text, more, procedure}
use Rattle.ob0_tree.specs.declared.tree.Role.{Role}
use Rattle.ob0_tree.specs.declared.tree.Role.TheVariants as role

-- returns whether a token is before `low`, or is at or after `high`
abbrev pub is_outside_range : ℕ → ℕ → ℕ → Bool
is_outside_range low high token = nat_lt token low || nat_le high token

-- returns a procedure's closing name
abbrev pub closing_name : {N : Type 0} → Tree N (item procedure) → N
closing_name (declares_procedure x fs b closing) = closing

-- Returns whether the first identifier in the list is at or before the token `low`. The list has
-- each identifier's role and token. Returns false if the list is empty.
abbrev pub first_identifier_is_at_or_before_token : ℕ → List (Role × ℕ) → Bool
first_identifier_is_at_or_before_token low [] = false
first_identifier_is_at_or_before_token low (x ∷ xs) = nat_le x.1 low

-- Returns whether one body contains the tokens from `low` up to, but not including, `high`. This
-- means that `low` is at or after the body's first identifier, and `high` is at or before the
-- closing name of the body's block.
abbrev mutual
  -- Returns whether the body of a block, or of a procedure inside it, contains the tokens from
  -- `low` up to, but not including, `high`. The caller checks that `high` is at or before the
  -- closing name of the outer block.
  pub is_range_in_body_of_block : ℕ → ℕ → Tree ℕ block → Bool
  is_range_in_body_of_block low high (forms_block (declares cs ts vs ps) statements) =
      is_range_in_body_of_procedures_or_statements low high ps statements

  -- Returns whether one body of a block with these procedures and statements contains the tokens
  -- from `low` up to, but not including, `high`. If a procedure's closing name is at or after
  -- `low`, the body must be in the first such procedure. If there is no such procedure, `low` must
  -- be at or after the first identifier of the statements. The caller checks that `high` is at or
  -- before the closing name of the block.
  pub is_range_in_body_of_procedures_or_statements : ℕ → ℕ → Tree ℕ (items procedure) → Tree ℕ (maybe body) → Bool
  is_range_in_body_of_procedures_or_statements low high end statements = first_identifier_is_at_or_before_token low (identifiers role.DeclaringName statements)
  is_range_in_body_of_procedures_or_statements low high (more p ps) statements =
      if nat_lt (closing_name p) low then is_range_in_body_of_procedures_or_statements low high ps statements
      else nat_le high (closing_name p) && is_range_in_body_of_procedure low high p

  -- Returns whether the body of a procedure, or of a procedure inside it, contains the tokens from
  -- `low` up to, but not including, `high`. The caller checks that `high` is at or before the
  -- procedure's closing name.
  pub is_range_in_body_of_procedure : ℕ → ℕ → Tree ℕ (item procedure) → Bool
  is_range_in_body_of_procedure low high (declares_procedure x fs b closing) = is_range_in_body_of_block low high b

-- returns whether one body of a module contains the tokens from `low` up to, but not including,
-- `high`
abbrev pub is_range_in_one_body : ℕ → ℕ → Tree ℕ module_text → Bool
is_range_in_one_body low high (forms_module x b closing) = nat_le high closing && is_range_in_body_of_block low high b

-- States that the text of the module `m` differs from the text `old` only in the spellings of
-- tokens in one body. The tokens of both texts have the same kinds, in order. The tokens from `low`
-- up to, but not including, `high` are inside one body of `m`. All other tokens also have the same
-- spellings in both texts.
pub record ChangesSpellingsInOneBody (old : TextWithTokens) (m : ParsedModule) (low high : ℕ) : Type 0 where
  pub old_scan : IsScan old
  pub new_scan : IsScan m.source
  pub same_kinds : token_kinds_without_values m.source.tokens ≡ token_kinds_without_values old.tokens
  pub same_words : (i : ℕ) → is_outside_range low high i ≡ true
      → slice_get (words_of_tokens m.source.text m.source.tokens) i
      ≡ slice_get (words_of_tokens old.text old.tokens) i
  pub in_body : is_range_in_one_body low high (tree_of m) ≡ true
