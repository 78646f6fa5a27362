-- The data about a module's names that is kept when the statements of one body are replaced. This
-- is the data about the tokens before that body, and about the tokens after it, which have moved.
-- Rule: none; used in private contracts about bindings that are kept when one body is replaced (`body_range.rt`).
use Rattle.std.specs.Prelude.{◌≡◌, ℕ, ◌+◌, ◌-◌, ◌^◌, min, nat_le, nat_lt, List, ◌++◌, Option, Some, None, length, map, take, drop, replicate}
use Rattle.std.specs.List.{filter}
use Rattle.ob0_scan.specs.declared.tokens.CommonPrefixAndSuffix.{CommonPrefixAndSuffix}
use Rattle.ob0_tree.specs.ParsedModule.{ParsedModule, tree_of}
use Rattle.ob0_tree.specs.Tree.{Tree, body, maybe}
use Rattle.ob0_tree.specs.FirstIdentifier.{first_identifier}
use Rattle.ob0_scope_table.specs.BodyReplacement.{body_at_path, closing_name_at_path, path_to_body_in_module}
use Rattle.ob0_scope_table.specs.Resolution.{is_undeclared_fault}
use Rattle.ob0_scope_table.specs.declared.faults.FaultAtTokens.{FaultAtTokens}
use Rattle.ob0_scope_table.specs.declared.resolved.Bindings.{Bindings}
use Rattle.ob0_scope.specs.BindingsBeforeBodyReplacement.{AreBindingsBeforeBodyReplacement}
use Rattle.ob0_scope.specs.NamesVisibleInBody.{names_visible_at_path}
use Rattle.ob0_scope.specs.declared.body_range.BodyRange.{BodyRange}

-- returns the tokens of a list that are before the replaced body in the text
abbrev pub tokens_before_body : BodyRange → List ℕ → List ℕ
tokens_before_body range tokens = filter (λ i. nat_lt i range.first) tokens

-- returns the index in the changed text of a token after the replaced body, given its old index; at
-- most 2^64 - 1
abbrev pub shifted_token : BodyRange → ℕ → ℕ
shifted_token range i = min (i - range.old_closing + range.closing) (2 ^ 64 - 1)

-- returns the tokens of a list that are after the replaced body in the text, with their new indexes
abbrev pub shifted_tokens_after_body : BodyRange → List ℕ → List ℕ
shifted_tokens_after_body range tokens = map (shifted_token range) (filter (λ i. nat_le range.old_closing i) tokens)

-- converts a list of token indexes of the old text to indexes in the changed text; the tokens in
-- the old body are replaced by `own`, the tokens in the new body
abbrev pub tokens_in_changed_text : BodyRange → List ℕ → List ℕ → List ℕ
tokens_in_changed_text range tokens own = tokens_before_body range tokens ++ (own ++ shifted_tokens_after_body range tokens)

-- returns the tokens of the undeclared names that these faults report, in the same order
abbrev pub undeclared_tokens : List FaultAtTokens → List ℕ
undeclared_tokens faults = map (λ fault. fault.first) (filter is_undeclared_fault faults)

-- returns the first `n` entries of a table, filled up with None if the table is shorter
abbrev pub resized_with_none : ℕ → List (Option ℕ) → List (Option ℕ)
resized_with_none n table = take n table ++ replicate (n - length table) None

-- Converts the old module's table of ordinals to a table for the changed text: each entry outside
-- the changed tokens moves to its token's new index. The entries of the changed tokens are None.
abbrev pub ordinals_in_changed_text : CommonPrefixAndSuffix → List (Option ℕ) → List (Option ℕ)
ordinals_in_changed_text same table =
    resized_with_none same.new_suffix (take same.prefix table) ++ drop same.old_suffix table

-- returns the old token index of the closing name after the replaced statements, given its index in
-- the changed text; at most 2^64 - 1
abbrev pub old_closing_token : CommonPrefixAndSuffix → ℕ → ℕ
old_closing_token same closing = min (closing - same.new_suffix + same.old_suffix) (2 ^ 64 - 1)

-- States that `range` is the range of the new statements in a module in which one body's statements
-- were replaced. `b` has the bindings of the old module, and `table` has the ordinals of the
-- unchanged tokens at their new indexes. `names` has the tokens of the declared names that are
-- visible in the new statements, `statements`.
pub record IsRangeOfNewBody (m : ParsedModule) (b : Bindings) (table : List (Option ℕ)) (range : BodyRange) (names : List ℕ) (statements : Tree ℕ (maybe body)) : Type 0 where
  pub same : CommonPrefixAndSuffix
  pub was_bound : AreBindingsBeforeBodyReplacement m b same
  pub table_is : table ≡ ordinals_in_changed_text same b.ordinals.items
  pub first : first_identifier statements ≡ Some range.first
  pub closing : range.closing ≡ closing_name_at_path (path_to_body_in_module same.prefix (tree_of m)) (tree_of m)
  pub old_closing : range.old_closing ≡ old_closing_token same range.closing
  pub names_are : names ≡ names_visible_at_path (path_to_body_in_module same.prefix (tree_of m)) (tree_of m)
  pub statements_are : statements ≡ body_at_path (path_to_body_in_module same.prefix (tree_of m)) (tree_of m)
