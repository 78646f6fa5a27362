-- States the conditions under which the analysis of a changed text may reuse results for the
-- previous text.
-- Rule: none; used in private contracts about the results that an analysis reuses.
use Rattle.std.specs.Prelude.{◌≡◌, ℕ, true, IfSome, List, Option}
use Rattle.ob0_scan.specs.ScanRefusals.{AreFaultsOfRefusedText}
use Rattle.ob0_scan.specs.ReusedLexemes.{token_kinds_without_values, spellings_of_identifiers_in, words_of_tokens}
use Rattle.ob0_scan.specs.SamePrefixAndSuffix.{PrefixAndSuffixHaveSameKinds, PrefixAndSuffixHaveSameWords}
use Rattle.ob0_scan.specs.TextWithTokens.{IsScan, IsScannable, TextWithTokens}
use Rattle.ob0_scan.specs.declared.incremental_scan.RescanFailure.{RescanFailure}
use Rattle.ob0_scan.specs.declared.incremental_scan.RescanFailure.TheVariants as rescanned
use Rattle.ob0_scan.specs.declared.tokens.RescanWithComparison.{RescanWithComparison}
use Rattle.ob0_tree.specs.declared.tree.ModuleTree.{ModuleTree}
use Rattle.ob0_tree.specs.ParsedModule.{TreeMatchesText, parsed_module}
use Rattle.ob0_scope_table.specs.Bindings.{resolution_with_bindings}
use Rattle.ob0_scope_table.specs.Resolution.{IsResolution}
use Rattle.ob0_scope_table.specs.declared.resolved.Bindings.{Bindings}
use Rattle.ob0_parse.specs.KeptTreeTokens.{KeptTreesMatchTokens}
use Rattle.ob0_parse.specs.declared.kept_trees.KeptTrees.{KeptTrees}
use Rattle.ob0_parse_descent.specs.declared.refusal.ParseRefusal.{ParseRefusal}
use Rattle.ob0_types.specs.CheckedModules.{IsCheckResultOfModule}
use Rattle.ob0_types.specs.declared.checked_modules.CheckResult.{CheckResult}
use Rattle.ob0_analysis.specs.AnalysisInvariants.{IsRefusedByParser}
use Rattle.ob0_analysis.specs.LastModule.{IsEarlierModule, IsLastModuleOf}
use Rattle.ob0_analysis.specs.declared.last_module.LastModule.{LastModule}

-- States that the results kept for a previous text `old` are right:
-- - The scan `c` of the changed text reports correctly which tokens both texts share.
-- - The kept trees (`kept_trees`) match the tokens of `old`. If `c` reports that all tokens have
--   the same kinds, these trees also match the new tokens.
-- - `last` is None, or it has the names and types of the last module before `old`.
pub record KeptResultsMatchPreviousText (c : RescanWithComparison) (kept_trees : KeptTrees) (last : Option LastModule) : Type 0 where
  pub old : TextWithTokens
  pub new_scan : IsScan c.rescan.tokens
  pub same : PrefixAndSuffixHaveSameKinds c.same old.tokens c.rescan.tokens.tokens
  pub written : PrefixAndSuffixHaveSameWords c.same old c.rescan.tokens
  pub kept : KeptTreesMatchTokens old.tokens kept_trees
  pub same_kinds : c.same_kinds ≡ true → KeptTreesMatchTokens c.rescan.tokens.tokens kept_trees
  pub was : IfSome last (IsLastModuleOf old)

-- States that the previous text was a module with this tree, these bindings and this result of
-- checking its types. The scan `c` of the changed text must report correctly which tokens both
-- texts share. If `c` reports that all kinds, all names or all spellings are the same, this must be
-- true.
pub record PreviousTextWasModule
    (c : RescanWithComparison) (tree : ModuleTree) (b : Bindings) (types : CheckResult) : Type 0 where
  pub earlier_module : IsEarlierModule c.rescan.tokens tree b types c.same
  pub same_kinds : c.same_kinds ≡ true → token_kinds_without_values c.rescan.tokens.tokens ≡ token_kinds_without_values earlier_module.old.tokens
  pub same_names : c.same_names ≡ true
      → spellings_of_identifiers_in c.rescan.tokens.text c.rescan.tokens.tokens
      ≡ spellings_of_identifiers_in earlier_module.old.text earlier_module.old.tokens
  pub same_words : c.same_words ≡ true
      → words_of_tokens c.rescan.tokens.text c.rescan.tokens.tokens
      ≡ words_of_tokens earlier_module.old.text earlier_module.old.tokens

-- States that the error of scanning a changed text is right. The parser refused the previous text.
-- If the changed text has lexical faults, the error has these faults and the previous text's
-- tokens. The refusal, the kept trees and the last module must belong to these tokens. If the scan
-- failed for lack of memory, states nothing.
abbrev pub IsRightScanFailureAfterRefusal : List ℕ
    → ParseRefusal
    → KeptTrees
    → Option LastModule
    → RescanFailure
    → Type 0
IsRightScanFailureAfterRefusal text refusal kept_trees last (rescanned.Faults faults tokens) =
    (IsScannable text → ⊥)
    × AreFaultsOfRefusedText text faults.items
    × IsRefusedByParser tokens refusal
    × KeptTreesMatchTokens tokens.tokens kept_trees
    × IfSome last (IsLastModuleOf tokens)
IsRightScanFailureAfterRefusal text refusal kept_trees last rescanned.Memory = Unit {0}

-- States that the error of scanning a changed text is right. The previous text was a module. If the
-- changed text has lexical faults, the error has these faults and the previous text's tokens. The
-- tree, the bindings and the types must belong to these tokens. If the scan failed for lack of
-- memory, states nothing.
abbrev pub IsRightScanFailureAfterModule : List ℕ
    → ModuleTree
    → Bindings
    → CheckResult
    → RescanFailure
    → Type 0
IsRightScanFailureAfterModule text tree b types (rescanned.Faults faults tokens) =
    (IsScannable text → ⊥)
    × AreFaultsOfRefusedText text faults.items
    × TreeMatchesText (parsed_module tokens tree)
    × IsResolution (resolution_with_bindings (parsed_module tokens tree) b)
    × IsCheckResultOfModule (resolution_with_bindings (parsed_module tokens tree) b) types
IsRightScanFailureAfterModule text tree b types rescanned.Memory = Unit {0}
