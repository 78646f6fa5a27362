-- Defines the last text that was a module, and the tokens that the current text shares with it.
-- Rule: none; used in private contracts about the results that an analysis reuses.
use Rattle.std.specs.Prelude.{◌≡◌, ◌≤◌, ◌+◌, IfSome, Option}
use Rattle.ob0_scan.specs.SamePrefixAndSuffix.{PrefixAndSuffixHaveSameKinds, PrefixAndSuffixHaveSameWords}
use Rattle.ob0_scan.specs.TextWithTokens.{IsScan, TextWithTokens}
use Rattle.ob0_scan.specs.declared.tokens.CommonPrefixAndSuffix.{CommonPrefixAndSuffix}
use Rattle.ob0_tree.specs.declared.tree.ModuleTree.{ModuleTree}
use Rattle.ob0_tree.specs.ParsedModule.{TreeMatchesText, parsed_module}
use Rattle.ob0_scope_table.specs.Bindings.{resolution_with_bindings}
use Rattle.ob0_scope_table.specs.BoundsOfBodies.{module_tree_of}
use Rattle.ob0_scope_table.specs.Resolution.{IsResolution}
use Rattle.ob0_scope_table.specs.declared.one_body.BodyBounds.{BodyBounds}
use Rattle.ob0_scope_table.specs.declared.resolved.Bindings.{Bindings}
use Rattle.ob0_types.specs.CheckedModules.{IsCheckResultOfModule}
use Rattle.ob0_types.specs.declared.checked_modules.CheckResult.{CheckResult}
use Rattle.ob0_analysis.specs.BodyAfterFirstIdentifier.{IsBodyAfterFirstIdentifier}
use Rattle.ob0_analysis.specs.declared.last_module.LastModule.{LastModule}

-- States that an earlier text was a module with this tree, these bindings and this result of
-- checking its types. `s` describes the tokens that the earlier text and the current text `new`
-- share at the beginning and at the end. These tokens must have the same kinds and spellings in
-- both texts.
pub record IsEarlierModule
    (new : TextWithTokens) (tree : ModuleTree) (b : Bindings) (types : CheckResult) (s : CommonPrefixAndSuffix)
    : Type 0 where
  pub old : TextWithTokens
  pub old_scan : IsScan old
  pub new_scan : IsScan new
  pub parsed : TreeMatchesText (parsed_module old tree)
  pub resolved : IsResolution (resolution_with_bindings (parsed_module old tree) b)
  pub types_are : IsCheckResultOfModule (resolution_with_bindings (parsed_module old tree) b) types
  pub same : PrefixAndSuffixHaveSameKinds s old.tokens new.tokens
  pub written : PrefixAndSuffixHaveSameWords s old new

-- States that `last` has the names and types of an earlier text that was a module. The tokens of the
-- earlier text that may differ from the current text `new` must be all tokens of one body after its
-- first identifier.
pub record IsLastModuleOf (new : TextWithTokens) (last : LastModule) : Type 0 where
  pub tree : ModuleTree
  pub earlier_module : IsEarlierModule new tree last.bindings last.types last.same
  pub place : BodyBounds
  pub placed : IsBodyAfterFirstIdentifier (module_tree_of tree) last.same.prefix last.same.old_suffix place

-- States that the range of tokens that may differ according to `wide` includes the range of tokens
-- that may differ according to `narrow`. At the end of the range, `wide` must add as many tokens in
-- the old text as in the new text.
pub record WidensDifference (narrow wide : CommonPrefixAndSuffix) : Type 0 where
  pub front : wide.prefix ≤ narrow.prefix
  pub back : narrow.old_suffix ≤ wide.old_suffix
  pub adds_equally_many_tokens : wide.new_suffix + narrow.old_suffix ≡ narrow.new_suffix + wide.old_suffix

-- States that `after` is right after a change of the text if `before` was right before it. `before`
-- is right if it is None or is the last module for the old text (`IsLastModuleOf`). `after` is
-- right if it is None or is the last module for the new text. This must hold for any old text and
-- any scanned new text (`IsScan`) that share the tokens described by `change`.
abbrev pub KeepsLastModule : Option LastModule → CommonPrefixAndSuffix → Option LastModule → Type 0
KeepsLastModule before change after =
    (old new : TextWithTokens)
    → IfSome before (IsLastModuleOf old)
    → PrefixAndSuffixHaveSameKinds change old.tokens new.tokens
    → PrefixAndSuffixHaveSameWords change old new
    → IsScan new
    → IfSome after (IsLastModuleOf new)
