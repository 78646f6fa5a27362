-- Defines an earlier module whose tokens have the same kinds as the current text's tokens. So the
-- earlier module's tree is also the current text's tree.
-- Rule: none; used in private contracts about the results that an analysis reuses.
use Rattle.std.specs.Prelude.{◌≡◌}
use Rattle.ob0_scan.specs.ReusedLexemes.{token_kinds_without_values}
use Rattle.ob0_scan.specs.TextWithTokens.{TextWithTokens}
use Rattle.ob0_scan.specs.declared.tokens.CommonPrefixAndSuffix.{CommonPrefixAndSuffix}
use Rattle.ob0_tree.specs.declared.tree.ModuleTree.{ModuleTree}
use Rattle.ob0_scope_table.specs.declared.resolved.Bindings.{Bindings}
use Rattle.ob0_types.specs.declared.checked_modules.CheckResult.{CheckResult}
use Rattle.ob0_analysis.specs.LastModule.{IsEarlierModule}

-- States that an earlier text was a module with this tree, these bindings and this result of
-- checking its types. The tokens of the earlier text must have the same kinds as the tokens of
-- `new`, one by one. The tokens that `s` describes must also have the same spellings.
pub record IsEarlierModuleWithSameKinds
    (new : TextWithTokens) (tree : ModuleTree) (b : Bindings) (types : CheckResult) (s : CommonPrefixAndSuffix)
    : Type 0 where
  pub earlier_module : IsEarlierModule new tree b types s
  pub same_kinds : token_kinds_without_values new.tokens ≡ token_kinds_without_values earlier_module.old.tokens
