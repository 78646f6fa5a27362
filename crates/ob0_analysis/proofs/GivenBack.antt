-- Proves that if a changed text has lexical faults, all results for the old text still hold for the
-- old tokens, which are returned.
use Rattle.std.proofs.Common.{ℕ, IfSome, List, Option, subst, sym}
use Rattle.ob0_scan.specs.ScanRefusals.{IsRightRescanFailure}
use Rattle.ob0_scan.specs.TextWithTokens.{TextWithTokens}
use Rattle.ob0_scan.specs.declared.incremental_scan.RescanFailure.{RescanFailure}
use Rattle.ob0_scan.specs.declared.incremental_scan.RescanFailure.TheVariants as rescanned
use Rattle.ob0_parse.specs.KeptTreeTokens.{KeptTreesMatchTokens}
use Rattle.ob0_parse.specs.declared.kept_trees.KeptTrees.{KeptTrees}
use Rattle.ob0_parse_descent.specs.declared.refusal.ParseRefusal.{ParseRefusal}
use Rattle.ob0_tree.specs.ParsedModule.{TreeMatchesText, parsed_module}
use Rattle.ob0_tree.specs.declared.tree.ModuleTree.{ModuleTree}
use Rattle.ob0_scope_table.specs.Bindings.{resolution_with_bindings}
use Rattle.ob0_scope_table.specs.Resolution.{IsResolution}
use Rattle.ob0_scope_table.specs.declared.resolved.Bindings.{Bindings}
use Rattle.ob0_types.specs.CheckedModules.{IsCheckResultOfModule}
use Rattle.ob0_types.specs.declared.checked_modules.CheckResult.{CheckResult}
use Rattle.ob0_analysis.specs.ReuseConditions.{IsRightScanFailureAfterModule, IsRightScanFailureAfterRefusal}
use Rattle.ob0_analysis.specs.AnalysisInvariants.{IsRefusedByParser}
use Rattle.ob0_analysis.specs.LastModule.{IsLastModuleOf}
use Rattle.ob0_analysis.specs.declared.last_module.LastModule.{LastModule}

pub refusal_given_back : (old : TextWithTokens) (text : List ℕ) (refusal : ParseRefusal) (kept : KeptTrees) (last : Option LastModule) (unread : RescanFailure) → IsRightRescanFailure old text unread
    → IsRefusedByParser old refusal → KeptTreesMatchTokens old.tokens kept → IfSome last (IsLastModuleOf old) → IsRightScanFailureAfterRefusal text refusal kept last unread
refusal_given_back old text refusal kept last (rescanned.Faults faults tokens) by r k l = (
  by.0,
  by.1,
  subst (λ (s : TextWithTokens). IsRefusedByParser s refusal) (sym by.2) r,
  subst (λ (s : TextWithTokens). KeptTreesMatchTokens s.tokens kept) (sym by.2) k,
  subst (λ (s : TextWithTokens). IfSome last (IsLastModuleOf s)) (sym by.2) l,
)
refusal_given_back old text refusal kept last rescanned.Memory by r k l = tt

pub module_given_back : (old : TextWithTokens) (text : List ℕ) (tree : ModuleTree) (b : Bindings) (types : CheckResult) (unread : RescanFailure) → IsRightRescanFailure old text unread
    → TreeMatchesText (parsed_module old tree) → IsResolution (resolution_with_bindings (parsed_module old tree) b) → IsCheckResultOfModule (resolution_with_bindings (parsed_module old tree) b) types → IsRightScanFailureAfterModule text tree b types unread
module_given_back old text tree b types (rescanned.Faults faults tokens) by p r t = (
  by.0,
  by.1,
  subst (λ (s : TextWithTokens). TreeMatchesText (parsed_module s tree)) (sym by.2) p,
  subst (λ (s : TextWithTokens). IsResolution (resolution_with_bindings (parsed_module s tree) b)) (sym by.2) r,
  subst (λ (s : TextWithTokens). IsCheckResultOfModule (resolution_with_bindings (parsed_module s tree) b) types) (sym by.2) t,
)
module_given_back old text tree b types rescanned.Memory by p r t = tt
