-- Proves that each well-typed text has a parsed module, and a resolution of its names.
use Rattle.std.proofs.Common.{◌≡◌, ℕ, List, sym, subst}
use Rattle.ob0_scan.specs.TextWithTokens.{IsScanOf, TextWithTokens}
use Rattle.ob0_tree.specs.ParsedModule.{ParsedModule, named_tree_of}
use Rattle.ob0_tree.specs.Tree.{Tree, module_text}
use Rattle.ob0_language_types.specs.WellTyped.{WellTyped}
use Rattle.ob0_scope_table.specs.Resolution.{Resolution}
use Rattle.ob0_types.specs.CheckedModules.{IsWellTyped}
use Rattle.ob0_analysis.specs.AnalysisAnswers.{IsResolvedWellTypedModule, IsParsedWellTypedModule}
use Rattle.ob0_analysis.specs.TextBytes.{utf8}
use Rattle.ob0_module_values.proofs.ModuleValues.{OneTree, parsed_of, resolution_of}
use Rattle.ob0_world_rules.specs.WellTypedTexts.{WellTypedText}
use Rattle.ob0_world_rules.proofs.ModuleTexts.{well_typed_module}

pub each_is_read : OneTree → (text : List ℕ) → WellTypedText text → (m : ParsedModule) × IsParsedWellTypedModule (utf8 text) m
each_is_read tree_is_unique text h =
    let m = well_typed_module text h in
    let p = parsed_of tree_is_unique m.text_of.scanned m.text_of.scan.scan m.tree m.text_of.module_of in (
      p.module_read,
      record {
        scan = subst (λ (s : TextWithTokens). IsScanOf (utf8 text) s) (sym p.source) m.text_of.scan;
        parsed = p.parsed;
        well_typed = subst (λ (t : Tree (List ℕ) module_text). WellTyped t) (sym p.tree) m.well_typed;
      },
    )

bound : (text : List ℕ) (m : ParsedModule) (read : IsParsedWellTypedModule text m) (r : Resolution) → r.module_read ≡ m → (IsWellTyped r) → IsResolvedWellTypedModule text r
bound text m read r same well = record { scan = subst (λ (x : ParsedModule). IsScanOf text x.source) (sym same) read.scan; well_typed = well }

pub each_has_names : OneTree → (text : List ℕ) → WellTypedText text → (names : Resolution) × IsResolvedWellTypedModule (utf8 text) names
each_has_names tree_is_unique text h =
    let m = each_is_read tree_is_unique text h in
    let r = resolution_of m.0 m.1.parsed in (
      r.0,
      bound (utf8 text) m.0 m.1 r.0 r.2
          (record { resolved = r.1; well_typed = subst (λ (x : ParsedModule). WellTyped (named_tree_of x)) (sym r.2) m.1.well_typed }),
    )
