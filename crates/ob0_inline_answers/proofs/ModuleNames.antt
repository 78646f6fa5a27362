-- Proves that the names of a module that is read from a text are bound.
use Rattle.std.proofs.Common.{ℕ, List, sym, subst}
use Rattle.ob0_scan.specs.TextWithTokens.{IsScanOf}
use Rattle.ob0_tree.specs.ParsedModule.{ParsedModule, named_tree_of}
use Rattle.ob0_language_types.specs.WellTyped.{WellTyped}
use Rattle.ob0_scope_table.specs.Resolution.{Resolution}
use Rattle.ob0_module_values.proofs.ModuleValues.{resolution_of}
use Rattle.ob0_analysis.specs.AnalysisAnswers.{IsResolvedWellTypedModule, IsParsedWellTypedModule}

pub named_module : (text : List ℕ) (m : ParsedModule) → IsParsedWellTypedModule text m → (r : Resolution) × IsResolvedWellTypedModule text r
named_module text m read =
    let made = resolution_of m read.parsed in (
      made.0,
      record {
        scan = subst (λ (p : ParsedModule). IsScanOf text p.source) (sym made.2) read.scan;
        well_typed = record { resolved = made.1; well_typed = subst (λ (p : ParsedModule). WellTyped (named_tree_of p)) (sym made.2) read.well_typed };
      },
    )
