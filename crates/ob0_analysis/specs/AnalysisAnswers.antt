-- Defines when an answer of `ask` about the module of a text is right.
-- Rule: none; used in the contract of `ask`.
use Rattle.std.specs.Prelude.{ℕ, List, None, Option, Some}
use Rattle.ob0_scan.specs.TextWithTokens.{IsScanOf}
use Rattle.ob0_tree.specs.ParsedModule.{ParsedModule, TreeMatchesText, named_tree_of}
use Rattle.ob0_scope_table.specs.Resolution.{Resolution}
use Rattle.ob0_language_types.specs.WellTyped.{WellTyped}
use Rattle.ob0_types.specs.CheckedModules.{IsWellTyped}
use Rattle.ob0_analysis.specs.ReportedErrors.{IsWellTypedModule}

-- States that the text is a well-typed module, and `names` is this module with its names bound.
pub record IsResolvedWellTypedModule (text : List ℕ) (names : Resolution) : Type 0 where
  pub scan : IsScanOf text names.module_read.source
  pub well_typed : IsWellTyped names

-- States that the text is a well-typed module, and `m` has the tokens and the tree of the text.
pub record IsParsedWellTypedModule (text : List ℕ) (m : ParsedModule) : Type 0 where
  pub scan : IsScanOf text m.source
  pub parsed : TreeMatchesText m
  pub well_typed : WellTyped (named_tree_of m)

-- States that an optional answer about a text is right. If there is an answer (Some), the text must
-- be a well-typed module, and `answers` must hold for this module and the answer. If there is none
-- (None), the text must not be a well-typed module.
abbrev pub AnswersExactlyIfWellTyped : {A : Type 0} → List ℕ → (Resolution → A → Type 0) → Option A → Type 0
AnswersExactlyIfWellTyped text answers (Some answer) =
    (names : Resolution) × IsResolvedWellTypedModule text names × answers names answer
AnswersExactlyIfWellTyped text answers None = ¬ IsWellTypedModule text
