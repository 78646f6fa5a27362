-- States that a request for a rename has an answer for each text: some list of edits, possibly
-- empty, is right. The premise is an assumption about well-typed texts
-- (`WellTypedTextsCanBeResolved`).
-- Rule: docs/PROTOCOL.md, Requests on documents 6.
use Rattle.std.specs.Prelude.{ℕ, List}
use Rattle.ob0_text.specs.declared.position_types.Position.{Position}
use Rattle.ob0_scope_table.specs.Resolution.{Resolution}
use Rattle.ob0_analysis.specs.AnalysisAnswers.{IsResolvedWellTypedModule}
use Rattle.ob0_analysis.specs.TextBytes.{utf8}
use Rattle.ob0_world_rules.specs.Asks.{rename}
use Rattle.ob0_world_rules.specs.WellTypedTexts.{WellTypedText}
use Rattle.ob0_world_rules.specs.Laws.{AlwaysHasAnswer}

-- States that each well-typed text has a module in which each name is bound to its declaration.
abbrev pub WellTypedTextsCanBeResolved : Type 0
WellTypedTextsCanBeResolved =
    (text : List ℕ) → WellTypedText text → (names : Resolution) × IsResolvedWellTypedModule (utf8 text) names

-- States that a request for a rename has an answer for each text, unit, position and new name. The
-- premise is that each well-typed text has a module whose names are bound
-- (`WellTypedTextsCanBeResolved`).
-- `AlwaysHasAnswer` is a double negation: it says that an answer can't be missing.
abbrev pub RenamingAlwaysHasAnswer : Type 0
RenamingAlwaysHasAnswer =
    WellTypedTextsCanBeResolved → (position : Position) (name : List ℕ) → AlwaysHasAnswer (rename position name)
