-- States that a request to inline a constant has an answer for each text: some list of edits,
-- possibly empty, is right. The premise is an assumption about well-typed texts
-- (`WellTypedTextsCanBeParsed`).
-- Rule: docs/PROTOCOL.md, Requests on documents 9.
use Rattle.std.specs.Prelude.{ℕ, List}
use Rattle.ob0_text.specs.declared.position_types.Position.{Position}
use Rattle.ob0_tree.specs.ParsedModule.{ParsedModule}
use Rattle.ob0_analysis.specs.AnalysisAnswers.{IsParsedWellTypedModule}
use Rattle.ob0_analysis.specs.TextBytes.{utf8}
use Rattle.ob0_world_rules.specs.Asks.{inline_here, inline_all}
use Rattle.ob0_world_rules.specs.WellTypedTexts.{WellTypedText}
use Rattle.ob0_world_rules.specs.Laws.{AlwaysHasAnswer}

-- States that the parser accepts each well-typed text: the text is read as some parsed module.
abbrev pub WellTypedTextsCanBeParsed : Type 0
WellTypedTextsCanBeParsed = (text : List ℕ) → WellTypedText text → (m : ParsedModule) × IsParsedWellTypedModule (utf8 text) m

-- States that a request to inline a constant at a use has an answer for each text, unit and
-- position. The premise is that the parser accepts each well-typed text
-- (`WellTypedTextsCanBeParsed`).
-- `AlwaysHasAnswer` is a double negation: it says that an answer can't be missing.
abbrev pub InliningHereAlwaysHasAnswer : Type 0
InliningHereAlwaysHasAnswer = WellTypedTextsCanBeParsed → (position : Position) → AlwaysHasAnswer (inline_here position)

-- States that a request to inline a constant everywhere has an answer for each text, unit and
-- position. The premise is that the parser accepts each well-typed text
-- (`WellTypedTextsCanBeParsed`).
-- `AlwaysHasAnswer` is a double negation: it says that an answer can't be missing.
abbrev pub InliningEverywhereAlwaysHasAnswer : Type 0
InliningEverywhereAlwaysHasAnswer = WellTypedTextsCanBeParsed → (position : Position) → AlwaysHasAnswer (inline_all position)
