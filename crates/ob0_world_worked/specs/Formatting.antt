-- States that a request for formatting has an answer for each text.
-- Rule: docs/PROTOCOL.md, Requests on documents 8.
use Rattle.ob0_text.specs.declared.edits.Indent.{Indent}
use Rattle.ob0_world_rules.specs.Asks.{format}
use Rattle.ob0_world_rules.specs.Laws.{AlwaysHasAnswer}

-- States that a request for formatting has an answer for each text, unit and indent
-- (`AlwaysHasAnswer`).
abbrev pub FormattingAlwaysHasAnswer : Type 0
FormattingAlwaysHasAnswer = (indent : Indent) → AlwaysHasAnswer (format indent)
