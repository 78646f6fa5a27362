-- Converts the program's `Hover` to the specification's `HoverTextWithSpan`, and a `Capture`
-- to its span.
-- Rule: none; used in contracts about the program's answers.
use Rattle.std.specs.Prelude.{string_bytes}
use Rattle.ob0_scan.specs.declared.lexeme.Span.{Span}
use Rattle.ob0_refs.specs.declared.answer_types.Capture as capture_answer
use Rattle.ob0_refs.specs.declared.answer_types.Hover as answer
use Rattle.ob0_refs.specs.NameHovers.{HoverTextWithSpan}

-- returns the `HoverTextWithSpan` with the span and text of a `Hover`
abbrev pub hover_view : answer.Hover → HoverTextWithSpan
hover_view h = record { span = h.span; text = string_bytes h.text }

-- returns the span of a capture that `captures` found
abbrev pub span_of_capture : capture_answer.Capture → Span
span_of_capture c = c.span
